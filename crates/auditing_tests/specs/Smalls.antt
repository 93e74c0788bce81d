-- A counter of two or of three states.
use Rattle.std.specs.Prelude.{ℕ, Bool, true, false, cond}
use Rattle.std.proofs.Common.{arith}
use Rattle.auditing_tests.specs.declared.small.Small.{Small}
use Rattle.transitions.proofs.Counted.{counting_lawful}
use Rattle.transitions.specs.Counting.{counting}
use Rattle.transitions.specs.Lts.{Lts, Lawful}

abbrev pub size_of : Bool → ℕ
size_of three = cond three 3 2

abbrev pub of_small : Small → Lts
of_small m = counting (size_of m.three) 1 2

lawful_size : (b : Bool) → Lawful (counting (size_of b) 1 2)
lawful_size true = counting_lawful (omega arith) (omega arith) (omega arith)
lawful_size false = counting_lawful (omega arith) (omega arith) (omega arith)

pub small_lawful : (m : Small) → Lawful (of_small m)
small_lawful m = lawful_size m.three
