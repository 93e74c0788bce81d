-- A model that may be missing.
use Rattle.std.specs.Prelude.{Some, None, Option}
use Rattle.transitions.specs.Lts.{Lts, Lawful}
use Rattle.transitions.specs.Made.{empty}
use Rattle.transitions.proofs.Lawfully.{empty_lawful}

-- A missing one is the empty model.
abbrev pub of_option : {M : Type 0} → (M → Lts) → Option M → Lts
of_option meaning None = empty
of_option meaning (Some m) = meaning m

pub option_lawful : {M : Type 0} {meaning : M → Lts} → ((m : M) → Lawful (meaning m)) → (m : Option M) → Lawful (of_option meaning m)
option_lawful law None = empty_lawful
option_lawful law (Some m) = law m
