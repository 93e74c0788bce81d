-- A row whose first entries were filled with 0.
use Rattle.std.proofs.Common.{◌≡◌, ℕ, List, ◌++◌, length, replicate, arith}
use borrow.Rule.Slice.PartMut.{post_of}
use Rattle.judging.proofs.Wiping.{blank_replicate, wiped_part}
use Rattle.judging.specs.Judged.{Wiped}

pub wiped_fill : (n m : ℕ) (xs ys : List ℕ) → ys ≡ replicate m 0 → length ys ≡ n → Wiped n xs (ys ++ post_of 0 n xs)
wiped_fill n m xs ys e len = wiped_part n n xs ys (omega arith) len (blank_replicate m ys e)
