use Rattle.std.proofs.Common.{◌≡◌, ℕ, ◌<◌, false, slice_index_or}
use Rattle.rows.proofs.all_differ.Given as goal

abbrev pub invariant-loop-k : goal.invariant-loop-k
invariant-loop-k g l = (k j : ℕ) (d : _) → k < l.k → j < k → g.T.PartialEq.eq (slice_index_or l.entries j d) (slice_index_or l.entries k d) ≡ false
