use Rattle.std.proofs.Common.{◌≡◌, ℕ, ◌<◌, false, ◌||◌, length, get_or, drop}
use Rattle.acceptance.specs.Walks.{targets, member}
use Rattle.acceptance.proofs.rings.targets_of.Given as goal

abbrev pub invariant-loop-line : goal.invariant-loop-line
invariant-loop-line l = (length l.marks ≡ 256) × ((y : ℕ) → y < 256 → (get_or l.marks y false || member y (targets (drop l.line-index l.equations))) ≡ member y (targets l.equations))
