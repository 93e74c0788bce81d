use Rattle.std.proofs.Common.{◌≡◌, ℕ, ◌<◌, false, ◌||◌, List, length, get_or, drop}
use Rattle.acceptance.specs.Walks.{walkers, member, some?}
use Rattle.acceptance.specs.Walks.{Marks}
use Rattle.acceptance.proofs.rings.walkers_of.Given as goal

abbrev pub invariant-loop-line : goal.invariant-loop-line
invariant-loop-line l = (length l.next ≡ 256) × ((A : List ℕ) → Marks l.marks A →
    ((y : ℕ) → y < 256 → (get_or l.next y false || member y (walkers (drop l.line-index l.equations) A)) ≡ member y (walkers l.equations A))
    × ((l.found || some? (walkers (drop l.line-index l.equations) A)) ≡ some? (walkers l.equations A)))
