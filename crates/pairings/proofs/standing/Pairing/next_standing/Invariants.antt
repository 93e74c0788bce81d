use Rattle.std.proofs.Common.{◌≡◌, ℕ, ◌<◌, ◌≤◌, true}
use Rattle.pairings.proofs.standing.Pairing.next_standing.Given as goal

abbrev pub invariant-loop-t : goal.invariant-loop-t
invariant-loop-t g l = (t : ℕ) → l.from ≤ t → t < l.t → g.Self.Pairing.standing l.self l.s t ≡ true → ⊥
