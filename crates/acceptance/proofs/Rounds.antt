-- The rounds of the search for a ring: each takes the marks one step back along the silent lines.
use Rattle.std.proofs.Common.{◌≡◌, ℕ, suc, ◌+◌, ◌-◌, ◌<◌, ◌≤◌, Bool, true, false, is_some, not, List, length, Some, None, Decides, Option, sym, refl, ap, ◌∙◌, arith}
use Rattle.std.proofs.lemmas.Bool.{false≢true, true≢false}
use Rattle.processes.specs.declared.equations.Equation.{Equation}
use Rattle.acceptance.specs.Accepted.{NoRing}
use Rattle.acceptance.specs.Walks.{Marks, MarksOf, targets, walkers, walk, some?, silent_ring}
use Rattle.acceptance.proofs.Circling.{no_ring, ring_found}
use Rattle.acceptance.proofs.Walking.{walks_out}

-- after k rounds the marks are those of some variables, and a walk of as many steps as are left tells of a ring
pub record Round (equations : List Equation) (marks : List Bool) (k : ℕ) : Type 0 where
  pub marked : List ℕ
  pub marks_are : Marks marks marked
  pub tells : some? (walk equations (suc (length equations - k)) marked) ≡ silent_ring equations

module _ (E : List Equation) (marks : List Bool) where
  pub first_round : Marks marks (targets E) → Round E marks 0
  first_round m = record { marked = targets E; marks_are = m; tells = let e : length E - 0 ≡ length E = omega arith in ap (λ n. some? (walk E (suc n) (targets E))) e }

  pub next_round : (k : ℕ) (next : List Bool) (r : Round E marks k) → k < length E → MarksOf (Some next) (walkers E r.marked) → Round E next (k + 1)
  next_round k next r l m = record { marked = walkers E r.marked; marks_are = m.0; tells = let e : suc (length E - (k + 1)) ≡ length E - k = omega arith in ap (λ n. some? (walk E n (walkers E r.marked))) e ∙ r.tells }

  pub none_left : (k : ℕ) (r : Round E marks k) → MarksOf None (walkers E r.marked) → NoRing E
  none_left k r m = no_ring E (sym r.tells ∙ sym (walks_out E (length E - k) r.marked (sym m)))

  pub last_round : (k : ℕ) (r : Round E marks k) → length E ≤ k → (o : Option (List Bool)) (b : Bool) → MarksOf o (walkers E r.marked) → is_some o ≡ not b → Decides b (NoRing E)
  last_round k r l None true m e = (λ _. none_left k r m, λ _. refl)
  last_round k r l None false m e = absurd (false≢true e)
  last_round k r l (Some next) true m e = absurd (true≢false e)
  last_round k r l (Some next) false m e =
      let end : length E - k ≡ 0 = omega arith in
      let ring = ring_found E (sym r.tells ∙ ap (λ n. some? (walk E (suc n) r.marked)) end ∙ m.1) in
      (λ q. absurd (false≢true q), λ none. absurd (none ring.0 ring.1))
