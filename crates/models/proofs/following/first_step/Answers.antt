use Rattle.std.proofs.Common.{rules, ◌≡◌, ◌≢◌, ℕ, ◌<◌, ◌≤◌, Some, None, Option, MatchOption, arith, subst}
use Rattle.std.proofs.lemmas.Grind.{common_steps}
use Rattle.transitions.specs.Lts.{Lts, Lawful}
use Rattle.transitions.specs.Following.{FirstStep, HasNoStep}
use Rattle.models.specs.declared.following.Placed.{Placed}
use Rattle.models.proofs.Found.{first_from_find_map}
use Rattle.models.proofs.following.first_step.Goals as goal

module _ (L : Lts) (a s : ℕ) where
  abbrev Holds : ℕ → Placed → Type 0
  Holds n x = (n ≡ x.place) × (L.step s n ≡ Some (record { action = a; target = x.target }))

  abbrev Lacks : ℕ → Type 0
  Lacks n = (t : ℕ) → L.step s n ≢ Some (record { action = a; target = t })

  as_first : Lawful L → (w : ℕ) → w ≡ L.width → (r : Option Placed) → MatchOption r ((n : ℕ) → 0 ≤ n → n < w → Lacks n) (λ x. (n : ℕ) × Holds n x × ((m : ℕ) → 0 ≤ m → m < n → Lacks m))
      → MatchOption r (HasNoStep L a s) (λ x. FirstStep L a s x.place x.target)
  as_first law w e None lacks = λ t (p, h). lacks p (omega arith) (omega (arith, (law.step_in s p _ h).1)) t h
  as_first law w e (Some x) (n, h, lacks) = subst (λ p. FirstStep L a s p x.target) h.0 (record { holds = h.1; lowest = λ q t l. lacks q (omega arith) l t })

pub returns : goal.returns
returns g c =
    let L : Lts = g.M.TransitionSystem.meaning c.args.model.now in
    as_first L c.args.action c.args.state (g.M.TransitionSystem.lawful c.args.model.now) c.width.result c.width.ensures c.find_map.result
    (first_from_find_map _ _ _ c.find_map.result (Holds L c.args.action c.args.state) (Lacks L c.args.action c.args.state) c.find_map.ensures.runs
    (λ a r q k. search rules) (λ n x k. grind (arith, common_steps)) (λ n k. grind (arith, common_steps)))
