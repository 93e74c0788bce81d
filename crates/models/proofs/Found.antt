-- `find_map` over a range, said of the numbers in it and not of a run.
use Rattle.std.proofs.Common.{◌≡◌, ℕ, ◌+◌, ◌-◌, ◌<◌, ◌≤◌, Some, None, Option, MatchOption, refl, sym, ap, ◌∙◌, subst, arith}
use denote.Param.Members.{Mut, Called}
use Rattle.std.specs.declared.ops.Range.{Range}
use Rattle.std.specs.Bool.{IsTrue}
use Rattle.std.specs.Option.{option_map, IfSome, IsSomeAnd}
use Rattle.std.specs.Iterator.Runs.{Run, SomeRun, AllItemsGive, IsFirstToGive, CallKeepsClosure}
use Rattle.std.proofs.iter.Yields.{nat_range_steps}
use Rattle.std.proofs.iter.runs.Sources.{range_runs}

itself : {A : Type 0} (o : Option A) → option_map (λ y. y) o ≡ o
itself None = refl
itself (Some x) = refl

module _ {F B : Type 0} (g : Mut F (ℕ × Unit {0}) (Option B)) (f : F) (s : Range ℕ) where
  at : (p : Run nat_range_steps) → p.from ≡ s → (k : ℕ) → k < p.len → p.at k ≡ Some (s.start + k)
  at p e k l = sym (itself (p.at k)) ∙ (range_runs p p.seen).3 k l ∙ ap (λ (z : Range ℕ). Some (z.start + k)) e

  -- Where a call leaves the closure as it was: No of each number in the range, or Yes of the first that is not so and its answer.
  pub first_from_find_map : (r : Option B) (Yes : ℕ → B → Type 0) (No : ℕ → Type 0)
      → SomeRun nat_range_steps s (λ p. MatchOption r (IsTrue p.whole × AllItemsGive p g f None) (λ y. (i : ℕ) × (i < p.len) × (p.len ≡ i + 1) × IsFirstToGive p g f (Some y) None i))
      → CallKeepsClosure g f → ((n : ℕ) (y : B) → Called g f (n, tt) (Some y) f → Yes n y) → ((n : ℕ) → Called g f (n, tt) None f → No n)
      → MatchOption r ((n : ℕ) → s.start ≤ n → n < s.end → No n) (λ y. (n : ℕ) × Yes n y × ((m : ℕ) → s.start ≤ m → m < n → No m))
  first_from_find_map None Yes No (p, e, h) keeps yes' no' = λ n a b.
      let long : p.len ≡ s.end - s.start = (range_runs p p.seen).1 h.0 ∙ ap (λ (z : Range ℕ). z.end - z.start) e in
      let here : p.at (n - s.start) ≡ Some (s.start + (n - s.start)) = at p e (n - s.start) (omega arith) in
      subst No (omega arith) (no' _ (subst (λ (o : Option ℕ). IfSome o (λ m. Called g f (m, tt) None f)) here (h.1 keeps (n - s.start))))
  first_from_find_map (Some y) Yes No (p, e, h) keeps yes' no' =
      let w = h.3 keeps in (
        s.start + h.0,
        yes' _ y (subst (λ (o : Option ℕ). IsSomeAnd o (λ m. Called g f (m, tt) (Some y) f)) (at p e h.0 h.1) w.0),
        λ m a b.
            let there : p.at (m - s.start) ≡ Some (s.start + (m - s.start)) = at p e (m - s.start) (omega (arith, h.1)) in
            subst No (omega arith) (no' _ (subst (λ (o : Option ℕ). IsSomeAnd o (λ n. Called g f (n, tt) None f)) there (w.1 (m - s.start) (omega arith)))),
      )
