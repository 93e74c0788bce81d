-- Looking for the lowest place that holds an action, and doing it again and again.
use Rattle.std.proofs.Common.{◌≡◌, ℕ, ◌+◌, ◌<◌, ◌≤◌, Some, None, sym, ap, ◌∙◌, subst, inl, inr, add-one, arith}
use Rattle.std.proofs.lemmas.Bool.{cases_eq}
use Rattle.transitions.specs.declared.steps.Step.{Step}
use Rattle.transitions.specs.Lts.{Lts, Lawful}
use Rattle.transitions.specs.Following.{FirstStep, HasNoStep, Repeats}
use Rattle.transitions.specs.Following.Repeats.{none, more}

-- no place below n holds the action
abbrev pub NoneBelow : Lts → ℕ → ℕ → ℕ → Type 0
NoneBelow L a s n = (p u : ℕ) → p < n → L.step s p ≡ Some (record { action = a; target = u }) → ⊥

module _ (L : Lts) (a s n : ℕ) (below : NoneBelow L a s n) where
  pub found : (x : Step) → L.step s n ≡ Some x → x.action ≡ a → FirstStep L a s n x.target
  found x e f = record { holds = e ∙ ap (λ (b : ℕ). Some (record { action = b; target = x.target })) f; lowest = below }

  pub not_here : ((u : ℕ) → L.step s n ≡ Some (record { action = a; target = u }) → ⊥) → NoneBelow L a s (n + 1)
  not_here here p u h e =
      elim (cases_eq p n) [
        | inl q ↦ here u (ap (λ (k : ℕ). L.step s k) (sym q) ∙ e)
        | inr q ↦ below p u (omega arith) e
      ]

  pub other_action : (x : Step) → L.step s n ≡ Some x → (x.action ≡ a → ⊥) → NoneBelow L a s (n + 1)
  other_action x e f =
      not_here (λ u h. let k : ◌≡◌ {A = Step} x (record { action = a; target = u }) = cc in f (ap (λ (y : Step). y.action) k))

  pub no_step : L.step s n ≡ None → NoneBelow L a s (n + 1)
  no_step e = not_here (λ u h. let z : ◌≡◌ {A = ℕ} 0 1 = cc in omega arith)

  pub nowhere : Lawful L → L.width ≤ n → HasNoStep L a s
  nowhere law h t (p, e) = let k = (law.step_in s p _ e).1 in below p t (omega arith) e

pub once_more : (L : Lts) (a s m p t n : ℕ) → Repeats L a s n m → FirstStep L a m p t → Repeats L a s (n + 1) t
once_more L a s m p t n w f = subst (λ k. Repeats L a s k t) (sym (add-one n)) (more w f)

pub not_yet : (L : Lts) (a s t : ℕ) → t ≡ s → Repeats L a s 0 t
not_yet L a s t e = subst (λ k. Repeats L a s 0 k) (sym e) none
