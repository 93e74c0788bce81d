-- A test that holds exactly of one thing and itself, beside identity.
use Rattle.std.proofs.Common.{◌≡◌, ℕ, ◌<◌, Bool, true, false, ◌||◌, List, [], ◌∷◌, length, get_or, slice_get, Some, None, Option, sym, refl, ◌∙◌, ap, ap₂, subst, inl, inr, arith}
use Rattle.std.proofs.lemmas.Bool.{both_ways, cases_Bool}
use Rattle.std.proofs.lemmas.Option.{get_or_from_slice_get, slice_get-get_or, slice_get_within}
use Rattle.std.specs.List.{list_any}
use Rattle.rows.specs.Found.{Differ, Found, HeldAt, NoneTwice}

pub nothing_twice : {T : Type 0} → NoneTwice {T = T} []
nothing_twice j k x l e f = cc

module _ {T : Type 0} (same : T → T → Bool) (exact : (x y : T) → same x y ≡ true → x ≡ y) (reflexive : (x : T) → same x x ≡ true) where
  -- another such test answers alike
  pub agree : (f : T → T → Bool) → ((x y : T) → f x y ≡ true → x ≡ y) → ((x : T) → f x x ≡ true) → (x y : T) → f x y ≡ same x y
  agree f e r x y = go (f x y) (same x y) refl refl
    where
      go : (a b : Bool) → f x y ≡ a → same x y ≡ b → a ≡ b
      go true true p q = refl
      go false false p q = refl
      go true false p q = absurd (both_ways (same x y) q (subst (λ z. same x z ≡ true) (e x y p) (reflexive x)))
      go false true p q = absurd (both_ways (f x y) p (subst (λ z. f x z ≡ true) (exact x y q) (r x)))

  -- so a list holds one by the first test where some entry is the same by the second
  pub listed : (f : T → T → Bool) → ((x y : T) → f x y ≡ true → x ≡ y) → ((x : T) → f x x ≡ true) → (x : T) (entries : List T) → list_any (λ y. f y x) entries ≡ list_any (λ y. same y x) entries
  listed f e r x [] = refl
  listed f e r x (y ∷ ys) = ap₂ ◌||◌ (agree f e r y x) (listed f e r x ys)

  other : (entries : List T) (x : T) (k : ℕ) → k < length entries → (slice_get entries k ≡ Some x → ⊥) → same (get_or entries k x) x ≡ false
  other entries x k l n =
      elim (cases_Bool (same (get_or entries k x) x))
      [ inl t ↦ absurd (n (slice_get-get_or entries k x l ∙ ap Some (exact (get_or entries k x) x t))) | inr f ↦ f ]

  pub found_by : (entries : List T) (x : T) (r : Option ℕ) → HeldAt entries x r → Found same entries x r
  found_by entries x None f = λ k l. other entries x k l (f k)
  found_by entries x (Some i) f =
      let l : i < length entries = slice_get_within entries i x f.0 in
      (l, ap (λ y. same y x) (get_or_from_slice_get entries i x x f.0) ∙ reflexive x, λ k m. other entries x k (omega arith) (f.1 k m))

  apart : (entries : List T) (x : T) (k : ℕ) → same (get_or entries k x) x ≡ false → slice_get entries k ≡ Some x → ⊥
  apart entries x k e g = both_ways (same x x) (ap (λ y. same y x) (sym (get_or_from_slice_get entries k x x g)) ∙ e) (reflexive x)

  pub differ_by : (entries : List T) → NoneTwice entries → Differ same entries
  differ_by entries differ j k d l h =
      elim (cases_Bool (same (get_or entries j d) (get_or entries k d))) [
        | inl t ↦ absurd (differ j k (get_or entries j d) l (slice_get-get_or entries j d (omega arith)) (slice_get-get_or entries k d h ∙ ap Some (sym (exact (get_or entries j d) (get_or entries k d) t))))
        | inr n ↦ n
      ]

  pub differ_from : (entries : List T) → Differ same entries → NoneTwice entries
  differ_from entries differ j k x l e f =
      both_ways (same x x) (ap₂ same (sym (get_or_from_slice_get entries j x x e)) (sym (get_or_from_slice_get entries k x x f)) ∙ differ j k x l (slice_get_within entries k x f)) (reflexive x)

  pub held_at : (entries : List T) (x : T) (r : Option ℕ) → Found same entries x r → HeldAt entries x r
  held_at entries x None f = λ k g. apart entries x k (f k (slice_get_within entries k x g)) g
  held_at entries x (Some i) f = (
    slice_get-get_or entries i x f.0 ∙ ap Some (exact (get_or entries i x) x f.1),
    λ k l. apart entries x k (f.2 k l),
  )
