-- Whether any entry is the same as another, by what a search tells.
use Rattle.std.proofs.Common.{◌≡◌, ℕ, zero, suc, ◌<◌, Bool, true, false, ◌||◌, List, [], ◌∷◌, length, get_or, refl, ap, ◌∙◌, arith}
use Rattle.std.proofs.lemmas.Bool.{or_left, or_right, or_from}
use Rattle.std.specs.List.{list_any}
use Rattle.rows.proofs.Sameness.{listed}
use Rattle.modelfile.specs.Tests.{any}

any_at : {A : Type 0} (P : A → Bool) (xs : List A) (i : ℕ) (d : A) → i < length xs → P (get_or xs i d) ≡ true → any P xs ≡ true
any_at P [] i d l h = absurd (omega arith)
any_at P (x ∷ xs) zero d l h = or_left (P x) (any P xs) h
any_at P (x ∷ xs) (suc i) d l h = or_right (P x) (any P xs) (any_at P xs i d (omega arith) h)

pub any_none : {A : Type 0} (P : A → Bool) (xs : List A) (d : A) → ((k : ℕ) → k < length xs → P (get_or xs k d) ≡ false) → any P xs ≡ false
any_none P [] d h = refl
any_none P (x ∷ xs) d h = or_from (P x) (any P xs) (h 0 (omega arith)) (any_none P xs d (λ k l. h (suc k) (omega arith)))

pub any_is : {A : Type 0} (P : A → Bool) (xs : List A) → list_any P xs ≡ any P xs
any_is P [] = refl
any_is P (x ∷ xs) = ap (λ b. P x || b) (any_is P xs)

-- a list holds an entry where some entry is the same
pub holds_any : {T : Type 0} (same : T → T → Bool) → ((x y : T) → same x y ≡ true → x ≡ y) → ((x : T) → same x x ≡ true)
    → (f : T → T → Bool) → ((x y : T) → f x y ≡ true → x ≡ y) → ((x : T) → f x x ≡ true) → (x : T) (xs : List T) → list_any (λ y. f y x) xs ≡ any (λ y. same y x) xs
holds_any same exact reflexive f e r x xs = listed same exact reflexive f e r x xs ∙ any_is (λ y. same y x) xs
