-- Whether any entry is the same as another, by what the search for it tells.
use Rattle.std.proofs.Common.{◌≡◌, ℕ, zero, suc, ◌<◌, Bool, true, false, ◌||◌, List, [], ◌∷◌, length, get_or, is_some, Some, None, Option, sym, refl, arith}
use Rattle.std.proofs.lemmas.Bool.{or_from}
use Rattle.std.proofs.lemmas.List.Folds.{list_any_at}
use Rattle.std.specs.List.{list_any}
use Rattle.rows.specs.Found.{Found}

none_any : {T : Type 0} (P : T → Bool) (xs : List T) (d : T) → ((k : ℕ) → k < length xs → P (get_or xs k d) ≡ false) → list_any P xs ≡ false
none_any P [] d h = refl
none_any P (x ∷ xs) d h = or_from (P x) (list_any P xs) (h 0 (omega arith)) (none_any P xs d (λ k l. h (suc k) (omega arith)))

pub found_any : {T : Type 0} (same : T → T → Bool) (xs : List T) (x : T) (o : Option ℕ) → Found same xs x o → is_some o ≡ list_any (λ y. same y x) xs
found_any same xs x (Some i) f = sym (list_any_at (λ y. same y x) xs i x f.0 f.1)
found_any same xs x None f = sym (none_any (λ y. same y x) xs x f)
