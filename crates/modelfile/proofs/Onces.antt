-- Lists with one more entry at the end.
use Rattle.std.proofs.Common.{◌≡◌, ℕ, zero, suc, ◌+◌, ◌<◌, ◌≤◌, Bool, true, false, List, [], ◌∷◌, ◌++◌, length, get_or, sym, refl, ap, ◌∙◌, subst, subst₂, inl, arith, length-append}
use Rattle.std.proofs.lemmas.Bool.{false_from_ne_true}
use Rattle.std.proofs.Math.Seq.{get_or-append_seam}
use Rattle.std.proofs.Math.ListN.{get_or-append}
use native.Mathlib.Decide.{dec_le}
use Rattle.rows.specs.Found.{Differ, NoneTwice}
use Rattle.rows.proofs.Sameness.{differ_by, differ_from}
use Rattle.transitions.proofs.Listing.{named}
use Rattle.transitions.proofs.Fresh.{all_fresh}
use Rattle.transitions.specs.Listed.{line_at, Once, names}
use Rattle.transitions.specs.declared.lines.JoinLine.{JoinLine}
use Rattle.modelfile.specs.Tests.{any}
use Rattle.modelfile.proofs.Finding.{any_none as none_at}
use Rattle.modelfile.proofs.Groups.{or_false}

-- A place of the longer list: one of the shorter, or the last.
pub place_snoc : {A : Type 0} (P : ℕ → A → Type 0) (xs : List A) (x d : A) → ((k : ℕ) → k < length xs → P k (get_or xs k d)) → P (length xs) x → (k : ℕ) → k < length (xs ++ (x ∷ [])) → P k (get_or (xs ++ (x ∷ [])) k d)
place_snoc P xs x d h p k l = go (dec_le (suc k) (length xs))
  where
    go : Dec (suc k ≤ length xs) → P k (get_or (xs ++ (x ∷ [])) k d)
    go (yes a) = subst (P k) (sym (get_or-append xs (x ∷ []) d k a)) (h k a)
    go (no n) =
        let c : length (xs ++ (x ∷ [])) ≡ length xs + 1 = length-append xs (x ∷ []) in
        let e : length xs ≡ k = omega arith in
        subst₂ P e (sym (ap (λ j. get_or (xs ++ (x ∷ [])) j d) (sym e) ∙ get_or-append_seam xs x [] d)) p

pub no_place : {A : Type 0} (P : ℕ → A → Type 0) (xs : List A) (d : A) → xs ≡ [] → (k : ℕ) → k < length xs → P k (get_or xs k d)
no_place P xs d e k l = let n : length xs ≡ 0 = ap length e in absurd (omega arith)

-- The place of an entry between two parts.
pub within : {A : Type 0} (xs : List A) (x : A) (ys zs : List A) → xs ++ (x ∷ ys) ≡ zs → length xs < length zs
within xs x ys zs e =
    let a : length (xs ++ (x ∷ ys)) ≡ length zs = ap length e in
    let b : length (xs ++ (x ∷ ys)) ≡ length xs + length (x ∷ ys) = length-append xs (x ∷ ys) in
    omega arith

pub any_at_no : {A : Type 0} (f : A → Bool) (xs : List A) (j : ℕ) (d : A) → any f xs ≡ false → j < length xs → f (get_or xs j d) ≡ false
any_at_no f [] j d h l = absurd (omega arith)
any_at_no f (x ∷ xs) zero d h l = (or_false (f x) (any f xs) h).0
any_at_no f (x ∷ xs) (suc j) d h l = any_at_no f xs j d (or_false (f x) (any f xs) h).1 (omega arith)

-- All differ still where the last is the same as none before it.
pub differ_by_snoc : {A : Type 0} (same : A → A → Bool) (xs : List A) (x : A) → Differ same xs → any (λ y. same y x) xs ≡ false → Differ same (xs ++ (x ∷ []))
differ_by_snoc {A} same xs x h f j k d m l = go (dec_le (suc k) (length xs))
  where
    go : Dec (suc k ≤ length xs) → same (get_or (xs ++ (x ∷ [])) j d) (get_or (xs ++ (x ∷ [])) k d) ≡ false
    go (yes a) = subst₂ (λ u v. same u v ≡ false) (sym (get_or-append xs (x ∷ []) d j (omega arith))) (sym (get_or-append xs (x ∷ []) d k a)) (h j k d m a)
    go (no n) =
        let c : length (xs ++ (x ∷ [])) ≡ length xs + 1 = length-append xs (x ∷ []) in
        let e : length xs ≡ k = omega arith in
        let b : j < length xs = omega arith in
        subst₂ (λ u v. same u v ≡ false) (sym (get_or-append xs (x ∷ []) d j b)) (sym (ap (λ i. get_or (xs ++ (x ∷ [])) i d) (sym e) ∙ get_or-append_seam xs x [] d)) (any_at_no (λ y. same y x) xs j d f b)

-- And an entry between two parts is the same as none before it.
pub fresh_by : {A : Type 0} (same : A → A → Bool) (xs : List A) (x : A) (ys zs : List A) → xs ++ (x ∷ ys) ≡ zs → Differ same zs → any (λ y. same y x) xs ≡ false
fresh_by same xs x ys zs e h = none_at (λ y. same y x) xs x (λ j b.
    let left : get_or zs j x ≡ get_or xs j x = ap (λ z. get_or z j x) (sym e) ∙ get_or-append xs (x ∷ ys) x j b in
    let here : get_or zs (length xs) x ≡ x = ap (λ z. get_or z (length xs) x) (sym e) ∙ get_or-append_seam xs x ys x in
    subst₂ (λ u v. same u v ≡ false) left here (h j (length xs) x b (within xs x ys zs e)))

module _ {A : Type 0} (same : A → A → Bool) (exact : (x y : A) → same x y ≡ true → x ≡ y) (reflexive : (x : A) → same x x ≡ true) where
  pub differ_snoc : (xs : List A) (x : A) → NoneTwice xs → any (λ y. same y x) xs ≡ false → NoneTwice (xs ++ (x ∷ []))
  differ_snoc xs x h f = differ_from same exact reflexive (xs ++ (x ∷ [])) (differ_by_snoc same xs x (differ_by same exact reflexive xs h) f)

  pub fresh_at : (xs : List A) (x : A) (ys zs : List A) → xs ++ (x ∷ ys) ≡ zs → NoneTwice zs → any (λ y. same y x) xs ≡ false
  fresh_at xs x ys zs e h = fresh_by same xs x ys zs e (differ_by same exact reflexive zs h)

pub once_snoc : (xs : List JoinLine) (p : JoinLine) → Once xs → any (λ k. names k p.a p.b) xs ≡ false → Once (xs ++ (p ∷ []))
once_snoc xs p once f = all_fresh (xs ++ (p ∷ [])) (λ k l j m. go k l j m (dec_le (suc k) (length xs)))
  where
    earlier : (k j : ℕ) → j < k → k < length xs → names (line_at xs j) (line_at xs k).a (line_at xs k).b ≡ false
    earlier k j m l = false_from_ne_true _ (λ h. once j k (line_at xs k).a (line_at xs k).b m l ((named (line_at xs j) (line_at xs k).a (line_at xs k).b).0 h) (inl (refl, refl)))

    go : (k : ℕ) → k < length (xs ++ (p ∷ [])) → (j : ℕ) → j < k → Dec (suc k ≤ length xs) → names (line_at (xs ++ (p ∷ [])) j) (line_at (xs ++ (p ∷ [])) k).a (line_at (xs ++ (p ∷ [])) k).b ≡ false
    go k l j m (yes a) = subst₂ (λ (x y : JoinLine). names x y.a y.b ≡ false) (sym (get_or-append xs (p ∷ []) _ j (omega arith))) (sym (get_or-append xs (p ∷ []) _ k a)) (earlier k j m a)
    go k l j m (no n) =
        let c : length (xs ++ (p ∷ [])) ≡ length xs + 1 = length-append xs (p ∷ []) in
        let e : length xs ≡ k = omega arith in
        let b : j < length xs = omega arith in
        subst₂ (λ (x y : JoinLine). names x y.a y.b ≡ false) (sym (get_or-append xs (p ∷ []) _ j b)) (sym (ap (line_at (xs ++ (p ∷ []))) (sym e) ∙ get_or-append_seam xs p [] _)) (any_at_no (λ (k : JoinLine). names k p.a p.b) xs j _ f b)
