-- The silent walks, line by line and round by round.
use Rattle.std.proofs.Common.{◌≡◌, ℕ, zero, suc, ◌+◌, ◌<◌, Bool, true, false, cond, ◌&&◌, ◌||◌, eqb, ◌⊎◌, List, [], ◌∷◌, length, get_or, drop, set, replicate, Option, subst, sym, refl, ap, ◌∙◌, inl, inr, arith}
use Rattle.std.proofs.lemmas.List.{at_drop_more, get_or-set_same, get_or-set_other, length-set}
use Rattle.std.proofs.lemmas.Bool.{cases_eq, eq-eqb, ne_eqb, and_left, and_right, and_from}
use Rattle.std.specs.Bool.{then_some}
use Rattle.acceptance.specs.Walks.{member, targets, walkers, walk, some?}
use Rattle.processes.specs.declared.equations.Equation.{Equation}
use Rattle.processes.specs.declared.equations.Equation.TheVariants.{Ends, Becomes}
use Rattle.acceptance.specs.Walks.{Marks, MarksOf}

pub or_false : (b : Bool) → (b || false) ≡ b
or_false true = refl
or_false false = refl

or_true : (b : Bool) → (b || true) ≡ true
or_true true = refl
or_true false = refl

pub mark_one : (marks : List Bool) (y z : ℕ) (m w : Bool) → y < length marks → (get_or marks z false || (eqb z y || m)) ≡ w → (get_or (set marks y true) z false || m) ≡ w
mark_one marks y z m w l h = go (cases_eq z y)
  where
    go : (z ≡ y) ⊎ (z ≡ y → ⊥) → (get_or (set marks y true) z false || m) ≡ w
    go (inl e) =
        let a : get_or (set marks y true) z false ≡ true = ap (λ k. get_or (set marks y true) k false) e ∙ get_or-set_same marks y true false l in
        let b : eqb z y ≡ true = eq-eqb z y e in
        ap (λ t. t || m) a ∙ sym (ap (λ t. get_or marks z false || (t || m)) b ∙ or_true (get_or marks z false)) ∙ h
    go (inr n) =
        let a : get_or (set marks y true) z false ≡ get_or marks z false = get_or-set_other marks y z true false n in
        let b : eqb z y ≡ false = ne_eqb z y n in
        ap (λ t. t || m) a ∙ sym (ap (λ t. get_or marks z false || (t || m)) b) ∙ h

module _ (xs : List Equation) (i : ℕ) (d : Equation) (l : i < length xs) where
  pub targets_on : (x a y : ℕ) → get_or xs i d ≡ Becomes x a y → targets (drop i xs) ≡ y ∷ targets (drop (i + 1) xs)
  targets_on x a y e = at_drop_more (λ ys. targets (ys)) xs i d l ∙ ap (λ g. targets (g ∷ (drop (i + 1) xs))) e

  pub targets_past : (x a : ℕ) → get_or xs i d ≡ Ends x a → targets (drop i xs) ≡ targets (drop (i + 1) xs)
  targets_past x a e = at_drop_more (λ ys. targets (ys)) xs i d l ∙ ap (λ g. targets (g ∷ (drop (i + 1) xs))) e

  walkers_at : (A : List ℕ) (g : Equation) → get_or xs i d ≡ g → walkers (drop i xs) A ≡ walkers (g ∷ (drop (i + 1) xs)) A
  walkers_at A g e = at_drop_more (λ ys. walkers (ys) A) xs i d l ∙ ap (λ g. walkers (g ∷ (drop (i + 1) xs)) A) e

  pub walkers_hit : (A : List ℕ) (x a y : ℕ) → get_or xs i d ≡ Becomes x a y → a ≡ 0 → member y A ≡ true → walkers (drop i xs) A ≡ x ∷ walkers (drop (i + 1) xs) A
  walkers_hit A x a y e z m = walkers_at A _ e ∙ ap (λ t. cond t (x ∷ walkers (drop (i + 1) xs) A) (walkers (drop (i + 1) xs) A)) (and_from (eqb a 0) (member y A) (eq-eqb a 0 z) m)

  pub walkers_loud : (A : List ℕ) (x a y : ℕ) → get_or xs i d ≡ Becomes x a y → (a ≡ 0 → ⊥) → walkers (drop i xs) A ≡ walkers (drop (i + 1) xs) A
  walkers_loud A x a y e z = walkers_at A _ e ∙ ap (λ t. cond t (x ∷ walkers (drop (i + 1) xs) A) (walkers (drop (i + 1) xs) A)) (and_left (eqb a 0) (member y A) (ne_eqb a 0 z))

  pub walkers_out : (A : List ℕ) (x a y : ℕ) → get_or xs i d ≡ Becomes x a y → member y A ≡ false → walkers (drop i xs) A ≡ walkers (drop (i + 1) xs) A
  walkers_out A x a y e z = walkers_at A _ e ∙ ap (λ t. cond t (x ∷ walkers (drop (i + 1) xs) A) (walkers (drop (i + 1) xs) A)) (and_right (eqb a 0) (member y A) z)

  pub walkers_past : (A : List ℕ) (x a : ℕ) → get_or xs i d ≡ Ends x a → walkers (drop i xs) A ≡ walkers (drop (i + 1) xs) A
  walkers_past A x a e = walkers_at A _ e

-- the marks so far with what is left give the whole
abbrev pub Left : List Bool → List ℕ → List ℕ → Type 0
Left marks rest all = (y : ℕ) → y < 256 → (get_or marks y false || member y rest) ≡ member y all

pub left_on : (marks : List Bool) (y : ℕ) (old rest all : List ℕ) → y < length marks → old ≡ y ∷ rest → Left marks old all → Left (set marks y true) rest all
left_on marks y old rest all l e h z k = mark_one marks y z (member z rest) (member z all) l (ap (λ r. get_or marks z false || member z r) (sym e) ∙ h z k)

pub left_set : (marks new : List Bool) (y : ℕ) (old rest all : List ℕ) → length marks ≡ 256 → y < 256 → new ≡ set marks y true → old ≡ y ∷ rest → Left marks old all → (length new ≡ 256) × Left new rest all
left_set marks new y old rest all n l k e h = (ap length k ∙ length-set marks y true ∙ n, (λ z m. ap (λ s. get_or s z false || member z rest) k ∙ left_on marks y old rest all (omega arith) e h z m))

pub left_kept : (marks new : List Bool) (old rest all : List ℕ) → length marks ≡ 256 → new ≡ marks → old ≡ rest → Left marks old all → (length new ≡ 256) × Left new rest all
left_kept marks new old rest all n k e h = (ap length k ∙ n, (λ z m. ap (λ s. get_or s z false || member z rest) k ∙ ap (λ r. get_or marks z false || member z r) (sym e) ∙ h z m))

pub left_past : (marks : List Bool) (old rest all : List ℕ) → old ≡ rest → Left marks old all → Left marks rest all
left_past marks old rest all e h z k = ap (λ r. get_or marks z false || member z r) (sym e) ∙ h z k

pub left_all : (marks : List Bool) (old all : List ℕ) → old ≡ [] → Left marks old all → Marks marks all
left_all marks old all e h z k = sym (or_false (get_or marks z false)) ∙ ap (λ r. get_or marks z false || member z r) (sym e) ∙ h z k

pub found_on : (f : Bool) (x : ℕ) (old rest all : List ℕ) → old ≡ x ∷ rest → (f || some? old) ≡ some? all → (true || some? rest) ≡ some? all
found_on f x old rest all e h = sym (ap (λ r. f || some? r) e ∙ or_true f) ∙ h

pub found_past : (f : Bool) (old rest all : List ℕ) → old ≡ rest → (f || some? old) ≡ some? all → (f || some? rest) ≡ some? all
found_past f old rest all e h = ap (λ r. f || some? r) (sym e) ∙ h

pub found_all : (f : Bool) (old all : List ℕ) → old ≡ [] → (f || some? old) ≡ some? all → f ≡ some? all
found_all f old all e h = sym (or_false f) ∙ ap (λ r. f || some? r) (sym e) ∙ h

pub marks_of : (f : Bool) (next : List Bool) (all : List ℕ) (r : Option (List Bool)) → r ≡ then_some f next → Marks next all → f ≡ some? all → MarksOf r all
marks_of true next all r e m h = subst (λ o. MarksOf o all) (sym e) (m, sym h)
marks_of false next all r e m h = subst (λ o. MarksOf o all) (sym e) (sym h)

none_marked : (n y : ℕ) → get_or (replicate n false) y false ≡ false
none_marked zero y = refl
none_marked (suc n) zero = refl
none_marked (suc n) (suc y) = none_marked n y

pub left_start : (n : ℕ) (all : List ℕ) → Left (replicate n false) all all
left_start n all y h = ap (λ t. t || member y all) (none_marked n y)

-- the rounds
walk_nil : (F : List Equation) → walkers F [] ≡ []
walk_nil [] = refl
walk_nil (Ends x a ∷ F) = walk_nil F
walk_nil (Becomes x a y ∷ F) = go (eqb a 0) (walk_nil F)
  where
    go : (b : Bool) → walkers F [] ≡ [] → cond (b && false) (x ∷ walkers F []) (walkers F []) ≡ []
    go true h = h
    go false h = h

walk_empty : (E : List Equation) (k : ℕ) → walk E k [] ≡ []
walk_empty E zero = refl
walk_empty E (suc k) = ap (walk E k) (walk_nil E) ∙ walk_empty E k

empty : (A : List ℕ) → false ≡ some? A → A ≡ []
empty [] h = refl
empty (x ∷ A) h = let z : ◌≡◌ {A = ℕ} 0 1 = cc in absurd (omega arith)

pub walks_out : (E : List Equation) (k : ℕ) (A : List ℕ) → false ≡ some? (walkers E A) → false ≡ some? (walk E (suc k) A)
walks_out E k A h = sym (ap some? (ap (walk E k) (empty (walkers E A) h) ∙ walk_empty E k))
