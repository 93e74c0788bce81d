-- Tests of sameness, and what they tell.
use Rattle.std.proofs.Common.{◌≡◌, ℕ, Bool, true, false, cond, ◌&&◌, eqb, List, [], ◌∷◌, Ok, Err, sym, refl, ap, ◌∙◌, ap₂}
use Rattle.std.proofs.lemmas.Bool.{false≢true, and_parts, eqb-true}
use Rattle.processes.specs.Sameness.{same_term}
use Rattle.processes.specs.declared.terms.Term.{Term}
use Rattle.transitions.specs.Verdict.{figures}
use Rattle.transitions.specs.declared.verdicts.Counterexample.TheVariants.{StartMissing, StepUnanswered, EndUnanswered, RootUnanswered}
use Rattle.transitions.specs.declared.verdicts.Figures.{Figures}
use Rattle.transitions.specs.declared.verdicts.Side.{Side}
use Rattle.transitions.specs.declared.verdicts.Side.TheVariants.{Left, Right}
use Rattle.transitions.specs.Verdict.{Verdict}
use Rattle.processes.proofs.Sameness.{same_then_is}
use Rattle.unfolding.specs.Listing.{Move, move, same_move, Unfolded, table, refused}

abbrev pub Tells : {A : Type 0} → (A → A → Bool) → Type 0
Tells {A} same = (x y : A) → same x y ≡ true → x ≡ y

abbrev pub same_list : {A : Type 0} → (A → A → Bool) → List A → List A → Bool
same_list same [] [] = true
same_list same [] (y ∷ ys) = false
same_list same (x ∷ xs) [] = false
same_list same (x ∷ xs) (y ∷ ys) = same x y && same_list same xs ys

pub tells_list : {A : Type 0} (same : A → A → Bool) → Tells same → Tells (same_list same)
tells_list same tells [] [] h = refl
tells_list same tells [] (y ∷ ys) h = absurd (false≢true h)
tells_list same tells (x ∷ xs) [] h = absurd (false≢true h)
tells_list same tells (x ∷ xs) (y ∷ ys) h =
    let both = and_parts (same x y) (same_list same xs ys) h in ap₂ (λ z zs. z ∷ zs) (tells x y both.0) (tells_list same tells xs ys both.1)

abbrev pub same_bytes : List ℕ → List ℕ → Bool
same_bytes = same_list eqb

pub tells_bytes : Tells same_bytes
tells_bytes = tells_list eqb eqb-true

tells_move : Tells same_move
tells_move (move a m) (move b n) h = let both = and_parts (eqb a b) (eqb m n) h in ap₂ move (eqb-true a b both.0) (eqb-true m n both.1)

abbrev pub same_rows : List (List (Move ℕ)) → List (List (Move ℕ)) → Bool
same_rows = same_list (same_list same_move)

-- The unfolding is this table.
abbrev pub is_table : Unfolded → List Term → List (List (Move ℕ)) → Bool
is_table (table S T) terms rows = same_list same_term S terms && same_rows T rows
is_table refused terms rows = false

pub tells_table : (u : Unfolded) (terms : List Term) (rows : List (List (Move ℕ))) → is_table u terms rows ≡ true → u ≡ table terms rows
tells_table (table S T) terms rows h =
    let both = and_parts (same_list same_term S terms) (same_rows T rows) h in
    ap₂ table (tells_list same_term same_then_is S terms both.0) (tells_list (same_list same_move) (tells_list same_move tells_move) T rows both.1)
tells_table refused terms rows h = absurd (false≢true h)

abbrev pub same_figures : Figures → Figures → Bool
same_figures f g = eqb f.kind g.kind && (eqb f.left g.left && (eqb f.right g.right && (eqb f.side g.side && eqb f.place g.place)))

pub tells_figures : Tells same_figures
tells_figures f g h =
    let a = and_parts (eqb f.kind g.kind) _ h in
    let b = and_parts (eqb f.left g.left) _ a.1 in
    let c = and_parts (eqb f.right g.right) _ b.1 in
    let d = and_parts (eqb f.side g.side) _ c.1 in
    let kind = eqb-true _ _ a.0 in
    let left = eqb-true _ _ b.0 in
    let right = eqb-true _ _ c.0 in
    let side = eqb-true _ _ d.0 in
    let place = eqb-true _ _ d.1 in
    λ i. record { kind = kind i; left = left i; right = right i; side = side i; place = place i }

-- ---- verdicts with the same figures are the same

abbrev side_of : ℕ → Side
side_of n = cond (eqb n 0) Left Right

abbrev verdict_of : Figures → Verdict
verdict_of f =
    cond (eqb f.kind 0) (Ok tt)
    (Err
    (cond (eqb f.kind 1) (StartMissing f.left f.right)
    (cond (eqb f.kind 2) (StepUnanswered f.left f.right (side_of f.side) f.place)
    (cond (eqb f.kind 3) (EndUnanswered f.left f.right (side_of f.side)) (RootUnanswered f.left f.right (side_of f.side) f.place)))))

back : (v : Verdict) → verdict_of (figures v) ≡ v
back (Ok u) = refl
back (Err (StartMissing s t)) = refl
back (Err (StepUnanswered s t Left p)) = refl
back (Err (StepUnanswered s t Right p)) = refl
back (Err (EndUnanswered s t Left)) = refl
back (Err (EndUnanswered s t Right)) = refl
back (Err (RootUnanswered s t Left p)) = refl
back (Err (RootUnanswered s t Right p)) = refl

abbrev pub same_verdict : Verdict → Verdict → Bool
same_verdict v w = same_figures (figures v) (figures w)

pub tells_verdict : Tells same_verdict
tells_verdict v w h = sym (back v) ∙ ap verdict_of (tells_figures (figures v) (figures w) h) ∙ back w
