-- Whatever room is lent, a file has one table, and one model.
use Rattle.std.proofs.Common.{◌≡◌, ℕ, zero, suc, ◌+◌, ◌≤◌, max, Bool, true, false, List, [], ◌∷◌, ◌++◌, length, get_or, Some, None, Option, sym, refl, ap, ◌∙◌, subst, ap₂, inl, inr, arith}
use Rattle.std.proofs.lemmas.Bool.{cases_Bool}
use Rattle.modelfile.specs.Tables.{Tables}
use Rattle.processes.specs.Store.{nth}
use Rattle.processes.specs.declared.equations.Equation.{Equation}
use Rattle.processes.specs.declared.terms.Term.{Term}
use Rattle.tables.specs.Text.{table_text}
use Rattle.transitions.specs.Listed.{listed_joins}
use Rattle.transitions.specs.Lts.{Lts}
use Rattle.transitions.specs.Made.{Joins}
use Rattle.transitions.specs.declared.steps.Step.{Step}
use Rattle.unfolding.specs.Listing.{Move, row_of, table, refused, run, place, moves, fits}
use Rattle.unfolding.specs.Model.{widest}
use Rattle.unfolding.specs.Promise.{state_room, step_room, IsTable}
use Rattle.unfolding.specs.Tables.{rows_upto, TableFits}
use Rattle.unfolding.specs.declared.counts.Counts.{Counts}
use Rattle.unfolding.proofs.Going.{run_next, run_stop, run_done}
use Rattle.unfolding.proofs.Placing.{length_row}
use Rattle.unfolding.proofs.RowsOf.{length_rows, row_is, below}
use Rattle.worked.specs.Making.{Unfolds, Makes}

-- ---- the room does not change the table

module _ (E : List Equation) (γ : Joins) (states steps states' steps' : ℕ) where
  apart : (S : List Term) (T : List (List (Move ℕ))) → refused ≡ table S T → ⊥
  apart S T e = let z : ◌≡◌ {A = ℕ} 0 1 = cc in omega arith

  one_table : (d d' : ℕ) (S : List Term) (T : List (List (Move ℕ))) (S₁ S₂ : List Term) (T₁ T₂ : List (List (Move ℕ))) → run E γ states steps d S T ≡ table S₁ T₁ → run E γ states' steps' d' S T ≡ table S₂ T₂ → T₁ ≡ T₂
  one_table zero d' S T S₁ S₂ T₁ T₂ e f = absurd (apart S₁ T₁ e)
  one_table (suc d) zero S T S₁ S₂ T₁ T₂ e f = absurd (apart S₂ T₂ f)
  one_table (suc d) (suc d') S T S₁ S₂ T₁ T₂ e f = go (one_table d d') (nth S (length T)) refl
    where
      go : ((S : List Term) (T : List (List (Move ℕ))) (S₁ S₂ : List Term) (T₁ T₂ : List (List (Move ℕ))) → run E γ states steps d S T ≡ table S₁ T₁ → run E γ states' steps' d' S T ≡ table S₂ T₂ → T₁ ≡ T₂) → (o : Option Term) → nth S (length T) ≡ o → T₁ ≡ T₂
      go ih None q =
          let a : table S T ≡ table S₁ T₁ = sym (run_done E γ states steps d S T q) ∙ e in
          let b : table S T ≡ table S₂ T₂ = sym (run_done E γ states' steps' d' S T q) ∙ f in
          let g : T ≡ T₁ = cc in
          let h : T ≡ T₂ = cc in
          sym g ∙ h
      go ih (Some x) q =
          let r = place S [] (moves E γ (row_of T) x) in
          elim (cases_Bool (fits states steps T r)) [
            | inl a ↦
                elim (cases_Bool (fits states' steps' T r)) [
                  | inl b ↦
                      ih r.entries (T ++ (r.steps ∷ [])) S₁ S₂ T₁ T₂ (sym (run_next E γ states steps d S T x q a) ∙ e)
                      (sym (run_next E γ states' steps' d' S T x q b) ∙ f)
                  | inr b ↦ absurd (apart S₂ T₂ (sym (run_stop E γ states' steps' d' S T x q b) ∙ f))
                ]
            | inr a ↦ absurd (apart S₁ T₁ (sym (run_stop E γ states steps d S T x q a) ∙ e))
          ]

-- ---- two unfoldings of one file

pub record Agree (zs : List Step) (es : List ℕ) (n : Counts) (zs' : List Step) (es' : List ℕ) (n' : Counts) : Type 0 where
  pub terms : n.terms ≡ n'.terms
  pub start : n.start ≡ n'.start
  pub rows : rows_upto zs es n.terms ≡ rows_upto zs' es' n'.terms
  pub fits : TableFits zs es n
  pub fits' : TableFits zs' es' n'

pub agree : (file : List ℕ) (zs : List Step) (es : List ℕ) (n : Counts) (zs' : List Step) (es' : List ℕ) (n' : Counts) → Unfolds file zs es n → Unfolds file zs' es' n' → Agree zs es n zs' es' n'
agree file zs es n zs' es' n' u v =
    let same : v.tables ≡ u.tables = u.reads.no_other v.tables v.reads.holds in
    let a = u.unfolded in
    let b = subst (λ (t : Tables). IsTable t.lines t.equations t.terms t.start v.terms₀ v.terms v.steps₀ zs' v.ends₀ es' n') same v.unfolded in
    let states = state_room u.terms₀ u.ends₀ in
    let states' = state_room v.terms₀ v.ends₀ in
    let rows =
    one_table u.tables.equations (listed_joins u.tables.lines) states (step_room u.steps₀) states' (step_room v.steps₀) states states' u.tables.terms [] _ _ _ _ a.listed
    b.listed in
    let long = sym (length_rows zs es n.terms) ∙ ap length rows ∙ length_rows zs' es' n'.terms in
    record { terms = long; start = a.start_is ∙ sym b.start_is; rows = rows; fits = a.fits; fits' = b.fits }

-- The text of the rows.
abbrev pub listing_of : List Step → List ℕ → Counts → List ℕ
listing_of zs es n = table_text (n.terms + 1) n.start (rows_upto zs es n.terms)

pub same_text : (zs : List Step) (es : List ℕ) (n : Counts) (zs' : List Step) (es' : List ℕ) (n' : Counts) → Agree zs es n zs' es' n' → listing_of zs es n ≡ listing_of zs' es' n'
same_text zs es n zs' es' n' w = λ i. table_text (w.terms i + 1) (w.start i) (w.rows i)

-- ---- two models of one file

abbrev widest_row : List (List (Move ℕ)) → ℕ → ℕ
widest_row T zero = 0
widest_row T (suc k) = max (widest_row T k) (length (row_of T (suc k)))

width_is : (zs : List Step) (es : List ℕ) (n : Counts) → TableFits zs es n → (k : ℕ) → k ≤ n.terms → widest es k ≡ widest_row (rows_upto zs es n.terms) k
width_is zs es n fit zero l = refl
width_is zs es n fit (suc k) l =
    let a = below es n.terms (suc k) fit.rising l in
    let b = fit.last in
    let c = fit.within in
    let d = ap length (row_is zs es n.terms k l) ∙ length_row zs (get_or es k 0) (get_or es (suc k) 0) (omega arith) in
    ap₂ max (width_is zs es n fit k (omega arith)) (sym d)

same_bool : (b c : Bool) → (b ≡ true → c ≡ true) → (c ≡ true → b ≡ true) → b ≡ c
same_bool true c f g = sym (f refl)
same_bool false true f g = g refl
same_bool false false f g = refl

same_option : (o q : Option Step) → ((x : Step) → o ≡ Some x → q ≡ Some x) → ((x : Step) → q ≡ Some x → o ≡ Some x) → o ≡ q
same_option (Some x) q f g = sym (f x refl)
same_option None (Some x) f g = g x refl
same_option None None f g = refl

pub one_model : (file : List ℕ) (L M : Lts) → Makes file L → Makes file M → L ≡ M
one_model file L M u v =
    let w = agree file u.steps u.ends u.counts v.steps v.ends v.counts u.unfolds v.unfolds in
    let a = u.model.made w.fits in
    let b = v.model.made w.fits' in
    let states = a.states ∙ ap (λ (k : ℕ). k + 1) w.terms ∙ sym b.states in
    let start = a.start ∙ w.start ∙ sym b.start in
    let p = width_is u.steps u.ends u.counts w.fits u.counts.terms (omega arith) in
    let q = width_is v.steps v.ends v.counts w.fits' v.counts.terms (omega arith) in
    let width = a.width ∙ p ∙ ap₂ widest_row w.rows w.terms ∙ sym q ∙ sym b.width in
    let ends = λ (s : ℕ). same_bool (L.ends s) (M.ends s) (λ h. (b.ends s).1 ((a.ends s).0 h)) (λ h. (a.ends s).1 ((b.ends s).0 h)) in
    let at = λ (s k : ℕ). ap (λ (T : List (List (Move ℕ))). nth (row_of T s) k) w.rows in
    let step = λ (s k : ℕ).
    same_option (L.step s k) (M.step s k) (λ x h. (b.steps s k x).1 (sym (at s k) ∙ (a.steps s k x).0 h))
    (λ x h. (a.steps s k x).1 (at s k ∙ (b.steps s k x).0 h)) in
    λ i. record { states = states i; start = start i; width = width i; ends = λ s. ends s i; step = λ s k. step s k i }
