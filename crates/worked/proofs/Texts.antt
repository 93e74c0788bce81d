-- The text of a table is that of the rows it was made of.
use Rattle.std.proofs.Common.{◌≡◌, ℕ, zero, suc, ◌+◌, ◌-◌, ◌<◌, ◌≤◌, List, [], ◌∷◌, length, get_or, Some, None, Option, sym, refl, ap, ◌∙◌, subst, arith}
use Rattle.processes.specs.Store.{nth}
use Rattle.tables.specs.Meanings.{of_table}
use Rattle.tables.specs.Text.{text_of, table_text}
use Rattle.tables.specs.declared.steps_table.Table.{Table}
use Rattle.transitions.specs.declared.steps.Step.{Step}
use Rattle.unfolding.specs.Listing.{Move, move, row_of}
use Rattle.unfolding.specs.Model.{IsModel, row_step}
use Rattle.unfolding.specs.Placed.{move_of}
use Rattle.unfolding.specs.Tables.{rows_upto, no_step, TableFits}
use Rattle.unfolding.specs.declared.counts.Counts.{Counts}
use Rattle.unfolding.proofs.Modelling.{table_model}
use Rattle.unfolding.proofs.RowsOf.{length_rows}

-- ---- lists with the same entries

same_entries : {A : Type 0} (xs ys : List A) → ((k : ℕ) → nth xs k ≡ nth ys k) → xs ≡ ys
same_entries [] [] h = refl
same_entries [] (y ∷ ys) h = let e = h 0 in let z : ◌≡◌ {A = ℕ} 0 1 = cc in absurd (omega arith)
same_entries (x ∷ xs) [] h = let e = h 0 in let z : ◌≡◌ {A = ℕ} 0 1 = cc in absurd (omega arith)
same_entries (x ∷ xs) (y ∷ ys) h = let e = h 0 in let a : x ≡ y = cc in let b = same_entries xs ys (λ k. h (suc k)) in λ i. a i ∷ b i

same_rows : (T U : List (List (Move ℕ))) → length T ≡ length U → ((k : ℕ) → row_of T (suc k) ≡ row_of U (suc k)) → T ≡ U
same_rows [] [] l h = refl
same_rows [] (r ∷ U) l h = absurd (omega arith)
same_rows (r ∷ T) [] l h = absurd (omega arith)
same_rows (r ∷ T) (q ∷ U) l h = let a : r ≡ q = h 0 in let b = same_rows T U (omega arith) (λ k. h (suc k)) in λ i. a i ∷ b i

same_move : (o q : Option (Move ℕ)) → ((x : Step) → o ≡ Some (move_of x) → q ≡ Some (move_of x)) → ((x : Step) → q ≡ Some (move_of x) → o ≡ Some (move_of x)) → o ≡ q
same_move (Some (move a m)) q f g = sym (f (record { action = a; target = m }) refl)
same_move None (Some (move a m)) f g = g (record { action = a; target = m }) refl
same_move None None f g = refl

-- ---- a table of n terms and the ended process
module _ (t : Table) (n : ℕ) (few : t.states ≡ n + 1) where
  abbrev own : Counts
  own = record { terms = n; steps = get_or t.ends.now n 0; start = t.start }

  -- what holds of the row ends below the end of the last row
  last_row : (P : ℕ → Type 0) → P 0 → ((k : ℕ) → suc k < t.states → P (get_or t.ends.now (suc k) 0)) → P (get_or t.ends.now n 0)
  last_row P z s = go n (omega (arith, few))
    where
      go : (k : ℕ) → k < t.states → P (get_or t.ends.now k 0)
      go zero l = subst P (sym t.first) z
      go (suc k) l = s k l

  own_fits : TableFits t.steps.now t.ends.now own
  own_fits =
      record {
        few = let a = t.few in omega (arith, few);
        long = let a = t.long in omega (arith, few);
        first = t.first;
        rising = λ k l. (t.rows k (omega (arith, few))).1;
        last = refl;
        within = last_row (λ e. e ≤ length t.steps.now) (omega arith) (λ k l. (t.rows k l).2);
        narrow = λ k l. let a = (t.rows k (omega (arith, few))).3 in let b = t.narrow in omega arith;
        actions = last_row (λ e. (i : ℕ) → i < e → (get_or t.steps.now i no_step).action < 64) (λ i l. absurd (omega arith)) (λ k l i h. t.actions k i l h);
        targets =
            last_row (λ e. (i : ℕ) → i < e → (get_or t.steps.now i no_step).target ≤ n) (λ i l. absurd (omega arith))
            (λ k l i h. let a = t.targets k i l h in omega (arith, few));
        started = let a = t.started.0 (omega (arith, few)) in omega (arith, few);
      }

  module _ (zs : List Step) (es : List ℕ) (c : Counts) (same : c.terms ≡ n) (fit : TableFits zs es c) (made : IsModel zs es c (of_table t)) where
    entries : (s p : ℕ) → nth (row_of (rows_upto t.steps.now t.ends.now n) s) p ≡ nth (row_of (rows_upto zs es c.terms) s) p
    entries s p =
        let a = (table_model t.steps.now t.ends.now own own_fits).steps s p in
        let b = (made.made fit).steps s p in
        let e : row_step t.states t.ends.now t.steps.now s p ≡ row_step (n + 1) t.ends.now t.steps.now s p = ap (λ (k : ℕ). row_step k t.ends.now t.steps.now s p) few in
        same_move _ _ (λ x h. (b x).0 (e ∙ (a x).1 h)) (λ x h. (a x).0 (sym e ∙ (b x).1 h))

    rows_are : rows_upto t.steps.now t.ends.now n ≡ rows_upto zs es c.terms
    rows_are =
        same_rows _ _ (length_rows t.steps.now t.ends.now n ∙ sym same ∙ sym (length_rows zs es c.terms))
        (λ k. same_entries _ _ (entries (suc k)))

pub text_is : (t : Table) (zs : List Step) (es : List ℕ) (c : Counts) → TableFits zs es c → IsModel zs es c (of_table t) → text_of t ≡ table_text (c.terms + 1) c.start (rows_upto zs es c.terms)
text_is t zs es c fit made =
    let m = made.made fit in
    let few : t.states ≡ c.terms + 1 = m.states in
    let start : t.start ≡ c.start = m.start in
    let one : t.states - 1 ≡ c.terms = omega (arith, few) in
    let rows = ap (λ (k : ℕ). rows_upto t.steps.now t.ends.now k) one ∙ rows_are t c.terms few zs es c refl fit made in
    λ i. table_text (few i) (start i) (rows i)
