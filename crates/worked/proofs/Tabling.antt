-- The table of a file, computed, and the test that it is one.
use Rattle.std.proofs.Common.{◌≡◌, ℕ, zero, suc, ◌+◌, ◌<◌, ◌≤◌, Bool, true, false, ◌&&◌, eqb, ltb, leb, List, [], ◌∷◌, ◌++◌, map, length, get_or, refl, inl, inr, arith}
use Rattle.std.proofs.lemmas.Bool.{false≢true, and_parts, eqb-true, leb-true, ltb-true, cases_eq}
use Rattle.acceptance.specs.Accepted.{Accepted}
use Rattle.modelfile.specs.Computed.{Answer, read, refused_at, reading}
use Rattle.modelfile.specs.Tables.{Tables}
use Rattle.processes.specs.declared.terms.Term.{Term}
use Rattle.transitions.specs.Listed.{listed_joins}
use Rattle.transitions.specs.Lts.{Lts, Lawful}
use Rattle.transitions.specs.declared.steps.Step.{Step}
use Rattle.unfolding.specs.Listing.{Move, move, Unfolded, table, refused, run}
use Rattle.unfolding.specs.Model.{of_rows, widest}
use Rattle.unfolding.specs.Numbered.{stored}
use Rattle.unfolding.specs.Promise.{state_room, step_room, IsTable}
use Rattle.unfolding.specs.Tables.{rows_upto, TableFits}
use Rattle.unfolding.specs.declared.counts.Counts.{Counts}
use Rattle.unfolding.proofs.Modelling.{rows_lawful, table_rows, table_actions, table_targets, table_wide, is_model}
use Rattle.unfolding.proofs.Whole.{whole}
use Rattle.worked.specs.Making.{full, Unfolds, Makes}
use Rattle.worked.proofs.Readings.{reads}
use Rattle.worked.proofs.Sames.{is_table, tells_table}

-- ---- the rows as one row of steps, and where each ends

abbrev step_of : Move ℕ → Step
step_of (move a m) = record { action = a; target = m }

abbrev steps_of : List (List (Move ℕ)) → List Step
steps_of [] = []
steps_of (r ∷ T) = map step_of r ++ steps_of T

abbrev ends_of : ℕ → List (List (Move ℕ)) → List ℕ
ends_of from [] = from ∷ []
ends_of from (r ∷ T) = from ∷ ends_of (from + length r) T

abbrev rising : List ℕ → ℕ → Bool
rising es zero = true
rising es (suc n) = rising es n && leb (get_or es n 0) (get_or es (suc n) 0)

tells_rising : (es : List ℕ) (n : ℕ) → rising es n ≡ true → (k : ℕ) → k < n → get_or es k 0 ≤ get_or es (suc k) 0
tells_rising es zero h k l = absurd (omega arith)
tells_rising es (suc n) h k l =
    let both = and_parts (rising es n) (leb (get_or es n 0) (get_or es (suc n) 0)) h in
    elim (cases_eq k n) [
      | inl e ↦ let q = leb-true _ _ both.1 in rw e q
      | inr ne ↦ tells_rising es n both.0 k (omega arith)
    ]

-- ---- the terms, steps and row ends of accepted tables are what `unfold` leaves, if they pass the test
module _ (t : Tables) (xs : List Term) (zs : List Step) (es : List ℕ) where
  abbrev pub counts : Counts
  counts = record { terms = length xs; steps = length zs; start = t.start }

  abbrev pub model : Lts
  model = of_rows (length xs + 1) t.start (widest es (length xs)) es zs

  abbrev pub stands : Bool
  stands =
      is_table (run t.equations (listed_joins t.lines) (state_room xs es) (step_room zs) (state_room xs es) t.terms []) (stored xs (length xs)) (rows_upto zs es (length xs))
      && (eqb (get_or es 0 0) 0
      && (rising es (length xs)
      && (eqb (get_or es (length xs) 0) (length zs)
      && (ltb (length xs) (length es)
      && (leb (length t.terms) (length xs)
      && (ltb (length xs) (state_room xs es)
      && leb (length zs) (step_room zs)))))))

  pub tabled : Accepted t.lines t.equations t.terms t.start → stands ≡ true → IsTable t.lines t.equations t.terms t.start xs xs zs zs es es counts
  tabled ok h =
      let a = and_parts (is_table (run t.equations (listed_joins t.lines) (state_room xs es) (step_room zs) (state_room xs es) t.terms []) (stored xs (length xs)) (rows_upto zs es (length xs))) _ h in
      let b = and_parts (eqb (get_or es 0 0) 0) _ a.1 in
      let c = and_parts (rising es (length xs)) _ b.1 in
      let d = and_parts (eqb (get_or es (length xs) 0) (length zs)) _ c.1 in
      let e = and_parts (ltb (length xs) (length es)) _ d.1 in
      let f = and_parts (leb (length t.terms) (length xs)) _ e.1 in
      let g = and_parts (ltb (length xs) (state_room xs es)) _ f.1 in
      whole t.lines t.equations t.terms t.start xs xs zs zs es es (record { terms = length xs; steps = length zs }) ok refl refl
      (record {
        is = tells_table _ _ _ a.0;
        rowed = record { first = eqb-true _ _ b.0; rising = tells_rising es (length xs) c.0; last = eqb-true _ _ d.0; long = ltb-true _ _ e.0 };
        terms_least = leb-true _ _ f.0;
        terms_most = ltb-true _ _ g.0;
        most = leb-true _ _ g.1;
        terms_past = refl;
        steps_past = refl;
        rows_past = refl;
      })

  pub lawful : TableFits zs es counts → Lawful model
  lawful fit =
      let few = fit.few in
      let started = fit.started in
      rows_lawful (length xs + 1) t.start (widest es (length xs)) es zs (omega arith) (table_wide zs es counts fit) (λ _. omega arith, λ z. absurd (omega arith)) (table_rows zs es counts fit)
      (table_actions zs es counts fit) (table_targets zs es counts fit)

-- ---- the table of a file

-- What is computed of a file: its tables, and the terms, steps and row ends of its table.
pub record Tabled : Type 0 where
  pub tables : Tables
  pub terms : List Term
  pub steps : List Step
  pub ends : List ℕ

abbrev by_run : Tables → Unfolded → Tabled
by_run t (table S T) = record { tables = t; terms = S; steps = steps_of T; ends = ends_of 0 T }
by_run t refused = record { tables = t; terms = []; steps = []; ends = [] }

abbrev by_reading : Answer → Tabled
by_reading (read t) = by_run t (run t.equations (listed_joins t.lines) 4096 16384 4096 t.terms [])
by_reading (refused_at k i) = record { tables = record { variables = 0; lines = []; equations = []; terms = []; start = 0 }; terms = []; steps = []; ends = [] }

abbrev pub table_in : List ℕ → Tabled
table_in file = by_reading (reading full file)

abbrev pub counts_in : Tabled → Counts
counts_in w = counts w.tables w.terms w.steps w.ends

abbrev pub model_in : List ℕ → Lts
model_in file = let w = table_in file in model w.tables w.terms w.steps w.ends

-- The file is read, and its table passes the test.
abbrev by_answer : Answer → Bool
by_answer (read t) = let w = by_reading (read t) in stands w.tables w.terms w.steps w.ends
by_answer (refused_at k i) = false

abbrev pub has_table : List ℕ → Bool
has_table file = by_answer (reading full file)

pub record Found (file : List ℕ) (w : Tabled) : Type 0 where
  pub unfolds : Unfolds file w.steps w.ends (counts_in w)
  pub makes : Makes file (model w.tables w.terms w.steps w.ends)
  pub law : Lawful (model w.tables w.terms w.steps w.ends)

pub found : (file : List ℕ) → has_table file ≡ true → Found file (table_in file)
found file h = go (reading full file) refl h
  where
    at : (t : Tables) (xs : List Term) (zs : List Step) (es : List ℕ) → reading full file ≡ read t → stands t xs zs es ≡ true → Found file (record { tables = t; terms = xs; steps = zs; ends = es })
    at t xs zs es e h =
        let r = reads file t e in
        let u = tabled t xs zs es r.holds.accepted.tables h in
        let v : Unfolds file zs es (counts t xs zs es) = record { tables = t; reads = r; terms₀ = xs; terms = xs; steps₀ = zs; ends₀ = es; unfolded = u } in
        record {
          unfolds = v;
          makes = record { steps = zs; ends = es; counts = counts t xs zs es; unfolds = v; model = is_model zs es (counts t xs zs es) u.fits };
          law = lawful t xs zs es u.fits;
        }

    by : (t : Tables) (u : Unfolded) → reading full file ≡ read t → stands (by_run t u).tables (by_run t u).terms (by_run t u).steps (by_run t u).ends ≡ true → Found file (by_run t u)
    by t (table S T) e h = at t S (steps_of T) (ends_of 0 T) e h
    by t refused e h = at t [] [] [] e h

    go : (a : Answer) → reading full file ≡ a → by_answer a ≡ true → Found file (by_reading a)
    go (read t) e h = by t (run t.equations (listed_joins t.lines) 4096 16384 4096 t.terms []) e h
    go (refused_at k i) e h = absurd (false≢true h)
