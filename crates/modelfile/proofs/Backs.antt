-- The one text of accepted tables is read.
use Rattle.std.proofs.Common.{◌≡◌, ℕ, zero, suc, ◌+◌, ◌%◌, ◌<◌, ◌≤◌, true, false, cond, not, List, [], ◌∷◌, ◌++◌, length, get_or, Some, None, sym, refl, ap, ◌∙◌, subst, inl, append_assoc, append-nil, add-one, arith, length-append, le-ltb, eq-eqb, ne_eqb}
use Rattle.std.proofs.lemmas.Bool.{false_from_ne_true}
use Rattle.std.proofs.Math.Seq.{get_or-append_seam}
use Rattle.std.proofs.Math.ListN.{get_or-append}
use borrow.Author.Tests.{lt-leb}
use Rattle.acceptance.proofs.Circling.{ring_found}
use Rattle.acceptance.specs.Accepted.{EquationFits, Earlier, TermFits}
use Rattle.acceptance.specs.Walks.{silent_ring}
use Rattle.processes.specs.Sameness.{first, second, same_equation, same_term}
use Rattle.processes.proofs.Sameness.{same_then_is, same_as_itself, same_line_is, line_as_itself}
use Rattle.processes.specs.declared.equations.Equation.{Equation}
use Rattle.processes.specs.declared.equations.Equation.TheVariants as equation
use Rattle.processes.specs.declared.terms.Term.{Term}
use Rattle.processes.specs.declared.terms.Term.TheVariants.{Action, Deadlock, Variable, Choice, Sequence, Merge, LeftMerge, CommMerge, Block, Hide}
use Rattle.tokens.specs.Lines.{raw_lines}
use Rattle.tokens.specs.declared.said.Said.{Said}
use Rattle.tokens.specs.declared.said.Said.TheVariants.{Variables, Starts}
use Rattle.transitions.proofs.Listing.{named}
use Rattle.transitions.specs.Listed.{line_at, Names, VisibleLine, names}
use Rattle.transitions.specs.declared.lines.JoinLine.{JoinLine}
use Rattle.modelfile.specs.declared.faults.Fault.TheVariants.{TooLong}
use Rattle.modelfile.specs.Accepted.{Room, EquationBelow, TermBelow, Accepted}
use Rattle.modelfile.specs.Computed.{Test, test, first_fault, tests_of, fault_said, at_start, not_associative, Answer, read, refused_at, read_lines, reading}
use Rattle.modelfile.specs.Entries.{entry_of, term_of}
use Rattle.modelfile.specs.Tables.{Tables, kind_of, line_says, equation_says, term_says, lines_before, equations_before, terms_before, written, render}
use Rattle.modelfile.specs.Tests.{Sofar, nothing, turn_of, out_of_turn, over_limit, not_before, operand_not_before, wrong_number, odd_set, silent_used, any, said_before, full, too_many, start_of}
use Rattle.modelfile.proofs.Finding.{any_none as none_at}
use Rattle.modelfile.proofs.Goods.{AllFalse, all_on}
use Rattle.modelfile.proofs.Groups.{or_no, associative_no}
use Rattle.modelfile.proofs.Onces.{within, fresh_at}
use Rattle.modelfile.proofs.Spelled.{tables_of}
use Rattle.modelfile.proofs.Writings.{Told, told_end, told_next, read_told, NumbersFit}

none_first : (ts : List Test) → AllFalse ts → first_fault ts ≡ None
none_first [] h = refl
none_first (test k b ∷ ts) h = ap (λ c. cond c (Some k) (first_fault ts)) h.0 ∙ none_first ts h.1

turn_ok : (k t : ℕ) → 0 < k → k ≤ suc t → 0 < t → out_of_turn k t ≡ false
turn_ok zero t a b c = absurd (omega arith)
turn_ok (suc k) t a b c = or_no (ne_eqb t 0 (omega arith)) (le-ltb t k (omega arith))

full_no : (limit room : ℕ) {A : Type 0} (xs : List A) (x : A) (ys zs : List A) → xs ++ (x ∷ ys) ≡ zs → length zs ≤ limit → length zs ≤ room → full limit room (length xs) ≡ false
full_no limit room xs x ys zs e h k =
    let a : length (xs ++ (x ∷ ys)) ≡ length zs = ap length e in
    let b : length (xs ++ (x ∷ ys)) ≡ length xs + length (x ∷ ys) = length-append xs (x ∷ ys) in
    or_no (lt-leb limit (length xs) (omega arith)) (lt-leb room (length xs) (omega arith))

-- what a term's line says gives the term
given_again : (t : Term) → term_of (kind_of t) (first t) (second t) ≡ t
given_again (Action a) = refl
given_again Deadlock = refl
given_again (Variable x) = refl
given_again (Choice p q) = refl
given_again (Sequence p q) = refl
given_again (Merge p q) = refl
given_again (LeftMerge p q) = refl
given_again (CommMerge p q) = refl
given_again (Block p q) = refl
given_again (Hide p q) = refl

later_no : (n p : ℕ) → Earlier n p → not_before n p ≡ false
later_no n p h = or_no (ne_eqb p 0 (omega arith)) (lt-leb n p h.1)

limit_no : (v n : ℕ) (t : Term) → TermFits n t → TermBelow v t → over_limit v (term_says n t) ≡ false
limit_no v n (Action a) f b = or_no (le-ltb 63 a (omega arith)) refl
limit_no v n Deadlock f b = refl
limit_no v n (Variable x) f b = or_no (lt-leb v x b) refl
limit_no v n (Choice p q) f b = refl
limit_no v n (Sequence p q) f b = refl
limit_no v n (Merge p q) f b = refl
limit_no v n (LeftMerge p q) f b = refl
limit_no v n (CommMerge p q) f b = refl
limit_no v n (Block p q) f b = refl
limit_no v n (Hide p q) f b = refl

earlier_no : (n : ℕ) (t : Term) → TermFits n t → operand_not_before n (kind_of t) (first t) (second t) ≡ false
earlier_no n (Action a) f = refl
earlier_no n Deadlock f = refl
earlier_no n (Variable x) f = refl
earlier_no n (Choice p q) f = or_no (later_no n p f.0) (later_no n q f.1)
earlier_no n (Sequence p q) f = or_no (later_no n p f.0) (later_no n q f.1)
earlier_no n (Merge p q) f = or_no (later_no n p f.0) (later_no n q f.1)
earlier_no n (LeftMerge p q) f = or_no (later_no n p f.0) (later_no n q f.1)
earlier_no n (CommMerge p q) f = or_no (later_no n p f.0) (later_no n q f.1)
earlier_no n (Block p q) f = later_no n p f.0
earlier_no n (Hide p q) f = later_no n p f.0

odd_no : (n : ℕ) (t : Term) → TermFits n t → odd_set (kind_of t) (second t) ≡ false
odd_no n (Action a) f = refl
odd_no n Deadlock f = refl
odd_no n (Variable x) f = refl
odd_no n (Choice p q) f = refl
odd_no n (Sequence p q) f = refl
odd_no n (Merge p q) f = refl
odd_no n (LeftMerge p q) f = refl
odd_no n (CommMerge p q) f = refl
odd_no n (Block p q) f = let e : q % 2 ≡ 0 = f.1 in ne_eqb (q % 2) 1 (omega arith)
odd_no n (Hide p q) f = let e : q % 2 ≡ 0 = f.1 in ne_eqb (q % 2) 1 (omega arith)

term_numbers : (v n : ℕ) (t : Term) → v ≤ 256 → n ≤ 256 → TermFits n t → TermBelow v t → NumbersFit (term_says n t)
term_numbers v n (Action a) x y f b = (omega arith, omega arith, omega arith)
term_numbers v n Deadlock x y f b = (omega arith, omega arith, omega arith)
term_numbers v n (Variable p) x y f b = (omega arith, omega arith, omega arith)
term_numbers v n (Choice p q) x y f b = (omega arith, omega arith, omega arith)
term_numbers v n (Sequence p q) x y f b = (omega arith, omega arith, omega arith)
term_numbers v n (Merge p q) x y f b = (omega arith, omega arith, omega arith)
term_numbers v n (LeftMerge p q) x y f b = (omega arith, omega arith, omega arith)
term_numbers v n (CommMerge p q) x y f b = (omega arith, omega arith, omega arith)
term_numbers v n (Block p q) x y f b = let a = f.0.1 in (omega arith, omega arith, b)
term_numbers v n (Hide p q) x y f b = let a = f.0.1 in (omega arith, omega arith, b)

module _ (R : Room) where
  -- a line to which no test applies
  no_fault : (S : Sofar) (s : Said)
      → out_of_turn S.turn (turn_of s) ≡ false → over_limit S.variables s ≡ false → wrong_number (length S.terms) s ≡ false → silent_used s ≡ false
      → said_before S (entry_of s) ≡ false → too_many R (length S.lines) (length S.equations) (length S.terms) (entry_of s) ≡ false
      → at_start (not_associative S.lines) (start_of (entry_of s)) ≡ false → at_start (silent_ring S.equations) (start_of (entry_of s)) ≡ false
      → fault_said R S s ≡ None
  no_fault S s a b c d e f g h = none_first (tests_of R S s) (a, (b, (c, (d, (e, (f, (g, (h, tt))))))))

  -- the line of an equation, told
  equation_told : (e : Equation) (S : Sofar) (ss : List Said) (n : ℕ) (S' : Sofar) → S.variables ≤ 256 → 0 < S.turn → S.turn ≤ 3 → EquationBelow S.variables e → EquationFits e → any (λ d. same_equation d e) S.equations ≡ false → full 1024 R.for_equations (length S.equations) ≡ false
      → Told R (record { turn = 3; variables = S.variables; lines = S.lines; equations = S.equations ++ (e ∷ []); terms = S.terms }) ss n S' → Told R S (equation_says e ∷ ss) n S'
  equation_told (equation.Ends x a) S ss n S' v l m f g k h next =
      told_next (no_fault S (equation_says (equation.Ends x a)) (turn_ok S.turn 2 l (omega arith) (omega arith)) (or_no (lt-leb S.variables x f) (le-ltb 63 a (omega arith))) refl refl k h refl refl) refl (omega arith, omega arith) next
  equation_told (equation.Becomes x a y) S ss n S' v l m f g k h next =
      told_next (no_fault S (equation_says (equation.Becomes x a y)) (turn_ok S.turn 2 l (omega arith) (omega arith)) (or_no (or_no (lt-leb S.variables x f.0) (le-ltb 63 a (omega arith))) (lt-leb S.variables y f.1)) refl refl k h refl refl) refl (omega arith, omega arith, omega arith) next

-- the entry at its place, between two parts
at_mid : {A : Type 0} (P : ℕ → A → Type 0) (xs : List A) (x : A) (ys zs : List A) (d : A) → xs ++ (x ∷ ys) ≡ zs → ((k : ℕ) → k < length zs → P k (get_or zs k d)) → P (length xs) x
at_mid P xs x ys zs d e h = subst (P (length xs)) (ap (λ z. get_or z (length xs) d) (sym e) ∙ get_or-append_seam xs x ys d) (h (length xs) (within xs x ys zs e))

module _ (R : Room) (t : Tables) (ok : Accepted R t) where
  abbrev ToldAll : Sofar → List Said → Type 0
  ToldAll S ss = (S' : Sofar) × Told R S ss t.start S' × (tables_of R S' t.start ≡ t)

  terms_told : (ts : List Term) (S : Sofar) → S.variables ≡ t.variables → S.lines ≡ t.lines → S.equations ≡ t.equations → S.terms ++ ts ≡ t.terms → 0 < S.turn → S.turn ≤ 4 → ToldAll S (terms_before (suc (length S.terms)) ts [])
  terms_told [] S ev ep el et l m =
      let u : S.terms ≡ t.terms = sym (append-nil S.terms) ∙ et in
      let st = ok.tables.started in
      let le : length S.terms ≡ length t.terms = ap length u in
      let few = ok.tables.terms_few in
      let grouped : not_associative S.lines ≡ false = ap not_associative ep ∙ associative_no t.lines ok.tables.lines_fit.once ok.tables.lines_fit.associative in
      let ringless : silent_ring S.equations ≡ false = ap silent_ring el ∙ false_from_ne_true (silent_ring t.equations) (λ h. let r = ring_found t.equations h in ok.tables.no_ring r.0 r.1) in
      (S, told_end (no_fault R S (Starts t.start) (turn_ok S.turn 4 l (omega arith) (omega arith)) refl (later_no (suc (length S.terms)) t.start (st.0, omega arith)) refl refl refl grouped ringless) (omega arith), same u)
    where
      same : S.terms ≡ t.terms → tables_of R S t.start ≡ t
      same u = λ i. record { variables = ev i; lines = ep i; equations = el i; terms = u i; start = t.start }
  terms_told (e ∷ ts) S ev ep el et l m =
      let n : ℕ = suc (length S.terms) in
      let f : TermFits n e = subst (λ k. TermFits k e) (add-one (length S.terms)) (at_mid (λ k. TermFits (k + 1)) S.terms e ts t.terms _ et ok.tables.terms_fit) in
      let b : TermBelow t.variables e = at_mid (λ _. TermBelow t.variables) S.terms e ts t.terms _ et ok.terms_below in
      let below = within S.terms e ts t.terms et in
      let few = ok.tables.terms_few in
      let d : Term = term_of (kind_of e) (first e) (second e) in
      let de : d ≡ e = given_again e in
      let S₁ : Sofar = record { turn = 4; variables = S.variables; lines = S.lines; equations = S.equations; terms = S.terms ++ (d ∷ []) } in
      let len : length (S.terms ++ (d ∷ [])) ≡ length S.terms + 1 = length-append S.terms (d ∷ []) in
      let next : ToldAll S₁ (terms_before (suc (length S₁.terms)) ts []) = terms_told ts S₁ ev ep el (append_assoc S.terms (d ∷ []) ts ∙ ap (λ z. S.terms ++ (z ∷ ts)) de ∙ et) (omega arith) (omega arith) in
      let idx : suc (length (S.terms ++ (d ∷ []))) ≡ suc n = omega arith in
      let limit : over_limit S.variables (term_says n e) ≡ false = limit_no S.variables n e f (subst (λ v. TermBelow v e) (sym ev) b) in
      let fresh : any (λ s. same_term s d) S.terms ≡ false = subst (λ z. any (λ s. same_term s z) S.terms ≡ false) (sym de) (fresh_at same_term same_then_is same_as_itself S.terms e ts t.terms et ok.tables.terms_once) in
      let free : full 256 R.for_terms (length S.terms) ≡ false = full_no 256 R.for_terms S.terms e ts t.terms et few ok.terms_room in (
        next.0,
        told_next (no_fault R S (term_says n e) (turn_ok S.turn 3 l (omega arith) (omega arith)) limit (or_no (ap not (eq-eqb n n refl)) (earlier_no n e f)) (odd_no n e f) fresh free refl refl)
            refl (term_numbers t.variables n e ok.variables_few (omega arith) f b) (subst (λ k. Told R S₁ (terms_before k ts []) t.start next.0) idx next.1),
        next.2,
      )

  equations_told : (es : List Equation) (S : Sofar) → S.variables ≡ t.variables → S.lines ≡ t.lines → S.equations ++ es ≡ t.equations → S.terms ≡ [] → 0 < S.turn → S.turn ≤ 3 → ToldAll S (equations_before es (terms_before 1 t.terms []))
  equations_told [] S ev ep el et l m =
      let one : suc (length S.terms) ≡ 1 = ap (λ z. suc (length z)) et in
      let r = terms_told t.terms S ev ep (sym (append-nil S.equations) ∙ el) (ap (λ z. z ++ t.terms) et) l (omega arith) in
      (r.0, subst (λ k. Told R S (terms_before k t.terms []) t.start r.0) one r.1, r.2)
  equations_told (x ∷ es) S ev ep el et l m =
      let S₁ : Sofar = record { turn = 3; variables = S.variables; lines = S.lines; equations = S.equations ++ (x ∷ []); terms = S.terms } in
      let next = equations_told es S₁ ev ep (append_assoc S.equations (x ∷ []) es ∙ el) et (omega arith) (omega arith) in
      let below : EquationBelow t.variables x = at_mid (λ _. EquationBelow t.variables) S.equations x es t.equations _ el ok.equations_below in (
        next.0,
        equation_told R x S _ t.start next.0 (subst (λ v. v ≤ 256) (sym ev) ok.variables_few) l m (subst (λ v. EquationBelow v x) (sym ev) below)
            (at_mid (λ _. EquationFits) S.equations x es t.equations _ el ok.tables.equations_fit)
            (fresh_at same_equation same_line_is line_as_itself S.equations x es t.equations el ok.tables.equations_once)
            (full_no 1024 R.for_equations S.equations x es t.equations el ok.tables.equations_few ok.equations_room)
            next.1,
        next.2,
      )

  lines_told : (ls : List JoinLine) (S : Sofar) → S.variables ≡ t.variables → S.lines ++ ls ≡ t.lines → S.equations ≡ [] → S.terms ≡ [] → 0 < S.turn → S.turn ≤ 2 → ToldAll S (lines_before ls (equations_before t.equations (terms_before 1 t.terms [])))
  lines_told [] S ev ep el et l m = equations_told t.equations S ev (sym (append-nil S.lines) ∙ ep) (ap (λ z. z ++ t.equations) el) et l (omega arith)
  lines_told (x ∷ ls) S ev ep el et l m =
      let f : VisibleLine x = at_mid (λ _. VisibleLine) S.lines x ls t.lines _ ep ok.tables.lines_fit.visible in
      let S₁ : Sofar = record { turn = 2; variables = S.variables; lines = S.lines ++ (x ∷ []); equations = S.equations; terms = S.terms } in
      let next = lines_told ls S₁ ev (append_assoc S.lines (x ∷ []) ls ∙ ep) el et (omega arith) (omega arith) in (
        next.0,
        told_next (no_fault R S (line_says x) (turn_ok S.turn 1 l (omega arith) (omega arith)) (limit f) refl (quiet f) fresh (full_no 32 R.for_lines S.lines x ls t.lines ep ok.tables.lines_fit.few ok.lines_room) refl refl)
            refl (nums f) next.1,
        next.2,
      )
    where
      here : line_at t.lines (length S.lines) ≡ x
      here = ap (λ z. line_at z (length S.lines)) (sym ep) ∙ get_or-append_seam S.lines x ls _

      fresh : any (λ k. names k x.a x.b) S.lines ≡ false
      fresh = none_at (λ (k : JoinLine). names k x.a x.b) S.lines _ (λ j b. false_from_ne_true _ (λ h.
          let left : line_at t.lines j ≡ line_at S.lines j = ap (λ z. line_at z j) (sym ep) ∙ get_or-append S.lines (x ∷ ls) _ j b in
          ok.tables.lines_fit.once j (length S.lines) x.a x.b b (within S.lines x ls t.lines ep)
          (subst (λ (k : JoinLine). Names k x.a x.b) (sym left) ((named (line_at S.lines j) x.a x.b).0 h))
          (subst (λ (k : JoinLine). Names k x.a x.b) (sym here) (inl (refl, refl)))))

      limit : VisibleLine x → over_limit S.variables (line_says x) ≡ false
      limit f = let a = f.0.1 in let b = f.1.1 in let c = f.2.1 in or_no (or_no (le-ltb 63 x.a (omega arith)) (le-ltb 63 x.b (omega arith))) (le-ltb 63 x.joint (omega arith))

      quiet : VisibleLine x → silent_used (line_says x) ≡ false
      quiet f = let a = f.0.0 in let b = f.1.0 in let c = f.2.0 in or_no (or_no (ne_eqb x.a 0 (omega arith)) (ne_eqb x.b 0 (omega arith))) (ne_eqb x.joint 0 (omega arith))

      nums : VisibleLine x → NumbersFit (line_says x)
      nums f = let a = f.0.1 in let b = f.1.1 in let c = f.2.1 in (omega arith, omega arith, omega arith)

  all_told : ToldAll nothing (Variables t.variables ∷ lines_before t.lines (equations_before t.equations (terms_before 1 t.terms [])))
  all_told =
      let S₁ : Sofar = record { turn = 1; variables = t.variables; lines = []; equations = []; terms = [] } in
      let next = lines_told t.lines S₁ refl refl refl refl (omega arith) (omega arith) in
      let v = ok.variables_few in
      (next.0, told_next (no_fault R nothing (Variables t.variables) refl (le-ltb 256 t.variables v) refl refl refl refl refl refl) refl (omega arith) next.1, next.2)

  said_all : lines_before t.lines (equations_before t.equations (terms_before 1 t.terms [])) ++ (Starts t.start ∷ []) ≡ lines_before t.lines (equations_before t.equations (terms_before 1 t.terms (Starts t.start ∷ [])))
  said_all = all_on R t.lines t.equations t.terms [] (Starts t.start ∷ [])

  pub reads_back : length (render t) ≤ 32768 → reading R (render t) ≡ read t
  reads_back l =
      let a = all_told in
      ap (λ b. elim b as (λ _. Answer) [ true ↦ refused_at TooLong 0 | false ↦ read_lines R 1 nothing (raw_lines (render t)) ]) (le-ltb 32768 (length (render t)) l)
      ∙ ap (λ z. read_lines R 1 nothing (raw_lines (written (Variables t.variables ∷ z)))) (sym said_all)
      ∙ read_told R a.1 1
      ∙ ap read a.2
