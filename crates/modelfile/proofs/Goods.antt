-- What has been read without a fault fits.
use Rattle.std.proofs.Common.{◌≡◌, ℕ, zero, suc, ◌+◌, ◌%◌, ◌<◌, ◌≤◌, Bool, true, false, cond, not, ◌||◌, eqb, ltb, leb, List, [], ◌∷◌, ◌++◌, length, Some, None, sym, refl, ap, ◌∙◌, subst, ap₂, arith, length-append, ltb-false, eqb-true, leb-false}
use Rattle.std.proofs.lemmas.Bool.{not-false}
use borrow.Author.Tests.{eqb-false}
use Rattle.acceptance.specs.Accepted.{EquationFits, equation_at, Earlier, TermFits, entry_at}
use Rattle.acceptance.specs.Walks.{silent_ring}
use Rattle.rows.specs.Found.{NoneTwice}
use Rattle.processes.specs.Sameness.{same_equation, same_term}
use Rattle.processes.proofs.Sameness.{same_then_is, same_as_itself, same_line_is, line_as_itself}
use Rattle.processes.specs.declared.equations.Equation.{Equation}
use Rattle.processes.specs.declared.equations.Equation.TheVariants as equation
use Rattle.processes.specs.declared.terms.Term.{Term}
use Rattle.tokens.specs.declared.said.Said.{Said}
use Rattle.tokens.specs.declared.said.Said.TheVariants.{Variables, Joins, Becomes, Ends, Gives, Starts}
use Rattle.tokens.specs.declared.token.Kind.{Kind}
use Rattle.tokens.specs.declared.token.Kind.TheVariants.{Action, Deadlock, Variable, Choice, Sequence, Merge, LeftMerge, CommMerge, Block, Hide}
use Rattle.transitions.specs.Listed.{line_at, Once, VisibleLine}
use Rattle.transitions.specs.Made.{Visible}
use Rattle.transitions.specs.declared.lines.JoinLine.{JoinLine}
use Rattle.modelfile.specs.Accepted.{Room, EquationBelow, TermBelow}
use Rattle.modelfile.specs.Computed.{Test, test, first_fault, tests_of, fault_said, at_start, not_associative}
use Rattle.modelfile.specs.Entries.{entry_of, term_of}
use Rattle.modelfile.specs.Tables.{line_says, equation_says, term_says, lines_before, equations_before, terms_before}
use Rattle.modelfile.specs.Tests.{Sofar, turn_of, after, out_of_turn, over_limit, not_before, operand_not_before, wrong_number, odd_set, silent_used, any, said_before, full, too_many, start_of}
use Rattle.modelfile.proofs.Groups.{no_way, or_false}
use Rattle.modelfile.proofs.Onces.{place_snoc, no_place, differ_snoc, once_snoc}
use Rattle.modelfile.proofs.Spelled.{FieldsFit, SetFits}

-- the tests of a line
abbrev pub AllFalse : List Test → Type 0
AllFalse [] = Unit {0}
AllFalse (test k b ∷ ts) = (b ≡ false) × AllFalse ts

first_none : (ts : List Test) → first_fault ts ≡ None → AllFalse ts
first_none [] h = tt
first_none (test k b ∷ ts) h = go (first_none ts) b h
  where
    go : (first_fault ts ≡ None → AllFalse ts) → (b : Bool) → cond b (Some k) (first_fault ts) ≡ None → (b ≡ false) × AllFalse ts
    go ih true h = let z : ◌≡◌ {A = ℕ} 0 1 = cc in absurd (omega arith)
    go ih false h = (refl, ih h)

module _ (R : Room) where
  pub record Passes (S : Sofar) (s : Said) : Type 0 where
    pub in_turn : out_of_turn S.turn (turn_of s) ≡ false
    pub within_limit : over_limit S.variables s ≡ false
    pub right_number : wrong_number (length S.terms) s ≡ false
    pub all_visible : silent_used s ≡ false
    pub not_said : said_before S (entry_of s) ≡ false
    pub not_many : too_many R (length S.lines) (length S.equations) (length S.terms) (entry_of s) ≡ false
    pub grouped : at_start (not_associative S.lines) (start_of (entry_of s)) ≡ false
    pub ringless : at_start (silent_ring S.equations) (start_of (entry_of s)) ≡ false

  pub passes : (S : Sofar) (s : Said) → fault_said R S s ≡ None → Passes S s
  passes S s h =
      let a = first_none (tests_of R S s) h in
      record { in_turn = a.0; within_limit = a.1.0; right_number = a.1.1.0; all_visible = a.1.1.1.0; not_said = a.1.1.1.1.0; not_many = a.1.1.1.1.1.0; grouped = a.1.1.1.1.1.1.0; ringless = a.1.1.1.1.1.1.1.0 }

full_false : (limit room : ℕ) {A : Type 0} (xs : List A) (x : A) → full limit room (length xs) ≡ false → (length (xs ++ (x ∷ [])) ≤ limit) × (length (xs ++ (x ∷ [])) ≤ room)
full_false limit room xs x h =
    let a = or_false (leb limit (length xs)) (leb room (length xs)) h in
    let b : length xs < limit = leb-false _ _ a.0 in
    let c : length xs < room = leb-false _ _ a.1 in
    let d : length (xs ++ (x ∷ [])) ≡ length xs + 1 = length-append xs (x ∷ []) in
    (omega arith, omega arith)

-- what is said, part by part
visible : (a : ℕ) → ltb 63 a ≡ false → eqb a 0 ≡ false → Visible a
visible a h k = let n : a ≡ 0 → ⊥ = eqb-false a 0 k in let l : a ≤ 63 = ltb-false 63 a h in (omega arith, omega arith)

line_visible : (v a b r : ℕ) → over_limit v (Joins a b r) ≡ false → silent_used (Joins a b r) ≡ false → VisibleLine (record { a = a; b = b; joint = r })
line_visible v a b r h k =
    let x = or_false (ltb 63 a || ltb 63 b) (ltb 63 r) h in
    let y = or_false (ltb 63 a) (ltb 63 b) x.0 in
    let u = or_false (eqb a 0 || eqb b 0) (eqb r 0) k in
    let w = or_false (eqb a 0) (eqb b 0) u.0 in
    (visible a y.0 w.0, visible b y.1 w.1, visible r x.1 u.1)

ends_below : (v x a : ℕ) → over_limit v (Ends x a) ≡ false → EquationBelow v (equation.Ends x a) × EquationFits (equation.Ends x a)
ends_below v x a h = let w = or_false (leb v x) (ltb 63 a) h in let l : a ≤ 63 = ltb-false _ _ w.1 in (leb-false _ _ w.0, omega arith)

becomes_below : (v x a y : ℕ) → over_limit v (Becomes x a y) ≡ false → EquationBelow v (equation.Becomes x a y) × EquationFits (equation.Becomes x a y)
becomes_below v x a y h = let w = or_false (leb v x || ltb 63 a) (leb v y) h in let u = or_false (leb v x) (ltb 63 a) w.0 in let l : a ≤ 63 = ltb-false _ _ u.1 in ((leb-false _ _ u.0, leb-false _ _ w.1), omega arith)

is_zero : (q : ℕ) → not (eqb q 0) ≡ false → q ≡ 0
is_zero q h = eqb-true q 0 (not-false (eqb q 0) h)

pub earlier : (n p : ℕ) → not_before n p ≡ false → Earlier n p
earlier n p h = let w = or_false (eqb p 0) (leb n p) h in let a : p ≡ 0 → ⊥ = eqb-false p 0 w.0 in let b : p < n = leb-false _ _ w.1 in (omega arith, b)

earlier2 : (n p q : ℕ) → not_before n p || not_before n q ≡ false → Earlier n p × Earlier n q
earlier2 n p q h = let w = or_false (not_before n p) (not_before n q) h in (earlier n p w.0, earlier n q w.1)

even : (q : ℕ) → eqb (q % 2) 1 ≡ false → q % 2 ≡ 0
even q h = let n : q % 2 ≡ 1 → ⊥ = eqb-false (q % 2) 1 h in omega arith

term_fits : (v n : ℕ) (k : Kind) (p q : ℕ) → over_limit v (Gives n k p q) ≡ false → operand_not_before n k p q ≡ false → odd_set k q ≡ false → TermFits n (term_of k p q)
term_fits v n Action p q h e o = let l : p ≤ 63 = ltb-false _ _ (or_false (ltb 63 p) (not (eqb q 0)) h).0 in omega arith
term_fits v n Deadlock p q h e o = tt
term_fits v n Variable p q h e o = tt
term_fits v n Choice p q h e o = earlier2 n p q e
term_fits v n Sequence p q h e o = earlier2 n p q e
term_fits v n Merge p q h e o = earlier2 n p q e
term_fits v n LeftMerge p q h e o = earlier2 n p q e
term_fits v n CommMerge p q h e o = earlier2 n p q e
term_fits v n Block p q h e o = (earlier n p e, even q o)
term_fits v n Hide p q h e o = (earlier n p e, even q o)

term_below : (v n : ℕ) (k : Kind) (p q : ℕ) → over_limit v (Gives n k p q) ≡ false → SetFits k q → TermBelow v (term_of k p q)
term_below v n Action p q h f = tt
term_below v n Deadlock p q h f = tt
term_below v n Variable p q h f = leb-false _ _ (or_false (leb v p) (not (eqb q 0)) h).0
term_below v n Choice p q h f = tt
term_below v n Sequence p q h f = tt
term_below v n Merge p q h f = tt
term_below v n LeftMerge p q h f = tt
term_below v n CommMerge p q h f = tt
term_below v n Block p q h f = f
term_below v n Hide p q h f = f

-- a term's line says it again
says_again : (v n : ℕ) (k : Kind) (p q : ℕ) → over_limit v (Gives n k p q) ≡ false → term_says n (term_of k p q) ≡ Gives n k p q
says_again v n Action p q h = ap (Gives n Action p) (sym (is_zero q (or_false (ltb 63 p) (not (eqb q 0)) h).1))
says_again v n Deadlock p q h = let w = or_false (not (eqb p 0)) (not (eqb q 0)) h in ap₂ (Gives n Deadlock) (sym (is_zero p w.0)) (sym (is_zero q w.1))
says_again v n Variable p q h = ap (Gives n Variable p) (sym (is_zero q (or_false (leb v p) (not (eqb q 0)) h).1))
says_again v n Choice p q h = refl
says_again v n Sequence p q h = refl
says_again v n Merge p q h = refl
says_again v n LeftMerge p q h = refl
says_again v n CommMerge p q h = refl
says_again v n Block p q h = refl
says_again v n Hide p q h = refl

-- ---- what holds of what has been read
module _ (R : Room) where
  pub record Good (S : Sofar) : Type 0 where
    pub before_lines : S.turn ≤ 1 → S.lines ≡ []
    pub before_equations : S.turn ≤ 2 → S.equations ≡ []
    pub before_terms : S.turn ≤ 3 → S.terms ≡ []
    pub variables_few : S.variables ≤ 256
    pub lines_few : (length S.lines ≤ 32) × (length S.lines ≤ R.for_lines)
    pub equations_few : (length S.equations ≤ 1024) × (length S.equations ≤ R.for_equations)
    pub terms_few : (length S.terms ≤ 256) × (length S.terms ≤ R.for_terms)
    pub lines_visible : (k : ℕ) → k < length S.lines → VisibleLine (line_at S.lines k)
    pub lines_once : Once S.lines
    pub equations_fit : (k : ℕ) → k < length S.equations → EquationFits (equation_at S.equations k)
    pub equations_below : (k : ℕ) → k < length S.equations → EquationBelow S.variables (equation_at S.equations k)
    pub equations_once : NoneTwice S.equations
    pub terms_fit : (k : ℕ) → k < length S.terms → TermFits (k + 1) (entry_at S.terms k)
    pub terms_below : (k : ℕ) → k < length S.terms → TermBelow S.variables (entry_at S.terms k)
    pub terms_once : NoneTwice S.terms

  abbrev pub said_at : ℕ → Sofar → List Said
  said_at zero S = []
  said_at (suc k) S = Variables S.variables ∷ lines_before S.lines (equations_before S.equations (terms_before 1 S.terms []))

  pub turn_is : (k t : ℕ) → 0 < t → out_of_turn k t ≡ false → (0 < k) × (k ≤ suc t)
  turn_is zero t p h = let z : eqb t 0 ≡ true = not-false (eqb t 0) h in let u : t ≡ 0 = eqb-true t 0 z in absurd (omega arith)
  turn_is (suc k) t p h = let w = or_false (eqb t 0) (ltb t k) h in let v : k ≤ t = ltb-false t k w.1 in (omega arith, omega arith)

  first_turn : (k : ℕ) → out_of_turn k 0 ≡ false → k ≡ 0
  first_turn zero h = refl
  first_turn (suc k) h = no_way h

  good_equation : (S : Sofar) (e : Equation) → Good S → out_of_turn S.turn 2 ≡ false → EquationBelow S.variables e × EquationFits e → any (λ d. same_equation d e) S.equations ≡ false → full 1024 R.for_equations (length S.equations) ≡ false
      → Good (record { turn = 3; variables = S.variables; lines = S.lines; equations = S.equations ++ (e ∷ []); terms = S.terms })
  good_equation S e g o w f m =
      let t = turn_is S.turn 2 (omega arith) o in
      record {
        before_lines = λ l. absurd (omega arith);
        before_equations = λ l. absurd (omega arith);
        before_terms = λ _. g.before_terms (omega arith);
        variables_few = g.variables_few;
        lines_few = g.lines_few;
        equations_few = full_false 1024 R.for_equations S.equations e m;
        terms_few = g.terms_few;
        lines_visible = g.lines_visible;
        lines_once = g.lines_once;
        equations_fit = place_snoc (λ _. EquationFits) S.equations e _ g.equations_fit w.1;
        equations_below = place_snoc (λ _. EquationBelow S.variables) S.equations e _ g.equations_below w.0;
        equations_once = differ_snoc same_equation same_line_is line_as_itself S.equations e g.equations_once f;
        terms_fit = g.terms_fit;
        terms_below = g.terms_below;
        terms_once = g.terms_once;
      }

  pub good_after : (S : Sofar) (s : Said) → Good S → Passes R S s → start_of (entry_of s) ≡ None → FieldsFit s → Good (after S (entry_of s))
  good_after S (Variables v) g p n f =
      let z : S.turn ≡ 0 = first_turn S.turn p.in_turn in
      record {
        before_lines = λ _. g.before_lines (omega arith);
        before_equations = λ _. g.before_equations (omega arith);
        before_terms = λ _. g.before_terms (omega arith);
        variables_few = ltb-false 256 v p.within_limit;
        lines_few = g.lines_few;
        equations_few = g.equations_few;
        terms_few = g.terms_few;
        lines_visible = g.lines_visible;
        lines_once = g.lines_once;
        equations_fit = g.equations_fit;
        equations_below = no_place (λ _. EquationBelow v) S.equations _ (g.before_equations (omega arith));
        equations_once = g.equations_once;
        terms_fit = g.terms_fit;
        terms_below = no_place (λ _. TermBelow v) S.terms _ (g.before_terms (omega arith));
        terms_once = g.terms_once;
      }
  good_after S (Joins a b r) g p n f =
      let t = turn_is S.turn 1 (omega arith) p.in_turn in
      let l : JoinLine = record { a = a; b = b; joint = r } in
      record {
        before_lines = λ l. absurd (omega arith);
        before_equations = λ _. g.before_equations (omega arith);
        before_terms = λ _. g.before_terms (omega arith);
        variables_few = g.variables_few;
        lines_few = full_false 32 R.for_lines S.lines l p.not_many;
        equations_few = g.equations_few;
        terms_few = g.terms_few;
        lines_visible = place_snoc (λ _. VisibleLine) S.lines l _ g.lines_visible (line_visible S.variables a b r p.within_limit p.all_visible);
        lines_once = once_snoc S.lines l g.lines_once p.not_said;
        equations_fit = g.equations_fit;
        equations_below = g.equations_below;
        equations_once = g.equations_once;
        terms_fit = g.terms_fit;
        terms_below = g.terms_below;
        terms_once = g.terms_once;
      }
  good_after S (Becomes x a y) g p n f = good_equation S (equation.Becomes x a y) g p.in_turn (becomes_below S.variables x a y p.within_limit) p.not_said p.not_many
  good_after S (Ends x a) g p n f = good_equation S (equation.Ends x a) g p.in_turn (ends_below S.variables x a p.within_limit) p.not_said p.not_many
  good_after S (Gives m k i j) g p n f =
      let w = or_false (not (eqb m (suc (length S.terms)))) (operand_not_before m k i j) p.right_number in
      let u : m ≡ suc (length S.terms) = eqb-true m (suc (length S.terms)) (not-false (eqb m (suc (length S.terms))) w.0) in
      let e : m ≡ length S.terms + 1 = omega arith in
      let t : Term = term_of k i j in
      record {
        before_lines = λ l. absurd (omega arith);
        before_equations = λ l. absurd (omega arith);
        before_terms = λ l. absurd (omega arith);
        variables_few = g.variables_few;
        lines_few = g.lines_few;
        equations_few = g.equations_few;
        terms_few = full_false 256 R.for_terms S.terms t p.not_many;
        lines_visible = g.lines_visible;
        lines_once = g.lines_once;
        equations_fit = g.equations_fit;
        equations_below = g.equations_below;
        equations_once = g.equations_once;
        terms_fit = place_snoc (λ k. TermFits (k + 1)) S.terms t _ g.terms_fit (subst (λ n. TermFits n t) e (term_fits S.variables m k i j p.within_limit w.1 p.all_visible));
        terms_below = place_snoc (λ _. TermBelow S.variables) S.terms t _ g.terms_below (term_below S.variables m k i j p.within_limit f);
        terms_once = differ_snoc same_term same_then_is same_as_itself S.terms t g.terms_once p.not_said;
      }
  good_after S (Starts m) g p n f = let z : ◌≡◌ {A = ℕ} 0 1 = cc in absurd (omega arith)

  -- the lines said so far
  lines_snoc : (ls : List JoinLine) (l : JoinLine) (r : List Said) → lines_before (ls ++ (l ∷ [])) r ≡ lines_before ls (line_says l ∷ r)
  lines_snoc [] l r = refl
  lines_snoc (q ∷ ls) l r = ap (λ z. line_says q ∷ z) (lines_snoc ls l r)

  lines_on : (ls : List JoinLine) (r x : List Said) → lines_before ls r ++ x ≡ lines_before ls (r ++ x)
  lines_on [] r x = refl
  lines_on (q ∷ ls) r x = ap (λ z. line_says q ∷ z) (lines_on ls r x)

  equations_snoc : (es : List Equation) (e : Equation) (r : List Said) → equations_before (es ++ (e ∷ [])) r ≡ equations_before es (equation_says e ∷ r)
  equations_snoc [] e r = refl
  equations_snoc (q ∷ es) e r = ap (λ z. equation_says q ∷ z) (equations_snoc es e r)

  equations_on : (es : List Equation) (r x : List Said) → equations_before es r ++ x ≡ equations_before es (r ++ x)
  equations_on [] r x = refl
  equations_on (q ∷ es) r x = ap (λ z. equation_says q ∷ z) (equations_on es r x)

  terms_snoc : (k : ℕ) (ts : List Term) (t : Term) (r : List Said) → terms_before k (ts ++ (t ∷ [])) r ≡ terms_before k ts (term_says (k + length ts) t ∷ r)
  terms_snoc k [] t r = let e : k ≡ k + 0 = omega arith in ap (λ z. term_says z t ∷ r) e
  terms_snoc k (q ∷ ts) t r = let e : suc k + length ts ≡ k + suc (length ts) = omega arith in ap (λ z. term_says k q ∷ z) (terms_snoc (suc k) ts t r ∙ ap (λ z. terms_before (suc k) ts (term_says z t ∷ r)) e)

  terms_on : (k : ℕ) (ts : List Term) (r x : List Said) → terms_before k ts r ++ x ≡ terms_before k ts (r ++ x)
  terms_on k [] r x = refl
  terms_on k (q ∷ ts) r x = ap (λ z. term_says k q ∷ z) (terms_on (suc k) ts r x)

  abbrev pub all_before : List JoinLine → List Equation → List Term → List Said → List Said
  all_before ls es ts r = lines_before ls (equations_before es (terms_before 1 ts r))

  pub all_on : (ls : List JoinLine) (es : List Equation) (ts : List Term) (r x : List Said) → all_before ls es ts r ++ x ≡ all_before ls es ts (r ++ x)
  all_on ls es ts r x = lines_on ls _ x ∙ ap (lines_before ls) (equations_on es _ x ∙ ap (equations_before es) (terms_on 1 ts r x))

  said_line : (S : Sofar) (l : JoinLine) → S.equations ≡ [] → S.terms ≡ [] → all_before (S.lines ++ (l ∷ [])) S.equations S.terms [] ≡ all_before S.lines S.equations S.terms [] ++ (line_says l ∷ [])
  said_line S l a b = lines_snoc S.lines l _ ∙ ap (lines_before S.lines) (ap₂ (λ e t. line_says l ∷ equations_before e (terms_before 1 t [])) a b ∙ sym (ap₂ (λ e t. equations_before e (terms_before 1 t []) ++ (line_says l ∷ [])) a b)) ∙ sym (lines_on S.lines _ _)

  said_equation : (S : Sofar) (e : Equation) → S.terms ≡ [] → all_before S.lines (S.equations ++ (e ∷ [])) S.terms [] ≡ all_before S.lines S.equations S.terms [] ++ (equation_says e ∷ [])
  said_equation S e b = ap (lines_before S.lines) (equations_snoc S.equations e _ ∙ ap (equations_before S.equations) (ap (λ t. equation_says e ∷ terms_before 1 t []) b ∙ sym (ap (λ t. terms_before 1 t [] ++ (equation_says e ∷ [])) b)) ∙ sym (equations_on S.equations _ _)) ∙ sym (lines_on S.lines _ _)

  said_term : (S : Sofar) (m : ℕ) (t : Term) → m ≡ suc (length S.terms) → all_before S.lines S.equations (S.terms ++ (t ∷ [])) [] ≡ all_before S.lines S.equations S.terms [] ++ (term_says m t ∷ [])
  said_term S m t u =
      let v : 1 + length S.terms ≡ m = omega arith in
      ap (λ z. lines_before S.lines (equations_before S.equations z)) (terms_snoc 1 S.terms t [] ∙ ap (λ z. terms_before 1 S.terms (term_says z t ∷ [])) v) ∙ sym (all_on S.lines S.equations S.terms [] (term_says m t ∷ []))

  later_turn : (S : Sofar) (s : Said) → 0 < S.turn → (x : List Said) → x ≡ all_before S.lines S.equations S.terms [] ++ (s ∷ []) → Variables S.variables ∷ x ≡ said_at S.turn S ++ (s ∷ [])
  later_turn S s l x e = go S.turn l
    where
      go : (k : ℕ) → 0 < k → Variables S.variables ∷ x ≡ said_at k S ++ (s ∷ [])
      go zero l = absurd (omega arith)
      go (suc k) l = ap (λ z. Variables S.variables ∷ z) e

  pub said_after : (S : Sofar) (s : Said) → Good S → Passes R S s → start_of (entry_of s) ≡ None → said_at (after S (entry_of s)).turn (after S (entry_of s)) ≡ said_at S.turn S ++ (s ∷ [])
  said_after S (Variables v) g p n =
      let z : S.turn ≡ 0 = first_turn S.turn p.in_turn in
      let a : S.lines ≡ [] = g.before_lines (omega arith) in
      let b : S.equations ≡ [] = g.before_equations (omega arith) in
      let c : S.terms ≡ [] = g.before_terms (omega arith) in
      ap (λ r. Variables v ∷ r) (ap₂ (λ x y. all_before x y S.terms []) a b ∙ ap (λ x. all_before [] [] x []) c) ∙ sym (ap (λ k. said_at k S ++ (Variables v ∷ [])) z)
  said_after S (Joins a b r) g p n =
      let t = turn_is S.turn 1 (omega arith) p.in_turn in
      later_turn S (Joins a b r) t.0 _ (said_line S (record { a = a; b = b; joint = r }) (g.before_equations (omega arith)) (g.before_terms (omega arith)))
  said_after S (Becomes x a y) g p n =
      let t = turn_is S.turn 2 (omega arith) p.in_turn in
      later_turn S (Becomes x a y) t.0 _ (said_equation S (equation.Becomes x a y) (g.before_terms (omega arith)))
  said_after S (Ends x a) g p n =
      let t = turn_is S.turn 2 (omega arith) p.in_turn in
      later_turn S (Ends x a) t.0 _ (said_equation S (equation.Ends x a) (g.before_terms (omega arith)))
  said_after S (Gives m k i j) g p n =
      let t = turn_is S.turn 3 (omega arith) p.in_turn in
      let w = or_false (not (eqb m (suc (length S.terms)))) (operand_not_before m k i j) p.right_number in
      later_turn S (Gives m k i j) t.0 _ (said_term S m (term_of k i j) (eqb-true m (suc (length S.terms)) (not-false (eqb m (suc (length S.terms))) w.0)) ∙ ap (λ z. all_before S.lines S.equations S.terms [] ++ (z ∷ [])) (says_again S.variables m k i j p.within_limit))
  said_after S (Starts m) g p n = let z : ◌≡◌ {A = ℕ} 0 1 = cc in absurd (omega arith)
