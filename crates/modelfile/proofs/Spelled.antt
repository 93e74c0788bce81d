-- What is read is the one text of its tables.
use Rattle.std.proofs.Common.{◌≡◌, ℕ, suc, ◌+◌, ◌-◌, ◌*◌, ◌/◌, ◌%◌, ◌^◌, ◌<◌, ◌≤◌, Bool, true, false, cond, not, ◌&&◌, eqb, ltb, leb, List, [], ◌∷◌, ◌++◌, length, get_or, Some, None, decimal, Option, sym, refl, ap, ◌∙◌, subst, ap₂, append_assoc, pow-suc, arith, rules, le-ltb, lt-ltb, eqb-true, leb-true}
use native.Mathlib.Nat.{div-div-eq-div-mul}
use Rattle.std.specs.List.{onto_first}
use Rattle.std.proofs.lemmas.Str.Parse.{IsNumeralModel, numerals_by_fold, digits_value_short}
use Rattle.std.proofs.lemmas.Fmt.{decimal-digits_value}
use Rattle.tokens.specs.Forms.{Shape, variables, joins, becomes, ends, gives, starts, among, letter_byte, sign_byte, letter_in, kind_in, shape_by, shape, second, values}
use Rattle.tokens.specs.Lines.{Raw, whole, cut, grow, raw_lines, fields}
use Rattle.tokens.specs.Numbers.{is_digit, all_digits, value_on, plain, number, hex_value, hex_on, set}
use Rattle.tokens.specs.declared.said.Said.{Said}
use Rattle.tokens.specs.declared.said.Said.TheVariants.{Variables, Joins, Becomes, Ends, Gives, Starts}
use Rattle.tokens.specs.declared.token.Kind.{Kind}
use Rattle.tokens.specs.declared.token.Kind.TheVariants.{Action, Deadlock, Variable, Choice, Sequence, Merge, LeftMerge, CommMerge, Block, Hide}
use Rattle.tokens.specs.declared.token.Letter.{Letter}
use Rattle.tokens.specs.declared.token.Letter.TheVariants as letter
use Rattle.modelfile.specs.declared.faults.Fault.{Fault}
use Rattle.modelfile.specs.declared.faults.Fault.TheVariants.{NoForm, NoValue}
use Rattle.modelfile.specs.Accepted.{Room}
use Rattle.modelfile.specs.Computed.{fault_said, Judged, faulty, fine, judged, Answer, read, refused_at, ended, read_lines}
use Rattle.modelfile.specs.Entries.{entry_of}
use Rattle.modelfile.specs.Tables.{Tables, hex_digit, hex_digits, second_text, written_line, written}
use Rattle.modelfile.specs.Tests.{Sofar, after, start_of}
use Rattle.modelfile.proofs.Groups.{then_some}

abbrev pub unlines : List Raw → List ℕ
unlines [] = []
unlines (whole l ∷ ls) = l ++ (10 ∷ unlines ls)
unlines (cut l ∷ ls) = l ++ unlines ls

unlines_grow : (b : ℕ) (ls : List Raw) → unlines (grow b ls) ≡ b ∷ unlines ls
unlines_grow b [] = refl
unlines_grow b (whole l ∷ ls) = refl
unlines_grow b (cut l ∷ ls) = refl

pub unlines_lines : (bs : List ℕ) → unlines (raw_lines bs) ≡ bs
unlines_lines [] = refl
unlines_lines (b ∷ bs) = go (eqb b 10) refl (unlines_lines bs)
  where
    go : (t : Bool) → eqb b 10 ≡ t → unlines (raw_lines bs) ≡ bs → unlines (cond t (whole [] ∷ raw_lines bs) (grow b (raw_lines bs))) ≡ b ∷ bs
    go true g ih = ap₂ (λ x y. x ∷ y) (sym (eqb-true b 10 g)) ih
    go false g ih = unlines_grow b (raw_lines bs) ∙ ap (λ r. b ∷ r) ih

-- the fields, each behind its comma
abbrev tail : List (List ℕ) → List ℕ
tail [] = []
tail (f ∷ fs) = 44 ∷ (f ++ tail fs)

tail_fields : (l : List ℕ) → tail (fields l) ≡ 44 ∷ l
tail_fields [] = refl
tail_fields (b ∷ bs) = go (eqb b 44) refl (fields bs) (tail_fields bs)
  where
    go : (t : Bool) → eqb b 44 ≡ t → (fs : List (List ℕ)) → tail fs ≡ 44 ∷ bs → tail (cond t ([] ∷ fs) (onto_first b fs)) ≡ 44 ∷ b ∷ bs
    go true g fs ih = let e : b ≡ 44 = eqb-true b 44 g in ap (λ r. 44 ∷ r) (ih ∙ ap (λ c. c ∷ bs) (sym e))
    go false g [] ih = let z : ◌≡◌ {A = ℕ} 0 1 = cc in absurd (omega arith)
    go false g (f ∷ fs) ih = let e : f ++ tail fs ≡ bs = cc in ap (λ r. 44 ∷ b ∷ r) e

-- what is found among a list has the byte
among_is : {A : Type 0} (byte : A → ℕ) (xs : List A) (b : ℕ) (x : A) → among byte xs b ≡ Some x → b ≡ byte x
among_is byte [] b x e = let z : ◌≡◌ {A = ℕ} 0 1 = cc in absurd (omega arith)
among_is byte (y ∷ xs) b x e = go (among_is byte xs b x) (eqb (byte y) b) refl e
  where
    go : (among byte xs b ≡ Some x → b ≡ byte x) → (t : Bool) → eqb (byte y) b ≡ t → cond t (Some y) (among byte xs b) ≡ Some x → b ≡ byte x
    go ih true g e = let u : y ≡ x = cc in sym (eqb-true (byte y) b g) ∙ ap byte u
    go ih false g e = ih e

sign_is : (k : List ℕ) (s : Kind) → kind_in k ≡ Some s → k ≡ sign_byte s ∷ []
sign_is [] s h = let z : ◌≡◌ {A = ℕ} 0 1 = cc in absurd (omega arith)
sign_is (b ∷ []) s h = ap (λ c. c ∷ []) (among_is sign_byte (Action ∷ Deadlock ∷ Variable ∷ Choice ∷ Sequence ∷ Merge ∷ LeftMerge ∷ CommMerge ∷ Block ∷ Hide ∷ []) b s h)
sign_is (b ∷ c ∷ k) s h = let z : ◌≡◌ {A = ℕ} 0 1 = cc in absurd (omega arith)

letter_is : (k : List ℕ) (s : Letter) → letter_in k ≡ Some s → k ≡ letter_byte s ∷ []
letter_is [] s h = let z : ◌≡◌ {A = ℕ} 0 1 = cc in absurd (omega arith)
letter_is (b ∷ []) s h = ap (λ c. c ∷ []) (among_is letter_byte (letter.Variables ∷ letter.Joins ∷ letter.Becomes ∷ letter.Ends ∷ letter.Gives ∷ letter.Starts ∷ []) b s h)
letter_is (b ∷ c ∷ k) s h = let z : ◌≡◌ {A = ℕ} 0 1 = cc in absurd (omega arith)

-- the text of a shape, without its line feed
abbrev shape_text : Shape → List ℕ
shape_text (variables v) = 109 ∷ tail (v ∷ [])
shape_text (joins a b r) = 99 ∷ tail (a ∷ b ∷ r ∷ [])
shape_text (becomes x a y) = 101 ∷ tail (x ∷ a ∷ y ∷ [])
shape_text (ends x a) = 102 ∷ tail (x ∷ a ∷ [])
shape_text (gives n s p q) = 116 ∷ tail (n ∷ (sign_byte s ∷ []) ∷ p ∷ q ∷ [])
shape_text (starts n) = 122 ∷ tail (n ∷ [])

no_shape : {A : Type 0} {h : Shape} → None ≡ Some h → A
no_shape e = let z : ◌≡◌ {A = ℕ} 0 1 = cc in absurd (omega arith)

is_shape : {g h : Shape} → Some g ≡ Some h → shape_text g ≡ shape_text h
is_shape {g} {h} e = let u : g ≡ h = cc in ap shape_text u

by_letter : (c : Letter) (fs : List (List ℕ)) (h : Shape) → shape_by c fs ≡ Some h → letter_byte c ∷ tail fs ≡ shape_text h
by_letter letter.Variables [] h e = no_shape e
by_letter letter.Variables (v ∷ []) h e = is_shape e
by_letter letter.Variables (v ∷ w ∷ fs) h e = no_shape e
by_letter letter.Starts [] h e = no_shape e
by_letter letter.Starts (v ∷ []) h e = is_shape e
by_letter letter.Starts (v ∷ w ∷ fs) h e = no_shape e
by_letter letter.Ends [] h e = no_shape e
by_letter letter.Ends (v ∷ []) h e = no_shape e
by_letter letter.Ends (v ∷ w ∷ []) h e = is_shape e
by_letter letter.Ends (v ∷ w ∷ x ∷ fs) h e = no_shape e
by_letter letter.Becomes [] h e = no_shape e
by_letter letter.Becomes (v ∷ []) h e = no_shape e
by_letter letter.Becomes (v ∷ w ∷ []) h e = no_shape e
by_letter letter.Becomes (v ∷ w ∷ x ∷ []) h e = is_shape e
by_letter letter.Becomes (v ∷ w ∷ x ∷ y ∷ fs) h e = no_shape e
by_letter letter.Joins [] h e = no_shape e
by_letter letter.Joins (v ∷ []) h e = no_shape e
by_letter letter.Joins (v ∷ w ∷ []) h e = no_shape e
by_letter letter.Joins (v ∷ w ∷ x ∷ []) h e = is_shape e
by_letter letter.Joins (v ∷ w ∷ x ∷ y ∷ fs) h e = no_shape e
by_letter letter.Gives [] h e = no_shape e
by_letter letter.Gives (v ∷ []) h e = no_shape e
by_letter letter.Gives (v ∷ w ∷ []) h e = no_shape e
by_letter letter.Gives (v ∷ w ∷ x ∷ []) h e = no_shape e
by_letter letter.Gives (n ∷ k ∷ p ∷ q ∷ []) h e = go (kind_in k) refl e
  where
    go : (o : Option Kind) → kind_in k ≡ o → (elim o as (λ _. Option Shape) [ None ↦ None | Some s ↦ Some (gives n s p q) ]) ≡ Some h → 116 ∷ tail (n ∷ k ∷ p ∷ q ∷ []) ≡ shape_text h
    go None g e = no_shape e
    go (Some s) g e = ap (λ z. 116 ∷ tail (n ∷ z ∷ p ∷ q ∷ [])) (sign_is k s g) ∙ is_shape e
by_letter letter.Gives (v ∷ w ∷ x ∷ y ∷ z ∷ fs) h e = no_shape e

shape_is : (l : List ℕ) (h : Shape) → shape (whole l) ≡ Some h → l ≡ shape_text h
shape_is l h e = go (fields l) (tail_fields l) e
  where
    abbrev' : List (List ℕ) → Option Shape
    abbrev' fs = elim fs [ [] ↦ None | f ∷ fs ↦ elim (letter_in f) [ None ↦ None | Some c ↦ shape_by c fs ] ]

    at : (f : List ℕ) (fs : List (List ℕ)) → tail (f ∷ fs) ≡ 44 ∷ l → (o : Option Letter) → letter_in f ≡ o → (elim o as (λ _. Option Shape) [ None ↦ None | Some c ↦ shape_by c fs ]) ≡ Some h → l ≡ shape_text h
    at f fs w None g e = no_shape e
    at f fs w (Some c) g e =
        let a : f ++ tail fs ≡ l = cc in
        sym a ∙ ap (λ z. z ++ tail fs) (letter_is f c g) ∙ by_letter c fs h e

    go : (fs : List (List ℕ)) → tail fs ≡ 44 ∷ l → abbrev' fs ≡ Some h → l ≡ shape_text h
    go [] w e = no_shape e
    go (f ∷ fs) w e = at f fs w (letter_in f) refl e

-- numbers
pub own : IsNumeralModel (λ ds. all_digits ds ≡ true) (value_on 0)
own = numerals_by_fold _ (search rules) value_on (search rules)

pub and_true : (a b : Bool) → a && b ≡ true → (a ≡ true) × (b ≡ true)
and_true true b h = (refl, h)
and_true false b h = let z : ◌≡◌ {A = ℕ} 0 1 = cc in absurd (omega arith)

plain_is : (f : List ℕ) → plain f ≡ true → (0 < length f) × (get_or f 0 0 ≡ 48 → length f ≡ 1)
plain_is [] h = let z : ◌≡◌ {A = ℕ} 0 1 = cc in absurd (omega arith)
plain_is (b ∷ []) h = (omega arith, λ e. refl)
plain_is (b ∷ c ∷ f) h = (omega arith, λ e. let g : not (eqb b 48) ≡ true = h in let k : not (eqb b 48) ≡ not (eqb 48 48) = ap (λ x. not (eqb x 48)) e in let z : ◌≡◌ {A = ℕ} 0 1 = cc in absurd (omega arith))

pub number_is : (f : List ℕ) (n : ℕ) → number f ≡ Some n → f ≡ decimal n
number_is f n e = go (plain f && leb (length f) 5 && all_digits f) refl e
  where
    go : (b : Bool) → plain f && leb (length f) 5 && all_digits f ≡ b → cond b (Some (value_on 0 f)) None ≡ Some n → f ≡ decimal n
    go false g e = let z : ◌≡◌ {A = ℕ} 0 1 = cc in absurd (omega arith)
    go true g e =
        let a = and_true (plain f && leb (length f) 5) (all_digits f) g in
        let b = and_true (plain f) (leb (length f) 5) a.0 in
        let p = plain_is f b.0 in
        let v : value_on 0 f ≡ n = cc in
        let s : value_on 0 f < 10 ^ 5 = digits_value_short own f 5 a.1 (leb-true _ _ b.1) in
        sym (decimal-digits_value own f a.1 p.0 p.1 (omega arith)) ∙ ap decimal v

-- sets
pub hex_is_digit : (b d : ℕ) → hex_value b ≡ Some d → (d < 16) × (b ≡ hex_digit d)
hex_is_digit b d e = go (is_digit b) refl e
  where
    up : (t : Bool) → leb 97 b && leb b 102 ≡ t → cond t (Some (b - 87)) None ≡ Some d → (d < 16) × (b ≡ hex_digit d)
    up false g e = let z : ◌≡◌ {A = ℕ} 0 1 = cc in absurd (omega arith)
    up true g e =
        let a = and_true (leb 97 b) (leb b 102) g in
        let l : 97 ≤ b = leb-true _ _ a.0 in
        let m : b ≤ 102 = leb-true _ _ a.1 in
        let v : b - 87 ≡ d = cc in
        let f : ltb d 10 ≡ false = le-ltb d 10 (omega arith) in
        (omega arith, let x : 87 + d ≡ b = omega arith in sym (ap (λ t. cond t (48 + d) (87 + d)) f ∙ x))

    go : (t : Bool) → is_digit b ≡ t → cond t (Some (b - 48)) (cond (leb 97 b && leb b 102) (Some (b - 87)) None) ≡ Some d → (d < 16) × (b ≡ hex_digit d)
    go false g e = up (leb 97 b && leb b 102) refl e
    go true g e =
        let a = and_true (leb 48 b) (leb b 57) g in
        let l : 48 ≤ b = leb-true _ _ a.0 in
        let m : b ≤ 57 = leb-true _ _ a.1 in
        let v : b - 48 ≡ d = cc in
        let f : ltb d 10 ≡ true = lt-ltb d 10 (omega arith) in
        (omega arith, let x : 48 + d ≡ b = omega arith in sym (ap (λ t. cond t (48 + d) (87 + d)) f ∙ x))

hex_is : (f : List ℕ) (v q : ℕ) → hex_on v f ≡ Some q → (q / 16 ^ length f ≡ v) × (f ≡ hex_digits (length f) q)
hex_is [] v q e = (let u : q ≡ v = cc in let w : q / 1 ≡ q = omega arith in w ∙ u, refl)
hex_is (b ∷ f) v q e = go (λ w. hex_is f w q) (hex_value b) refl e
  where
    k : ℕ
    k = length f

    go : ((w : ℕ) → hex_on w f ≡ Some q → (q / 16 ^ length f ≡ w) × (f ≡ hex_digits (length f) q)) → (o : Option ℕ) → hex_value b ≡ o → (elim o as (λ _. Option ℕ) [ None ↦ None | Some d ↦ hex_on (16 * v + d) f ]) ≡ Some q → (q / 16 ^ suc (length f) ≡ v) × (b ∷ f ≡ hex_digits (suc (length f)) q)
    go ih None g e = let z : ◌≡◌ {A = ℕ} 0 1 = cc in absurd (omega arith)
    go ih (Some d) g e =
        let i = ih (16 * v + d) e in
        let h = hex_is_digit b d g in
        let x : q / 16 ^ length f ≡ 16 * v + d = i.0 in
        let y : (16 * v + d) / 16 ≡ v = let lt : d < 16 = h.0 in omega arith in
        let z : (16 * v + d) % 16 ≡ d = let lt : d < 16 = h.0 in omega arith in (
          ap (λ m. q / m) (pow-suc 16 (length f)) ∙ sym (div-div-eq-div-mul q (16 ^ length f) 16) ∙ ap (λ m. m / 16) x ∙ y,
          ap₂ (λ s t. s ∷ t) (h.1 ∙ ap hex_digit (sym z ∙ ap (λ m. m % 16) (sym x))) i.1,
        )

set_is : (f : List ℕ) (q : ℕ) → set f ≡ Some q → (f ≡ hex_digits 16 q) × (q < 2 ^ 64)
set_is f q e = go (eqb (length f) 16) refl e
  where
    go : (t : Bool) → eqb (length f) 16 ≡ t → cond t (hex_on 0 f) None ≡ Some q → (f ≡ hex_digits 16 q) × (q < 2 ^ 64)
    go false g e = let z : ◌≡◌ {A = ℕ} 0 1 = cc in absurd (omega arith)
    go true g e =
        let n : length f ≡ 16 = eqb-true _ _ g in
        let h = hex_is f 0 q e in
        let d : q / 16 ^ 16 ≡ 0 = subst (λ m. q / 16 ^ m ≡ 0) n h.0 in
        (h.1 ∙ ap (λ m. hex_digits m q) n, omega arith)

abbrev pub SetFits : Kind → ℕ → Type 0
SetFits Action q = Unit {0}
SetFits Deadlock q = Unit {0}
SetFits Variable q = Unit {0}
SetFits Choice q = Unit {0}
SetFits Sequence q = Unit {0}
SetFits Merge q = Unit {0}
SetFits LeftMerge q = Unit {0}
SetFits CommMerge q = Unit {0}
SetFits Block q = q < 2 ^ 64
SetFits Hide q = q < 2 ^ 64

operand_is : (s : Kind) (f : List ℕ) (q : ℕ) → second s f ≡ Some q → (f ≡ second_text s q) × SetFits s q
operand_is Action f q e = (number_is f q e, tt)
operand_is Deadlock f q e = (number_is f q e, tt)
operand_is Variable f q e = (number_is f q e, tt)
operand_is Choice f q e = (number_is f q e, tt)
operand_is Sequence f q e = (number_is f q e, tt)
operand_is Merge f q e = (number_is f q e, tt)
operand_is LeftMerge f q e = (number_is f q e, tt)
operand_is CommMerge f q e = (number_is f q e, tt)
operand_is Block f q e = set_is f q e
operand_is Hide f q e = set_is f q e

-- a line
abbrev pub FieldsFit : Said → Type 0
FieldsFit (Variables v) = Unit {0}
FieldsFit (Joins a b r) = Unit {0}
FieldsFit (Becomes x a y) = Unit {0}
FieldsFit (Ends x a) = Unit {0}
FieldsFit (Gives n s p q) = SetFits s q
FieldsFit (Starts n) = Unit {0}

abbrev tail_text : List (List ℕ) → List ℕ → List ℕ
tail_text [] r = r
tail_text (f ∷ fs) r = 44 ∷ (f ++ tail_text fs r)

tail_on : (fs : List (List ℕ)) (r : List ℕ) → tail fs ++ r ≡ tail_text fs r
tail_on [] r = refl
tail_on (f ∷ fs) r = ap (λ z. 44 ∷ z) (append_assoc f (tail fs) r ∙ ap (λ z. f ++ z) (tail_on fs r))

abbrev LineIs : List ℕ → Said → Type 0
LineIs l s = (l ++ (10 ∷ []) ≡ written_line s) × FieldsFit s

line_eq : (l : List ℕ) {r s : Said} → Some r ≡ Some s → LineIs l r → LineIs l s
line_eq l {r} {s} e h = let u : r ≡ s = cc in subst (λ z. LineIs l z) u h

values_is : (h : Shape) (s : Said) → values h ≡ Some s → LineIs (shape_text h) s
values_is (variables v) s e =
    let a = then_some (number v) _ s e in
    line_eq (shape_text (variables v)) a.2 (ap (λ z. 109 ∷ z) (tail_on (v ∷ []) (10 ∷ []) ∙ ap (λ z. tail_text (z ∷ []) (10 ∷ [])) (number_is v a.0 a.1)), tt)
values_is (starts v) s e =
    let a = then_some (number v) _ s e in
    line_eq (shape_text (starts v)) a.2 (ap (λ z. 122 ∷ z) (tail_on (v ∷ []) (10 ∷ []) ∙ ap (λ z. tail_text (z ∷ []) (10 ∷ [])) (number_is v a.0 a.1)), tt)
values_is (ends x y) s e =
    let a = then_some (number x) _ s e in
    let b = then_some (number y) _ s a.2 in
    line_eq (shape_text (ends x y)) b.2 (ap (λ z. 102 ∷ z) (tail_on (x ∷ y ∷ []) (10 ∷ []) ∙ ap₂ (λ z w. tail_text (z ∷ w ∷ []) (10 ∷ [])) (number_is x a.0 a.1) (number_is y b.0 b.1)), tt)
values_is (becomes x y w) s e =
    let a = then_some (number x) _ s e in
    let b = then_some (number y) _ s a.2 in
    let c = then_some (number w) _ s b.2 in
    line_eq (shape_text (becomes x y w)) c.2 (ap (λ z. 101 ∷ z) (tail_on (x ∷ y ∷ w ∷ []) (10 ∷ []) ∙ ap₂ (λ z v. tail_text (z ∷ v ∷ w ∷ []) (10 ∷ [])) (number_is x a.0 a.1) (number_is y b.0 b.1) ∙ ap (λ z. tail_text (decimal a.0 ∷ decimal b.0 ∷ z ∷ []) (10 ∷ [])) (number_is w c.0 c.1)), tt)
values_is (joins x y w) s e =
    let a = then_some (number x) _ s e in
    let b = then_some (number y) _ s a.2 in
    let c = then_some (number w) _ s b.2 in
    line_eq (shape_text (joins x y w)) c.2 (ap (λ z. 99 ∷ z) (tail_on (x ∷ y ∷ w ∷ []) (10 ∷ []) ∙ ap₂ (λ z v. tail_text (z ∷ v ∷ w ∷ []) (10 ∷ [])) (number_is x a.0 a.1) (number_is y b.0 b.1) ∙ ap (λ z. tail_text (decimal a.0 ∷ decimal b.0 ∷ z ∷ []) (10 ∷ [])) (number_is w c.0 c.1)), tt)
values_is (gives n g p q) s e =
    let a = then_some (number n) _ s e in
    let b = then_some (number p) _ s a.2 in
    let c = then_some (second g q) _ s b.2 in
    let o = operand_is g q c.0 c.1 in
    line_eq (shape_text (gives n g p q)) c.2 (ap (λ z. 116 ∷ z) (tail_on (n ∷ (sign_byte g ∷ []) ∷ p ∷ q ∷ []) (10 ∷ []) ∙ ap₂ (λ z v. tail_text (z ∷ (sign_byte g ∷ []) ∷ v ∷ q ∷ []) (10 ∷ [])) (number_is n a.0 a.1) (number_is p b.0 b.1) ∙ ap (λ z. tail_text (decimal a.0 ∷ (sign_byte g ∷ []) ∷ decimal b.0 ∷ z ∷ []) (10 ∷ [])) o.0), o.1)

-- a line that is fine
module _ (R : Room) where
  record Fine (S : Sofar) (raw : Raw) (s : Said) : Type 0 where
    body : List ℕ
    is : raw ≡ whole body
    text : LineIs body s
    passes : fault_said R S s ≡ None

  fine_is : (S : Sofar) (raw : Raw) (s : Said) → judged R S raw ≡ fine s → Fine S raw s
  fine_is S (cut l) s e = let z : ◌≡◌ {A = ℕ} 0 1 = cc in absurd (omega arith)
  fine_is S (whole l) s e = by_shape (shape (whole l)) refl e
    where
      by_fault : (v : Said) → LineIs l v → (o : Option Fault) → fault_said R S v ≡ o → (elim o as (λ _. Judged) [ Some k ↦ faulty k | None ↦ fine v ]) ≡ fine s → Fine S (whole l) s
      by_fault v w (Some k) g e = let z : ◌≡◌ {A = ℕ} 0 1 = cc in absurd (omega arith)
      by_fault v w None g e = let u : v ≡ s = cc in subst (λ z. Fine S (whole l) z) u (record { body = l; is = refl; text = w; passes = g })

      by_values : (h : Shape) → shape (whole l) ≡ Some h → (o : Option Said) → values h ≡ o → (elim o as (λ _. Judged) [ None ↦ faulty NoValue | Some v ↦ elim (fault_said R S v) [ Some k ↦ faulty k | None ↦ fine v ] ]) ≡ fine s → Fine S (whole l) s
      by_values h g None f e = let z : ◌≡◌ {A = ℕ} 0 1 = cc in absurd (omega arith)
      by_values h g (Some v) f e = by_fault v (subst (λ z. LineIs z v) (sym (shape_is l h g)) (values_is h v f)) (fault_said R S v) refl e

      by_shape : (o : Option Shape) → shape (whole l) ≡ o → (elim o as (λ _. Judged) [ None ↦ faulty NoForm | Some h ↦ elim (values h) [ None ↦ faulty NoValue | Some v ↦ elim (fault_said R S v) [ Some k ↦ faulty k | None ↦ fine v ] ] ]) ≡ fine s → Fine S (whole l) s
      by_shape None g e = let z : ◌≡◌ {A = ℕ} 0 1 = cc in absurd (omega arith)
      by_shape (Some h) g e = by_values h g (values h) refl e

  -- the lines up to the start line
  pub data Chain : Sofar → List Said → ℕ → Sofar → Type 0 where
    done : {S : Sofar} {n : ℕ} → fault_said R S (Starts n) ≡ None → Chain S [] n S
    next : {S S' : Sofar} {s : Said} {ss : List Said} {n : ℕ} → fault_said R S s ≡ None → start_of (entry_of s) ≡ None → FieldsFit s → Chain (after S (entry_of s)) ss n S' → Chain S (s ∷ ss) n S'

  abbrev pub tables_of : Sofar → ℕ → Tables
  tables_of S n = record { variables = S.variables; lines = S.lines; equations = S.equations; terms = S.terms; start = n }

  pub record Chained (S : Sofar) (raws : List Raw) (t : Tables) : Type 0 where
    pub said : List Said
    pub start : ℕ
    pub last : Sofar
    pub chain : Chain S said start last
    pub text : unlines raws ≡ written said ++ written_line (Starts start)
    pub is : tables_of last start ≡ t

  start_is : (s : Said) (n : ℕ) → start_of (entry_of s) ≡ Some n → s ≡ Starts n
  start_is (Variables v) n e = let z : ◌≡◌ {A = ℕ} 0 1 = cc in absurd (omega arith)
  start_is (Joins a b r) n e = let z : ◌≡◌ {A = ℕ} 0 1 = cc in absurd (omega arith)
  start_is (Becomes x a y) n e = let z : ◌≡◌ {A = ℕ} 0 1 = cc in absurd (omega arith)
  start_is (Ends x a) n e = let z : ◌≡◌ {A = ℕ} 0 1 = cc in absurd (omega arith)
  start_is (Gives m k p q) n e = let z : ◌≡◌ {A = ℕ} 0 1 = cc in absurd (omega arith)
  start_is (Starts m) n e = cc

  unlines_cons : (raw : Raw) (raws : List Raw) (b : List ℕ) (w : List ℕ) → raw ≡ whole b → b ++ (10 ∷ []) ≡ w → unlines (raw ∷ raws) ≡ w ++ unlines raws
  unlines_cons raw raws b w e h = ap (λ z. unlines (z ∷ raws)) e ∙ sym (append_assoc b (10 ∷ []) (unlines raws)) ∙ ap (λ z. z ++ unlines raws) h

  pub chained : (i : ℕ) (S : Sofar) (raws : List Raw) (t : Tables) → read_lines R i S raws ≡ read t → Chained S raws t
  chained i S [] t e = let z : ◌≡◌ {A = ℕ} 0 1 = cc in absurd (omega arith)
  chained i S (l ∷ ls) t e = by_line (λ s. chained (suc i) (after S (entry_of s)) ls t) (judged R S l) refl e
    where
      at_end : (s : Said) (n : ℕ) → Fine S l s → start_of (entry_of s) ≡ Some n → (ls : List Raw) → ended i S n ls ≡ read t → Chained S (l ∷ ls) t
      at_end s n f g [] e =
          let u : s ≡ Starts n = start_is s n g in
          record { said = []; start = n; last = S; chain = done (subst (λ z. fault_said R S z ≡ None) u f.passes); text = unlines_cons l [] f.body (written_line s) f.is f.text.0 ∙ ap₂ ◌++◌ (ap written_line u) refl ∙ append_nil (written_line (Starts n)); is = cc }
        where
          append_nil : (xs : List ℕ) → xs ++ [] ≡ xs
          append_nil [] = refl
          append_nil (x ∷ xs) = ap (λ r. x ∷ r) (append_nil xs)
      at_end s n f g (k ∷ ks) e = let z : ◌≡◌ {A = ℕ} 0 1 = cc in absurd (omega arith)

      by_start : ((s : Said) → read_lines R (suc i) (after S (entry_of s)) ls ≡ read t → Chained (after S (entry_of s)) ls t) → (s : Said) → Fine S l s → (o : Option ℕ) → start_of (entry_of s) ≡ o → (elim o as (λ _. Answer) [ Some n ↦ ended i S n ls | None ↦ read_lines R (suc i) (after S (entry_of s)) ls ]) ≡ read t → Chained S (l ∷ ls) t
      by_start ih s f (Some n) g e = at_end s n f g ls e
      by_start ih s f None g e =
          let c = ih s e in
          record { said = s ∷ c.said; start = c.start; last = c.last; chain = next f.passes g f.text.1 c.chain; text = unlines_cons l ls f.body (written_line s) f.is f.text.0 ∙ ap (λ z. written_line s ++ z) c.text ∙ sym (append_assoc (written_line s) (written c.said) (written_line (Starts c.start))); is = c.is }

      by_line : ((s : Said) → read_lines R (suc i) (after S (entry_of s)) ls ≡ read t → Chained (after S (entry_of s)) ls t) → (j : Judged) → judged R S l ≡ j → (elim j as (λ _. Answer) [ faulty k ↦ refused_at k i | fine s ↦ elim (start_of (entry_of s)) [ Some n ↦ ended i S n ls | None ↦ read_lines R (suc i) (after S (entry_of s)) ls ] ]) ≡ read t → Chained S (l ∷ ls) t
      by_line ih (faulty k) g e = let z : ◌≡◌ {A = ℕ} 0 1 = cc in absurd (omega arith)
      by_line ih (fine s) g e = by_start ih s (fine_is S l s g) (start_of (entry_of s)) refl e
