-- A written line is read as what it says.
use Rattle.std.proofs.Common.{◌≡◌, ℕ, zero, suc, ◌+◌, ◌-◌, ◌*◌, ◌/◌, ◌%◌, ◌^◌, ◌<◌, ◌≤◌, Bool, true, false, cond, not, ◌&&◌, eqb, ltb, leb, List, [], ◌∷◌, ◌++◌, length, get_or, Some, None, decimal, Option, sym, refl, ap, ◌∙◌, subst, ap₂, append_assoc, pow-suc, arith, ltb-false, ltb-true, ne_eqb, le-leb, leb-true}
use native.Mathlib.Nat.{div-div-eq-div-mul}
use borrow.Author.Tests.{lt-leb}
use Rattle.std.specs.List.{onto_first}
use Rattle.std.proofs.lemmas.List.Splits.{slice_split-cons_no}
use Rattle.std.proofs.lemmas.Fmt.{digits_decimal, digits_value-decimal, length-decimal-le, first_decimal, decimal_digit}
use Rattle.tokens.specs.Forms.{Shape, variables, joins, becomes, ends, gives, starts, sign_byte, kind_in, shape_by, shape, second, values}
use Rattle.tokens.specs.Lines.{Raw, whole, grow, raw_lines, fields}
use Rattle.tokens.specs.Numbers.{is_digit, all_digits, value_on, plain, number, hex_value, hex_on, set}
use Rattle.tokens.specs.declared.said.Said.{Said}
use Rattle.tokens.specs.declared.said.Said.TheVariants.{Variables, Joins, Becomes, Ends, Gives, Starts}
use Rattle.tokens.specs.declared.token.Kind.{Kind}
use Rattle.tokens.specs.declared.token.Kind.TheVariants.{Action, Deadlock, Variable, Choice, Sequence, Merge, LeftMerge, CommMerge, Block, Hide}
use Rattle.tokens.specs.declared.token.Letter.TheVariants as letter
use Rattle.modelfile.specs.declared.faults.Fault.TheVariants.{NoForm, NoValue}
use Rattle.modelfile.specs.Accepted.{Room}
use Rattle.modelfile.specs.Computed.{fault_said, Judged, faulty, fine, judged, Answer, read, refused_at, ended, read_lines}
use Rattle.modelfile.specs.Entries.{entry_of}
use Rattle.modelfile.specs.Tables.{hex_digit, hex_digits, second_text, written_line, written}
use Rattle.modelfile.specs.Tests.{Sofar, after, start_of}
use Rattle.modelfile.proofs.Groups.{then_eq}
use Rattle.modelfile.proofs.Spelled.{own, and_true, tables_of}

-- lists without a byte
abbrev Lacks : ℕ → List ℕ → Type 0
Lacks c [] = Unit {0}
Lacks c (b ∷ bs) = (eqb b c ≡ false) × Lacks c bs

lacks_append : (c : ℕ) (xs ys : List ℕ) → Lacks c xs → Lacks c ys → Lacks c (xs ++ ys)
lacks_append c [] ys h k = k
lacks_append c (x ∷ xs) ys h k = (h.0, lacks_append c xs ys h.1 k)

fields_more : (f r : List ℕ) → Lacks 44 f → fields (f ++ (44 ∷ r)) ≡ f ∷ fields r
fields_more [] r h = refl
fields_more (b ∷ f) r h = slice_split-cons_no (λ c. eqb c 44) b (f ++ (44 ∷ r)) h.0 ∙ ap (onto_first b) (fields_more f r h.1)

fields_last : (f : List ℕ) → Lacks 44 f → fields f ≡ f ∷ []
fields_last [] h = refl
fields_last (b ∷ f) h = slice_split-cons_no (λ c. eqb c 44) b f h.0 ∙ ap (onto_first b) (fields_last f h.1)

lines_more : (l r : List ℕ) → Lacks 10 l → raw_lines (l ++ (10 ∷ r)) ≡ whole l ∷ raw_lines r
lines_more [] r h = refl
lines_more (b ∷ l) r h = ap (λ t. cond t (whole [] ∷ raw_lines (l ++ (10 ∷ r))) (grow b (raw_lines (l ++ (10 ∷ r))))) h.0 ∙ ap (grow b) (lines_more l r h.1)

-- digits
digits_lack : (c : ℕ) → c < 48 → (ds : List ℕ) → all_digits ds ≡ true → Lacks c ds
digits_lack c l [] h = tt
digits_lack c l (d ∷ ds) h =
    let a = and_true (is_digit d) (all_digits ds) h in
    let b = and_true (leb 48 d) (leb d 57) a.0 in
    let m : 48 ≤ d = leb-true 48 d b.0 in
    (ne_eqb d c (omega arith), digits_lack c l ds a.1)

decimal_digits : (n : ℕ) → n < 100000 → all_digits (decimal n) ≡ true
decimal_digits n l = digits_decimal own n (omega arith)

plain_decimal : (n : ℕ) → n < 100000 → plain (decimal n) ≡ true
plain_decimal zero l = subst (λ ds. plain ds ≡ true) (sym (decimal_digit 0 (omega arith))) refl
plain_decimal (suc n) l = go (decimal (suc n)) (first_decimal (suc n) (omega arith) (omega arith))
  where
    go : (ds : List ℕ) → 48 < get_or ds 0 0 → plain ds ≡ true
    go [] h = absurd (omega arith)
    go (d ∷ []) h = refl
    go (d ∷ e ∷ ds) h = ap not (ne_eqb d 48 (omega arith))

number_decimal : (n : ℕ) → n < 100000 → number (decimal n) ≡ Some n
number_decimal n l =
    let t : plain (decimal n) && leb (length (decimal n)) 5 && all_digits (decimal n) ≡ true = ap₂ ◌&&◌ (ap₂ ◌&&◌ (plain_decimal n l) (le-leb (length (decimal n)) 5 (length-decimal-le 5 n (omega arith) (omega arith) (omega arith)))) (decimal_digits n l) in
    ap (λ b. cond b (Some (value_on 0 (decimal n))) None) t ∙ ap Some (digits_value-decimal own n (omega arith))

-- sets
hex_back : (d : ℕ) → d < 16 → hex_value (hex_digit d) ≡ Some d
hex_back d l = go (ltb d 10) refl
  where
    go : (b : Bool) → ltb d 10 ≡ b → hex_value (cond b (48 + d) (87 + d)) ≡ Some d
    go true g =
        let m : d < 10 = ltb-true d 10 g in
        let t : is_digit (48 + d) ≡ true = ap₂ ◌&&◌ (le-leb 48 (48 + d) (omega arith)) (le-leb (48 + d) 57 (omega arith)) in
        let e : 48 + d - 48 ≡ d = omega arith in
        ap (λ b. cond b (Some (48 + d - 48)) (cond (leb 97 (48 + d) && leb (48 + d) 102) (Some (48 + d - 87)) None)) t ∙ ap Some e
    go false g =
        let m : 10 ≤ d = ltb-false d 10 g in
        let t : is_digit (87 + d) ≡ false = and_false (leb 48 (87 + d)) (leb (87 + d) 57) (lt-leb (87 + d) 57 (omega arith)) in
        let u : leb 97 (87 + d) && leb (87 + d) 102 ≡ true = ap₂ ◌&&◌ (le-leb 97 (87 + d) (omega arith)) (le-leb (87 + d) 102 (omega arith)) in
        let e : 87 + d - 87 ≡ d = omega arith in
        ap (λ b. cond b (Some (87 + d - 48)) (cond (leb 97 (87 + d) && leb (87 + d) 102) (Some (87 + d - 87)) None)) t ∙ ap (λ b. cond b (Some (87 + d - 87)) None) u ∙ ap Some e
      where
        and_false : (a b : Bool) → b ≡ false → a && b ≡ false
        and_false true b h = h
        and_false false b h = refl

hex_digits_on : (k v q : ℕ) → q / 16 ^ k ≡ v → hex_on v (hex_digits k q) ≡ Some q
hex_digits_on zero v q e = let w : q / 1 ≡ q = omega arith in ap Some (sym e ∙ w)
hex_digits_on (suc k) v q e =
    let d : ℕ = (q / 16 ^ k) % 16 in
    let x : (q / 16 ^ k) / 16 ≡ v = div-div-eq-div-mul q (16 ^ k) 16 ∙ ap (λ m. q / m) (sym (pow-suc 16 k)) ∙ e in
    let lt : (q / 16 ^ k) % 16 < 16 = omega arith in
    let y : q / 16 ^ k ≡ 16 * v + d = omega arith in
    ap (λ o. step v o (hex_digits k q)) (hex_back d lt) ∙ hex_digits_on k (16 * v + d) q y
  where
    step : ℕ → Option ℕ → List ℕ → Option ℕ
    step v o r = elim o [ None ↦ None | Some d ↦ hex_on (16 * v + d) r ]

set_hex : (q : ℕ) → q < 2 ^ 64 → set (hex_digits 16 q) ≡ Some q
set_hex q l = hex_digits_on 16 0 q (let e : q / 2 ^ 64 ≡ 0 = omega arith in e)

hex_lack : (c : ℕ) → c < 48 → (k q : ℕ) → Lacks c (hex_digits k q)
hex_lack c l zero q = tt
hex_lack c l (suc k) q = (go (ltb ((q / 16 ^ k) % 16) 10), hex_lack c l k q)
  where
    go : (b : Bool) → eqb (cond b (48 + (q / 16 ^ k) % 16) (87 + (q / 16 ^ k) % 16)) c ≡ false
    go true = ne_eqb _ c (omega arith)
    go false = ne_eqb _ c (omega arith)

-- the fields of a line
abbrev joinF : List ℕ → List (List ℕ) → List ℕ
joinF f [] = f
joinF f (g ∷ gs) = f ++ (44 ∷ joinF g gs)

abbrev joinOn : List ℕ → List (List ℕ) → List ℕ → List ℕ
joinOn f [] r = f ++ r
joinOn f (g ∷ gs) r = f ++ (44 ∷ joinOn g gs r)

join_on : (f : List ℕ) (gs : List (List ℕ)) (r : List ℕ) → joinF f gs ++ r ≡ joinOn f gs r
join_on f [] r = refl
join_on f (g ∷ gs) r = append_assoc f (44 ∷ joinF g gs) r ∙ ap (λ z. f ++ (44 ∷ z)) (join_on g gs r)

abbrev AllLack : ℕ → List (List ℕ) → Type 0
AllLack c [] = Unit {0}
AllLack c (f ∷ fs) = Lacks c f × AllLack c fs

fields_join : (f : List ℕ) (gs : List (List ℕ)) → AllLack 44 (f ∷ gs) → fields (joinF f gs) ≡ f ∷ gs
fields_join f [] h = fields_last f h.0
fields_join f (g ∷ gs) h = fields_more f (joinF g gs) h.0 ∙ ap (λ z. f ∷ z) (fields_join g gs h.1)

join_lack : (f : List ℕ) (gs : List (List ℕ)) → AllLack 10 (f ∷ gs) → Lacks 10 (joinF f gs)
join_lack f [] h = h.0
join_lack f (g ∷ gs) h = lacks_append 10 f (44 ∷ joinF g gs) h.0 (refl, join_lack g gs h.1)

-- the numbers of a line are short, and its set is below 2 ^ 64
abbrev pub Short : ℕ → Type 0
Short n = n < 100000

abbrev pub SecondFits : Kind → ℕ → Type 0
SecondFits Action q = Short q
SecondFits Deadlock q = Short q
SecondFits Variable q = Short q
SecondFits Choice q = Short q
SecondFits Sequence q = Short q
SecondFits Merge q = Short q
SecondFits LeftMerge q = Short q
SecondFits CommMerge q = Short q
SecondFits Block q = q < 2 ^ 64
SecondFits Hide q = q < 2 ^ 64

abbrev pub NumbersFit : Said → Type 0
NumbersFit (Variables v) = Short v
NumbersFit (Joins a b r) = Short a × Short b × Short r
NumbersFit (Ends x a) = Short x × Short a
NumbersFit (Becomes x a y) = Short x × Short a × Short y
NumbersFit (Gives n s p q) = Short n × Short p × SecondFits s q
NumbersFit (Starts n) = Short n

lack_num : (c : ℕ) → c < 48 → (n : ℕ) → Short n → Lacks c (decimal n)
lack_num c l n h = digits_lack c l (decimal n) (decimal_digits n h)

lack_operand : (c : ℕ) → c < 48 → (s : Kind) (q : ℕ) → SecondFits s q → Lacks c (second_text s q)
lack_operand c l Action q h = lack_num c l q h
lack_operand c l Deadlock q h = lack_num c l q h
lack_operand c l Variable q h = lack_num c l q h
lack_operand c l Choice q h = lack_num c l q h
lack_operand c l Sequence q h = lack_num c l q h
lack_operand c l Merge q h = lack_num c l q h
lack_operand c l LeftMerge q h = lack_num c l q h
lack_operand c l CommMerge q h = lack_num c l q h
lack_operand c l Block q h = hex_lack c l 16 q
lack_operand c l Hide q h = hex_lack c l 16 q

operand_back : (s : Kind) (q : ℕ) → SecondFits s q → second s (second_text s q) ≡ Some q
operand_back Action q h = number_decimal q h
operand_back Deadlock q h = number_decimal q h
operand_back Variable q h = number_decimal q h
operand_back Choice q h = number_decimal q h
operand_back Sequence q h = number_decimal q h
operand_back Merge q h = number_decimal q h
operand_back LeftMerge q h = number_decimal q h
operand_back CommMerge q h = number_decimal q h
operand_back Block q h = set_hex q h
operand_back Hide q h = set_hex q h

sign_back : (s : Kind) → kind_in (sign_byte s ∷ []) ≡ Some s
sign_back Action = refl
sign_back Deadlock = refl
sign_back Variable = refl
sign_back Choice = refl
sign_back Sequence = refl
sign_back Merge = refl
sign_back LeftMerge = refl
sign_back CommMerge = refl
sign_back Block = refl
sign_back Hide = refl

sign_lack : (s : Kind) → Lacks 44 (sign_byte s ∷ []) × Lacks 10 (sign_byte s ∷ [])
sign_lack Action = ((refl, tt), (refl, tt))
sign_lack Deadlock = ((refl, tt), (refl, tt))
sign_lack Variable = ((refl, tt), (refl, tt))
sign_lack Choice = ((refl, tt), (refl, tt))
sign_lack Sequence = ((refl, tt), (refl, tt))
sign_lack Merge = ((refl, tt), (refl, tt))
sign_lack LeftMerge = ((refl, tt), (refl, tt))
sign_lack CommMerge = ((refl, tt), (refl, tt))
sign_lack Block = ((refl, tt), (refl, tt))
sign_lack Hide = ((refl, tt), (refl, tt))

pub record Back (s : Said) : Type 0 where
  pub body : List ℕ
  pub text : written_line s ≡ body ++ (10 ∷ [])
  pub lacks : Lacks 10 body
  pub form : Shape
  pub is_form : shape (whole body) ≡ Some form
  pub is_said : values form ≡ Some s

pub back : (s : Said) → NumbersFit s → Back s
back (Variables v) h = record {
  body = 109 ∷ 44 ∷ decimal v;
  text = refl;
  lacks = (refl, (refl, lack_num 10 (omega arith) v h));
  form = variables (decimal v);
  is_form = ap (shape_by letter.Variables) (fields_last (decimal v) (lack_num 44 (omega arith) v h));
  is_said = then_eq _ (number_decimal v h);
}
back (Starts v) h = record {
  body = 122 ∷ 44 ∷ decimal v;
  text = refl;
  lacks = (refl, (refl, lack_num 10 (omega arith) v h));
  form = starts (decimal v);
  is_form = ap (shape_by letter.Starts) (fields_last (decimal v) (lack_num 44 (omega arith) v h));
  is_said = then_eq _ (number_decimal v h);
}
back (Joins a b r) h =
    let gs : List (List ℕ) = decimal b ∷ decimal r ∷ [] in
    record {
      body = 99 ∷ 44 ∷ joinF (decimal a) gs;
      text = sym (ap (λ z. 99 ∷ 44 ∷ z) (join_on (decimal a) gs (10 ∷ [])));
      lacks = (refl, (refl, join_lack (decimal a) gs (lack_num 10 (omega arith) a h.0, (lack_num 10 (omega arith) b h.1, (lack_num 10 (omega arith) r h.2, tt)))));
      form = joins (decimal a) (decimal b) (decimal r);
      is_form = ap (shape_by letter.Joins) (fields_join (decimal a) gs (lack_num 44 (omega arith) a h.0, (lack_num 44 (omega arith) b h.1, (lack_num 44 (omega arith) r h.2, tt))));
      is_said = then_eq _ (number_decimal a h.0) ∙ then_eq _ (number_decimal b h.1) ∙ then_eq _ (number_decimal r h.2);
    }
back (Becomes a b r) h =
    let gs : List (List ℕ) = decimal b ∷ decimal r ∷ [] in
    record {
      body = 101 ∷ 44 ∷ joinF (decimal a) gs;
      text = sym (ap (λ z. 101 ∷ 44 ∷ z) (join_on (decimal a) gs (10 ∷ [])));
      lacks = (refl, (refl, join_lack (decimal a) gs (lack_num 10 (omega arith) a h.0, (lack_num 10 (omega arith) b h.1, (lack_num 10 (omega arith) r h.2, tt)))));
      form = becomes (decimal a) (decimal b) (decimal r);
      is_form = ap (shape_by letter.Becomes) (fields_join (decimal a) gs (lack_num 44 (omega arith) a h.0, (lack_num 44 (omega arith) b h.1, (lack_num 44 (omega arith) r h.2, tt))));
      is_said = then_eq _ (number_decimal a h.0) ∙ then_eq _ (number_decimal b h.1) ∙ then_eq _ (number_decimal r h.2);
    }
back (Ends a b) h =
    let gs : List (List ℕ) = decimal b ∷ [] in
    record {
      body = 102 ∷ 44 ∷ joinF (decimal a) gs;
      text = sym (ap (λ z. 102 ∷ 44 ∷ z) (join_on (decimal a) gs (10 ∷ [])));
      lacks = (refl, (refl, join_lack (decimal a) gs (lack_num 10 (omega arith) a h.0, (lack_num 10 (omega arith) b h.1, tt))));
      form = ends (decimal a) (decimal b);
      is_form = ap (shape_by letter.Ends) (fields_join (decimal a) gs (lack_num 44 (omega arith) a h.0, (lack_num 44 (omega arith) b h.1, tt)));
      is_said = then_eq _ (number_decimal a h.0) ∙ then_eq _ (number_decimal b h.1);
    }
back (Gives n s p q) h =
    let gs : List (List ℕ) = (sign_byte s ∷ []) ∷ decimal p ∷ second_text s q ∷ [] in
    record {
      body = 116 ∷ 44 ∷ joinF (decimal n) gs;
      text = sym (ap (λ z. 116 ∷ 44 ∷ z) (join_on (decimal n) gs (10 ∷ [])));
      lacks = (refl, (refl, join_lack (decimal n) gs (lack_num 10 (omega arith) n h.0, ((sign_lack s).1, (lack_num 10 (omega arith) p h.1, (lack_operand 10 (omega arith) s q h.2, tt))))));
      form = gives (decimal n) s (decimal p) (second_text s q);
      is_form = ap (shape_by letter.Gives) (fields_join (decimal n) gs (lack_num 44 (omega arith) n h.0, ((sign_lack s).0, (lack_num 44 (omega arith) p h.1, (lack_operand 44 (omega arith) s q h.2, tt))))) ∙ ap (λ o. elim o as (λ _. Option Shape) [ None ↦ None | Some z ↦ Some (gives (decimal n) z (decimal p) (second_text s q)) ]) (sign_back s);
      is_said = then_eq _ (number_decimal n h.0) ∙ then_eq _ (number_decimal p h.1) ∙ then_eq _ (operand_back s q h.2);
    }

-- ---- reading a chain of lines that are fine
module _ (R : Room) where
  pub data Told : Sofar → List Said → ℕ → Sofar → Type 0 where
    told_end : {S : Sofar} {n : ℕ} → fault_said R S (Starts n) ≡ None → NumbersFit (Starts n) → Told S [] n S
    told_next : {S S' : Sofar} {s : Said} {ss : List Said} {n : ℕ} → fault_said R S s ≡ None → start_of (entry_of s) ≡ None → NumbersFit s → Told (after S (entry_of s)) ss n S' → Told S (s ∷ ss) n S'

  judged_back : (S : Sofar) (s : Said) (b : Back s) → fault_said R S s ≡ None → judged R S (whole b.body) ≡ fine s
  judged_back S s b h =
      ap (λ o. elim o as (λ _. Judged) [ None ↦ faulty NoForm | Some h ↦ elim (values h) [ None ↦ faulty NoValue | Some v ↦ elim (fault_said R S v) [ Some k ↦ faulty k | None ↦ fine v ] ] ]) b.is_form
      ∙ ap (λ o. elim o as (λ _. Judged) [ None ↦ faulty NoValue | Some v ↦ elim (fault_said R S v) [ Some k ↦ faulty k | None ↦ fine v ] ]) b.is_said
      ∙ ap (λ o. elim o as (λ _. Judged) [ Some k ↦ faulty k | None ↦ fine s ]) h

  raw_back : (s : Said) (b : Back s) (r : List ℕ) → raw_lines (written_line s ++ r) ≡ whole b.body ∷ raw_lines r
  raw_back s b r = ap (λ z. raw_lines (z ++ r)) b.text ∙ ap raw_lines (append_assoc b.body (10 ∷ []) r) ∙ lines_more b.body r b.lacks

  pub read_told : {S : Sofar} {ss : List Said} {n : ℕ} {S' : Sofar} → Told S ss n S' → (i : ℕ) → read_lines R i S (raw_lines (written (ss ++ (Starts n ∷ [])))) ≡ read (tables_of R S' n)
  read_told (told_end {S = S} {n = n} h f) i =
      let b = back (Starts n) f in
      ap (read_lines R i S) (raw_back (Starts n) b [])
      ∙ ap (λ j. elim j as (λ _. Answer) [ faulty k ↦ refused_at k i | fine s ↦ elim (start_of (entry_of s)) [ Some n ↦ ended i S n [] | None ↦ read_lines R (suc i) (after S (entry_of s)) [] ] ]) (judged_back S (Starts n) b h)
  read_told (told_next {S = S} {s = s} {ss = ss} {n = n} h k f c) i =
      let b = back s f in
      let r : List Raw = raw_lines (written (ss ++ (Starts n ∷ []))) in
      ap (read_lines R i S) (raw_back s b (written (ss ++ (Starts n ∷ []))))
      ∙ ap (λ j. elim j as (λ _. Answer) [ faulty k ↦ refused_at k i | fine s ↦ elim (start_of (entry_of s)) [ Some n ↦ ended i S n r | None ↦ read_lines R (suc i) (after S (entry_of s)) r ] ]) (judged_back S s b h)
      ∙ ap (λ o. elim o as (λ _. Answer) [ Some n ↦ ended i S n r | None ↦ read_lines R (suc i) (after S (entry_of s)) r ]) k
      ∙ read_told c (suc i)
