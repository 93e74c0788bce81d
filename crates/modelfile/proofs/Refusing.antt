-- A refusal is that of the first faulty line, with the smallest number that applies to it.
use Rattle.std.proofs.Common.{◌≡◌, ℕ, suc, ◌≤◌, Bool, true, false, cond, ltb, ◌⊎◌, List, [], ◌∷◌, length, Some, None, Option, sym, refl, ap, ◌∙◌, subst, subst₂, inl, inr, arith, ltb-false, ltb-true}
use Rattle.std.proofs.lemmas.Bool.{false_from_ne_true}
use mathlib.Core.List.Memᴰ
use mathlib.Core.List.{Memᴰ}
use Rattle.tokens.specs.Forms.{Shape, shape, values}
use Rattle.tokens.specs.Lines.{Raw, raw_lines}
use Rattle.tokens.specs.declared.said.Said.{Said}
use Rattle.tokens.specs.declared.said.Said.TheVariants.{Variables, Joins, Becomes, Ends, Gives, Starts}
use Rattle.transitions.specs.Listed.{Once, Associative}
use Rattle.modelfile.specs.declared.faults.Fault.{Fault}
use Rattle.modelfile.specs.declared.faults.Fault.TheVariants.{TooLong, NoForm, NoValue, OutOfTurn, OverLimit, WrongNumber, SilentUsed, SaidBefore, TooMany, NotAssociative, SilentRing, WrongEnd}
use Rattle.acceptance.proofs.Circling.{no_ring, ring_found}
use Rattle.acceptance.specs.Accepted.{Silently}
use Rattle.acceptance.specs.Walks.{silent_ring}
use Rattle.modelfile.specs.Accepted.{Room}
use Rattle.modelfile.specs.Computed.{Test, test, first_fault, tests_of, fault_said, at_start, not_associative, Judged, faulty, fine, judged, Answer, refused_at, ended, read_lines, reading}
use Rattle.modelfile.specs.Entries.{entry_of}
use Rattle.modelfile.specs.Faults.{number_of}
use Rattle.modelfile.specs.Refusals.{NamesStart, Wrong, Applies, no_form, no_value, wrong, Least, Says, Upto, here, on, Refused, too_long, at_line, no_start, goes_on}
use Rattle.modelfile.specs.Tests.{Sofar, nothing, after, start_of}
use Rattle.modelfile.proofs.Groups.{no_way, associative_from, associative_no}
use Rattle.modelfile.proofs.Onces.{once_snoc}

-- no test of the list has a smaller number than k
abbrev From : Fault → List Test → Type 0
From k [] = Unit {0}
From k (test j b ∷ ts) = (number_of k ≤ number_of j) × From k ts

abbrev Rising : List Test → Type 0
Rising [] = Unit {0}
Rising (test k b ∷ ts) = From k ts × Rising ts

from_mem : (k j : Fault) (b : Bool) (ts : List Test) → From k ts → Memᴰ (test j b) ts → number_of k ≤ number_of j
from_mem k j b [] h m = absurd (Memᴰ.not-nil m)
from_mem k j b (test i c ∷ ts) h m = go (from_mem k j b ts h.1) (Memᴰ.cases_cons m)
  where
    go : (Memᴰ (test j b) ts → number_of k ≤ number_of j) → (test j b ≡ test i c) ⊎ Memᴰ (test j b) ts → number_of k ≤ number_of j
    go ih (inl e) = let u : i ≡ j = cc in subst (λ z. number_of k ≤ number_of z) u h.0
    go ih (inr w) = ih w

first_is : (ts : List Test) → Rising ts → (k : Fault) → first_fault ts ≡ Some k → Memᴰ (test k true) ts × ((j : Fault) → Memᴰ (test j true) ts → number_of k ≤ number_of j)
first_is [] r k h = let z : ◌≡◌ {A = ℕ} 0 1 = cc in absurd (omega arith)
first_is (test i b ∷ ts) r k h = go b (first_is ts r.1 k) h
  where
    go : (b : Bool) → (first_fault ts ≡ Some k → Memᴰ (test k true) ts × ((j : Fault) → Memᴰ (test j true) ts → number_of k ≤ number_of j)) → cond b (Some i) (first_fault ts) ≡ Some k → Memᴰ (test k true) (test i b ∷ ts) × ((j : Fault) → Memᴰ (test j true) (test i b ∷ ts) → number_of k ≤ number_of j)
    go true ih h =
        let u : k ≡ i = cc in
        (Memᴰ.head (ap (λ z. test z true) u), λ j m. subst (λ z. number_of z ≤ number_of j) (sym u) (side (Memᴰ.cases_cons m)))
      where
        side : {j : Fault} → (test j true ≡ test i true) ⊎ Memᴰ (test j true) ts → number_of i ≤ number_of j
        side {j} (inl e) = let v : i ≡ j = cc in let w : number_of i ≡ number_of j = ap number_of v in omega arith
        side {j} (inr w) = from_mem i j true ts r.0 w
    go false ih h = let w = ih h in (Memᴰ.tail w.0, λ j m. side (w.1 j) (Memᴰ.cases_cons m))
      where
        side : {j : Fault} → (Memᴰ (test j true) ts → number_of k ≤ number_of j) → (test j true ≡ test i false) ⊎ Memᴰ (test j true) ts → number_of k ≤ number_of j
        side f (inl e) = let z : ◌≡◌ {A = ℕ} 0 1 = cc in absurd (omega arith)
        side f (inr w) = f w

first_no : (ts : List Test) → first_fault ts ≡ None → (j : Fault) → Memᴰ (test j true) ts → ⊥
first_no [] h j m = Memᴰ.not-nil m
first_no (test i b ∷ ts) h j m = go b (first_no ts) h (Memᴰ.cases_cons m)
  where
    go : (b : Bool) → (first_fault ts ≡ None → (j : Fault) → Memᴰ (test j true) ts → ⊥) → cond b (Some i) (first_fault ts) ≡ None → (test j true ≡ test i b) ⊎ Memᴰ (test j true) ts → ⊥
    go true ih h w = let z : ◌≡◌ {A = ℕ} 0 1 = cc in omega arith
    go false ih h (inl e) = let z : ◌≡◌ {A = ℕ} 0 1 = cc in omega arith
    go false ih h (inr w) = ih h j w

-- each test that holds tells
abbrev AllTell : (Fault → Type 0) → List Test → Type 0
AllTell P [] = Unit {0}
AllTell P (test k b ∷ ts) = (b ≡ true → P k) × AllTell P ts

tell : (P : Fault → Type 0) (ts : List Test) → AllTell P ts → (k : Fault) → Memᴰ (test k true) ts → P k
tell P [] h k m = absurd (Memᴰ.not-nil m)
tell P (test j b ∷ ts) h k m = go (tell P ts h.1 k) (Memᴰ.cases_cons m)
  where
    go : (Memᴰ (test k true) ts → P k) → (test k true ≡ test j b) ⊎ Memᴰ (test k true) ts → P k
    go ih (inl e) = let u : j ≡ k = cc in let v : b ≡ true = cc in subst P u (h.0 v)
    go ih (inr w) = ih w

module _ (R : Room) where
  rising : (S : Sofar) (s : Said) → Rising (tests_of R S s)
  rising S s = (omega arith, (omega arith, (omega arith, (omega arith, (omega arith, (omega arith, (omega arith, (tt, tt))))))))

  started : (b : Bool) (o : Option ℕ) → at_start b o ≡ true → ((n : ℕ) × (o ≡ Some n)) × (b ≡ true)
  started b None h = no_way (sym h)
  started b (Some n) h = ((n, refl), h)

  -- a test holds exactly where its fault is one of what is said
  wrong_of : (S : Sofar) (s : Said) → Once S.lines → (k : Fault) → Memᴰ (test k true) (tests_of R S s) → Wrong R S s k
  wrong_of S s once = tell (Wrong R S s) (tests_of R S s) (λ h. h, (λ h. h, (λ h. h, (λ h. h, (λ h. h, (λ h. h, (λ h. open_lines h, (λ h. ring h, tt))))))))
    where
      open_lines : at_start (not_associative S.lines) (start_of (entry_of s)) ≡ true → NamesStart s × (Associative S.lines → ⊥)
      open_lines h = let w = started (not_associative S.lines) (start_of (entry_of s)) h in (w.0, λ a. no_way (sym w.1 ∙ associative_no S.lines once a))

      ring : at_start (silent_ring S.equations) (start_of (entry_of s)) ≡ true → NamesStart s × ((x : ℕ) × Silently S.equations x x)
      ring h = let w = started (silent_ring S.equations) (start_of (entry_of s)) h in (w.0, ring_found S.equations w.1)

  of_wrong : (S : Sofar) (s : Said) → Once S.lines → (k : Fault) → Wrong R S s k → Memᴰ (test k true) (tests_of R S s)
  of_wrong S s once TooLong w = absurd w
  of_wrong S s once NoForm w = absurd w
  of_wrong S s once NoValue w = absurd w
  of_wrong S s once OutOfTurn w = Memᴰ.head (ap (test OutOfTurn) (sym w))
  of_wrong S s once OverLimit w = Memᴰ.tail (Memᴰ.head (ap (test OverLimit) (sym w)))
  of_wrong S s once WrongNumber w = Memᴰ.tail (Memᴰ.tail (Memᴰ.head (ap (test WrongNumber) (sym w))))
  of_wrong S s once SilentUsed w = Memᴰ.tail (Memᴰ.tail (Memᴰ.tail (Memᴰ.head (ap (test SilentUsed) (sym w)))))
  of_wrong S s once SaidBefore w = Memᴰ.tail (Memᴰ.tail (Memᴰ.tail (Memᴰ.tail (Memᴰ.head (ap (test SaidBefore) (sym w))))))
  of_wrong S s once TooMany w = Memᴰ.tail (Memᴰ.tail (Memᴰ.tail (Memᴰ.tail (Memᴰ.tail (Memᴰ.head (ap (test TooMany) (sym w)))))))
  of_wrong S s once NotAssociative w =
      let b : not_associative S.lines ≡ true = held (not_associative S.lines) (λ h. w.1 (associative_from S.lines once h)) in
      Memᴰ.tail (Memᴰ.tail (Memᴰ.tail (Memᴰ.tail (Memᴰ.tail (Memᴰ.tail (Memᴰ.head (ap (test NotAssociative) (sym (ap (at_start (not_associative S.lines)) w.0.1 ∙ b)))))))))
    where
      held : (b : Bool) → (b ≡ false → ⊥) → b ≡ true
      held true f = refl
      held false f = absurd (f refl)
  of_wrong S s once SilentRing w =
      let b : silent_ring S.equations ≡ true = held (silent_ring S.equations) (λ h. no_ring S.equations h w.1.0 w.1.1) in
      Memᴰ.tail (Memᴰ.tail (Memᴰ.tail (Memᴰ.tail (Memᴰ.tail (Memᴰ.tail (Memᴰ.tail (Memᴰ.head (ap (test SilentRing) (sym (ap (at_start (silent_ring S.equations)) w.0.1 ∙ b))))))))))
    where
      held : (b : Bool) → (b ≡ false → ⊥) → b ≡ true
      held true f = refl
      held false f = absurd (f refl)
  of_wrong S s once WrongEnd w = absurd w

  -- what applies, where the form and what is said are known
  at_none : (S : Sofar) {l : Raw} {k : Fault} → Applies R S l k → shape l ≡ None → k ≡ NoForm
  at_none S (no_form e) h = refl
  at_none S (no_value e v) h = let z : ◌≡◌ {A = ℕ} 0 1 = cc in absurd (omega arith)
  at_none S (wrong e v m) h = let z : ◌≡◌ {A = ℕ} 0 1 = cc in absurd (omega arith)

  at_form : (S : Sofar) {l : Raw} {k : Fault} → Applies R S l k → (h : Shape) → shape l ≡ Some h → values h ≡ None → k ≡ NoValue
  at_form S (no_form e) h f v = let z : ◌≡◌ {A = ℕ} 0 1 = cc in absurd (omega arith)
  at_form S (no_value e w) h f v = refl
  at_form S (wrong {h = g} {s = s} e w m) h f v = let u : h ≡ g = cc in let x : values h ≡ Some s = ap values u ∙ w in let z : ◌≡◌ {A = ℕ} 0 1 = cc in absurd (omega arith)

  at_said : (S : Sofar) {l : Raw} {k : Fault} → Applies R S l k → (h : Shape) (s : Said) → shape l ≡ Some h → values h ≡ Some s → Wrong R S s k
  at_said S (no_form e) h s f v = let z : ◌≡◌ {A = ℕ} 0 1 = cc in absurd (omega arith)
  at_said S (no_value {h = g} e w) h s f v = let u : h ≡ g = cc in let x : values h ≡ None = ap values u ∙ w in let z : ◌≡◌ {A = ℕ} 0 1 = cc in absurd (omega arith)
  at_said S (wrong {h = g} {s = r} {k = k} e w m) h s f v = let u : g ≡ h = cc in let x : values g ≡ Some s = ap values u ∙ v in let y : r ≡ s = cc in subst (λ z. Wrong R S z k) y m

  abbrev Verdict : Sofar → Raw → Judged → Type 0
  Verdict S l (faulty k) = Least R S l k
  Verdict S l (fine s) = Says R S l s

  verdict : (S : Sofar) (l : Raw) → Once S.lines → Verdict S l (judged R S l)
  verdict S l once = by_shape (shape l) refl
    where
      same_number : {j k : Fault} → j ≡ k → number_of k ≤ number_of j
      same_number {j} {k} e = let w : number_of j ≡ number_of k = ap number_of e in omega arith

      by_fault : (h : Shape) (s : Said) → shape l ≡ Some h → values h ≡ Some s → (o : Option Fault) → fault_said R S s ≡ o → Verdict S l (elim o as (λ _. Judged) [ Some k ↦ faulty k | None ↦ fine s ])
      by_fault h s f v (Some k) g =
          let w = first_is (tests_of R S s) (rising S s) k g in
          record { applies = wrong f v (wrong_of S s once k w.0); smallest = λ j a. w.1 j (of_wrong S s once j (at_said S a h s f v)) }
      by_fault h s f v None g = record { form = h; is_form = f; is_said = v; faultless = λ k a. first_no (tests_of R S s) g k (of_wrong S s once k (at_said S a h s f v)) }

      by_values : (h : Shape) → shape l ≡ Some h → (o : Option Said) → values h ≡ o → Verdict S l (elim o as (λ _. Judged) [ None ↦ faulty NoValue | Some s ↦ elim (fault_said R S s) [ Some k ↦ faulty k | None ↦ fine s ] ])
      by_values h f None v = record { applies = no_value f v; smallest = λ j a. same_number (at_form S a h f v) }
      by_values h f (Some s) v = by_fault h s f v (fault_said R S s) refl

      by_shape : (o : Option Shape) → shape l ≡ o → Verdict S l (elim o as (λ _. Judged) [ None ↦ faulty NoForm | Some h ↦ elim (values h) [ None ↦ faulty NoValue | Some s ↦ elim (fault_said R S s) [ Some k ↦ faulty k | None ↦ fine s ] ] ])
      by_shape None f = record { applies = no_form f; smallest = λ j a. same_number (at_none S a f) }
      by_shape (Some h) f = by_values h f (values h) refl

  -- no pair is named twice behind a faultless line
  once_after : (S : Sofar) (l : Raw) (s : Said) → Says R S l s → Once S.lines → Once (after S (entry_of s)).lines
  once_after S l (Variables v) w once = once
  once_after S l (Joins a b r) w once = once_snoc S.lines (record { a = a; b = b; joint = r }) once (false_from_ne_true _ (λ h. w.faultless SaidBefore (wrong w.is_form w.is_said h)))
  once_after S l (Becomes x a y) w once = once
  once_after S l (Ends x a) w once = once
  once_after S l (Gives n k p q) w once = once
  once_after S l (Starts n) w once = once

  data Stops : Sofar → List Raw → ℕ → Fault → ℕ → Type 0 where
    stop_line : {S S' : Sofar} {ls ls' : List Raw} {l : Raw} {k : Fault} {i j : ℕ} → Upto R S ls i S' (l ∷ ls') j → Least R S' l k → Stops S ls i k j
    stop_end : {S S' : Sofar} {ls : List Raw} {i j : ℕ} → Upto R S ls i S' [] j → Stops S ls i WrongEnd j
    stop_more : {S S' : Sofar} {ls ls' : List Raw} {l m : Raw} {s : Said} {i j : ℕ} → Upto R S ls i S' (l ∷ m ∷ ls') j → Says R S' l s → NamesStart s → Stops S ls i WrongEnd (suc j)

  stops_on : {S : Sofar} {l : Raw} {s : Said} {ls : List Raw} {i j : ℕ} {k : Fault} → Says R S l s → start_of (entry_of s) ≡ None → Stops (after S (entry_of s)) ls (suc i) k j → Stops S (l ∷ ls) i k j
  stops_on a b (stop_line u w) = stop_line (on a b u) w
  stops_on a b (stop_end u) = stop_end (on a b u)
  stops_on a b (stop_more u w v) = stop_more (on a b u) w v

  stops : (i : ℕ) (S : Sofar) (ls : List Raw) (k : Fault) (j : ℕ) → Once S.lines → read_lines R i S ls ≡ refused_at k j → Stops S ls i k j
  stops i S [] k j once e = let a : WrongEnd ≡ k = cc in let b : i ≡ j = cc in subst₂ (Stops S [] i) a b (stop_end here)
  stops i S (l ∷ ls) k j once e = by_line (λ s w. stops (suc i) (after S (entry_of s)) ls k j (once_after S l s w once)) (judged R S l) (verdict S l once) e
    where
      at_end : (s : Said) (n : ℕ) → Says R S l s → start_of (entry_of s) ≡ Some n → (ls : List Raw) → ended i S n ls ≡ refused_at k j → Stops S (l ∷ ls) i k j
      at_end s n f g [] e = let z : ◌≡◌ {A = ℕ} 0 1 = cc in absurd (omega arith)
      at_end s n f g (m ∷ ms) e = let a : WrongEnd ≡ k = cc in let b : suc i ≡ j = cc in subst₂ (Stops S (l ∷ m ∷ ms) i) a b (stop_more here f (n, g))

      by_start : ((s : Said) → Says R S l s → read_lines R (suc i) (after S (entry_of s)) ls ≡ refused_at k j → Stops (after S (entry_of s)) ls (suc i) k j) → (s : Said) → Says R S l s → (o : Option ℕ) → start_of (entry_of s) ≡ o → (elim o as (λ _. Answer) [ Some n ↦ ended i S n ls | None ↦ read_lines R (suc i) (after S (entry_of s)) ls ]) ≡ refused_at k j → Stops S (l ∷ ls) i k j
      by_start ih s f (Some n) g e = at_end s n f g ls e
      by_start ih s f None g e = stops_on f g (ih s f e)

      by_line : ((s : Said) → Says R S l s → read_lines R (suc i) (after S (entry_of s)) ls ≡ refused_at k j → Stops (after S (entry_of s)) ls (suc i) k j) → (v : Judged) → Verdict S l v → (elim v as (λ _. Answer) [ faulty k ↦ refused_at k i | fine s ↦ elim (start_of (entry_of s)) [ Some n ↦ ended i S n ls | None ↦ read_lines R (suc i) (after S (entry_of s)) ls ] ]) ≡ refused_at k j → Stops S (l ∷ ls) i k j
      by_line ih (faulty x) w e = let a : x ≡ k = cc in let b : i ≡ j = cc in subst₂ (Stops S (l ∷ ls) i) a b (stop_line here w)
      by_line ih (fine s) w e = by_start ih s w (start_of (entry_of s)) refl e

  refused : (bytes : List ℕ) {k : Fault} {i : ℕ} → length bytes ≤ 32768 → Stops nothing (raw_lines bytes) 1 k i → Refused R bytes k i
  refused bytes l (stop_line u w) = at_line l u w
  refused bytes l (stop_end u) = no_start l u
  refused bytes l (stop_more u w v) = goes_on l u w v

pub refuses_first : (R : Room) (bytes : List ℕ) (k : Fault) (i : ℕ) → reading R bytes ≡ refused_at k i → Refused R bytes k i
refuses_first R bytes k i e = go (ltb 32768 (length bytes)) refl e
  where
    go : (b : Bool) → ltb 32768 (length bytes) ≡ b → (elim b as (λ _. Answer) [ true ↦ refused_at TooLong 0 | false ↦ read_lines R 1 nothing (raw_lines bytes) ]) ≡ refused_at k i → Refused R bytes k i
    go true g e = let a : TooLong ≡ k = cc in let b : 0 ≡ i = cc in subst₂ (Refused R bytes) a b (too_long (ltb-true _ _ g))
    go false g e = refused R bytes (ltb-false 32768 (length bytes) g) (stops R 1 nothing (raw_lines bytes) k i (λ j k a b l m _ _. omega arith) e)
