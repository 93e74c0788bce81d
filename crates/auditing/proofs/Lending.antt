-- A part of the scratch is lent.
use Rattle.std.proofs.Common.{◌≡◌, ℕ, ◌+◌, ◌-◌, ◌<◌, ◌≤◌, min, max, Bool, true, false, cond, ◌&&◌, ◌||◌, eqb, ltb, List, ◌++◌, length, get_or, take, drop, Some, None, Ok, Err, Option, Result, MatchResult, sym, refl, ap, ◌∙◌, subst, inl, inr, ⊎_elim, arith, take-append-drop, length-take}
use native.Mathlib.Nat.{min-le_right, min-eq_left}
use borrow.Rule.Slice.PartMut.{post_of}
use Rattle.std.proofs.lemmas.List.{get_or_append_left, get_or-append_right, get_or-drop, get_or-take}
use Rattle.std.proofs.lemmas.Bool.{cases_lt, and_parts, eqb-true, ltb-false}
use Rattle.auditing.specs.declared.calls.Answer.{Answer}
use Rattle.auditing.specs.declared.calls.Lent.{Lent}
use Rattle.auditing.specs.Promise.{Swept}
use Rattle.auditing.specs.Telling.{Room, lent_of, of_verdict, of_reply, LeftBy}
use Rattle.auditing.specs.declared.calls.Answer.TheVariants.{Done, Judged, Replied, Refused}
use Rattle.judging.proofs.Replying.{both_none}
use Rattle.judging.specs.declared.replies.Ask.{Ask}
use Rattle.judging.specs.Judged.{Says, Wiped, Left, larger, short, too_few}
use Rattle.judging.specs.Replies.{ReplySays}
use Rattle.pairings.specs.declared.faults.Fault.{Fault}
use Rattle.pairings.specs.declared.faults.Fault.TheVariants.{Blank, Sizes, Short}
use Rattle.sheets.specs.Calls.{blank, unfit, judge_why}
use Rattle.transitions.specs.declared.replies.Reply.{Reply}
use Rattle.transitions.specs.Verdict.{Verdict}
use Rattle.transitions.specs.Lts.{Lts}
use Rattle.transitions.specs.Match.{Pairing}

part_long : (xs : List ℕ) (a r : ℕ) → r ≡ min a (length xs) → length (take r xs) ≡ min a (length xs)
part_long xs a r e =
    let low : min a (length xs) ≤ length xs = min-le_right _ _ in
    length-take r xs ∙ min-eq_left (omega (arith, e, low)) ∙ e

-- How long the lent parts are.
pub part_lent : (marks queue : List ℕ) (part : Lent) (m q : ℕ) → m ≡ min part.marks (length marks) → q ≡ min part.queue (length queue)
    → ◌≡◌ {A = Room} (record { marks = length (take m marks); queue = length (take q queue) }) (lent_of (record { marks = length marks; queue = length queue }) part)
part_lent marks queue part m q e f =
    ap (λ (x : ℕ). record { marks = x; queue = length (take q queue) }) (part_long marks part.marks m e)
    ∙ ap (λ (y : ℕ). record { marks = min part.marks (length marks); queue = y }) (part_long queue part.queue q f)

-- ---- what no refusal says

some_none : (f : Fault) → Some f ≡ None → ⊥
some_none f e = let z : ◌≡◌ {A = ℕ} 0 1 = cc in omega arith

past : (b : Bool) (f : Fault) (o : Option Fault) → cond b (Some f) o ≡ None → (b ≡ false) × (o ≡ None)
past true f o e = absurd (some_none f e)
past false f o e = (refl, e)

into : (b : Bool) (f : Fault) (o : Option Fault) → cond b o (Some f) ≡ None → (b ≡ true) × (o ≡ None)
into true f o e = (refl, e)
into false f o e = absurd (some_none f e)

neither : (a b : Bool) → (a || b) ≡ false → (a ≡ false) × (b ≡ false)
neither false b e = (refl, e)
neither true b e = (e, absurd (let z : ◌≡◌ {A = ℕ} 0 1 = cc in omega arith))

pub record Ready (n m : ℕ) (L R : Lts) (a b : ℕ) : Type 0 where
  pub left : L.states ≡ n
  pub right : R.states ≡ m
  pub marks : larger L R ≤ a
  pub queue : larger L R ≤ b
  pub same : larger L R ≡ max n m

pub ready : (n m : ℕ) (L R : Lts) (a b : ℕ) → judge_why n m L R a b ≡ None → Ready n m L R a b
ready n m L R a b e =
    let two = both_none (unfit n m L R) (too_few L R a b) e in
    let fit = past (blank n m) Blank (cond (eqb L.states n && eqb R.states m) None (Some Sizes)) two.0 in
    let sized = into (eqb L.states n && eqb R.states m) Sizes None fit.1 in
    let same = and_parts (eqb L.states n) (eqb R.states m) sized.0 in
    let long = past (short L R a b) Short None two.1 in
    let each = neither (ltb a (larger L R)) (ltb b (larger L R)) long.0 in
    let l : L.states ≡ n = eqb-true _ _ same.0 in
    let r : R.states ≡ m = eqb-true _ _ same.1 in
    record {
      left = l;
      right = r;
      marks = ltb-false _ _ each.0;
      queue = ltb-false _ _ each.1;
      same = ap (λ (x : ℕ). max x R.states) l ∙ ap (λ (y : ℕ). max n y) r;
    }

-- ---- from a lent part to the whole row

-- P holds where the call was not refused.
abbrev pub When : {A : Type 0} → Result A Fault → Type 0 → Type 0
When (Ok _) P = P
When (Err _) P = Unit {0}

pub when_judged : (why : Option Fault) (L R : Lts) (B : Pairing) (r : Result Verdict Fault) → Says why L R B r → When r (why ≡ None)
when_judged why L R B (Ok v) s = s.0
when_judged why L R B (Err f) s = tt

pub when_replied : (why : Option Fault) (L R : Lts) (B : Pairing) (a : Ask) (r : Result (Option Reply) Fault) → ReplySays why L R B a r → When r (why ≡ None)
when_replied why L R B a (Ok v) s = s.0
when_replied why L R B a (Err f) s = tt

pub when_more : {A P Q : Type 0} (r : Result A Fault) → (P → Q) → When r P → When r Q
when_more (Ok _) f p = f p
when_more (Err _) f p = tt

pub whole : {A : Type 0} (r : Result A Fault) (n N k : ℕ) (xs ys : List ℕ) → When r ((n ≡ N) × (n ≤ k)) → k ≤ length xs → length ys ≡ k → Left r n (take k xs) ys
    → Left r N xs (ys ++ post_of 0 k xs)
whole (Ok _) n N k xs ys fit low len w = record {
  zeros = λ j h. get_or_append_left ys _ 0 j (omega (arith, fit.0, fit.1)) ∙ w.zeros j (omega (arith, fit.0));
  rest = λ j h.
      ⊎_elim
      (λ (l : j < k).
      get_or_append_left ys _ 0 j (omega arith) ∙ w.rest j (omega (arith, fit.0)) ∙ get_or-take k xs j 0 l)
      (λ (l : k ≤ j).
      let e : k + (j - k) ≡ j = omega arith in
      get_or-append_right ys (post_of 0 k xs) k j 0 len l ∙ get_or-drop k xs (j - k) 0 ∙ ap (λ (m : ℕ). get_or xs m 0) e)
      (cases_lt j k);
}
whole (Err _) n N k xs ys fit low len e = ap (λ (zs : List ℕ). zs ++ drop k xs) e ∙ take-append-drop k xs

-- What a call that was lent the first k marks and the first j entries of the queue leaves in all of them.
module _ {A : Type 0} (r : Result A Fault) (n m : ℕ) (L R : Lts) (marks queue ys : List ℕ) (part : Lent) (k j : ℕ) (ek : k ≡ min part.marks (length marks)) (ej : j ≡ min part.queue (length queue)) (free : When r (judge_why n m L R (length (take k marks)) (length (take j queue)) ≡ None)) where
  pub lent_marks : length ys ≡ length (take k marks) → Left r (larger L R) (take k marks) ys → Left r (max n m) marks (ys ++ post_of 0 k marks)
  lent_marks len h =
      let long : length (take k marks) ≡ k = part_long marks part.marks k ek ∙ sym ek in
      let low : min part.marks (length marks) ≤ length marks = min-le_right _ _ in
      whole r (larger L R) (max n m) k marks ys (when_more r (λ w. let z = ready n m L R _ _ w in (z.same, subst (λ (x : ℕ). larger L R ≤ x) long z.marks)) free) (omega (arith, ek, low)) (len ∙ long) h

  pub lent_queue : length ys ≡ length (take j queue) → Left r (larger L R) (take j queue) ys → Left r (max n m) queue (ys ++ post_of 0 j queue)
  lent_queue len h =
      let long : length (take j queue) ≡ j = part_long queue part.queue j ej ∙ sym ej in
      let low : min part.queue (length queue) ≤ length queue = min-le_right _ _ in
      whole r (larger L R) (max n m) j queue ys (when_more r (λ w. let z = ready n m L R _ _ w in (z.same, subst (λ (x : ℕ). larger L R ≤ x) long z.queue)) free) (omega (arith, ej, low)) (len ∙ long) h

-- What is told of a result is its answer.
pub answer_is : {A : Type 0} (of : Result A Fault → Answer) (r : Result A Fault) (a : Answer) (Q : A → Type 0) (E : Fault → Type 0)
    → ((x : A) → Q x → a ≡ of (Ok x)) → ((f : Fault) → E f → a ≡ of (Err f)) → MatchResult r Q E → a ≡ of r
answer_is of (Ok x) a Q E f g h = f x h
answer_is of (Err y) a Q E f g h = g y h

-- The same, by the answer.
pub by_verdict : (r : Result Verdict Fault) (a : Answer) (n : ℕ) (xs ys : List ℕ) → a ≡ of_verdict r → Left r n xs ys → LeftBy a n xs ys
by_verdict (Ok v) a n xs ys e h = subst (λ (x : Answer). LeftBy x n xs ys) (sym e) h
by_verdict (Err f) a n xs ys e h = subst (λ (x : Answer). LeftBy x n xs ys) (sym e) h

pub by_reply : (r : Result (Option Reply) Fault) (a : Answer) (n : ℕ) (xs ys : List ℕ) → a ≡ of_reply r → Left r n xs ys → LeftBy a n xs ys
by_reply (Ok v) a n xs ys e h = subst (λ (x : Answer). LeftBy x n xs ys) (sym e) h
by_reply (Err f) a n xs ys e h = subst (λ (x : Answer). LeftBy x n xs ys) (sym e) h

-- ---- one call after another

then_wiped : (n : ℕ) (xs ys zs : List ℕ) → Swept n xs ys → Wiped n ys zs → Wiped n xs zs
then_wiped n xs ys zs (inl e) w = subst (λ (l : List ℕ). Wiped n l zs) e w
then_wiped n xs ys zs (inr v) w = record { zeros = w.zeros; rest = λ k h. w.rest k h ∙ v.rest k h }

then_same : (n : ℕ) (xs ys zs : List ℕ) → Swept n xs ys → zs ≡ ys → Swept n xs zs
then_same n xs ys zs s e = subst (λ (l : List ℕ). Swept n xs l) (sym e) s

pub swept_more : (a : Answer) (n : ℕ) (xs ys zs : List ℕ) → Swept n xs ys → LeftBy a n ys zs → Swept n xs zs
swept_more Done n xs ys zs s h = then_same n xs ys zs s h
swept_more (Judged _) n xs ys zs s h = inr (then_wiped n xs ys zs s h)
swept_more (Replied _) n xs ys zs s h = inr (then_wiped n xs ys zs s h)
swept_more (Refused _) n xs ys zs s h = then_same n xs ys zs s h

left_more : {A : Type 0} (r : Result A Fault) (n N : ℕ) (xs ys zs : List ℕ) → When r (n ≡ N) → Swept N xs ys → Left r n ys zs → Swept N xs zs
left_more (Ok _) n N xs ys zs e s w = inr (then_wiped N xs ys zs s (subst (λ (k : ℕ). Wiped k ys zs) e w))
left_more (Err _) n N xs ys zs e s w = then_same N xs ys zs s w

pub record EndedAt (N : ℕ) (v : Result Verdict Fault) (xs zs : List ℕ) : Type 0 where
  pub swept : Swept N xs zs
  pub wiped : (w : Verdict) → v ≡ Ok w → Wiped N xs zs

wiped_more : {A : Type 0} (r : Result A Fault) (n N : ℕ) (xs ys zs : List ℕ) → When r (n ≡ N) → Wiped N xs ys → Left r n ys zs → Wiped N xs zs
wiped_more (Ok _) n N xs ys zs e s w = then_wiped N xs ys zs (inr s) (subst (λ (k : ℕ). Wiped k ys zs) e w)
wiped_more (Err _) n N xs ys zs e s w = subst (λ (l : List ℕ). Wiped N xs l) (sym w) s

-- The verdict and the reply after all calls.
pub ended_at : (v : Result Verdict Fault) (r : Result (Option Reply) Fault) (n N : ℕ) (xs ys us zs : List ℕ) → When v (n ≡ N) → When r (n ≡ N) → Swept N xs ys → Left v n ys us → Left r n us zs → EndedAt N v xs zs
ended_at (Ok v) r n N xs ys us zs e f s h k =
    let here : Wiped N xs us = then_wiped N xs ys us s (subst (λ (x : ℕ). Wiped x ys us) e h) in
    let all : Wiped N xs zs = wiped_more r n N xs us zs f here k in
    record { swept = inr all; wiped = λ w q. all }
ended_at (Err v) r n N xs ys us zs e f s h k =
    record { swept = left_more r n N xs us zs f (then_same N xs ys us s h) k; wiped = λ w q. absurd (let z : ◌≡◌ {A = ℕ} 0 1 = cc in omega arith) }
