-- What holds after the first calls of a list.
use Rattle.std.proofs.Common.{◌≡◌, ℕ, zero, suc, ◌+◌, ◌<◌, ◌≤◌, max, List, [], ◌∷◌, ◌++◌, length, get_or, take, set, sym, refl, ap, ◌∙◌, subst, inl, ⊎_elim, arith, length-set, get_or-set_other, get_or-set_same}
use base.Fml.{GName}
use Rattle.std.proofs.lemmas.List.{take_more}
use Rattle.std.proofs.lemmas.Bool.{cases_eq}
use Rattle.auditing.specs.declared.calls.Answer.{Answer}
use Rattle.auditing.specs.declared.calls.Answer.TheVariants.{Done}
use Rattle.auditing.specs.declared.calls.Call.{Call}
use Rattle.auditing.specs.Plain.{next, after, plain}
use Rattle.auditing.specs.Promise.{room_of, Swept}
use Rattle.auditing.specs.Telling.{Room, Tells, LeftBy}
use Rattle.auditing.proofs.Lending.{swept_more}
use Rattle.judging.specs.Judged.{Scratch}
use Rattle.sheets.specs.declared.sheet.Sheet.{Sheet}
use Rattle.sheets.specs.Calls.{no_pairs}
use Rattle.sheets.specs.Sheets.{rows_of, columns_of, standing, Kept}
use Rattle.transitions.specs.Lts.{Lts}
use Rattle.transitions.specs.Match.{Pairing}

after_append : {X Y : Type 0} (n m : ℕ) (B : Pairing) (xs ys : List (Call X Y)) → after n m B (xs ++ ys) ≡ after n m (after n m B xs) ys
after_append n m B [] ys = refl
after_append n m B (x ∷ xs) ys = after_append n m (next n m B x) xs ys

plain_more : {X Y : Type 0} (n m : ℕ) (cs : List (Call X Y)) (i : ℕ) (c : Call X Y) → i < length cs → c ≡ get_or cs i c
    → plain n m (take (i + 1) cs) ≡ next n m (plain n m (take i cs)) c
plain_more n m cs i c h e =
    ap (λ xs. plain n m xs) (take_more cs i c h) ∙ after_append n m no_pairs (take i cs) (get_or cs i c ∷ []) ∙ ap (λ x. next n m (plain n m (take i cs)) x) (sym e)

-- Who lent the bytes, the sizes of the sheet, and the scratch at the start.
pub record Frame : Type 0 where
  pub lender : GName
  pub rows : ℕ
  pub columns : ℕ
  pub scratch : Scratch

module _ {X Y : Type 0} (ml : X → Lts) (mr : Y → Lts) (f : Frame) (calls : List (Call X Y)) where
  abbrev pub ToldAt : List Answer → ℕ → Type 0
  ToldAt answers k = (c : Call X Y) → k < length answers → c ≡ get_or calls k c
      → Tells ml mr f.rows f.columns (room_of f.scratch) (plain f.rows f.columns (take k calls)) c (get_or answers k Done)

  pub record SoFar (i : ℕ) (answers : List Answer) (marks queue : List ℕ) (v : Sheet) : Type 0 where
    pub rows : rows_of v ≡ f.rows
    pub columns : columns_of v ≡ f.columns
    pub lent : v.bytes.ghost_name ≡ f.lender
    pub set : standing v ≡ plain f.rows f.columns (take i calls)
    pub told : (k : ℕ) → k < i → ToldAt answers k
    pub swept_marks : Swept (max f.rows f.columns) f.scratch.marks marks
    pub swept_queue : Swept (max f.rows f.columns) f.scratch.queue queue

-- The answer a was written at i, where there is room.
pub record Wrote (i : ℕ) (a : Answer) (old new : List Answer) : Type 0 where
  pub long : length new ≡ length old
  pub same : (k : ℕ) → (k ≡ i → ⊥) → get_or new k Done ≡ get_or old k Done
  pub here : i < length old → get_or new i Done ≡ a

pub wrote_in : (i : ℕ) (a : Answer) (old : List Answer) → Wrote i a old (set old i a)
wrote_in i a old = record {
  long = length-set old i a;
  same = λ k ne. get_or-set_other old i k a Done ne;
  here = λ h. get_or-set_same old i a Done h;
}

pub wrote_past : (i : ℕ) (a : Answer) (old : List Answer) → length old ≤ i → Wrote i a old old
wrote_past i a old h = record { long = refl; same = λ k ne. refl; here = λ l. absurd (omega arith) }

same_default : {A : Type 0} (xs : List A) (i : ℕ) (d e : A) → i < length xs → get_or xs i d ≡ get_or xs i e
same_default [] i d e h = absurd (omega arith)
same_default (x ∷ xs) zero d e h = refl
same_default (x ∷ xs) (suc i) d e h = same_default xs i d e (omega arith)

module _ {X Y : Type 0} (ml : X → Lts) (mr : Y → Lts) (c : Call X Y) (a : Answer) where
  tells_same : {n n' m m' : ℕ} {room room' : Room} {B B' : Pairing} → n ≡ n' → m ≡ m' → room ≡ room' → B ≡ B' → Tells ml mr n m room B c a → Tells ml mr n' m' room' B' c a
  tells_same {n} {n'} {m} {m'} {room} {room'} {B} {B'} p q r s h =
      subst (λ (x : Pairing). Tells ml mr n' m' room' x c a) s
      (subst (λ (x : Room). Tells ml mr n' m' x B c a) r
      (subst (λ (x : ℕ). Tells ml mr n' x room B c a) q (subst (λ (x : ℕ). Tells ml mr x m room B c a) p h)))

pub so_far_none : {X Y : Type 0} (ml : X → Lts) (mr : Y → Lts) (marks queue : List ℕ) (calls : List (Call X Y)) (answers : List Answer) (v : Sheet) → standing v ≡ no_pairs
    → SoFar ml mr (record { lender = v.bytes.ghost_name; rows = rows_of v; columns = columns_of v; scratch = record { marks = marks; queue = queue } }) calls 0 answers marks queue v
so_far_none ml mr marks queue calls answers v none =
    record { rows = refl; columns = refl; lent = refl; set = none; told = λ k h. absurd (omega arith); swept_marks = inl refl; swept_queue = inl refl }

module _ {X Y : Type 0} (ml : X → Lts) (mr : Y → Lts) (f : Frame) (calls : List (Call X Y)) where
  pub so_far_more : (i : ℕ) (answers answers' : List Answer) (marks marks' queue queue' : List ℕ) (v w : Sheet) (c : Call X Y) (a : Answer)
      → SoFar ml mr f calls i answers marks queue v → Kept v w → standing w ≡ next (rows_of v) (columns_of v) (standing v) c
      → Tells ml mr (rows_of v) (columns_of v) (record { marks = length marks; queue = length queue }) (standing v) c a
      → LeftBy a (max (rows_of v) (columns_of v)) marks marks' → LeftBy a (max (rows_of v) (columns_of v)) queue queue'
      → ◌≡◌ {A = Room} (record { marks = length marks; queue = length queue }) (room_of f.scratch)
      → i < length calls → c ≡ get_or calls i c → Wrote i a answers answers' → SoFar ml mr f calls (i + 1) answers' marks' queue' w
  so_far_more i answers answers' marks marks' queue queue' v w c a so kept step tells lm lq at_room lt e wr = record {
    rows = kept.rows ∙ so.rows;
    columns = kept.columns ∙ so.columns;
    lent = kept.lent ∙ so.lent;
    set = step
        ∙ ap (λ (n : ℕ). next n (columns_of v) (standing v) c) so.rows
        ∙ ap (λ (m : ℕ). next f.rows m (standing v) c) so.columns
        ∙ ap (λ (B : Pairing). next f.rows f.columns B c) so.set
        ∙ sym (plain_more f.rows f.columns calls i c lt e);
    told = λ k h. ⊎_elim (λ (q : k ≡ i). subst (λ (j : ℕ). ToldAt ml mr f calls answers' j) (sym q) here) (λ (ne : k ≡ i → ⊥). before k ne h) (cases_eq k i);
    swept_marks = swept_more a _ f.scratch.marks marks marks' so.swept_marks (subst (λ (n : ℕ). LeftBy a n marks marks') larger_is lm);
    swept_queue = swept_more a _ f.scratch.queue queue queue' so.swept_queue (subst (λ (n : ℕ). LeftBy a n queue queue') larger_is lq);
  }
    where
      larger_is : max (rows_of v) (columns_of v) ≡ max f.rows f.columns
      larger_is = ap (λ (n : ℕ). max n (columns_of v)) so.rows ∙ ap (λ (m : ℕ). max f.rows m) so.columns

      here : ToldAt ml mr f calls answers' i
      here c' l e' =
          let same : c ≡ c' = e ∙ same_default calls i c c' lt ∙ sym e' in
          let room_for : i < length answers = omega (arith, wr.long) in
          let now-it : Tells ml mr f.rows f.columns (room_of f.scratch) (plain f.rows f.columns (take i calls)) c a = tells_same ml mr c a so.rows so.columns at_room so.set tells in
          subst (λ (x : Call X Y). Tells ml mr f.rows f.columns (room_of f.scratch) (plain f.rows f.columns (take i calls)) x (get_or answers' i Done)) same
          (subst (λ (x : Answer). Tells ml mr f.rows f.columns (room_of f.scratch) (plain f.rows f.columns (take i calls)) c x) (sym (wr.here room_for)) now-it)

      before : (k : ℕ) → (k ≡ i → ⊥) → k < i + 1 → ToldAt ml mr f calls answers' k
      before k ne h c' l e' =
          subst (λ (x : Answer). Tells ml mr f.rows f.columns (room_of f.scratch) (plain f.rows f.columns (take k calls)) c' x) (sym (wr.same k ne))
          (so.told k (omega (arith, ne)) c' (omega (arith, wr.long)) e')
