-- From the calls to the promise.
use Rattle.std.proofs.Common.{◌≡◌, ℕ, ◌<◌, ◌≤◌, max, Bool, true, false, cond, eqb, ltb, List, length, Some, None, Ok, Err, Option, Result, sym, refl, ap, ◌∙◌, subst, arith, MutBor}
use base.Fml.{GName}
use Rattle.std.proofs.lemmas.List.{take_all}
use Rattle.std.proofs.lemmas.Bool.{and_parts, ltb-true}
use Rattle.auditing.specs.declared.audits.Said.{Said}
use Rattle.auditing.specs.declared.calls.Answer.{Answer}
use Rattle.auditing.specs.declared.calls.Call.{Call}
use Rattle.auditing.specs.Plain.{plain}
use Rattle.auditing.specs.Promise.{room_of, Means, Audited}
use Rattle.auditing.proofs.Folding.{SoFar}
use Rattle.auditing.proofs.Lending.{ready, when_judged, when_replied, when_more, ended_at}
use Rattle.judging.proofs.Replying.{both_none, paired}
use Rattle.judging.specs.declared.replies.Ask.{Ask}
use Rattle.judging.specs.Judged.{Scratch, Says, Judged, larger}
use Rattle.judging.specs.Replies.{unsided, stepless, wanted, unasked, unpaired, ReplySays, Replied}
use Rattle.pairings.specs.declared.faults.Fault.{Fault}
use Rattle.sheets.specs.declared.sheet.Sheet.{Sheet}
use Rattle.sheets.specs.Calls.{judge_why, reply_why, judge_refusal, reply_refusal}
use Rattle.sheets.specs.Sheets.{rows_of, columns_of, standing}
use Rattle.transitions.proofs.Follow.{runs_followed}
use Rattle.transitions.proofs.Judging.{verdicts_exact}
use Rattle.transitions.proofs.Merging.{merges_keep}
use Rattle.transitions.proofs.Relabel.{block_keeps, hide_keeps}
use Rattle.transitions.proofs.Replying.{match_replies}
use Rattle.transitions.specs.declared.replies.Reply.{Reply}
use Rattle.transitions.specs.Verdict.{Verdict}
use Rattle.transitions.specs.Lts.{Lts, Lawful}
use Rattle.transitions.specs.Match.{Pairing, flip, Match}
use Rattle.transitions.specs.Reply.{ReplyIs}
use Rattle.transitions.specs.Verdict.{VerdictIs}

some_none : (f : Fault) → Some f ≡ None → ⊥
some_none f e = let z : ◌≡◌ {A = ℕ} 0 1 = cc in omega arith

ok_is : (v w : Verdict) → ◌≡◌ {A = Result Verdict Fault} (Ok v) (Ok w) → v ≡ w
ok_is v w e = cc

exact_from : (L R : Lts) → Lawful L → Lawful R → (B : Pairing) (why : Option Fault) (r : Result Verdict Fault) → Says why L R B r → why ≡ None
    → (r ≡ Ok (Ok tt) → Match L R B) × (Match L R B → r ≡ Ok (Ok tt))
exact_from L R ll lr B why (Ok v) (e, is) none =
    let one = verdicts_exact L R ll lr B in
    (λ q. subst (λ (x : Verdict). VerdictIs L R B x) (ok_is v (Ok tt) q) is, λ m. ap (λ (x : Verdict). Ok x) (one.only v is ∙ sym (one.only (Ok tt) m)))
exact_from L R ll lr B why (Err f) e none = absurd (some_none f (sym e ∙ none))

-- Over a match a reply that was not refused is something.
never_none : (n m : ℕ) (L R : Lts) (a b : ℕ) (B : Pairing) (ask : Ask) → Match L R B → ReplySays (reply_why n m L R a b B ask) L R B ask (Ok None) → ⊥
never_none n m L R a b B ask match (none, (x, asks, rep)) =
    let one = both_none (judge_why n m L R a b) (unasked L R B ask) none in
    let two = both_none (unsided ask.side) _ one.1 in
    let three = both_none (unpaired L.states R.states B ask.s ask.t) (stepless (wanted L R ask)) two.1 in
    let st = paired L.states R.states B ask.s ask.t three.0 in
    by_side (eqb ask.side 0) st.left st.right st.stands asks rep
  where
    by_side : (z : Bool) → ask.s < L.states → ask.t < R.states → B ask.s ask.t ≡ true → cond z (L.step ask.s ask.place) (R.step ask.t ask.place) ≡ Some x
        → cond z (ReplyIs R B ask.s ask.t x None) (ReplyIs L (flip B) ask.t ask.s x None) → ⊥
    by_side true hs ht st is rep = (match_replies L R B match).0 ask.s ask.t ask.place x hs ht st is None rep refl
    by_side false hs ht st is rep = (match_replies L R B match).1 ask.t ask.s ask.place x ht hs st is None rep refl

inside : (v : Sheet) (s t : ℕ) → standing v s t ≡ true → (s < rows_of v) × (t < columns_of v)
inside v s t h =
    let a = and_parts (ltb s (rows_of v)) _ h in
    let b = and_parts (ltb t (columns_of v)) _ a.1 in
    (ltb-true _ _ a.0, ltb-true _ _ b.0)

means : (n m : ℕ) (B : Pairing) → ((s t : ℕ) → B s t ≡ true → (s < n) × (t < m)) → Means n m B
means n m B ins = record {
  runs = λ L R z k.
      let i = ins _ _ k.starts in
      runs_followed L R z.left z.right (omega (arith, z.rows, i.0)) (omega (arith, z.columns, i.1)) B k;
  replies = λ L R z k. match_replies L R B k;
  blocks = λ L R z set quiet k. block_keeps set quiet L R B k;
  hides = λ L R z set quiet k. hide_keeps set quiet L R B k;
  merges = λ L R U z lu join laws k a b. merges_keep L R U z.left z.right lu B join laws k a b;
}

module _ {X Y : Type 0} (ml : X → Lts) (mr : Y → Lts) (bytes : MutBor (List ℕ)) (n m : ℕ) (calls : List (Call X Y)) (L R : Lts) (ll : Lawful L) (lr : Lawful R) where
  pub promised : (ask : Ask) (before : Scratch) (i : ℕ) (answers : List Answer) (lender : GName) (rows columns : ℕ) (said : Said) (v : Sheet) (mid mid' after : Scratch)
      → lender ≡ bytes.ghost_name → rows ≡ n → columns ≡ m
      → SoFar ml mr (record { lender = lender; rows = rows; columns = columns; scratch = before }) calls i answers mid.marks mid.queue v → length calls ≤ i
      → Judged (judge_refusal v L R mid) L R (standing v) mid mid' said.verdict → room_of mid ≡ room_of before
      → Replied (reply_refusal v L R mid' ask) L R (standing v) ask mid' after said.reply → room_of mid' ≡ room_of before
      → Audited ml mr bytes n m calls L R ask before after answers said v
  promised ask before i answers lender rows columns said v mid mid' after el en em so whole judge e' reply e'' =
      let so' : SoFar ml mr (record { lender = lender; rows = n; columns = m; scratch = before }) calls i answers mid.marks mid.queue v =
      subst (λ (y : ℕ). SoFar ml mr (record { lender = lender; rows = n; columns = y; scratch = before }) calls i answers mid.marks mid.queue v) em
      (subst (λ (x : ℕ). SoFar ml mr (record { lender = lender; rows = x; columns = columns; scratch = before }) calls i answers mid.marks mid.queue v) en so) in
      let all : standing v ≡ plain n m calls = so'.set ∙ ap (λ (cs : List (Call X Y)). plain n m cs) (take_all i calls whole) in
      let verdict : Says (judge_why n m L R (room_of before).marks (room_of before).queue) L R (plain n m calls) said.verdict =
      subst (λ (B : Pairing). Says (judge_why n m L R (room_of before).marks (room_of before).queue) L R B said.verdict) all
      (subst (λ z. Says (judge_why n m L R z.marks z.queue) L R (standing v) said.verdict) e'
      (subst (λ (y : ℕ). Says (judge_why n y L R (room_of mid).marks (room_of mid).queue) L R (standing v) said.verdict) so'.columns
      (subst (λ (x : ℕ). Says (judge_why x (columns_of v) L R (room_of mid).marks (room_of mid).queue) L R (standing v) said.verdict) so'.rows judge.says))) in
      let told : ReplySays (reply_why n m L R (room_of before).marks (room_of before).queue (plain n m calls) ask) L R (plain n m calls) ask said.reply =
      subst (λ (B : Pairing). ReplySays (reply_why n m L R (room_of before).marks (room_of before).queue B ask) L R B ask said.reply) all
      (subst (λ z. ReplySays (reply_why n m L R z.marks z.queue (standing v) ask) L R (standing v) ask said.reply) e''
      (subst (λ (y : ℕ). ReplySays (reply_why n y L R (room_of mid').marks (room_of mid').queue (standing v) ask) L R (standing v) ask said.reply) so'.columns
      (subst (λ (x : ℕ). ReplySays (reply_why x (columns_of v) L R (room_of mid').marks (room_of mid').queue (standing v) ask) L R (standing v) ask said.reply) so'.rows reply.says))) in
      let sized-v = when_more said.verdict (λ w. (ready n m L R _ _ w).same) (when_judged _ L R (plain n m calls) said.verdict verdict) in
      let sized-r = when_more said.reply (λ w. (ready n m L R _ _ (both_none (judge_why n m L R (room_of before).marks (room_of before).queue) (unasked L R (plain n m calls) ask) w).0).same)
      (when_replied _ L R (plain n m calls) ask said.reply told) in
      let marks = ended_at said.verdict said.reply (larger L R) (max n m) before.marks mid.marks mid'.marks after.marks sized-v sized-r so'.swept_marks judge.marks reply.marks in
      let queue = ended_at said.verdict said.reply (larger L R) (max n m) before.queue mid.queue mid'.queue after.queue sized-v sized-r so'.swept_queue judge.queue reply.queue in
      record {
        rows = so'.rows;
        columns = so'.columns;
        lent = so'.lent ∙ el;
        set = all;
        told = λ k c h l e. so'.told k (omega arith) c l e;
        verdict = verdict;
        exact = exact_from L R ll lr (plain n m calls) _ said.verdict verdict;
        means = means n m (plain n m calls)
            (λ x y h. let b = inside v x y (ap (λ (B : Pairing). B x y) all ∙ h) in (subst (λ (z : ℕ). x < z) so'.rows b.0, subst (λ (z : ℕ). y < z) so'.columns b.1));
        reply = told;
        replies = λ match e. never_none n m L R _ _ (plain n m calls) ask match
            (subst (λ (z : Result (Option Reply) Fault). ReplySays (reply_why n m L R (room_of before).marks (room_of before).queue (plain n m calls) ask) L R (plain n m calls) ask z) e told);
        marks = marks.swept;
        queue = queue.swept;
        cleared = λ w e. (marks.wiped w e, queue.wiped w e);
      }
