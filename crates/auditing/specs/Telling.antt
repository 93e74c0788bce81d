-- What each call answers, and what it leaves in the scratch.
use Rattle.std.specs.Prelude.{◌≡◌, ℕ, min, List, Ok, Err, Option, Result}
use Rattle.auditing.specs.declared.calls.Answer.{Answer}
use Rattle.auditing.specs.declared.calls.Answer.TheVariants.{Done, Judged, Replied, Refused}
use Rattle.auditing.specs.declared.calls.Call.{Call}
use Rattle.auditing.specs.declared.calls.Call.TheVariants.{Pair, Unpair, Judge, Without, Reply}
use Rattle.auditing.specs.declared.calls.Lent.{Lent}
use Rattle.judging.specs.declared.replies.Ask.{Ask}
use Rattle.judging.specs.Judged.{Says as Judge-says, Wiped}
use Rattle.judging.specs.Replies.{ReplySays}
use Rattle.pairings.specs.declared.faults.Fault.{Fault}
use Rattle.sheets.specs.Calls.{pair_says, unpair_says, removing, judge_why, without_why, reply_why}
use Rattle.transitions.specs.declared.replies.Reply.{Reply as Reply-value}
use Rattle.transitions.specs.Verdict.{Verdict}
use Rattle.transitions.specs.Lts.{Lts}
use Rattle.transitions.specs.Match.{Pairing}

-- How long the marks and the queue are.
pub record Room : Type 0 where
  pub marks : ℕ
  pub queue : ℕ

-- The part of them that a call is lent.
abbrev pub lent_of : Room → Lent → Room
lent_of room part = record { marks = min part.marks room.marks; queue = min part.queue room.queue }

-- The answers of all calls in one row.
abbrev pub of_change : Result (Unit {0}) Fault → Answer
of_change (Ok _) = Done
of_change (Err fault) = Refused fault

abbrev pub of_verdict : Result Verdict Fault → Answer
of_verdict (Ok v) = Judged v
of_verdict (Err fault) = Refused fault

abbrev pub of_reply : Result (Option Reply-value) Fault → Answer
of_reply (Ok r) = Replied r
of_reply (Err fault) = Refused fault

-- What judge, without and reply answer on a sheet of n by m where the pairs B stand, over the models L and R.
abbrev pub JudgeTells : ℕ → ℕ → Room → Pairing → Lts → Lts → Lent → Answer → Type 0
JudgeTells n m room B L R part a = (v : Result Verdict Fault) × (a ≡ of_verdict v) × Judge-says (judge_why n m L R (lent_of room part).marks (lent_of room part).queue) L R B v

abbrev pub WithoutTells : ℕ → ℕ → Room → Pairing → Lts → Lts → ℕ → ℕ → Lent → Answer → Type 0
WithoutTells n m room B L R s t part a =
    (v : Result Verdict Fault) × (a ≡ of_verdict v) × Judge-says (without_why n m L R (lent_of room part).marks (lent_of room part).queue B s t) L R (removing B s t) v

abbrev pub ReplyTells : ℕ → ℕ → Room → Pairing → Lts → Lts → Ask → Lent → Answer → Type 0
ReplyTells n m room B L R ask part a =
    (v : Result (Option Reply-value) Fault) × (a ≡ of_reply v) × ReplySays (reply_why n m L R (lent_of room part).marks (lent_of room part).queue B ask) L R B ask v

-- What any call answers.
abbrev pub Tells : {X Y : Type 0} → (X → Lts) → (Y → Lts) → ℕ → ℕ → Room → Pairing → Call X Y → Answer → Type 0
Tells ml mr n m room B (Pair s t) a = a ≡ of_change (pair_says n m B s t)
Tells ml mr n m room B (Unpair s t) a = a ≡ of_change (unpair_says n m B s t)
Tells ml mr n m room B (Judge l r part) a = JudgeTells n m room B (ml l.now) (mr r.now) part a
Tells ml mr n m room B (Without l r s t part) a = WithoutTells n m room B (ml l.now) (mr r.now) s t part a
Tells ml mr n m room B (Reply l r ask part) a = ReplyTells n m room B (ml l.now) (mr r.now) ask part a

-- A row of scratch after a call that answered a: the first n entries are 0 after a verdict or a reply, and all is as before after
-- any other answer.
abbrev pub LeftBy : Answer → ℕ → List ℕ → List ℕ → Type 0
LeftBy Done n before after = after ≡ before
LeftBy (Judged _) n before after = Wiped n before after
LeftBy (Replied _) n before after = Wiped n before after
LeftBy (Refused _) n before after = after ≡ before
