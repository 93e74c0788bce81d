-- What a call for a reply promises: its answer, and what it leaves in the scratch.
use Rattle.std.specs.Prelude.{◌≡◌, ℕ, ◌<◌, Bool, cond, ◌&&◌, Some, None, Ok, Err, Option, Result, ◌==◌, nat_lt}
use Rattle.pairings.specs.declared.faults.Fault.{Fault}
use Rattle.pairings.specs.declared.faults.Fault.TheVariants.{NoState, NoSide, NoStep, Missing}
use Rattle.judging.specs.declared.replies.Ask.{Ask}
use Rattle.judging.specs.Judged.{Scratch, larger, refusal, Left}
use Rattle.transitions.specs.declared.steps.Step.{Step}
use Rattle.transitions.specs.declared.verdicts.Side.{Side}
use Rattle.transitions.specs.declared.replies.Reply.{Reply}
use Rattle.transitions.specs.Lts.{Lts}
use Rattle.transitions.specs.Match.{Pairing, flip}
use Rattle.transitions.specs.Reply.{ReplyIs}
use Rattle.transitions.specs.Verdict.{side_number}

-- The first reason of the two.
abbrev pub or_else : Option Fault → Option Fault → Option Fault
or_else None o = o
or_else (Some fault) o = Some fault

abbrev pub in_range : ℕ → ℕ → ℕ → ℕ → Bool
in_range n m s t = nat_lt s n && nat_lt t m

-- A state is not below its size, or the pair does not stand.
abbrev pub unpaired : ℕ → ℕ → Pairing → ℕ → ℕ → Option Fault
unpaired n m B s t = cond (in_range n m s t) (cond (B s t) None (Some Missing)) (Some NoState)

-- The side is neither 0 nor 1.
abbrev pub unsided : ℕ → Option Fault
unsided side = cond (nat_lt 1 side) (Some NoSide) None

-- There is no step.
abbrev pub stepless : Option Step → Option Fault
stepless None = Some NoStep
stepless (Some x) = None

-- The step that is asked about: of the left state where the side is 0, else of the right one.
abbrev pub wanted : Lts → Lts → Ask → Option Step
wanted L R a = cond (a.side == 0) (L.step a.s a.place) (R.step a.t a.place)

-- Why there is nothing to reply to, if so: the first that holds.
abbrev pub unasked : Lts → Lts → Pairing → Ask → Option Fault
unasked L R B a = or_else (unsided a.side) (or_else (unpaired L.states R.states B a.s a.t) (stepless (wanted L R a)))

-- The same, after the reasons for which a judgement is refused.
abbrev pub reply_refusal : Lts → Lts → Pairing → Scratch → Ask → Option Fault
reply_refusal L R B z a = or_else (refusal L R z) (unasked L R B a)

-- The side of a number, or the refusal.
abbrev pub Names : ℕ → Result Side Fault → Type 0
Names n (Ok side) = (unsided n ≡ None) × (n ≡ side_number side)
Names n (Err fault) = unsided n ≡ Some fault

-- The step x of this side is asked about.
pub record Asked (L R : Lts) (B : Pairing) (a : Ask) (side : Side) (x : Step) : Type 0 where
  pub free : unasked L R B a ≡ None
  pub asking : a.side ≡ side_number side
  pub step : wanted L R a ≡ Some x
  pub left : a.s < L.states
  pub right : a.t < R.states

abbrev pub Asks : Lts → Lts → Pairing → Ask → Result (Side × Step) Fault → Type 0
Asks L R B a (Ok (side, x)) = Asked L R B a side x
Asks L R B a (Err fault) = unasked L R B a ≡ Some fault

-- The other state of the pair replies r to the step x of the asking one.
abbrev pub RepliesTo : Lts → Lts → Pairing → Ask → Step → Option Reply → Type 0
RepliesTo L R B a x r = cond (a.side == 0) (ReplyIs R B a.s a.t x r) (ReplyIs L (flip B) a.t a.s x r)

-- The reply to the step that is asked about, or the refusal.
abbrev pub ReplySays : Option Fault → Lts → Lts → Pairing → Ask → Result (Option Reply) Fault → Type 0
ReplySays why L R B a (Ok r) = (why ≡ None) × ((x : Step) × (wanted L R a ≡ Some x) × RepliesTo L R B a x r)
ReplySays why L R B a (Err fault) = why ≡ Some fault

-- A call for a reply under a pairing, refused for a reason or not.
pub record Replied (why : Option Fault) (L R : Lts) (B : Pairing) (a : Ask) (before after : Scratch) (r : Result (Option Reply) Fault) : Type 0 where
  pub says : ReplySays why L R B a r
  pub marks : Left r (larger L R) before.marks after.marks
  pub queue : Left r (larger L R) before.queue after.queue
