-- How one state of a pair replies to a step of the other.
use Rattle.std.specs.Prelude.{◌≡◌, ℕ, ◌<◌, ◌≢◌, Some, None, Option}
use Rattle.transitions.specs.declared.steps.Step.{Step}
use Rattle.transitions.specs.declared.replies.Reply.{Reply}
use Rattle.transitions.specs.declared.replies.Reply.TheVariants.{Stays, Moves}
use Rattle.transitions.specs.Lts.{Lts, Silent}
use Rattle.transitions.specs.Match.{Pairing, flip, Stands, Answered, Match}

-- t may stay: the step x is silent, and its target stands with t.
abbrev pub Stay : Pairing → Step → ℕ → Type 0
Stay B x t = (x.action ≡ 0) × Stands B x.target t

-- Place p of m holds a step with the action of x to a state that stands with the target of x.
abbrev pub FitsAt : Lts → Pairing → Step → ℕ → ℕ → Type 0
FitsAt R B x m p = (u : ℕ) × (R.step m p ≡ Some (record { action = x.action; target = u })) × Stands B x.target u

-- t may not stay, and leads by silent steps to an m that stands with s and does there, at place p and at no lower one, what x does.
pub record Move (R : Lts) (B : Pairing) (s t : ℕ) (x : Step) (m p : ℕ) : Type 0 where
  pub moves : Stay B x t → ⊥
  pub leads : Silent R t m
  pub keeps : Stands B s m
  pub fits : FitsAt R B x m p
  pub lowest : (q : ℕ) → q < p → FitsAt R B x m q → ⊥

-- What it means that r is the reply of t to the step x of s. There is none only where there is no answer.
abbrev pub ReplyIs : Lts → Pairing → ℕ → ℕ → Step → Option Reply → Type 0
ReplyIs R B s t x (Some Stays) = Stay B x t
ReplyIs R B s t x (Some (Moves m p)) = Move R B s t x m p
ReplyIs R B s t x None = Answered R B s t x.action x.target → ⊥

-- To each step of a left state the right state of every standing pair has a reply.
abbrev pub AlwaysReplies : Lts → Lts → Pairing → Type 0
AlwaysReplies L R B =
    (s t p : ℕ) (x : Step) → s < L.states → t < R.states → Stands B s t → L.step s p ≡ Some x → (r : Option Reply) → ReplyIs R B s t x r → r ≢ None

-- Over a match there is always a reply, from either side.
abbrev pub MatchReplies : Type 0
MatchReplies = (L R : Lts) (B : Pairing) → Match L R B → AlwaysReplies L R B × AlwaysReplies R L (flip B)
