-- What a judgement promises: its answer, and what it leaves in the scratch.
use Rattle.std.specs.Prelude.{◌≡◌, ℕ, ◌<◌, ◌≤◌, max, Bool, cond, ◌||◌, List, length, Some, None, Ok, Err, Option, Result, ◌==◌, nat_lt, slice_index}
use Rattle.pairings.specs.declared.faults.Fault.{Fault}
use Rattle.pairings.specs.declared.faults.Fault.TheVariants.{Blank, Short}
use Rattle.transitions.specs.Verdict.{Verdict}
use Rattle.transitions.specs.Lts.{Lts}
use Rattle.transitions.specs.Match.{Pairing}
use Rattle.transitions.specs.Verdict.{VerdictIs}

-- The marks and the queue.
pub record Scratch : Type 0 where
  pub marks : List ℕ
  pub queue : List ℕ

-- The larger size of two models.
abbrev pub larger : Lts → Lts → ℕ
larger L R = max L.states R.states

-- So many marks, or so many entries of the queue, are fewer than the larger size.
abbrev pub short : Lts → Lts → ℕ → ℕ → Bool
short L R marks queue = nat_lt marks (larger L R) || nat_lt queue (larger L R)

abbrev pub too_few : Lts → Lts → ℕ → ℕ → Option Fault
too_few L R marks queue = cond (short L R marks queue) (Some Short) None

-- The marks or the queue are shorter than the larger size.
abbrev pub too_short : Lts → Lts → Scratch → Option Fault
too_short L R z = too_few L R (length z.marks) (length z.queue)

-- Why a judgement is refused, if it is: a model is empty, or the scratch is too short; the first of the two that holds.
abbrev pub refusal : Lts → Lts → Scratch → Option Fault
refusal L R z = cond (L.states == 0 || R.states == 0) (Some Blank) (too_short L R z)

-- A check passes where nothing refuses, and else gives the reason.
abbrev pub Checks : Option Fault → Result (Unit {0}) Fault → Type 0
Checks why (Ok _) = why ≡ None
Checks why (Err fault) = why ≡ Some fault

-- The verdict on the pairing, or the refusal.
abbrev pub Says : Option Fault → Lts → Lts → Pairing → Result Verdict Fault → Type 0
Says why L R B (Ok v) = (why ≡ None) × VerdictIs L R B v
Says why L R B (Err fault) = why ≡ Some fault

-- The first n entries are 0, and the rest is as before.
pub record Wiped (n : ℕ) (before after : List ℕ) : Type 0 where
  pub zeros : (k : ℕ) → k < n → slice_index after k ≡ 0
  pub rest : (k : ℕ) → n ≤ k → slice_index after k ≡ slice_index before k

-- A row of scratch after a call: wiped, or as before where the call was refused.
abbrev pub Left : {A : Type 0} → Result A Fault → ℕ → List ℕ → List ℕ → Type 0
Left (Ok _) n before after = Wiped n before after
Left (Err _) n before after = after ≡ before

-- A judgement of two models under a pairing, refused for a reason or not.
pub record Judged (why : Option Fault) (L R : Lts) (B : Pairing) (before after : Scratch) (r : Result Verdict Fault) : Type 0 where
  pub says : Says why L R B r
  pub marks : Left r (larger L R) before.marks after.marks
  pub queue : Left r (larger L R) before.queue after.queue
