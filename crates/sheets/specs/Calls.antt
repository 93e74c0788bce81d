-- What the calls of a sheet promise.
use Rattle.std.specs.Prelude.{◌≡◌, ℕ, ◌+◌, ◌*◌, Bool, true, false, cond, not, ◌&&◌, ◌||◌, List, length, Some, None, Ok, Err, Option, Result, ◌==◌, nat_le, nat_lt}
use Rattle.std.specs.Borrow.{MutBor}
use Rattle.judging.specs.declared.replies.Ask.{Ask}
use Rattle.judging.specs.Judged.{Scratch, too_few, Judged, Wiped}
pub use Rattle.judging.specs.Replies.{or_else, in_range, unpaired, unasked}
use Rattle.pairings.specs.declared.faults.Fault.{Fault}
use Rattle.pairings.specs.declared.faults.Fault.TheVariants.{NoState, Blank, Stands, Missing, Sizes}
use Rattle.sheets.specs.declared.sheet.Sheet.{Sheet}
use Rattle.sheets.specs.Bits.{needed, with_bit, without_bit}
use Rattle.sheets.specs.Sheets.{rows_of, columns_of, standing, Kept}
use Rattle.transitions.specs.Verdict.{Verdict}
use Rattle.transitions.specs.Lts.{Lts}
use Rattle.transitions.specs.Match.{Pairing}

-- ---- opening

-- Neither model is empty, and the bytes suffice.
abbrev pub opens : Lts → Lts → ℕ → Bool
opens L R bytes = nat_lt 0 L.states && (nat_lt 0 R.states && nat_le (needed L.states R.states) bytes)

abbrev pub no_pairs : Pairing
no_pairs s t = false

-- A sheet of the models' sizes, or the blank one, 0 by 0. The bytes that it needs are cleared, and the rest stay.
pub record Opened (L R : Lts) (bytes : MutBor (List ℕ)) (v : Sheet) : Type 0 where
  pub rows : rows_of v ≡ cond (opens L R (length bytes.now)) L.states 0
  pub columns : columns_of v ≡ cond (opens L R (length bytes.now)) R.states 0
  pub cleared : Wiped (needed (rows_of v) (columns_of v)) bytes.now v.bytes.now
  pub none : standing v ≡ no_pairs
  pub lent : v.bytes.ghost_name ≡ bytes.ghost_name

-- ---- pair and unpair

abbrev pub blank : ℕ → ℕ → Bool
blank n m = n == 0 || m == 0

abbrev pub is_pair : ℕ → ℕ → Pairing
is_pair s t x y = x == s && y == t

-- The pairs with one more, and with one out.
abbrev pub adding : Pairing → ℕ → ℕ → Pairing
adding B s t x y = B x y || is_pair s t x y

abbrev pub removing : Pairing → ℕ → ℕ → Pairing
removing B s t x y = B x y && not (is_pair s t x y)

-- Refused with the first that holds: the sheet is blank, a state is not below its size, the pair stands already.
abbrev pub pair_says : ℕ → ℕ → Pairing → ℕ → ℕ → Result (Unit {0}) Fault
pair_says n m B s t = cond (blank n m) (Err Blank) (cond (in_range n m s t) (cond (B s t) (Err Stands) (Ok tt)) (Err NoState))

-- Refused with the first that holds: the sheet is blank, a state is not below its size, the pair does not stand.
abbrev pub unpair_says : ℕ → ℕ → Pairing → ℕ → ℕ → Result (Unit {0}) Fault
unpair_says n m B s t = cond (blank n m) (Err Blank) (cond (in_range n m s t) (cond (B s t) (Ok tt) (Err Missing)) (Err NoState))

-- Why a pair has no bit: the sheet is blank, or a state is not below its size.
abbrev pub bitless : ℕ → ℕ → ℕ → ℕ → Option Fault
bitless n m s t = cond (blank n m) (Some Blank) (cond (in_range n m s t) None (Some NoState))

-- The pair's bit on a sheet of n by m, or the refusal.
abbrev pub Numbers : ℕ → ℕ → ℕ → ℕ → Result ℕ Fault → Type 0
Numbers n m s t (Ok i) = (blank n m ≡ false) × (in_range n m s t ≡ true) × (i ≡ s * m + t)
Numbers n m s t (Err fault) = bitless n m s t ≡ Some fault

-- A refusal leaves all as it was.
abbrev pub settled : {A : Type 0} → Result (Unit {0}) Fault → A → A → A
settled (Ok _) before after = after
settled (Err _) before after = before

pub record Paired (v w : Sheet) (s t : ℕ) (r : Result (Unit {0}) Fault) : Type 0 where
  pub says : r ≡ pair_says (rows_of v) (columns_of v) (standing v) s t
  pub pairs : standing w ≡ settled r (standing v) (adding (standing v) s t)
  pub bytes : w.bytes.now ≡ settled r v.bytes.now (with_bit v.bytes.now (s * columns_of v + t))
  pub kept : Kept v w

pub record Unpaired (v w : Sheet) (s t : ℕ) (r : Result (Unit {0}) Fault) : Type 0 where
  pub says : r ≡ unpair_says (rows_of v) (columns_of v) (standing v) s t
  pub pairs : standing w ≡ settled r (standing v) (removing (standing v) s t)
  pub bytes : w.bytes.now ≡ settled r v.bytes.now (without_bit v.bytes.now (s * columns_of v + t))
  pub kept : Kept v w

-- ---- judge, without and reply

-- The sheet is blank, or the models' sizes are not its own.
abbrev pub unfit : ℕ → ℕ → Lts → Lts → Option Fault
unfit n m L R = cond (blank n m) (Some Blank) (cond (L.states == n && R.states == m) None (Some Sizes))

-- Why the calls are refused on a sheet of n by m, where the pairs B stand, with so many marks and so long a queue: the first that
-- holds.
abbrev pub judge_why : ℕ → ℕ → Lts → Lts → ℕ → ℕ → Option Fault
judge_why n m L R marks queue = or_else (unfit n m L R) (too_few L R marks queue)

abbrev pub without_why : ℕ → ℕ → Lts → Lts → ℕ → ℕ → Pairing → ℕ → ℕ → Option Fault
without_why n m L R marks queue B s t = or_else (judge_why n m L R marks queue) (unpaired n m B s t)

abbrev pub reply_why : ℕ → ℕ → Lts → Lts → ℕ → ℕ → Pairing → Ask → Option Fault
reply_why n m L R marks queue B a = or_else (judge_why n m L R marks queue) (unasked L R B a)

-- The same of a sheet and scratch.
abbrev pub judge_refusal : Sheet → Lts → Lts → Scratch → Option Fault
judge_refusal v L R z = judge_why (rows_of v) (columns_of v) L R (length z.marks) (length z.queue)

abbrev pub without_refusal : Sheet → Lts → Lts → Scratch → ℕ → ℕ → Option Fault
without_refusal v L R z s t = without_why (rows_of v) (columns_of v) L R (length z.marks) (length z.queue) (standing v) s t

abbrev pub reply_refusal : Sheet → Lts → Lts → Scratch → Ask → Option Fault
reply_refusal v L R z a = reply_why (rows_of v) (columns_of v) L R (length z.marks) (length z.queue) (standing v) a

-- The verdict with one pair out. The sheet stays, on every way out.
pub record JudgedWithout (v w : Sheet) (L R : Lts) (s t : ℕ) (before after : Scratch) (r : Result Verdict Fault) : Type 0 where
  pub judged : Judged (without_refusal v L R before s t) L R (removing (standing v) s t) before after r
  pub pairs : standing w ≡ standing v
  pub bytes : w.bytes.now ≡ v.bytes.now
  pub kept : Kept v w
