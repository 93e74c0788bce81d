-- What is promised of every list of calls on a new sheet, and of every two models of its sizes.
use Rattle.std.specs.Prelude.{◌≡◌, ℕ, ◌<◌, max, false, cond, ◌⊎◌, List, length, take, None, Ok, ◌≢◌, slice_index_or}
use Rattle.std.specs.Borrow.{MutBor}
use Rattle.auditing.specs.declared.audits.Said.{Said}
use Rattle.auditing.specs.declared.calls.Answer.{Answer}
use Rattle.auditing.specs.declared.calls.Answer.TheVariants.{Done}
use Rattle.auditing.specs.declared.calls.Call.{Call}
use Rattle.auditing.specs.Plain.{plain}
use Rattle.auditing.specs.Telling.{Room, Tells}
use Rattle.judging.specs.declared.replies.Ask.{Ask}
use Rattle.judging.specs.Judged.{Scratch, Says as Judge-says, Wiped}
use Rattle.judging.specs.Replies.{ReplySays}
use Rattle.sheets.specs.declared.sheet.Sheet.{Sheet}
use Rattle.sheets.specs.Calls.{opens, judge_why, reply_why}
use Rattle.sheets.specs.Sheets.{rows_of, columns_of, standing}
use Rattle.transitions.specs.Verdict.{Verdict}
use Rattle.transitions.specs.Lts.{Lts, Lawful}
use Rattle.transitions.specs.Made.{Actions, Joins, Communication, block, hide, merge, beside}
use Rattle.transitions.specs.Match.{Pairing, flip, Match}
use Rattle.transitions.specs.Reply.{AlwaysReplies}
use Rattle.transitions.specs.Rules.{Iff}
use Rattle.transitions.specs.Theorems.{Followed}

-- The sizes of a sheet that is opened for two models over so many bytes: 0 and 0 where it is blank.
abbrev pub rows_for : Lts → Lts → ℕ → ℕ
rows_for L R bytes = cond (opens L R bytes) L.states 0

abbrev pub columns_for : Lts → Lts → ℕ → ℕ
columns_for L R bytes = cond (opens L R bytes) R.states 0

-- How long the scratch is.
abbrev pub room_of : Scratch → Room
room_of z = record { marks = length z.marks; queue = length z.queue }

-- Two models of the sizes n and m.
pub record Sized (n m : ℕ) (L R : Lts) : Type 0 where
  pub left : Lawful L
  pub right : Lawful R
  pub rows : L.states ≡ n
  pub columns : R.states ≡ m

-- What it means that B is a match of two models of the sizes n and m, whatever they are.
pub record Means (n m : ℕ) (B : Pairing) : Type 0 where
  -- each run from either start is followed from the other, the last states stand, and their ends are answered
  pub runs : (L R : Lts) → Sized n m L R → Match L R B → Followed L R B × Followed R L (flip B)
  -- every step has a reply
  pub replies : (L R : Lts) → Sized n m L R → Match L R B → AlwaysReplies L R B × AlwaysReplies R L (flip B)
  -- one set of visible actions blocked or hidden in both keeps the match
  pub blocks : (L R : Lts) → Sized n m L R → (set : Actions) → set 0 ≡ false → Match L R B → Match (block set L) (block set R) B
  pub hides : (L R : Lts) → Sized n m L R → (set : Actions) → set 0 ≡ false → Match L R B → Match (hide set L) (hide set R) B
  -- a third model merged with both under any communication keeps it, unless a merge is empty
  pub merges : (L R U : Lts) → Sized n m L R → Lawful U → (join : Joins) → Communication join → Match L R B
      → 0 < (merge join L U).states → 0 < (merge join R U).states → Match (merge join L U) (merge join R U) (beside U.states B)

-- A row of scratch at the end: as it was, or its first n entries are 0 and the rest is as it was.
abbrev pub Swept : ℕ → List ℕ → List ℕ → Type 0
Swept n before after = (after ≡ before) ⊎ Wiped n before after

-- What an audit promises of a list of calls on a new sheet of n by m over lent bytes, and then of the models L and R.
pub record Audited {X Y : Type 0} (ml : X → Lts) (mr : Y → Lts) (bytes : MutBor (List ℕ)) (n m : ℕ) (calls : List (Call X Y)) (L R : Lts) (ask : Ask) (before after : Scratch) (answers : List Answer) (said : Said) (v : Sheet) : Type 0 where
  -- the sizes of the sheet, over the bytes that were lent
  pub rows : rows_of v ≡ n
  pub columns : columns_of v ≡ m
  pub lent : v.bytes.ghost_name ≡ bytes.ghost_name
  -- the standing pairs are the plain set
  pub set : standing v ≡ plain n m calls
  -- each call answered as it must where the plain set of the calls before it stood
  pub told : (k : ℕ) (c : Call X Y) → k < length calls → k < length answers → c ≡ slice_index_or calls k c → Tells ml mr n m (room_of before) (plain n m (take k calls)) c (slice_index_or answers k Done)
  -- the verdict is exact: a match exactly where the pairs are one, else the first broken condition, or the refusal
  pub verdict : Judge-says (judge_why n m L R (room_of before).marks (room_of before).queue) L R (plain n m calls) said.verdict
  pub exact : judge_why n m L R (room_of before).marks (room_of before).queue ≡ None → Iff (said.verdict ≡ Ok (Ok tt)) (Match L R (plain n m calls))
  -- what a match of any two models of the sizes means
  pub means : Means n m (plain n m calls)
  -- the reply, and that over a match it is never nothing
  pub reply : ReplySays (reply_why n m L R (room_of before).marks (room_of before).queue (plain n m calls) ask) L R (plain n m calls) ask said.reply
  pub replies : Match L R (plain n m calls) → said.reply ≢ Ok None
  -- the scratch: nothing from the larger size on is touched, and after a verdict the entries below it are 0
  pub marks : Swept (max n m) before.marks after.marks
  pub queue : Swept (max n m) before.queue after.queue
  pub cleared : (w : Verdict) → said.verdict ≡ Ok w → Wiped (max n m) before.marks after.marks × Wiped (max n m) before.queue after.queue
