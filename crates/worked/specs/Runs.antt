-- The kinds of worked runs, and what it means that one holds.
use Rattle.std.specs.Prelude.{◌≡◌, ℕ, List, [], ◌∷◌, Ok, Option}
use Rattle.judging.specs.Judged.{larger, Says}
use Rattle.judging.specs.Replies.{ReplySays}
use Rattle.judging.specs.declared.replies.Ask.{Ask}
use Rattle.pairings.specs.declared.faults.Fault.{Fault}
use Rattle.sheets.specs.Calls.{no_pairs, adding, removing, judge_why, without_why, reply_why}
use Rattle.transitions.specs.Lts.{Lts}
use Rattle.transitions.specs.Match.{Pairing}
use Rattle.transitions.specs.Verdict.{VerdictIs, figures}
use Rattle.transitions.specs.declared.replies.Reply.{Reply}
use Rattle.transitions.specs.declared.verdicts.Figures.{Figures}
use Rattle.transitions.specs.Verdict.{Verdict}
use Rattle.worked.specs.Making.{Refuses, Makes, Lists}

pub data Run : Type 0 where
  -- the file unfolds into the table with this text
  unfolds : (file listing : List ℕ) → Run
  -- the file is refused with the number at the line
  refuses : (file : List ℕ) (number line : ℕ) → Run
  -- judged on a sheet with these pairs, the files' models have the verdict, and its figures are these
  judges : (left right : List ℕ) (pairs : List (ℕ × ℕ)) → Verdict → Figures → Run
  -- the same without one of the pairs
  judges_without : (left right : List ℕ) (pairs : List (ℕ × ℕ)) (out : ℕ × ℕ) → Verdict → Figures → Run
  -- asked on such a sheet, the other state replies
  replies : (left right : List ℕ) (pairs : List (ℕ × ℕ)) → Ask → Option Reply → Run

-- What stands on a sheet once the pairs are put there, one by one.
abbrev pub putting : Pairing → List (ℕ × ℕ) → Pairing
putting B [] = B
putting B (pair ∷ pairs) = putting (adding B pair.0 pair.1) pairs

abbrev pub sheet : List (ℕ × ℕ) → Pairing
sheet pairs = putting no_pairs pairs

-- The files have models, and of all that the calls may make of the files P holds.
pub record Between (left right : List ℕ) (P : Lts → Lts → Type 0) : Type 0 where
  pub left_model : (L : Lts) × Makes left L
  pub right_model : (R : Lts) × Makes right R
  pub every : (L R : Lts) → Makes left L → Makes right R → P L R

-- The call is not refused, and gives the verdict v and no other; these are its figures.
pub record Told (why : Option Fault) (L R : Lts) (B : Pairing) (v : Verdict) (f : Figures) : Type 0 where
  pub says : Says why L R B (Ok v)
  pub no_other : (w : Verdict) → VerdictIs L R B w → w ≡ v
  pub told : figures v ≡ f

-- The call is not refused, and the reply is r and no other.
pub record Replied (why : Option Fault) (L R : Lts) (B : Pairing) (ask : Ask) (r : Option Reply) : Type 0 where
  pub says : ReplySays why L R B ask (Ok r)
  pub no_other : (q : Option Reply) → ReplySays why L R B ask (Ok q) → q ≡ r

-- A sheet of the models' sizes; marks and a queue of the larger size.
abbrev pub Holds : Run → Type 0
Holds (unfolds file listing) = Lists file listing
Holds (refuses file number line) = Refuses file number line
Holds (judges left right pairs v f) =
    Between left right (λ L R. Told (judge_why L.states R.states L R (larger L R) (larger L R)) L R (sheet pairs) v f)
Holds (judges_without left right pairs out v f) =
    Between left right
    (λ L R. Told (without_why L.states R.states L R (larger L R) (larger L R) (sheet pairs) out.0 out.1) L R (removing (sheet pairs) out.0 out.1) v f)
Holds (replies left right pairs ask r) =
    Between left right
    (λ L R. Replied (reply_why L.states R.states L R (larger L R) (larger L R) (sheet pairs) ask) L R (sheet pairs) ask r)
