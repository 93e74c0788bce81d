-- A refused file: its first faulty line, with the smallest number that applies to it.
use Rattle.std.specs.Prelude.{◌≡◌, ℕ, suc, ◌<◌, ◌≤◌, true, List, [], ◌∷◌, length, Some, None}
use Rattle.tokens.specs.Forms.{Shape, shape, values}
use Rattle.tokens.specs.Lines.{Raw, raw_lines}
use Rattle.tokens.specs.declared.said.Said.{Said}
use Rattle.transitions.specs.Listed.{Associative}
use Rattle.modelfile.specs.declared.faults.Fault.{Fault}
use Rattle.modelfile.specs.declared.faults.Fault.TheVariants.{TooLong, NoForm, NoValue, OutOfTurn, OverLimit, WrongNumber, SilentUsed, SaidBefore, TooMany, NotAssociative, SilentRing, WrongEnd}
use Rattle.acceptance.specs.Accepted.{Silently}
use Rattle.modelfile.specs.Accepted.{Room}
use Rattle.modelfile.specs.Entries.{entry_of}
use Rattle.modelfile.specs.Faults.{number_of}
use Rattle.modelfile.specs.Tests.{Sofar, nothing, turn_of, after, out_of_turn, over_limit, wrong_number, silent_used, said_before, too_many, start_of}

-- The line names a start term.
abbrev pub NamesStart : Said → Type 0
NamesStart s = (n : ℕ) × (start_of (entry_of s) ≡ Some n)

module _ (R : Room) where
  -- The fault is one of what the line says, behind what has been read.
  abbrev pub Wrong : Sofar → Said → Fault → Type 0
  Wrong S s TooLong = ⊥
  Wrong S s NoForm = ⊥
  Wrong S s NoValue = ⊥
  Wrong S s OutOfTurn = out_of_turn S.turn (turn_of s) ≡ true
  Wrong S s OverLimit = over_limit S.variables s ≡ true
  Wrong S s WrongNumber = wrong_number (length S.terms) s ≡ true
  Wrong S s SilentUsed = silent_used s ≡ true
  Wrong S s SaidBefore = said_before S (entry_of s) ≡ true
  Wrong S s TooMany = too_many R (length S.lines) (length S.equations) (length S.terms) (entry_of s) ≡ true
  Wrong S s NotAssociative = NamesStart s × (Associative S.lines → ⊥)
  Wrong S s SilentRing = NamesStart s × ((x : ℕ) × Silently S.equations x x)
  Wrong S s WrongEnd = ⊥

  -- The fault applies to the line.
  pub data Applies (S : Sofar) : Raw → Fault → Type 0 where
    no_form : {l : Raw} → shape l ≡ None → Applies S l NoForm
    no_value : {l : Raw} {h : Shape} → shape l ≡ Some h → values h ≡ None → Applies S l NoValue
    wrong : {l : Raw} {h : Shape} {s : Said} {k : Fault} → shape l ≡ Some h → values h ≡ Some s → Wrong S s k → Applies S l k

  pub record Least (S : Sofar) (l : Raw) (k : Fault) : Type 0 where
    pub applies : Applies S l k
    pub smallest : (j : Fault) → Applies S l j → number_of k ≤ number_of j

  -- The line says s, and no fault applies to it.
  pub record Says (S : Sofar) (l : Raw) (s : Said) : Type 0 where
    pub form : Shape
    pub is_form : shape l ≡ Some form
    pub is_said : values form ≡ Some s
    pub faultless : (k : Fault) → Applies S l k → ⊥

  -- From line i, faultless lines that name no start lead on to line i'.
  pub data Upto : Sofar → List Raw → ℕ → Sofar → List Raw → ℕ → Type 0 where
    here : {S : Sofar} {ls : List Raw} {i : ℕ} → Upto S ls i S ls i
    on : {S S' : Sofar} {l : Raw} {s : Said} {ls ls' : List Raw} {i i' : ℕ} → Says S l s → start_of (entry_of s) ≡ None → Upto (after S (entry_of s)) ls (suc i) S' ls' i' → Upto S (l ∷ ls) i S' ls' i'

  -- The file is refused, with the fault and the line.
  pub data Refused (bytes : List ℕ) : Fault → ℕ → Type 0 where
    too_long : 32768 < length bytes → Refused bytes TooLong 0
    at_line : {S : Sofar} {l : Raw} {ls : List Raw} {k : Fault} {i : ℕ} → length bytes ≤ 32768 → Upto nothing (raw_lines bytes) 1 S (l ∷ ls) i → Least S l k → Refused bytes k i
    no_start : {S : Sofar} {i : ℕ} → length bytes ≤ 32768 → Upto nothing (raw_lines bytes) 1 S [] i → Refused bytes WrongEnd i
    goes_on : {S : Sofar} {l m : Raw} {ls : List Raw} {s : Said} {i : ℕ} → length bytes ≤ 32768 → Upto nothing (raw_lines bytes) 1 S (l ∷ m ∷ ls) i → Says S l s → NamesStart s → Refused bytes WrongEnd (suc i)
