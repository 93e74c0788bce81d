-- The verdict, computed.
use Rattle.std.proofs.Common.{ℕ, zero, suc, Bool, true, false, cond, not, ◌&&◌, ◌||◌, eqb, Some, None, Option, Ok, Err}
use Rattle.transitions.specs.declared.steps.Step.{Step}
use Rattle.transitions.specs.declared.verdicts.Side.TheVariants.{Left, Right}
use Rattle.transitions.specs.declared.verdicts.Counterexample.{Counterexample}
use Rattle.transitions.specs.declared.verdicts.Counterexample.TheVariants.{StartMissing, StepUnanswered, EndUnanswered, RootUnanswered}
use Rattle.transitions.specs.Lts.{Lts}
use Rattle.transitions.specs.Match.{Pairing, flip}
use Rattle.transitions.specs.Verdict.{Verdict}

abbrev pub any : ℕ → (ℕ → Bool) → Bool
any zero f = false
any (suc n) f = f n || any n f

-- Some place holds a silent step to m.
abbrev pub is_silent_to : ℕ → Option Step → Bool
is_silent_to m None = false
is_silent_to m (Some x) = eqb x.action 0 && eqb x.target m

-- s leads to m by silent steps through states below k only.
abbrev pub reach : Lts → ℕ → ℕ → ℕ → Bool
reach L zero s m = eqb s m || any L.width (λ p. is_silent_to m (L.step s p))
reach L (suc k) s m = reach L k s m || (reach L k s k && reach L k k m)

abbrev pub hits : Pairing → ℕ → ℕ → Option Step → Bool
hits B a s' None = false
hits B a s' (Some y) = eqb y.action a && B s' y.target

abbrev pub answered : Lts → Pairing → ℕ → ℕ → ℕ → ℕ → Bool
answered R B s t a s' =
    (eqb a 0 && B s' t) || any R.states (λ m. reach R R.states t m && (B s m && any R.width (λ q. hits B a s' (R.step m q))))

abbrev pub place_ok : Lts → Pairing → ℕ → ℕ → Option Step → Bool
place_ok R B s t None = true
place_ok R B s t (Some x) = answered R B s t x.action x.target

abbrev pub end_ok : Lts → Lts → Pairing → ℕ → ℕ → Bool
end_ok L R B s t = not (L.ends s) || any R.states (λ m. reach R R.states t m && (B s m && R.ends m))

abbrev pub root_ok : Lts → Pairing → Option Step → Bool
root_ok R B None = true
root_ok R B (Some x) = any R.width (λ q. hits B x.action x.target (R.step R.start q))

abbrev pub or_else : Option Counterexample → Option Counterexample → Option Counterexample
or_else None o = o
or_else (Some k) o = Some k

-- The first of n answers.
abbrev pub first : ℕ → (ℕ → Option Counterexample) → Option Counterexample
first zero f = None
first (suc n) f = or_else (first n f) (f n)

abbrev pub test : Bool → Counterexample → Option Counterexample
test b k = cond b None (Some k)

abbrev pub broken_in_pair : Lts → Lts → Pairing → ℕ → ℕ → Option Counterexample
broken_in_pair L R B s t =
    or_else (first L.width (λ p. test (not (B s t) || place_ok R B s t (L.step s p)) (StepUnanswered s t Left p)))
    (or_else (first R.width (λ p. test (not (B s t) || place_ok L (flip B) t s (R.step t p)) (StepUnanswered s t Right p)))
    (or_else (test (not (B s t) || end_ok L R B s t) (EndUnanswered s t Left)) (test (not (B s t) || end_ok R L (flip B) t s) (EndUnanswered s t Right))))

abbrev pub first_broken : Lts → Lts → Pairing → Option Counterexample
first_broken L R B =
    or_else (test (B L.start R.start) (StartMissing L.start R.start))
    (or_else (first L.states (λ s. first R.states (λ t. broken_in_pair L R B s t)))
    (or_else (first L.width (λ p. test (root_ok R B (L.step L.start p)) (RootUnanswered L.start R.start Left p)))
    (first R.width (λ p. test (root_ok L (flip B) (R.step R.start p)) (RootUnanswered L.start R.start Right p)))))

abbrev pub verdict_of : Option Counterexample → Verdict
verdict_of None = Ok tt
verdict_of (Some k) = Err k

abbrev pub verdict : Lts → Lts → Pairing → Verdict
verdict L R B = verdict_of (first_broken L R B)
