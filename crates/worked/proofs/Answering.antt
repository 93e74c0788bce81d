-- The computed verdict is the one that the calls tell.
use Rattle.std.proofs.Common.{◌≡◌, Bool, true, false, Some, None, Option, sym, refl, ◌∙◌, subst}
use Rattle.std.proofs.lemmas.Bool.{false≢true}
use Rattle.pairings.specs.declared.faults.Fault.{Fault}
use Rattle.transitions.specs.Lts.{Lts, Lawful}
use Rattle.transitions.specs.Match.{Pairing}
use Rattle.transitions.specs.Verdict.{VerdictIs, figures}
use Rattle.transitions.specs.declared.verdicts.Figures.{Figures}
use Rattle.transitions.specs.Verdict.{Verdict}
use Rattle.transitions.proofs.Computed.{verdict}
use Rattle.transitions.proofs.Judging.{verdict_stands, verdicts_exact}
use Rattle.worked.specs.Runs.{Told}

abbrev pub is_free : Option Fault → Bool
is_free None = true
is_free (Some fault) = false

pub tells_free : (o : Option Fault) → is_free o ≡ true → o ≡ None
tells_free None h = refl
tells_free (Some fault) h = absurd (false≢true h)

pub told_by : (why : Option Fault) (L R : Lts) (B : Pairing) (v : Verdict) (f : Figures) → Lawful L → Lawful R → why ≡ None → verdict L R B ≡ v → figures v ≡ f → Told why L R B v f
told_by why L R B v f lawL lawR free e told =
    let one = verdicts_exact L R lawL lawR B in
    let is = subst (VerdictIs L R B) e (verdict_stands L R lawL lawR B) in
    record { says = (free, is); no_other = λ w h. one.only w h ∙ sym (one.only v is); told = told }
