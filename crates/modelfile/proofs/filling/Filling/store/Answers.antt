use Rattle.std.proofs.Common.{◌≡◌, ℕ, ◌+◌, ◌<◌, ◌≤◌, false, List, length, take, set, sym, subst, arith}
use Rattle.std.proofs.lemmas.List.{take_more_set, length-set}
use Rattle.transitions.specs.Listed.{Once}
use Rattle.modelfile.specs.State.{seen, Roomy}
use Rattle.modelfile.specs.Tests.{said_before}
use Rattle.modelfile.proofs.Onces.{once_snoc}
use Rattle.modelfile.proofs.filling.Filling.store.Goals as goal

-- A place that is written to is within the row, and so is the count behind it.
written_in : {A : Type 0} (xs : List A) (n : ℕ) (x : A) → n < length xs → n + 1 ≤ length (set xs n x)
written_in xs n x l = omega (arith, length-set xs n x)

pub invariant_of-self-in-Joins-2-clause-once : goal.invariant_of-self-in-Joins-2-clause-once
invariant_of-self-in-Joins-2-clause-once c =
    let f = c.args.self.now in
    let fresh = subst (λ e. said_before (seen f) e ≡ false) c.in-Joins.is c.requires.fits.fresh in
    subst Once (sym (take_more_set f.lines.now f.line_count c.in-Joins.l (subst (Roomy f) c.in-Joins.is c.requires.fits.roomy))) (once_snoc (take f.line_count f.lines.now) c.in-Joins.l f.once fresh)

pub invariant_of-self-in-Joins-2-clause-lines_in : goal.invariant_of-self-in-Joins-2-clause-lines_in
invariant_of-self-in-Joins-2-clause-lines_in c =
    let f = c.args.self.now in written_in f.lines.now f.line_count c.in-Joins.l (subst (Roomy f) c.in-Joins.is c.requires.fits.roomy)

pub invariant_of-self-in-Does-2-clause-equations_in : goal.invariant_of-self-in-Does-2-clause-equations_in
invariant_of-self-in-Does-2-clause-equations_in c =
    let f = c.args.self.now in written_in f.equations.now f.equation_count c.in-Does.e (subst (Roomy f) c.in-Does.is c.requires.fits.roomy)

pub invariant_of-self-in-Gives-2-clause-terms_in : goal.invariant_of-self-in-Gives-2-clause-terms_in
invariant_of-self-in-Gives-2-clause-terms_in c =
    let f = c.args.self.now in
    let r = subst (Roomy f) c.in-Gives.is c.requires.fits.roomy in written_in f.terms.now f.term_count c.in-Gives.t r.0
