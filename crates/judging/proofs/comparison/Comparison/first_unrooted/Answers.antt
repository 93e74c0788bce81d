use Rattle.std.proofs.Common.{rules}
use Rattle.std.proofs.lemmas.Iterator.{first_from_Range}
use Rattle.transitions.specs.Verdict.{AtRoot}
use Rattle.judging.proofs.Answered.{lowest_found, out_of_not, in_of_not}
use Rattle.judging.proofs.comparison.Comparison.first_unrooted.Goals as goal

pub returns : goal.returns
returns g c =
    let L = g.L.TransitionSystem.meaning c.args.self.now.left.now in
    let R = g.R.TransitionSystem.meaning c.args.self.now.right.now in
    let B = g.P.Pairing.standing c.args.self.now.pairing.now in
    rw (← c.width.ensures)
    (lowest_found c.width.result (AtRoot L R B L.start) c.find.result
    (first_from_Range _ _ _ c.find.result (λ p. AtRoot L R B L.start p → ⊥) (AtRoot L R B L.start) c.find.ensures.ran (λ x q k. search (rules, out_of_not (AtRoot L R B L.start x))) (λ x q k. search (rules, in_of_not (AtRoot L R B L.start x)))))
