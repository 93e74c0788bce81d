use Rattle.std.proofs.Common.{◌≡◌, true, refl, rules, arith, tests}
use Rattle.std.proofs.lemmas.Iterator.{cases_from_any, YieldsList-from_range}
use Rattle.transitions.proofs.Computed.{hits}
use Rattle.judging.proofs.Answered.{rooted_any}
use Rattle.judging.proofs.roots.answers_root.Goals as goal

pub returns : goal.returns
returns g c =
    let R = g.R.TransitionSystem.meaning c.args.right.now in
    let B = g.P.Pairing.standing c.args.pairing.now in
    let start = c.start-start.result in
    rooted_any R B c.args.want start c.start-start.ensures (g.R.TransitionSystem.lawful c.args.right.now) c.width.result c.width.ensures c.any.result
    (cases_from_any _ _ c.any.result (λ p. hits B c.args.want.action c.args.want.target (R.step start p) ≡ true)
    (λ p. hits B c.args.want.action c.args.want.target (R.step start p) ≡ true → ⊥) c.any.ensures.ran
    (YieldsList-from_range 0 c.width.result c.width.result refl (omega arith)) (λ x q k. search (rules, tests)) (λ x q k. search (rules, tests)))
