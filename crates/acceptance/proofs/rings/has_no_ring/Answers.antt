use Rattle.std.proofs.Common.{refl, arith}
use Rattle.acceptance.proofs.Rounds.{first_round, next_round, none_left, last_round}
use Rattle.acceptance.proofs.rings.has_no_ring.Goals as goal

pub loop-init : goal.loop-init
loop-init c = first_round c.args.equations.now c.targets_of-marks.result c.targets_of-marks.ensures

pub loop-preserved : goal.loop-preserved
loop-preserved c =
    let r = c.loop.invariant in
    next_round c.args.equations.now c.loop.marks c.loop.counter c.in-Some.next r (omega arith) (c.in-Some.ensures r.marked r.marks_are)

pub returns-in-None : goal.returns-in-None
returns-in-None c =
    let r = c.loop.invariant in
    (λ _. none_left c.args.equations.now c.loop.marks c.loop.counter r (c.in-None.ensures r.marked r.marks_are), λ _. refl)

pub returns : goal.returns
returns c =
    let r = c.loop.invariant in
    last_round c.args.equations.now c.loop.marks c.loop.counter r c.loop-test.false c.walkers_of-2.result c.is_none.result (c.walkers_of-2.ensures r.marked r.marks_are) c.is_none.ensures
