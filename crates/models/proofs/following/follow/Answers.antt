use Rattle.transitions.proofs.Repeating.{not_yet, once_more}
use Rattle.models.proofs.following.follow.Goals as goal

pub loop-made-init : goal.loop-made-init
loop-made-init g c =
    let L = g.M.TransitionSystem.meaning c.args.model.now in
    not_yet L c.args.action L.start _ c.start-state.ensures

pub loop-made-preserved : goal.loop-made-preserved
loop-made-preserved g c =
    let L = g.M.TransitionSystem.meaning c.args.model.now in
    once_more L c.args.action L.start _ _ _ _ c.loop-made.invariant c.in-Some.ensures
