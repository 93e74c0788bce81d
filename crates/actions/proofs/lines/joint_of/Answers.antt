use Rattle.std.proofs.Common.{sym, ◌∙◌}
use Rattle.transitions.proofs.Listing.{first_joint, no_joint}
use Rattle.actions.proofs.lines.joint_of.Goals as goal

pub returns-in_err-place : goal.returns-in_err-place
returns-in_err-place c = c.from_residual.ensures ∙ sym (no_joint _ c.args.lines.now c.args.a c.args.b c.in_err-place.ensures)

pub returns : goal.returns
returns c =
    let h = c.in_ok-place.ensures in
    sym (first_joint _ c.args.lines.now c.args.a c.args.b c.in_ok-place.place h.0 h.1 h.2)
