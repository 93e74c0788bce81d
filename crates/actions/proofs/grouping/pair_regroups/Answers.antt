use Rattle.std.proofs.Common.{refl}
use Rattle.std.proofs.lemmas.Bool.{both_ways}
use Rattle.transitions.proofs.Grouping.{two_looks, no_looks}
use Rattle.actions.proofs.grouping.pair_regroups.Goals as goal

pub returns-then-regroups : goal.returns-then-regroups
returns-then-regroups c =
    let looks = two_looks c.args.lines.now c.args.first c.args.second c.in-Some.c c.in-Some.ensures in (
      λ e. looks.1 (c.if-regroups.ensures.0 refl, c.regroups-then-regroups.ensures.0 e),
      λ all. c.regroups-then-regroups.ensures.1 (looks.0 all).1,
    )

pub returns-else-regroups : goal.returns-else-regroups
returns-else-regroups c =
    let looks = two_looks c.args.lines.now c.args.first c.args.second c.in-Some.c c.in-Some.ensures in
    (λ e. absurd (both_ways _ c.if-regroups.false e), λ all. c.regroups.ensures.1 (looks.0 all).0)

pub returns-in_default : goal.returns-in_default
returns-in_default c = (λ _. no_looks c.args.lines.now c.args.first c.args.second (λ x m. c.in_default.not-Some x ((c.partner.ensures x).1 m)), λ _. refl)
