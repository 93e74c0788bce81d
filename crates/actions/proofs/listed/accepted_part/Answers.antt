use Rattle.std.proofs.Common.{refl}
use Rattle.std.proofs.lemmas.Bool.Decides.{not_from_Decides}
use Rattle.transitions.proofs.Grouping.{none_acceptable, by_acceptable, by_refused}
use Rattle.actions.proofs.listed.accepted_part.Goals as goal

pub returns-then-is_acceptable : goal.returns-then-is_acceptable
returns-then-is_acceptable c =
    let ok = c.if-is_acceptable.ensures.0 refl in record { accepted = ∣ ok ∣₁; joins = by_acceptable c.args.lines.now ok }

pub returns-else-is_acceptable : goal.returns-else-is_acceptable
returns-else-is_acceptable c =
    record {
      accepted = ∣ none_acceptable ∣₁;
      joins = by_refused c.args.lines.now (not_from_Decides c.is_acceptable.result c.is_acceptable.ensures c.if-is_acceptable.false);
    }
