use Rattle.std.proofs.Common.{◌∙◌}
use Rattle.std.proofs.lemmas.List.{set-set, set-get_or}
use Rattle.sheets.proofs.sheet.lifting.judge_with.Goals as goal

pub returns : goal.returns
returns g c =
    record {
      judged = c.judge.ensures;
      same = c.drop-guard.ensures ∙ set-set c.args.bytes.now c.args.at c.args.byte _ ∙ set-get_or c.args.bytes.now c.args.at 0;
    }
