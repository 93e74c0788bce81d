use Rattle.std.proofs.Common.{◌∙◌}
use Rattle.transitions.specs.declared.lines.JoinLine.{JoinLine}
use Rattle.transitions.specs.Listed.{names}
use Rattle.rows.proofs.Finding.{found_any}
use Rattle.modelfile.proofs.Finding.{any_is}
use Rattle.modelfile.proofs.repeats.is_line_before.Goals as goal

pub returns : goal.returns
returns c =
    c.is_some.ensures ∙ found_any (λ (x y : JoinLine). names x y.a y.b) c.args.lines.now c.args.l c.find_same.result c.find_same.ensures
    ∙ any_is (λ (k : JoinLine). names k c.args.l.a c.args.l.b) c.args.lines.now
