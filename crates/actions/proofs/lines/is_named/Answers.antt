use Rattle.std.proofs.Common.{◌∙◌}
use Rattle.rows.proofs.Finding.{found_any}
use Rattle.transitions.specs.Listed.{names}
use Rattle.transitions.specs.declared.lines.JoinLine.{JoinLine}
use Rattle.actions.proofs.lines.is_named.Goals as goal

pub returns : goal.returns
returns c = c.is_some.ensures ∙ found_any (λ (x y : JoinLine). names x y.a y.b) c.args.lines.now _ c.find_same.result c.find_same.ensures
