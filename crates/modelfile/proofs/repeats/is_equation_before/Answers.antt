use Rattle.std.proofs.Common.{◌∙◌, rules}
use Rattle.processes.specs.Sameness.{same_equation}
use Rattle.processes.specs.contracts.equations.EquationPartialEq.TheImpl.{ghosts}
use Rattle.processes.proofs.Sameness.{same_line_is, line_as_itself}
use Rattle.rows.proofs.Finding.{found_any}
use Rattle.modelfile.proofs.Finding.{holds_any}
use Rattle.modelfile.proofs.repeats.is_equation_before.Goals as goal

pub returns : goal.returns
returns c =
    c.is_some.ensures ∙ found_any ghosts.eq c.args.equations.now c.args.e c.find_same.result c.find_same.ensures
    ∙ holds_any same_equation same_line_is line_as_itself ghosts.eq (search rules) (search rules) c.args.e c.args.equations.now
