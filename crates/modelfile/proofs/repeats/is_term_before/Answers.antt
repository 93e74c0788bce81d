use Rattle.std.proofs.Common.{◌∙◌, rules}
use Rattle.processes.specs.Sameness.{same_term}
use Rattle.processes.specs.contracts.terms.TermPartialEq.TheImpl.{ghosts}
use Rattle.processes.proofs.Sameness.{same_then_is, same_as_itself}
use Rattle.rows.proofs.Finding.{found_any}
use Rattle.modelfile.proofs.Finding.{holds_any}
use Rattle.modelfile.proofs.repeats.is_term_before.Goals as goal

pub returns : goal.returns
returns c =
    c.is_some.ensures ∙ found_any ghosts.eq c.args.terms.now c.args.t c.find_same.result c.find_same.ensures
    ∙ holds_any same_term same_then_is same_as_itself ghosts.eq (search rules) (search rules) c.args.t c.args.terms.now
