use Rattle.tokens.proofs.Cuts.{line_is, last_is}
use Rattle.tokens.proofs.cutting.next_line.Goals as goal

pub returns-clause-line : goal.returns-clause-line
returns-clause-line c = line_is c.args.bytes.now c.split_once.result c.split_once.ensures.parts c.split_once.ensures.first

pub returns-clause-last : goal.returns-clause-last
returns-clause-last c = last_is c.args.bytes.now c.split_once.result c.split_once.ensures.none
