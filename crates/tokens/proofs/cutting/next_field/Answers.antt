use Rattle.tokens.proofs.Cuts.{field_is, more_is, last_field_is}
use Rattle.tokens.proofs.cutting.next_field.Goals as goal

pub returns-clause-field : goal.returns-clause-field
returns-clause-field c = field_is c.args.line.now c.split_once.result c.split_once.ensures.parts c.split_once.ensures.first

pub returns-clause-more : goal.returns-clause-more
returns-clause-more c = more_is c.split_once.result

pub returns-clause-last : goal.returns-clause-last
returns-clause-last c = last_field_is c.args.line.now c.split_once.result c.split_once.ensures.none
