use Rattle.transitions.proofs.Counted.{counter_made}
use Rattle.models.proofs.counters.Counter.new.Goals as goal

pub returns : goal.returns
returns c = counter_made c.args.cap c.args.take c.args.give (c.is_countable.ensures.0 c.if-not-is_countable.false)
