use Rattle.transitions.proofs.Ported.{by_ports}
use Rattle.actions.proofs.ports.Ports.new.Goals as goal

pub returns : goal.returns
returns c = by_ports
