-- What two actions join to under a communication.
use Rattle.transitions.specs.Made.{Joins}
use Rattle.transitions.specs.Communications.{port_joins}
use Rattle.transitions.specs.Listed.{listed_joins}
use Rattle.actions.specs.declared.ports.Ports.{Ports}
use Rattle.actions.specs.declared.listed.Listed.{Listed}

abbrev pub of_ports : Ports → Joins
of_ports ports = port_joins

abbrev pub of_listed : Listed → Joins
of_listed listed = listed_joins listed.lines.now
