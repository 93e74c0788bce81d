use Rattle.std.proofs.Common.{◌≡◌, ◌^◌, ◌<◌, drop}
use Rattle.tokens.specs.Numbers.{hex_on}
use Rattle.tokens.proofs.values.hex_of.Given as goal

abbrev pub invariant-loop-b : goal.invariant-loop-b
invariant-loop-b l = (hex_on l.v (drop l.b-index l.bytes) ≡ hex_on 0 l.bytes) × (l.v < 16 ^ l.b-index)
