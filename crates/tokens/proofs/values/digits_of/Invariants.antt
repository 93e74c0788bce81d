use Rattle.std.proofs.Common.{◌≡◌, ◌^◌, ◌<◌, drop}
use Rattle.tokens.specs.Numbers.{all_digits, value_on}
use Rattle.tokens.proofs.values.digits_of.Given as goal

abbrev pub invariant-loop-b : goal.invariant-loop-b
invariant-loop-b l = (all_digits (drop l.b-index l.bytes) ≡ all_digits l.bytes) × (value_on l.v (drop l.b-index l.bytes) ≡ value_on 0 l.bytes) × (l.v < 10 ^ l.b-index)
