use Rattle.std.proofs.Common.{◌^◌, ◌<◌, sym, ◌∙◌, arith}
use Rattle.std.proofs.lemmas.List.{at_drop_all}
use Rattle.tokens.specs.Numbers.{hex_on}
use Rattle.tokens.proofs.Digits.{hex_bad, hex_more, sixteen_more, sixteen_few}
use Rattle.tokens.proofs.values.hex_of.Goals as goal

pub overflow_mul-v : goal.overflow_mul-v
overflow_mul-v c = let m : c.loop-b.v < 16 ^ 15 = sixteen_few _ _ c.loop-b.invariant.1 (omega arith) in omega arith

pub overflow_add-v : goal.overflow_add-v
overflow_add-v c =
    let m : c.loop-b.v < 16 ^ 15 = sixteen_few _ _ c.loop-b.invariant.1 (omega arith) in
    let d : c.in_ok-hex_digit.field-0 < 16 = c.in_ok-hex_digit.ensures.small in omega arith

pub returns-in_err-hex_digit : goal.returns-in_err-hex_digit
returns-in_err-hex_digit c = hex_bad c.args.bytes.now c.loop-b.b-index c.loop-b.v c.loop-b-test.true c.loop-b.invariant.0 c.in_err-hex_digit.ensures.is ∙ sym c.from_residual.ensures

pub loop-b-preserved : goal.loop-b-preserved
loop-b-preserved c = rw c.from.ensures (
  hex_more c.args.bytes.now c.loop-b.b-index c.loop-b.v c.in_ok-hex_digit.field-0 c.loop-b-test.true c.loop-b.invariant.0 c.in_ok-hex_digit.ensures.is,
  sixteen_more _ _ _ c.loop-b.invariant.1 c.in_ok-hex_digit.ensures.small,
)

pub returns : goal.returns
returns c = sym c.loop-b.invariant.0 ∙ at_drop_all (hex_on c.loop-b.v) c.args.bytes.now c.loop-b.b-index c.loop-b-test.false
