use Rattle.std.proofs.Common.{◌≤◌, ◌<◌, length, sym, ◌∙◌, arith}
use Rattle.std.proofs.lemmas.List.{at_drop_all}
use Rattle.tokens.specs.Numbers.{all_digits, value_on}
use Rattle.tokens.proofs.Digits.{digits_bad, digits_more, value_more, ten_more, ten_few}
use Rattle.tokens.proofs.values.digits_of.Goals as goal

pub returns-then-not-is_ascii_digit : goal.returns-then-not-is_ascii_digit
returns-then-not-is_ascii_digit c = digits_bad c.args.bytes.now c.loop-b.b-index c.loop-b-test.true c.loop-b.invariant.0 (sym c.if-not-is_ascii_digit.ensures.value)

pub loop-b-preserved : goal.loop-b-preserved
loop-b-preserved c =
    let l : c.loop-b.b-index < length c.args.bytes.now = c.loop-b-test.true in
    rw c.from.ensures (
      digits_more c.args.bytes.now c.loop-b.b-index l c.loop-b.invariant.0 (sym c.if-not-is_ascii_digit.ensures.value),
      value_more c.args.bytes.now c.loop-b.b-index c.loop-b.v _ l c.loop-b.invariant.1,
      ten_more _ _ _ c.loop-b.invariant.2 (let r = c.if-not-is_ascii_digit.ensures.cases in omega arith),
    )

pub returns : goal.returns
returns c =
    let l : length c.args.bytes.now ≤ c.loop-b.b-index = c.loop-b-test.false in (
      sym c.loop-b.invariant.0 ∙ at_drop_all all_digits c.args.bytes.now c.loop-b.b-index l,
      sym c.loop-b.invariant.1 ∙ at_drop_all (value_on c.loop-b.v) c.args.bytes.now c.loop-b.b-index l,
      ten_few _ _ c.loop-b.invariant.2 (omega arith),
    )
