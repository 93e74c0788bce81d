use Rattle.std.proofs.Common.{arith, length-set}
use Rattle.texts.proofs.Digits.{one_digit}
use Rattle.texts.proofs.Writing.{put_digit}
use Rattle.texts.proofs.numbers.put_field.Goals as goal

pub bounds-out-at-then-number-lt10 : goal.bounds-out-at-then-number-lt10
bounds-out-at-then-number-lt10 c = omega (arith, one_digit c.args.number c.if-number-lt10.true, length-set c.args.out.now c.args.at 44)

pub returns-then-number-lt10-clause-written : goal.returns-then-number-lt10-clause-written
returns-then-number-lt10-clause-written c = put_digit c.args.out.now c.args.at c.args.number c.if-number-lt10.true (omega (arith, one_digit c.args.number c.if-number-lt10.true))
