use Rattle.std.proofs.Common.{arith}
use Rattle.texts.proofs.Digits.{one_digit}
use Rattle.texts.proofs.Writing.{put_last, put_small, put_next}
use Rattle.texts.proofs.numbers.+put_number.Goals as goal

pub returns-then-number-lt10-clause-written : goal.returns-then-number-lt10-clause-written
returns-then-number-lt10-clause-written t c = put_last c.args.out.now c.args.at c.args.number c.if-number-lt10.true (omega (arith, one_digit c.args.number c.if-number-lt10.true))

pub returns-then-number-lt100-clause-written : goal.returns-then-number-lt100-clause-written
returns-then-number-lt100-clause-written t c = put_small c.args.out.now c.put_pair.new.out c.args.at c.args.number c.if-number-lt10.false c.if-number-lt100.true c.put_pair.ensures

pub returns-clause-written : goal.returns-clause-written
returns-clause-written t c =
    put_next c.args.out.now c.put_number-end.new.out c.put_pair-2.new.out c.args.at c.put_number-end.result c.args.number c.if-number-lt100.false (omega arith) (omega arith) c.put_number-end.ensures.ends c.put_number-end.ensures.written c.put_pair-2.ensures
