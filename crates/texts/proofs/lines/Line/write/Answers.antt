use Rattle.std.proofs.Common.{rules, [], ◌∷◌, set, decimal, get_or, arith}
use Rattle.texts.proofs.Digits.{line_long}
use Rattle.texts.proofs.Writing.{front_none, front_byte, front_more, front_is}
use Rattle.texts.proofs.lines.Line.write.Goals as goal

pub returns-clause-ends : goal.returns-clause-ends
returns-clause-ends c =
    let l = c.args.self.now in
    omega (arith, line_long l.letter (get_or l.numbers 0 0) (get_or l.numbers 1 0) (get_or l.numbers 2 0))

pub returns-clause-written : goal.returns-clause-written
returns-clause-written c =
    let b = c.args.out.now in
    let l = c.args.self.now in
    let X = decimal (get_or l.numbers 0 0) in
    let Y = decimal (get_or l.numbers 1 0) in
    let Z = decimal (get_or l.numbers 2 0) in
    let long = line_long l.letter (get_or l.numbers 0 0) (get_or l.numbers 1 0) (get_or l.numbers 2 0) in
    let x = c.put_field-after_x in
    let y = c.put_field-after_y in
    let z = c.put_field-after_z in
    let f0 = front_byte b b 0 l.letter [] (front_none b) (omega arith) in
    let f1 = front_more b (set b 0 l.letter) x.new.out 1 x.result (l.letter ∷ []) (44 ∷ X) f0 x.ensures.written (omega arith) in
    let f2 = front_more b x.new.out y.new.out x.result y.result _ (44 ∷ Y) f1 y.ensures.written (omega arith) in
    let f3 = front_more b y.new.out z.new.out y.result z.result _ (44 ∷ Z) f2 z.ensures.written (omega arith) in
    front_is b z.new.out z.result l.letter X Y Z f3 (search rules)
