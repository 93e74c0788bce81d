use Rattle.std.proofs.Common.{get_or, arith}
use Rattle.texts.proofs.Digits.{line_most}
use Rattle.texts.proofs.lines.Line.fits.Goals as goal

pub returns-then-room-ge20 : goal.returns-then-room-ge20
returns-then-room-ge20 c =
    let l = c.args.self.now in
    let m = line_most l.letter (get_or l.numbers 0 0) (get_or l.numbers 1 0) (get_or l.numbers 2 0) (omega arith) (omega arith) (omega arith) in
    grind (arith, m)
