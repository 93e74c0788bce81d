use Rattle.std.proofs.Common.{sym}
use Rattle.sheets.proofs.Sizing.{there, read}
use Rattle.sheets.proofs.sheet.standing.stands_in.Goals as goal

pub bounds-bytes-i : goal.bounds-bytes-i
bounds-bytes-i c =
    there c.args.size c.args.bytes.now c.within-size.result.rows c.within-size.result.columns c.args.s c.args.t c.within-size.ensures.rows c.within-size.ensures.columns (sym c.if-not-has.ensures)

pub returns : goal.returns
returns c =
    read c.args.size c.args.bytes.now c.within-size.result.rows c.within-size.result.columns c.args.s c.args.t c.within-size.ensures.rows c.within-size.ensures.columns (sym c.if-not-has.ensures)
