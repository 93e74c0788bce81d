use Rattle.sheets.proofs.Passing.{gap_rest, gap_none, gap_one}
use Rattle.sheets.proofs.sheet.standing.gap.Goals as goal

pub returns-then-rest-eq0 : goal.returns-then-rest-eq0
returns-then-rest-eq0 c = gap_rest c.args.bytes.now c.args.i c.if-rest-eq0.true

pub returns-then-rest-eq1 : goal.returns-then-rest-eq1
returns-then-rest-eq1 c = gap_none c.args.bytes.now c.args.i c.if-rest-eq1.true

pub returns-else-rest-eq1 : goal.returns-else-rest-eq1
returns-else-rest-eq1 c = gap_one c.args.bytes.now c.args.i c.if-rest-eq1.false
