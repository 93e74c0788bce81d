use Rattle.std.proofs.Common.{◌-◌, ◌≤◌}
use Rattle.pairings.specs.Next.{NoneFrom}
use Rattle.sheets.specs.Bits.{paired}
use Rattle.sheets.proofs.sheet.standing.next_in.Given as goal

abbrev pub invariant-loop-t : goal.invariant-loop-t
invariant-loop-t l = (l.from ≤ l.t) × NoneFrom (paired l.fitted.rows l.fitted.columns l.bytes l.s) l.from l.t

abbrev pub decreases-loop-t : goal.decreases-loop-t
decreases-loop-t l = l.end - l.t
