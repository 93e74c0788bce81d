use Rattle.std.proofs.Common.{ℕ, sym, refl, subst, arith}
use Rattle.judging.specs.Judged.{Wiped}
use Rattle.sheets.proofs.Opening.{opened}
use Rattle.sheets.proofs.sheet.Sheet.open.Goals as goal

pub returns : goal.returns
returns g c =
    let L = g.L.TransitionSystem.meaning c.args.left.now in
    let R = g.R.TransitionSystem.meaning c.args.right.now in
    opened L R c.args.bytes _ c.states.ensures c.states-2.ensures (sym c.if-is_blank.ensures) (omega (arith, c.needed-needed.ensures, c.if-needed-bytes.false)) c.clear.auto.bytes
    (subst (λ (k : ℕ). Wiped k c.args.bytes.now c.clear.new.bytes) c.needed-needed.ensures c.clear.ensures) refl
