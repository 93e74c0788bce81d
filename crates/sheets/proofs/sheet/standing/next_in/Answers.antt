use Rattle.std.proofs.Common.{◌<◌, Some, None, arith}
use Rattle.std.proofs.lemmas.Bool.{and_from, lt-ltb}
use Rattle.sheets.proofs.Passing.{found, no_row, stands_here, passed_more, passed_all}
use Rattle.sheets.proofs.Sizing.{there}
use Rattle.sheets.proofs.sheet.standing.next_in.Goals as goal

pub gap-passed-requires : goal.gap-passed-requires
gap-passed-requires c =
    let n = c.within-fitted.result.rows in
    let m = c.within-fitted.result.columns in
    let hs : c.args.s < n = omega (arith, c.if-s-fitted.false) in
    let ht : c.loop-t.t < m = omega (arith, c.min-end.ensures, c.loop-t-test.true) in
    there c.args.size c.args.bytes.now n m c.args.s c.loop-t.t c.within-fitted.ensures.rows c.within-fitted.ensures.columns (and_from _ _ (lt-ltb _ _ hs) (lt-ltb _ _ ht))

pub returns-then-passed-eq0 : goal.returns-then-passed-eq0
returns-then-passed-eq0 c =
    let n = c.within-fitted.result.rows in
    let m = c.within-fitted.result.columns in
    let hs : c.args.s < n = omega (arith, c.if-s-fitted.false) in
    let ht : c.loop-t.t < m = omega (arith, c.min-end.ensures, c.loop-t-test.true) in
    found c.args.size c.args.bytes.now n m c.args.s c.args.from c.args.below c.within-fitted.ensures.rows c.within-fitted.ensures.columns (Some c.loop-t.t)
    (c.loop-t.invariant.0, omega (arith, c.min-end.ensures, c.loop-t-test.true), stands_here c.args.bytes.now n m c.args.s hs c.loop-t.t ht (c.gap-passed.ensures.one c.if-passed-eq0.true), c.loop-t.invariant.1)

pub loop-t-preserved : goal.loop-t-preserved
loop-t-preserved c =
    let n = c.within-fitted.result.rows in
    let m = c.within-fitted.result.columns in
    let hs : c.args.s < n = omega (arith, c.if-s-fitted.false) in
    (omega (arith, c.loop-t.invariant.0), passed_more c.args.bytes.now n m c.args.s hs c.args.from c.loop-t.t c.gap-passed.result c.loop-t.invariant.1 c.gap-passed.ensures)

pub returns-then-s-fitted : goal.returns-then-s-fitted
returns-then-s-fitted c =
    let n = c.within-fitted.result.rows in
    let m = c.within-fitted.result.columns in
    found c.args.size c.args.bytes.now n m c.args.s c.args.from c.args.below c.within-fitted.ensures.rows c.within-fitted.ensures.columns None
    (no_row c.args.bytes.now n m c.args.s c.args.from c.args.below c.if-s-fitted.true)

pub returns : goal.returns
returns c =
    let n = c.within-fitted.result.rows in
    let m = c.within-fitted.result.columns in
    let hs : c.args.s < n = omega (arith, c.if-s-fitted.false) in
    found c.args.size c.args.bytes.now n m c.args.s c.args.from c.args.below c.within-fitted.ensures.rows c.within-fitted.ensures.columns None
    (passed_all c.args.bytes.now n m c.args.s hs c.args.from c.loop-t.t c.args.below c.min-end.result c.min-end.ensures c.loop-t-test.false c.loop-t.invariant.1)
