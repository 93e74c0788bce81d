use Rattle.std.proofs.Common.{◌+◌, drop, refl, arith}
use Rattle.std.proofs.lemmas.List.{at_drop_all}
use Rattle.acceptance.specs.Walks.{targets}
use Rattle.processes.specs.declared.equations.Equation.TheVariants.{Ends}
use Rattle.acceptance.proofs.Walking.{targets_on, targets_past, left_set, left_kept, left_all, left_start}
use Rattle.acceptance.proofs.rings.targets_of.Goals as goal
use Rattle.acceptance.proofs.rings.targets_of.Goals.{in-Becomes, in-Ends}

pub loop-line-preserved : goal.loop-line-preserved
loop-line-preserved c = elim c.match-line.branch [
  | in-Becomes w ↦ left_set c.loop-line.marks c.match-line.marks w.in-Becomes.y (targets (drop c.loop-line.line-index c.args.equations.now)) (targets (drop (c.loop-line.line-index + 1) c.args.equations.now)) (targets c.args.equations.now) c.loop-line.invariant.0 (omega arith) w.marks-is (targets_on c.args.equations.now c.loop-line.line-index (Ends 0 0) c.loop-line-test.true w.in-Becomes._x w.in-Becomes._a w.in-Becomes.y w.in-Becomes.is) c.loop-line.invariant.1
  | in-Ends w ↦ left_kept c.loop-line.marks c.match-line.marks (targets (drop c.loop-line.line-index c.args.equations.now)) (targets (drop (c.loop-line.line-index + 1) c.args.equations.now)) (targets c.args.equations.now) c.loop-line.invariant.0 w.marks-is (targets_past c.args.equations.now c.loop-line.line-index (Ends 0 0) c.loop-line-test.true w.in-Ends._x w.in-Ends._a w.in-Ends.is) c.loop-line.invariant.1
]

pub loop-line-init : goal.loop-line-init
loop-line-init c = (refl, left_start 256 (targets c.args.equations.now))

pub returns : goal.returns
returns c = left_all c.loop-line.marks (targets (drop c.loop-line.line-index c.args.equations.now)) _ (at_drop_all (λ ys. targets (ys)) c.args.equations.now c.loop-line.line-index c.loop-line-test.false) c.loop-line.invariant.1
