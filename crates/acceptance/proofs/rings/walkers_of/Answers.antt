use Rattle.std.proofs.Common.{◌≡◌, ◌+◌, true, ◌||◌, length, drop, sym, refl, ap, ◌∙◌, arith, length-set}
use Rattle.std.proofs.lemmas.List.{at_drop_all}
use Rattle.acceptance.specs.Walks.{walkers, some?}
use Rattle.processes.specs.declared.equations.Equation.TheVariants.{Ends}
use Rattle.acceptance.proofs.Walking.{left_all, marks_of, found_all, left_set, left_kept, left_start, found_on, found_past, walkers_hit, walkers_out, walkers_loud, walkers_past}
use Rattle.acceptance.proofs.rings.walkers_of.Goals as goal
use Rattle.acceptance.proofs.rings.walkers_of.Goals.{in-Becomes+then-a-eq0+then-marks-y, in-Becomes+then-a-eq0+else-marks-y, in-Becomes+else-a-eq0, in-Ends}

pub loop-line-preserved : goal.loop-line-preserved
loop-line-preserved c = elim c.match-line.branch [
  | in-Becomes+then-a-eq0+then-marks-y w ↦ (
    ap length w.next-is ∙ length-set c.loop-line.next w.in-Becomes.x true ∙ c.loop-line.invariant.0,
    λ A m. (
      (left_set c.loop-line.next c.match-line.next w.in-Becomes.x (walkers (drop c.loop-line.line-index c.args.equations.now) A) (walkers (drop (c.loop-line.line-index + 1) c.args.equations.now) A) (walkers c.args.equations.now A) c.loop-line.invariant.0 (omega arith) w.next-is (walkers_hit c.args.equations.now c.loop-line.line-index (Ends 0 0) c.loop-line-test.true A w.in-Becomes.x w.in-Becomes.a w.in-Becomes.y w.in-Becomes.is w.if-a-eq0.true (sym (m w.in-Becomes.y (omega arith)) ∙ w.if-marks-y.true)) (c.loop-line.invariant.1 A m).0).1,
      ap (λ f. f || some? (walkers (drop (c.loop-line.line-index + 1) c.args.equations.now) A)) w.found-is ∙ found_on c.loop-line.found w.in-Becomes.x (walkers (drop c.loop-line.line-index c.args.equations.now) A) (walkers (drop (c.loop-line.line-index + 1) c.args.equations.now) A) (walkers c.args.equations.now A) (walkers_hit c.args.equations.now c.loop-line.line-index (Ends 0 0) c.loop-line-test.true A w.in-Becomes.x w.in-Becomes.a w.in-Becomes.y w.in-Becomes.is w.if-a-eq0.true (sym (m w.in-Becomes.y (omega arith)) ∙ w.if-marks-y.true)) (c.loop-line.invariant.1 A m).1,
    ),
  )
  | in-Becomes+then-a-eq0+else-marks-y w ↦ (
    ap length w.next-is ∙ c.loop-line.invariant.0,
    λ A m. (
      (left_kept c.loop-line.next c.match-line.next (walkers (drop c.loop-line.line-index c.args.equations.now) A) (walkers (drop (c.loop-line.line-index + 1) c.args.equations.now) A) (walkers c.args.equations.now A) c.loop-line.invariant.0 w.next-is (walkers_out c.args.equations.now c.loop-line.line-index (Ends 0 0) c.loop-line-test.true A w.in-Becomes.x w.in-Becomes.a w.in-Becomes.y w.in-Becomes.is (sym (m w.in-Becomes.y (omega arith)) ∙ w.if-marks-y.false)) (c.loop-line.invariant.1 A m).0).1,
      ap (λ f. f || some? (walkers (drop (c.loop-line.line-index + 1) c.args.equations.now) A)) w.found-is ∙ found_past c.loop-line.found (walkers (drop c.loop-line.line-index c.args.equations.now) A) (walkers (drop (c.loop-line.line-index + 1) c.args.equations.now) A) (walkers c.args.equations.now A) (walkers_out c.args.equations.now c.loop-line.line-index (Ends 0 0) c.loop-line-test.true A w.in-Becomes.x w.in-Becomes.a w.in-Becomes.y w.in-Becomes.is (sym (m w.in-Becomes.y (omega arith)) ∙ w.if-marks-y.false)) (c.loop-line.invariant.1 A m).1,
    ),
  )
  | in-Becomes+else-a-eq0 w ↦ (
    ap length w.next-is ∙ c.loop-line.invariant.0,
    λ A m. (
      (left_kept c.loop-line.next c.match-line.next (walkers (drop c.loop-line.line-index c.args.equations.now) A) (walkers (drop (c.loop-line.line-index + 1) c.args.equations.now) A) (walkers c.args.equations.now A) c.loop-line.invariant.0 w.next-is (walkers_loud c.args.equations.now c.loop-line.line-index (Ends 0 0) c.loop-line-test.true A w.in-Becomes.x w.in-Becomes.a w.in-Becomes.y w.in-Becomes.is w.if-a-eq0.false) (c.loop-line.invariant.1 A m).0).1,
      ap (λ f. f || some? (walkers (drop (c.loop-line.line-index + 1) c.args.equations.now) A)) w.found-is ∙ found_past c.loop-line.found (walkers (drop c.loop-line.line-index c.args.equations.now) A) (walkers (drop (c.loop-line.line-index + 1) c.args.equations.now) A) (walkers c.args.equations.now A) (walkers_loud c.args.equations.now c.loop-line.line-index (Ends 0 0) c.loop-line-test.true A w.in-Becomes.x w.in-Becomes.a w.in-Becomes.y w.in-Becomes.is w.if-a-eq0.false) (c.loop-line.invariant.1 A m).1,
    ),
  )
  | in-Ends w ↦ (
    ap length w.next-is ∙ c.loop-line.invariant.0,
    λ A m. (
      (left_kept c.loop-line.next c.match-line.next (walkers (drop c.loop-line.line-index c.args.equations.now) A) (walkers (drop (c.loop-line.line-index + 1) c.args.equations.now) A) (walkers c.args.equations.now A) c.loop-line.invariant.0 w.next-is (walkers_past c.args.equations.now c.loop-line.line-index (Ends 0 0) c.loop-line-test.true A w.in-Ends._x w.in-Ends._a w.in-Ends.is) (c.loop-line.invariant.1 A m).0).1,
      ap (λ f. f || some? (walkers (drop (c.loop-line.line-index + 1) c.args.equations.now) A)) w.found-is ∙ found_past c.loop-line.found (walkers (drop c.loop-line.line-index c.args.equations.now) A) (walkers (drop (c.loop-line.line-index + 1) c.args.equations.now) A) (walkers c.args.equations.now A) (walkers_past c.args.equations.now c.loop-line.line-index (Ends 0 0) c.loop-line-test.true A w.in-Ends._x w.in-Ends._a w.in-Ends.is) (c.loop-line.invariant.1 A m).1,
    ),
  )
]

pub loop-line-init : goal.loop-line-init
loop-line-init c = (refl, λ A m. (left_start 256 (walkers c.args.equations.now A), refl))

pub returns : goal.returns
returns c = λ A m.
    let e : walkers (drop c.loop-line.line-index c.args.equations.now) A ≡ _ = at_drop_all (λ ys. walkers (ys) A) c.args.equations.now c.loop-line.line-index c.loop-line-test.false in
    marks_of c.loop-line.found c.loop-line.next (walkers c.args.equations.now A) c.then_some.result c.then_some.ensures
    (left_all c.loop-line.next (walkers (drop c.loop-line.line-index c.args.equations.now) A) (walkers c.args.equations.now A) e (c.loop-line.invariant.1 A m).0)
    (found_all c.loop-line.found (walkers (drop c.loop-line.line-index c.args.equations.now) A) (walkers c.args.equations.now A) e (c.loop-line.invariant.1 A m).1)
