use Rattle.std.proofs.Common.{sym, refl, ◌∙◌, arith, below_more}
use Rattle.std.proofs.lemmas.Bool.{false≢true}
use Rattle.transitions.proofs.Fresh.{Fresh, all_fresh, fresh, repeated}
use Rattle.actions.proofs.acceptance.names_once.Goals as goal

pub returns-then-is_named : goal.returns-then-is_named
returns-then-is_named c =
    (λ e. absurd (false≢true e), λ once. absurd (repeated c.args.lines.now c.loop-k.k c.loop-k-test.true (sym c.is_named.ensures ∙ c.if-is_named.true) once))

pub loop-k-preserved : goal.loop-k-preserved
loop-k-preserved c =
    below_more (λ k. Fresh c.args.lines.now k) c.loop-k.k c.loop-k.invariant
    (fresh c.args.lines.now c.loop-k.k c.loop-k-test.true (sym c.is_named.ensures ∙ c.if-is_named.false))

pub returns : goal.returns
returns c = (λ _. all_fresh c.args.lines.now (λ k l. c.loop-k.invariant k (omega arith)), λ _. refl)
