use Rattle.rows.proofs.Sameness.{differ_by, differ_from}
use Rattle.rows.proofs.stand_once.Goals as goal

pub returns : goal.returns
returns g c = (
  λ e. differ_from g.T.PartialEq.eq g.met.T.Exact.exact g.met.T.Eq.laws.refl c.args.entries.now (c.all_differ.ensures.0 e),
  λ once. c.all_differ.ensures.1 (differ_by g.T.PartialEq.eq g.met.T.Exact.exact g.met.T.Eq.laws.refl c.args.entries.now once),
)
