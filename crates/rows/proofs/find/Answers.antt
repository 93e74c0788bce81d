use Rattle.rows.proofs.Sameness.{held_at}
use Rattle.rows.proofs.find.Goals as goal

pub returns : goal.returns
returns g c = held_at g.T.PartialEq.eq g.met.T.Exact.exact g.met.T.Eq.laws.refl c.args.entries.now c.args.x.now c.find_same.result c.find_same.ensures
