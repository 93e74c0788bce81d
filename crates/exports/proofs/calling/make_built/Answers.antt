use Rattle.std.proofs.Common.{rules}
use borrow.Author.Rules.{lives_apart, in_told}
use Rattle.exports.proofs.calling.make_built.Goals as goal

-- what the built models borrow are the parts' loans
pub make_all-requires : goal.make_all-requires
make_all-requires g c κs h = simp (lives_apart, in_told _ _ h.0, in_told _ _ h.1) (search rules)
