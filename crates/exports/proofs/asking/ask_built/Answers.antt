use Rattle.std.proofs.Common.{rules}
use borrow.Author.Rules.{lives_apart, in_told}
use Rattle.exports.proofs.asking.ask_built.Goals as goal

-- what the built model borrows are the parts' loans
pub tell_all-requires : goal.tell_all-requires
tell_all-requires g c κs h = simp (lives_apart, in_told _ _ h.0, in_told _ _ h.1) (search rules)
