use Rattle.transitions.proofs.Replying.{match_replies}
use Rattle.transitions.proofs.theorems.match_replies.Goals as goal

pub returns : goal.returns
returns c = match_replies
