-- Over a match there is always a reply.
use Rattle.std.proofs.Common.{Option, subst}
use Rattle.transitions.specs.Lts.{Lts}
use Rattle.transitions.specs.Match.{Pairing, flip, Simulates}
use Rattle.transitions.specs.declared.replies.Reply.{Reply}
use Rattle.transitions.specs.Reply.{ReplyIs, AlwaysReplies, MatchReplies}

replies : (L R : Lts) (B : Pairing) → Simulates L R B → AlwaysReplies L R B
replies L R B side s t p x hs ht st e r h n =
    let none = subst (λ (y : Option Reply). ReplyIs R B s t x y) n h in none (side.step s t hs ht st x.action x.target (p, e))

pub match_replies : MatchReplies
match_replies L R B m = (replies L R B m.left, replies R L (flip B) m.right)
