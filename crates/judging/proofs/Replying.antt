-- From the hits of a search to a reply.
use Rattle.std.proofs.Common.{◌≡◌, ℕ, ◌<◌, Bool, true, false, cond, ◌&&◌, eqb, ltb, Some, None, Option, sym, refl, ap, ◌∙◌, arith}
use Rattle.std.proofs.lemmas.Bool.{and_parts, and_from, false≢true, eqb-true, eq-eqb, ltb-true}
use Rattle.pairings.specs.declared.faults.Fault.{Fault}
use Rattle.pairings.specs.declared.faults.Fault.TheVariants.{NoState, Missing}
use Rattle.transitions.specs.declared.steps.Step.{Step}
use Rattle.transitions.specs.Lts.{Lts}
use Rattle.transitions.specs.declared.replies.Reply.{Reply}
use Rattle.transitions.specs.Match.{Pairing, flip}
use Rattle.transitions.specs.Reply.{Stay, Move, ReplyIs}
use Rattle.transitions.proofs.Computed.{hits}
use Rattle.transitions.proofs.Reach.{decides_hits}
use Rattle.judging.specs.declared.queries.Answer.{Answer}
use Rattle.judging.specs.Search.{Answers, step_hit}
use Rattle.judging.specs.declared.replies.Ask.{Ask}
use Rattle.judging.specs.Replies.{in_range, unpaired, or_else, RepliesTo}

module _ (R : Lts) (B : Pairing) (s t : ℕ) (want : Step) where
  pub replies_stay : (eqb want.action 0 && B want.target t) ≡ true → Stay B want t
  replies_stay h = let both = and_parts (eqb want.action 0) (B want.target t) h in (eqb-true _ _ both.0, both.1)

  pub replies_move : (eqb want.action 0 && B want.target t) ≡ false → (a : Answer) → Answers R (step_hit R B s want) t a → Move R B s t want a.state a.place
  replies_move out a f =
      let both = and_parts (B s a.state) (hits B want.action want.target (R.step a.state a.place)) f.fit in
      record {
        moves = λ k. false≢true (sym out ∙ and_from _ _ (eq-eqb _ _ k.0) k.1);
        leads = f.led;
        keeps = both.0;
        fits = (decides_hits B want.action want.target (R.step a.state a.place)).0 both.1;
        lowest = λ q h k. f.lowest q h (and_from _ _ both.0 ((decides_hits B want.action want.target (R.step a.state q)).1 k));
      }

some_none : (f : Fault) → Some f ≡ None → ⊥
some_none f e = let z : ◌≡◌ {A = ℕ} 0 1 = cc in omega arith

-- A pair that nothing refuses is in range, and stands.
pub record Paired (n m : ℕ) (B : Pairing) (s t : ℕ) : Type 0 where
  pub left : s < n
  pub right : t < m
  pub stands : B s t ≡ true

into : (b : Bool) (f : Fault) (o : Option Fault) → cond b o (Some f) ≡ None → (b ≡ true) × (o ≡ None)
into true f o e = (refl, e)
into false f o e = absurd (some_none f e)

pub paired : (n m : ℕ) (B : Pairing) (s t : ℕ) → unpaired n m B s t ≡ None → Paired n m B s t
paired n m B s t e =
    let a = into (in_range n m s t) NoState (cond (B s t) None (Some Missing)) e in
    let b = into (B s t) Missing None a.1 in
    let c = and_parts (ltb s n) (ltb t m) a.0 in
    record { left = ltb-true s n c.0; right = ltb-true t m c.1; stands = b.0 }

-- Where two reasons in turn refuse nothing, neither does.
pub both_none : (a b : Option Fault) → or_else a b ≡ None → (a ≡ None) × (b ≡ None)
both_none None b e = (refl, e)
both_none (Some f) b e = absurd (some_none f e)

pub none_both : (a b : Option Fault) → a ≡ None → b ≡ None → or_else a b ≡ None
none_both a b e f = ap (λ (x : Option Fault). or_else x b) e ∙ f

-- The reply is that of the side that is asked.
module _ (L R : Lts) (B : Pairing) (a : Ask) (x : Step) (r : Option Reply) where
  pub by_left : a.side ≡ 0 → ReplyIs R B a.s a.t x r → RepliesTo L R B a x r
  by_left e h = rw e h

  pub by_right : a.side ≡ 1 → ReplyIs L (flip B) a.t a.s x r → RepliesTo L R B a x r
  by_right e h = rw e h
