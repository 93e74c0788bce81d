-- The test of a reply: what passes is the reply, and there is no other.
use Rattle.std.proofs.Common.{◌≡◌, ℕ, zero, suc, ◌<◌, Bool, true, false, cond, not, ◌&&◌, eqb, ltb, Some, None, Option, sym, refl, ◌∙◌, ap, subst, ap₂, inl, inr, arith}
use Rattle.std.proofs.lemmas.Bool.{false≢true, and_parts, and_from, and_left, and_right, eqb-true, eq-eqb, ne_eqb, ltb-true, not-true, not_from_false, cases_eq, cases_order}
use Rattle.judging.specs.Replies.{wanted, RepliesTo}
use Rattle.judging.specs.declared.replies.Ask.{Ask}
use Rattle.pairings.specs.declared.faults.Fault.{Fault}
use Rattle.sheets.specs.Calls.{removing}
use Rattle.transitions.specs.Lts.{Lts, Lawful}
use Rattle.transitions.specs.Match.{Pairing, flip, Answered}
use Rattle.transitions.specs.Reply.{FitsAt, Move, ReplyIs}
use Rattle.transitions.specs.declared.replies.Reply.{Reply}
use Rattle.transitions.specs.declared.replies.Reply.TheVariants.{Stays, Moves}
use Rattle.transitions.specs.declared.steps.Step.{Step}
use Rattle.transitions.proofs.Computed.{reach, hits, answered}
use Rattle.transitions.proofs.Reach.{reach_sound, decides_hits, decides_answered}
use Rattle.worked.specs.Runs.{Replied}

module _ (R : Lts) (B : Pairing) where
  abbrev fits : Step → ℕ → ℕ → Bool
  fits x m p = hits B x.action x.target (R.step m p)

  -- no place of m below p fits
  abbrev none_below : Step → ℕ → ℕ → Bool
  none_below x m zero = true
  none_below x m (suc p) = not (fits x m p) && none_below x m p

  tells_none : (x : Step) (m p : ℕ) → none_below x m p ≡ true → (q : ℕ) → q < p → FitsAt R B x m q → ⊥
  tells_none x m zero h q l w = omega arith
  tells_none x m (suc p) h q l w =
      let both = and_parts (not (fits x m p)) (none_below x m p) h in
      elim (cases_eq q p) [
        | inl e ↦ false≢true (sym (not-true _ both.0) ∙ (decides_hits B x.action x.target (R.step m p)).1 (rw e at w))
        | inr ne ↦ tells_none x m p both.1 q (omega arith) w
      ]

  abbrev stays : Step → ℕ → Bool
  stays x t = eqb x.action 0 && B x.target t

  -- t moves to m, and does there at place p what x does
  abbrev moves : ℕ → ℕ → Step → ℕ → ℕ → Bool
  moves s t x m p = not (stays x t) && (reach R R.states t m && (B s m && (fits x m p && none_below x m p)))

  -- no other state than m answers
  abbrev alone : ℕ → ℕ → Step → ℕ → Bool
  alone s t x m = ltb t R.states && (not (eqb x.target s) && not (answered R (removing B s m) s t x.action x.target))

  -- It passes no reply of nothing, and no move beside which there is another.
  abbrev pub is_reply : ℕ → ℕ → Step → Option Reply → Bool
  is_reply s t x (Some Stays) = stays x t
  is_reply s t x (Some (Moves m p)) = moves s t x m p && alone s t x m
  is_reply s t x None = false

  tells_move : (s t : ℕ) (x : Step) (m p : ℕ) → moves s t x m p ≡ true → Move R B s t x m p
  tells_move s t x m p h =
      let a = and_parts (not (stays x t)) _ h in
      let b = and_parts (reach R R.states t m) _ a.1 in
      let c = and_parts (B s m) _ b.1 in
      let d = and_parts (fits x m p) _ c.1 in
      record {
        moves = λ k. false≢true (sym (not-true _ a.0) ∙ and_from (eqb x.action 0) (B x.target t) (eq-eqb _ _ k.0) k.1);
        leads = reach_sound R R.states t m b.0;
        keeps = c.0;
        fits = (decides_hits B x.action x.target (R.step m p)).0 d.0;
        lowest = tells_none x m p d.1;
      }

  pub tells_reply : (s t : ℕ) (x : Step) (r : Option Reply) → is_reply s t x r ≡ true → ReplyIs R B s t x r
  tells_reply s t x (Some Stays) h = let both = and_parts (eqb x.action 0) (B x.target t) h in (eqb-true _ _ both.0, both.1)
  tells_reply s t x (Some (Moves m p)) h = tells_move s t x m p (and_parts (moves s t x m p) _ h).0
  tells_reply s t x None h = absurd (false≢true h)

  -- ---- there is no other

  answers : (s t : ℕ) (x : Step) (m p : ℕ) → Move R B s t x m p → Answered R B s t x.action x.target
  answers s t x m p w = inr (record { middle = m; target = w.fits.0; leads = w.leads; keeps = w.keeps; steps = (p, w.fits.1); stands = w.fits.2 })

  -- a move to another state answers without the pair of s and m
  elsewhere : (s t : ℕ) (x : Step) (m n q : ℕ) → eqb x.target s ≡ false → (n ≡ m → ⊥) → Move R B s t x n q → Answered R (removing B s m) s t x.action x.target
  elsewhere s t x m n q out ne w =
      inr
      (record {
        middle = n;
        target = w.fits.0;
        leads = w.leads;
        keeps = and_from (B s n) _ w.keeps (not_from_false _ (and_right (eqb s s) (eqb n m) (ne_eqb n m ne)));
        steps = (q, w.fits.1);
        stands = and_from (B x.target w.fits.0) _ w.fits.2 (not_from_false _ (and_left (eqb x.target s) (eqb w.fits.0 m) out));
      })

  one_place : (s t : ℕ) (x : Step) (m p q : ℕ) → Move R B s t x m p → Move R B s t x m q → q ≡ p
  one_place s t x m p q v w =
      elim (cases_order q p) [
        | inl e ↦ e
        | inr (inl l) ↦ absurd (v.lowest q l w.fits)
        | inr (inr l) ↦ absurd (w.lowest p l v.fits)
      ]

  one_move : Lawful R → (s t : ℕ) (x : Step) (m p n q : ℕ) → moves s t x m p && alone s t x m ≡ true → Move R B s t x n q → Moves n q ≡ Moves m p
  one_move law s t x m p n q h w =
      let a = and_parts (moves s t x m p) (alone s t x m) h in
      let b = and_parts (ltb t R.states) _ a.1 in
      let c = and_parts (not (eqb x.target s)) _ b.1 in
      let decides = decides_answered R law (removing B s m) s t x.action x.target (ltb-true _ _ b.0) in
      elim (cases_eq n m) [
        | inl e ↦ ap₂ Moves e (one_place s t x m p q (tells_move s t x m p a.0) (subst (λ (k : ℕ). Move R B s t x k q) e w))
        | inr ne ↦ absurd (false≢true (sym (not-true _ c.1) ∙ decides.1 (elsewhere s t x m n q (not-true _ c.0) ne w)))
      ]

  pub one_reply : Lawful R → (s t : ℕ) (x : Step) (r : Option Reply) → is_reply s t x r ≡ true → (q : Option Reply) → ReplyIs R B s t x q → q ≡ r
  one_reply law s t x (Some Stays) h (Some Stays) w = refl
  one_reply law s t x (Some Stays) h (Some (Moves n q)) w = absurd (w.moves (tells_reply s t x (Some Stays) h))
  one_reply law s t x (Some Stays) h None w = absurd (w (inl (tells_reply s t x (Some Stays) h)))
  one_reply law s t x (Some (Moves m p)) h (Some Stays) w = absurd ((tells_reply s t x (Some (Moves m p)) h).moves w)
  one_reply law s t x (Some (Moves m p)) h (Some (Moves n q)) w = ap Some (one_move law s t x m p n q h w)
  one_reply law s t x (Some (Moves m p)) h None w = absurd (w (answers s t x m p (tells_reply s t x (Some (Moves m p)) h)))
  one_reply law s t x None h q w = absurd (false≢true h)

-- ---- the reply to the step that is asked about, if there is one

abbrev pub replies_to : Lts → Lts → Pairing → Ask → Option Step → Option Reply → Bool
replies_to L R B a None r = false
replies_to L R B a (Some x) r = cond (eqb a.side 0) (is_reply R B a.s a.t x r) (is_reply L (flip B) a.t a.s x r)

pub replied_by : (why : Option Fault) (L R : Lts) (B : Pairing) (a : Ask) (r : Option Reply) → Lawful L → Lawful R → why ≡ None → replies_to L R B a (wanted L R a) r ≡ true → Replied why L R B a r
replied_by why L R B a r lawL lawR free h = go (wanted L R a) refl h
  where
    side : (x : Step) (b : Bool) → cond b (is_reply R B a.s a.t x r) (is_reply L (flip B) a.t a.s x r) ≡ true → cond b (ReplyIs R B a.s a.t x r) (ReplyIs L (flip B) a.t a.s x r)
    side x true h = tells_reply R B a.s a.t x r h
    side x false h = tells_reply L (flip B) a.t a.s x r h

    one : (x : Step) (b : Bool) → cond b (is_reply R B a.s a.t x r) (is_reply L (flip B) a.t a.s x r) ≡ true → (q : Option Reply) → cond b (ReplyIs R B a.s a.t x q) (ReplyIs L (flip B) a.t a.s x q) → q ≡ r
    one x true h q w = one_reply R B lawR a.s a.t x r h q w
    one x false h q w = one_reply L (flip B) lawL a.t a.s x r h q w

    go : (o : Option Step) → wanted L R a ≡ o → replies_to L R B a o r ≡ true → Replied why L R B a r
    go None e h = absurd (false≢true h)
    go (Some x) e h =
        record {
          says = (free, (x, e, side x (eqb a.side 0) h));
          no_other = λ q w.
              let y = w.1.0 in
              let f = w.1.1 in
              let z : y ≡ x = cc in
              one x (eqb a.side 0) h q (subst (λ (v : Step). RepliesTo L R B a v q) z w.1.2);
        }
