-- Each run of one model is followed in the other.
use Rattle.std.proofs.Common.{◌≡◌, ℕ, zero, suc, ◌<◌, List, [], ◌∷◌, sym, refl, ap, ◌∙◌, inl, inr}
use Rattle.transitions.specs.Lts.{Lts, Lawful, Steps, Silent, Run, shown}
use Rattle.transitions.specs.Lts.Silent.{stay, go}
use Rattle.transitions.specs.Lts.Run.{done, then}
use Rattle.transitions.specs.Match.{Pairing, flip, Stands, Ended, Simulates}
use Rattle.transitions.specs.Theorems.{MayEnd, Followed, RunsFollowed}

pub shown_more : (a : ℕ) (xs ys : List ℕ) → shown xs ≡ shown ys → shown (a ∷ xs) ≡ shown (a ∷ ys)
shown_more zero xs ys e = e
shown_more (suc a) xs ys e = ap (λ zs. suc a ∷ zs) e

-- Silent steps show nothing.
pub record Longer (R : Lts) (t : ℕ) (acts : List ℕ) (u : ℕ) : Type 0 where
  pub actions : List ℕ
  pub run : Run R t actions u
  pub same : shown actions ≡ shown acts

pub before : (R : Lts) {t m : ℕ} (acts : List ℕ) (u : ℕ) → Silent R t m → Run R m acts u → Longer R t acts u
before R acts u stay r = record { actions = acts; run = r; same = refl }
before R acts u (go h q) r =
    let w = before R acts u q r in record { actions = 0 ∷ w.actions; run = then h w.run; same = w.same }

pub silent_in : (R : Lts) → Lawful R → {t m : ℕ} → Silent R t m → t < R.states → m < R.states
silent_in R law stay h = h
silent_in R law (go {s = t} {m} (p, e) q) h = silent_in R law q (law.step_in t p _ e).3

-- What a run of the left model is followed by.
pub record Found (L R : Lts) (B : Pairing) (t : ℕ) (acts : List ℕ) (s' : ℕ) : Type 0 where
  pub actions : List ℕ
  pub last : ℕ
  pub run : Run R t actions last
  pub same : shown actions ≡ shown acts
  pub stands : Stands B s' last
  pub in_left : s' < L.states
  pub in_right : last < R.states

module _ (L R : Lts) (lawL : Lawful L) (lawR : Lawful R) (B : Pairing) (side : Simulates L R B) where
  longer : {t m a u s' : ℕ} {acts : List ℕ} → Silent R t m → Steps R m a u → Found L R B u acts s' → Found L R B t (a ∷ acts) s'
  longer {t} {m} {a} {u} {s'} {acts} q h f =
      let w = before R (a ∷ f.actions) f.last q (then h f.run) in
      record { actions = w.actions; last = f.last; run = w.run; same = w.same ∙ shown_more a f.actions acts f.same; stands = f.stands; in_left = f.in_left; in_right = f.in_right }

  stays : {t a s' : ℕ} {acts : List ℕ} → a ≡ 0 → Found L R B t acts s' → Found L R B t (a ∷ acts) s'
  stays {t} {a} {s'} {acts} e f =
      record { actions = f.actions; last = f.last; run = f.run; same = f.same ∙ ap (λ x. shown (x ∷ acts)) (sym e); stands = f.stands; in_left = f.in_left; in_right = f.in_right }

  pub follow : {s s' : ℕ} {acts : List ℕ} → Run L s acts s' → (t : ℕ) → s < L.states → t < R.states → Stands B s t → Found L R B t acts s'
  follow {s} done t hs ht h = record { actions = []; last = t; run = done; same = refl; stands = h; in_left = hs; in_right = ht }
  follow {s} {s'} (then {m} {a} {acts} (p, e) r) t hs ht h =
      let hm : m < L.states = (lawL.step_in s p _ e).3 in
      elim (side.step s t hs ht h a m (p, e)) [
        | inl w ↦ stays w.0 (follow r t hm ht w.1)
        | inr w ↦ longer w.leads w.steps (follow r w.target hm (lawR.step_in w.middle w.steps.0 _ w.steps.1).3 w.stands)
      ]

-- The end of the last state.
ended : (R : Lts) (B : Pairing) (s t : ℕ) → Ended R B s t → MayEnd R t
ended R B s t w = (w.middle, w.leads, w.ends)

followed : (L R : Lts) → Lawful L → Lawful R → 0 < L.states → 0 < R.states → (B : Pairing) → Stands B L.start R.start → Simulates L R B → Simulates R L (flip B) → Followed L R B
followed L R lawL lawR hL hR B h left right acts s r =
    let f = follow L R lawL lawR B left r R.start (lawL.start_in hL) (lawR.start_in hR) h in
    record {
      actions = f.actions;
      last = f.last;
      run = f.run;
      same = f.same;
      stands = f.stands;
      end_left = λ e. ended R B s f.last (left.end s f.last f.in_left f.in_right f.stands e);
      end_right = λ e. ended L (flip B) f.last s (right.end f.last s f.in_right f.in_left f.stands e);
    }

pub runs_followed : RunsFollowed
runs_followed L R lawL lawR hL hR B m =
    (followed L R lawL lawR hL hR B m.starts m.left m.right, followed R L lawR lawL hR hL (flip B) m.starts m.right m.left)
