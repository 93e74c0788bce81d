-- What is made of lawful models is lawful.
use Rattle.std.proofs.Common.{◌≡◌, ℕ, ◌+◌, ◌*◌, ◌/◌, ◌%◌, ◌<◌, ◌≤◌, ◌&&◌, ltb, leb, Some, None, Option, refl, inl, inr, arith}
use lib.Arith.{digits_lt}
use Rattle.std.proofs.lemmas.Bool.{cases_Bool, ltb-true, leb-true, false≢true, and_parts}
use Rattle.std.proofs.lemmas.Nat.{div_below, mod_below}
use Rattle.transitions.specs.declared.steps.Step.{Step}
use Rattle.transitions.specs.Lts.{Lts, Lawful}
use Rattle.transitions.specs.Made.{Actions, Change, Joins, Communication, relabel, dropping, silencing, block, hide, merged, joined, empty, room, merge}
use Rattle.transitions.specs.Rules.{Joint}
use Rattle.transitions.specs.Rules.Joint.{by_left, by_right, by_both}
use Rattle.transitions.proofs.Relabel.{back}
use Rattle.transitions.proofs.Merging.{joined_back, product_pos}

none_some : (x : Step) → None ≡ Some x → ⊥
none_some x e = let z : ◌≡◌ {A = ℕ} 0 1 = cc in omega arith

relabel_lawful : (f : Change) → ((a b : ℕ) → a < 64 → f a ≡ Some b → b < 64) → (L : Lts) → Lawful L → Lawful (relabel f L)
relabel_lawful f small L law =
    record {
      states_fit = law.states_fit;
      width_fits = law.width_fits;
      start_in = law.start_in;
      start_empty = law.start_empty;
      ends_in = law.ends_in;
      step_in = λ s p x e.
          let w = back f (L.step s p) x.action x.target e in
          let k = law.step_in s p _ w.1 in
          (k.0, k.1, small w.0 x.action k.2 w.2, k.3);
    }

dropped_small : (set : Actions) (a b : ℕ) → a < 64 → dropping set a ≡ Some b → b < 64
dropped_small set a b h e =
    elim (cases_Bool (set a)) [
      | inl q ↦ absurd (let k : ◌≡◌ {A = Option ℕ} None (Some b) = rw q at e in let z : ◌≡◌ {A = ℕ} 0 1 = cc in omega arith)
      | inr q ↦ let k : Some a ≡ Some b = rw q at e in let z : a ≡ b = cc in omega arith
    ]

silenced_small : (set : Actions) (a b : ℕ) → a < 64 → silencing set a ≡ Some b → b < 64
silenced_small set a b h e =
    elim (cases_Bool (set a)) [
      | inl q ↦ let k : Some 0 ≡ Some b = rw q at e in let z : 0 ≡ b = cc in omega arith
      | inr q ↦ let k : Some a ≡ Some b = rw q at e in let z : a ≡ b = cc in omega arith
    ]

pub empty_lawful : Lawful empty
empty_lawful =
    record { states_fit = omega arith; width_fits = omega arith; start_in = λ h. absurd (omega arith); start_empty = λ _. refl; ends_in = λ s e. absurd (false≢true e); step_in = λ s p x e. absurd (none_some x e) }

module _ (join : Joins) (laws : Communication join) (L U : Lts) (lawL : Lawful L) (lawU : Lawful U) where
  pub joint_in : (s u a s' u' : ℕ) → s < L.states → u < U.states → Joint join L U s u a s' u' → (a < 64) × (s' < L.states) × (u' < U.states)
  joint_in s u a s' u' hs hu (by_left (p, e)) = let w = lawL.step_in s p _ e in (w.2, w.3, hu)
  joint_in s u a s' u' hs hu (by_right (p, e)) = let w = lawU.step_in u p _ e in (w.2, hs, w.3)
  joint_in s u c s' u' hs hu (by_both a b (p, e) (q, d) j) = ((laws.silent_free a b c j).2.1, (lawL.step_in s p _ e).3, (lawU.step_in u q _ d).3)

  -- where a step stands, its place is below the width and its state below the count
  in_range : (x p : ℕ) (y : Step) → (joined join L U).step x p ≡ Some y → (x < L.states * U.states) × (p < (joined join L U).width)
  in_range x p y e =
      elim (cases_Bool (ltb x (L.states * U.states))) [
        | inl h ↦ (ltb-true _ _ h, place_in (x / U.states) (x % U.states) (rw h at e))
        | inr h ↦ absurd (none_some y (rw h at e))
      ]
    where
      place_in : (s u : ℕ) → merged join L U s u p ≡ Some y → p < L.width + U.width + L.width * U.width
      place_in s u k =
          elim (cases_Bool (ltb p L.width)) [
            | inl a ↦ omega (arith, ltb-true p L.width a)
            | inr a ↦
                elim (cases_Bool (ltb p (L.width + U.width))) [
                  | inl b ↦ omega (arith, ltb-true p (L.width + U.width) b)
                  | inr b ↦
                      elim (cases_Bool (ltb p (L.width + U.width + L.width * U.width)))
                      [ inl c ↦ ltb-true _ _ c | inr c ↦ absurd (none_some y (rw (a, b, c) at k)) ]
                ]
          ]

  pub joined_lawful : L.states * U.states ≤ 4096 → L.width + U.width + L.width * U.width ≤ 4096 → 0 < L.states * U.states → Lawful (joined join L U)
  joined_lawful hn hw pos =
      let pp = product_pos L.states U.states pos in
      record {
        states_fit = hn;
        width_fits = hw;
        start_in = λ _. digits_lt (lawL.start_in pp.0) (lawU.start_in pp.1);
        start_empty = λ e. absurd (omega arith);
        ends_in = λ x e. ltb-true x _ (and_parts (ltb x (L.states * U.states)) _ e).0;
        step_in = λ x p y e.
            let r = in_range x p y e in
            let w = joined_back join L U x y.action y.target (p, e) in
            let k = joint_in (x / U.states) (x % U.states) y.action w.s' w.u' (div_below x U.states L.states pp.1 r.0) (mod_below x U.states pp.1) w.joint in
            (r.0, r.1, k.0, rw w.at (digits_lt k.1 k.2));
      }

  pub merge_lawful : Lawful (merge join L U)
  merge_lawful =
      elim (cases_Bool (room L U)) [
        | inl e ↦
            let v = and_parts (leb (L.states * U.states) 4096 && leb (L.width + U.width + L.width * U.width) 4096) (ltb 0 (L.states * U.states)) e in
            let w = and_parts (leb (L.states * U.states) 4096) (leb (L.width + U.width + L.width * U.width) 4096) v.0 in
            rw e (joined_lawful (leb-true _ _ w.0) (leb-true _ _ w.1) (ltb-true _ _ v.1))
        | inr e ↦ rw e empty_lawful
      ]

pub block_lawful : (set : Actions) {L : Lts} → Lawful L → Lawful (block set L)
block_lawful set {L} law = relabel_lawful (dropping set) (dropped_small set) L law

pub hide_lawful : (set : Actions) {L : Lts} → Lawful L → Lawful (hide set L)
hide_lawful set {L} law = relabel_lawful (silencing set) (silenced_small set) L law
