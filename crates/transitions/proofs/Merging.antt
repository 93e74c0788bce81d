-- Merging both models with a third one keeps a match.
use Rattle.std.proofs.Common.{◌≡◌, ℕ, zero, suc, ◌+◌, ◌-◌, ◌*◌, ◌/◌, ◌%◌, ◌<◌, true, ◌&&◌, eqb, ltb, Some, None, Option, sym, refl, ap, ◌∙◌, subst, inl, inr, mul-zero, div-add-mod', arith}
use mathlib.Core.Path.{subst₃, fun_ext}
use lib.Arith.{digits_lt, digits_div, digits_mod}
use Rattle.std.proofs.lemmas.Bool.{cases_Bool, ltb-true, lt-ltb, le-ltb, eqb-true, eq-eqb, and_parts}
use Rattle.std.proofs.lemmas.Bool.Decides.{nat_tests}
use Rattle.std.proofs.lemmas.Nat.{div_below, mod_below}
use Rattle.transitions.specs.declared.steps.Step.{Step}
use Rattle.transitions.specs.Lts.{Lts, Lawful, Steps, Silent}
use Rattle.transitions.specs.Lts.Silent.{stay, go}
use Rattle.transitions.specs.Match.{Pairing, flip, Stands, Answered, Moves, Rooted, Simulates, Match}
use Rattle.transitions.specs.Made.{Joins, Communication, pair, on_left, on_right, on_both, merged, joined, room, merge, beside}
use Rattle.transitions.proofs.Relabel.{leading_back}
use Rattle.transitions.proofs.Follow.{silent_in}
use Rattle.transitions.specs.Rules.{Joint}
use Rattle.transitions.specs.Rules.Joint.{by_left, by_right, by_both}

-- ---- from a place to a joint step

none_some : (x : Step) → None ≡ Some x → ⊥
none_some x e = let z : ◌≡◌ {A = ℕ} 0 1 = cc in omega arith

left_back : (n u : ℕ) (o : Option Step) (a x : ℕ) → on_left n u o ≡ Some (record { action = a; target = x }) → (s' : ℕ) × (o ≡ Some (record { action = a; target = s' })) × (x ≡ pair n s' u)
left_back n u None a x e = absurd (none_some _ e)
left_back n u (Some y) a x e =
    let k : ◌≡◌ {A = Step} (record { action = y.action; target = pair n y.target u }) (record { action = a; target = x }) = cc in
    (y.target, ap (λ (z : Step). Some (record { action = z.action; target = y.target })) k, ap (λ (z : Step). z.target) (sym k))

right_back : (n s : ℕ) (o : Option Step) (a x : ℕ) → on_right n s o ≡ Some (record { action = a; target = x }) → (u' : ℕ) × (o ≡ Some (record { action = a; target = u' })) × (x ≡ pair n s u')
right_back n s None a x e = absurd (none_some _ e)
right_back n s (Some y) a x e =
    let k : ◌≡◌ {A = Step} (record { action = y.action; target = pair n s y.target }) (record { action = a; target = x }) = cc in
    (y.target, ap (λ (z : Step). Some (record { action = z.action; target = y.target })) k, ap (λ (z : Step). z.target) (sym k))

pub record Both (join : Joins) (n : ℕ) (o q : Option Step) (c x : ℕ) : Type 0 where
  pub a : ℕ
  pub b : ℕ
  pub s' : ℕ
  pub u' : ℕ
  pub left : o ≡ Some (record { action = a; target = s' })
  pub right : q ≡ Some (record { action = b; target = u' })
  pub joins : join a b ≡ Some c
  pub at : x ≡ pair n s' u'

both_back : (join : Joins) (n : ℕ) (o q : Option Step) (c x : ℕ) → on_both join n o q ≡ Some (record { action = c; target = x }) → Both join n o q c x
both_back join n None q c x e = absurd (none_some _ e)
both_back join n (Some y) None c x e = absurd (none_some _ e)
both_back join n (Some y) (Some z) c x e =
    let h = leading_back (pair n y.target z.target) (join y.action z.action) c x e in
    record { a = y.action; b = z.action; s' = y.target; u' = z.target; left = refl; right = refl; joins = h.0; at = sym h.1 }

pub record Split (join : Joins) (L U : Lts) (s u a x : ℕ) : Type 0 where
  pub s' : ℕ
  pub u' : ℕ
  pub at : x ≡ pair U.states s' u'
  pub joint : Joint join L U s u a s' u'

merged_back : (join : Joins) (L U : Lts) (s u p a x : ℕ) → merged join L U s u p ≡ Some (record { action = a; target = x }) → Split join L U s u a x
merged_back join L U s u p a x e =
    elim (cases_Bool (ltb p L.width)) [
      | inl h ↦
          let w = left_back U.states u (L.step s p) a x (rw h at e) in
          record { s' = w.0; u' = u; at = w.2; joint = by_left (p, w.1) }
      | inr h ↦
          elim (cases_Bool (ltb p (L.width + U.width))) [
            | inl k ↦
                let w = right_back U.states s (U.step u (p - L.width)) a x (rw (h, k) at e) in
                record { s' = s; u' = w.0; at = w.2; joint = by_right (p - L.width, w.1) }
            | inr k ↦
                elim (cases_Bool (ltb p (L.width + U.width + L.width * U.width))) [
                  | inl l ↦
                      let w = both_back join U.states (L.step s ((p - (L.width + U.width)) / U.width)) (U.step u ((p - (L.width + U.width)) % U.width)) a x (rw (h, k, l) at e) in
                      record { s' = w.s'; u' = w.u'; at = w.at; joint = by_both w.a w.b (_, w.left) (_, w.right) w.joins }
                  | inr l ↦ absurd (none_some _ (rw (h, k, l) at e))
                ]
          ]
    ]

pub joined_back : (join : Joins) (L U : Lts) (x a x' : ℕ) → Steps (joined join L U) x a x' → Split join L U (x / U.states) (x % U.states) a x'
joined_back join L U x a x' (p, e) =
    elim (cases_Bool (ltb x (L.states * U.states))) [
      | inl h ↦ merged_back join L U (x / U.states) (x % U.states) p a x' (rw h at e)
      | inr h ↦ absurd (none_some _ (rw h at e))
    ]

-- ---- from a joint step to a place

module _ (join : Joins) (L U : Lts) (lawL : Lawful L) (lawU : Lawful U) where
  at_pair : (s u p : ℕ) → s < L.states → u < U.states → (joined join L U).step (pair U.states s u) p ≡ merged join L U s u p
  at_pair s u p hs hu = rw (lt-ltb _ _ (digits_lt hs hu)) (rw (digits_div s hu) (rw (digits_mod s hu)))

  pub joined_forth : (s u a s' u' : ℕ) → s < L.states → u < U.states → Joint join L U s u a s' u' → Steps (joined join L U) (pair U.states s u) a (pair U.states s' u')
  joined_forth s u a s' u' hs hu (by_left (p, e)) =
      let hp : p < L.width = (lawL.step_in s p _ e).1 in
      (p, at_pair s u p hs hu ∙ rw (lt-ltb _ _ hp) (rw e))
  joined_forth s u a s' u' hs hu (by_right (p, e)) =
      let hp : p < U.width = (lawU.step_in u p _ e).1 in
      let q : ℕ = L.width + p in
      let k : q - L.width ≡ p = omega arith in
      (q, at_pair s u q hs hu ∙ rw (le-ltb q L.width (omega arith)) (rw (lt-ltb q (L.width + U.width) (omega arith)) (rw k (rw e))))
  joined_forth s u c s' u' hs hu (by_both a b (p, e) (r, d) j) =
      let hp : p < L.width = (lawL.step_in s p _ e).1 in
      let hr : r < U.width = (lawU.step_in u r _ d).1 in
      let i : ℕ = p * U.width + r in
      let hi : i < L.width * U.width = digits_lt hp hr in
      let q : ℕ = L.width + U.width + i in
      let k : q - (L.width + U.width) ≡ i = omega arith in (
        q,
        at_pair s u q hs hu
            ∙ rw (le-ltb q L.width (omega arith)) (rw (le-ltb q (L.width + U.width) (omega arith)) (rw (lt-ltb q (L.width + U.width + L.width * U.width) (omega arith)) (rw k (rw (digits_div p hr) (rw (digits_mod p hr) (rw (e, d, j))))))),
      )

  lift : {s m : ℕ} (u : ℕ) → s < L.states → u < U.states → Silent L s m → Silent (joined join L U) (pair U.states s u) (pair U.states m u)
  lift u hs hu stay = stay
  lift u hs hu (go {s} {m} h q) =
      go (joined_forth s u 0 m u hs hu (by_left h)) (lift u (lawL.step_in s h.0 _ h.1).3 hu q)

-- ---- the answers

beside_back : (n : ℕ) (B : Pairing) (x y : ℕ) → Stands (beside n B) x y → Stands B (x / n) (y / n) × (x % n ≡ y % n)
beside_back n B x y h =
    let k = (and_parts (ltb 0 n) (B (x / n) (y / n) && eqb (x % n) (y % n)) h).1 in
    let w = and_parts (B (x / n) (y / n)) (eqb (x % n) (y % n)) k in
    (w.0, eqb-true (x % n) (y % n) w.1)

module _ (join : Joins) (laws : Communication join) (L R U : Lts) (lawL : Lawful L) (lawR : Lawful R) (lawU : Lawful U) (pos : 0 < U.states) (B : Pairing) where
  beside_at : (s t u : ℕ) → u < U.states → Stands B s t → Stands (beside U.states B) (pair U.states s u) (pair U.states t u)
  beside_at s t u hu h =
      rw (lt-ltb 0 U.states pos) (rw (digits_div s hu) (rw (digits_div t hu) (rw (digits_mod s hu) (rw (digits_mod t hu) (rw h (eq-eqb u u refl))))))

  moved : (s t u v a b s' u' : ℕ) → s < L.states → t < R.states → u < U.states → u' < U.states
      → (w : Moves R B s t a s') → Joint join R U w.middle u b w.target u'
      → Answered (joined join R U) (beside U.states B) (pair U.states s u) (pair U.states t u) b (pair U.states s' u')
  moved s t u v a b s' u' hs ht hu hu' w j =
      let hm : w.middle < R.states = silent_in R lawR w.leads ht in
      inr
      (record {
        middle = pair U.states w.middle u;
        target = pair U.states w.target u';
        leads = lift join R U lawR lawU u ht hu w.leads;
        keeps = beside_at s w.middle u hu w.keeps;
        steps = joined_forth join R U lawR lawU w.middle u b w.target u' hm hu j;
        stands = beside_at s' w.target u' hu' w.stands;
      })

  silent_joins : (a b c : ℕ) → a ≡ 0 → join a b ≡ Some c → ⊥
  silent_joins a b c e j = let k = laws.silent_free a b c j in omega arith

  module _ (side : Simulates L R B) where
    answer : (s t u a s' u' : ℕ) → s < L.states → t < R.states → u < U.states → Stands B s t → Joint join L U s u a s' u'
        → Answered (joined join R U) (beside U.states B) (pair U.states s u) (pair U.states t u) a (pair U.states s' u')
    answer s t u a s' u' hs ht hu st (by_left h) =
        elim (side.step s t hs ht st a s' h) [
          | inl w ↦ inl (w.0, beside_at s' t u hu w.1)
          | inr w ↦ moved s t u u a a s' u hs ht hu hu w (by_left w.steps)
        ]
    answer s t u a s' u' hs ht hu st (by_right h) =
        let hu' : u' < U.states = (lawU.step_in u h.0 _ h.1).3 in
        inr
        (record {
          middle = pair U.states t u;
          target = pair U.states t u';
          leads = stay;
          keeps = beside_at s t u hu st;
          steps = joined_forth join R U lawR lawU t u a t u' ht hu (by_right h);
          stands = beside_at s t u' hu' st;
        })
    answer s t u c s' u' hs ht hu st (by_both a b h k j) =
        elim (side.step s t hs ht st a s' h) [
          | inl w ↦ absurd (silent_joins a b c w.0 j)
          | inr w ↦ moved s t u u a c s' u' hs ht hu (lawU.step_in u k.0 _ k.1).3 w (by_both a b w.steps k j)
        ]

    rooted : (s u a s' u' : ℕ) → L.start ≡ s → u ≡ U.start → R.start < R.states → u < U.states → Stands B L.start R.start → Joint join L U s u a s' u'
        → Rooted (joined join R U) (beside U.states B) a (pair U.states s' u')
    rooted s u a s' u' es eu ht hu st (by_left h) =
        let w = side.root a s' (rw es h) in
        record {
          target = pair U.states w.target u;
          steps = rw (← eu) (joined_forth join R U lawR lawU R.start u a w.target u ht hu (by_left w.steps));
          stands = beside_at s' w.target u hu w.stands;
        }
    rooted s u a s' u' es eu ht hu st (by_right h) =
        let hu' : u' < U.states = (lawU.step_in u h.0 _ h.1).3 in
        record {
          target = pair U.states R.start u';
          steps = rw (← eu) (joined_forth join R U lawR lawU R.start u a R.start u' ht hu (by_right h));
          stands = beside_at s R.start u' hu' (rw es at st);
        }
    rooted s u c s' u' es eu ht hu st (by_both a b h k j) =
        let w = side.root a s' (rw es h) in
        let hu' : u' < U.states = (lawU.step_in u k.0 _ k.1).3 in
        record {
          target = pair U.states w.target u';
          steps = rw (← eu) (joined_forth join R U lawR lawU R.start u c w.target u' ht hu (by_both a b w.steps k j));
          stands = beside_at s' w.target u' hu' w.stands;
        }

    module _ (startR : R.start < R.states) (startU : U.start < U.states) (starts : Stands B L.start R.start) where
      pub joined_side : Simulates (joined join L U) (joined join R U) (beside U.states B)
      joined_side =
          record {
            step = λ x y hx hy h a x' p.
                let st = beside_back U.states B x y h in
                let e = st.1 in
                let w = joined_back join L U x a x' p in
                subst₃ (λ i j k. Answered (joined join R U) (beside U.states B) i j a k) (div-add-mod' x U.states)
                (ap (λ v. pair U.states (y / U.states) v) e ∙ div-add-mod' y U.states) (sym w.at)
                (answer (x / U.states) (y / U.states) (x % U.states) a w.s' w.u' (div_below x U.states L.states pos hx)
                (div_below y U.states R.states pos hy) (mod_below x U.states pos) st.0 w.joint);
            end = λ x y hx hy h e.
                let st = beside_back U.states B x y h in
                let d = st.1 in
                let en = and_parts (L.ends (x / U.states)) (U.ends (x % U.states)) (and_parts (ltb x (L.states * U.states)) _ e).1 in
                let u : ℕ = x % U.states in
                let hu : u < U.states = mod_below x U.states pos in
                let hy' : y / U.states < R.states = div_below y U.states R.states pos hy in
                let w = side.end (x / U.states) (y / U.states) (div_below x U.states L.states pos hx) hy' st.0 en.0 in
                let hm : w.middle < R.states = silent_in R lawR w.leads hy' in
                record {
                  middle = pair U.states w.middle u;
                  leads = subst (λ j. Silent (joined join R U) j (pair U.states w.middle u)) (ap (λ v. pair U.states (y / U.states) v) d ∙ div-add-mod' y U.states) (lift join R U lawR lawU u hy' hu w.leads);
                  keeps = subst (λ i. Stands (beside U.states B) i (pair U.states w.middle u)) (div-add-mod' x U.states) (beside_at (x / U.states) w.middle u hu w.keeps);
                  ends = rw (lt-ltb _ _ (digits_lt hm hu)) (rw (digits_div w.middle hu) (rw (digits_mod w.middle hu) (rw w.ends en.1)));
                };
            root = λ a x' p.
                let w = joined_back join L U (pair U.states L.start U.start) a x' p in
                subst (λ k. Rooted (joined join R U) (beside U.states B) a k) (sym w.at)
                (rooted _ _ a w.s' w.u' (sym (digits_div L.start startU)) (digits_mod L.start startU) startR (mod_below (pair U.states L.start U.start) U.states pos) starts w.joint);
          }

eqb_flip : (a b : ℕ) → eqb a b ≡ eqb b a
eqb_flip a b = grind (arith, nat_tests)

beside_flip : (n : ℕ) (B : Pairing) → beside n (flip B) ≡ flip (beside n B)
beside_flip n B = fun_ext (λ y. fun_ext (λ x. rw (eqb_flip (y % n) (x % n))))

pub joined_keeps : (L R U : Lts) → Lawful L → Lawful R → Lawful U → (B : Pairing) (join : Joins) → Communication join → Match L R B → 0 < L.states → 0 < R.states → 0 < U.states
    → Match (joined join L U) (joined join R U) (beside U.states B)
joined_keeps L R U lawL lawR lawU B join laws m hL hR hU =
    let startU = lawU.start_in hU in
    record {
      starts = beside_at join laws L R U lawL lawR lawU hU B L.start R.start U.start startU m.starts;
      left = joined_side join laws L R U lawL lawR lawU hU B m.left (lawR.start_in hR) startU m.starts;
      right = subst (λ P. Simulates (joined join R U) (joined join L U) P) (beside_flip U.states B) (joined_side join laws R L U lawR lawL lawU hU (flip B) m.right (lawL.start_in hL) startU m.starts);
    }

-- A merge that is not empty is the two models side by side.
pub roomy : (join : Joins) (L U : Lts) → 0 < (merge join L U).states → room L U ≡ true
roomy join L U h =
    elim (cases_Bool (room L U)) [
      | inl e ↦ e
      | inr e ↦ absurd (let k : ◌<◌ 0 0 = rw e at h in omega arith)
    ]

pub product_pos : (a b : ℕ) → 0 < a * b → (0 < a) × (0 < b)
product_pos zero b h = absurd (omega arith)
product_pos (suc a) zero h = absurd (let k : ◌<◌ 0 0 = rw mul-zero at h in omega arith)
product_pos (suc a) (suc b) h = (omega arith, omega arith)

pub merges_keep : (L R U : Lts) → Lawful L → Lawful R → Lawful U → (B : Pairing) (join : Joins) → Communication join → Match L R B
    → 0 < (merge join L U).states → 0 < (merge join R U).states → Match (merge join L U) (merge join R U) (beside U.states B)
merges_keep L R U lawL lawR lawU B join laws m hL hR =
    let eL = roomy join L U hL in
    let eR = roomy join R U hR in
    let pL = product_pos L.states U.states (ltb-true _ _ (and_parts _ _ eL).1) in
    let pR = product_pos R.states U.states (ltb-true _ _ (and_parts _ _ eR).1) in
    rw (eL, eR) (joined_keeps L R U lawL lawR lawU B join laws m pL.0 pR.0 pL.1)
