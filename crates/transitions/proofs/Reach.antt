-- What the tests of a verdict decide.
use Rattle.std.proofs.Common.{◌≡◌, ℕ, zero, suc, ◌<◌, Bool, true, false, not, ◌&&◌, ◌||◌, eqb, Some, None, Decides, Option, sym, refl, ap, subst, ap₂, inl, inr, arith}
use Rattle.std.proofs.lemmas.Bool.{false≢true, eqb-true, eq-eqb, cases_eq, and_parts, and_from, or_cases, or_left, or_right}
use Rattle.std.proofs.lemmas.Bool.Decides.{Decides-eqb, Decides-and, Decides-or, Decides-like, Decides-below_or}
use Rattle.transitions.specs.declared.steps.Step.{Step}
use Rattle.transitions.specs.Lts.{Lts, Lawful, Steps, Silent}
use Rattle.transitions.specs.Lts.Silent.{stay, go}
use Rattle.transitions.specs.Match.{Pairing, Stands, Answered, Rooted}
use Rattle.transitions.specs.Verdict.{AtPlace, AtEnd, AtRoot}
use Rattle.transitions.proofs.Computed.{any, is_silent_to, reach, hits, answered, place_ok, end_ok, root_ok}
use Rattle.transitions.proofs.Follow.{silent_in}

none_some : (x : Step) → None ≡ Some x → ⊥
none_some x e = let z : ◌≡◌ {A = ℕ} 0 1 = cc in omega arith

some_is : (x y : Step) → Some x ≡ Some y → x ≡ y
some_is x y e = cc

pub decides_any : (n : ℕ) (f : ℕ → Bool) (P : ℕ → Type 0) → ((k : ℕ) → Decides (f k) (P k)) → Decides (any n f) ((k : ℕ) × (k < n) × P k)
decides_any n f P each = Decides-below_or f P (λ k. any k f) each refl (λ _. refl) n

decides_silent_to : (m : ℕ) (o : Option Step) → Decides (is_silent_to m o) (o ≡ Some (record { action = 0; target = m }))
decides_silent_to m None = (λ e. absurd (false≢true e), λ e. absurd (none_some _ e))
decides_silent_to m (Some x) =
    Decides-like (is_silent_to m (Some x)) (λ h. ap₂ (λ a t. Some (record { action = a; target = t })) h.0 h.1)
    (λ e. let k = some_is x (record { action = 0; target = m }) e in (ap (λ (z : Step). z.action) k, ap (λ (z : Step). z.target) k))
    (Decides-and (eqb x.action 0) (eqb x.target m) (Decides-eqb x.action 0) (Decides-eqb x.target m))

pub decides_hits : (B : Pairing) (a s' : ℕ) (o : Option Step) → Decides (hits B a s' o) ((t' : ℕ) × (o ≡ Some (record { action = a; target = t' })) × Stands B s' t')
decides_hits B a s' None = (λ e. absurd (false≢true e), λ w. absurd (none_some _ w.1))
decides_hits B a s' (Some y) =
    Decides-like (hits B a s' (Some y)) (λ h. (y.target, ap (λ b. Some (record { action = b; target = y.target })) h.0, h.1))
    (λ w.
    let k = some_is y (record { action = a; target = w.0 }) w.1 in
    (ap (λ (z : Step). z.action) k, subst (λ t. Stands B s' t) (ap (λ (z : Step). z.target) (sym k)) w.2))
    (Decides-and (eqb y.action a) (B s' y.target) (Decides-eqb y.action a) (λ e. e, λ e. e))

-- ---- silent steps through states below k

append : (L : Lts) {s m t : ℕ} → Silent L s m → Silent L m t → Silent L s t
append L stay r = r
append L (go h q) r = go h (append L q r)

module _ (L : Lts) where
  one_step : (s m : ℕ) → Decides (any L.width (λ p. is_silent_to m (L.step s p))) ((p : ℕ) × (p < L.width) × (L.step s p ≡ Some (record { action = 0; target = m })))
  one_step s m = decides_any L.width _ (λ p. L.step s p ≡ Some (record { action = 0; target = m })) (λ p. decides_silent_to m (L.step s p))

  pub reach_sound : (k s m : ℕ) → reach L k s m ≡ true → Silent L s m
  reach_sound zero s m h =
      elim (or_cases (eqb s m) (any L.width (λ p. is_silent_to m (L.step s p))) h) [
        | inl e ↦ subst (λ x. Silent L s x) (eqb-true s m e) stay
        | inr e ↦ let w = (one_step s m).0 e in go (w.0, w.2) stay
      ]
  reach_sound (suc k) s m h =
      elim (or_cases (reach L k s m) (reach L k s k && reach L k k m) h) [
        | inl e ↦ reach_sound k s m e
        | inr e ↦ let w = and_parts (reach L k s k) (reach L k k m) e in append L (reach_sound k s k w.0) (reach_sound k k m w.1)
      ]

  reach_from : (k s m : ℕ) → reach L zero s m ≡ true → reach L k s m ≡ true
  reach_from zero s m h = h
  reach_from (suc k) s m h = or_left (reach L k s m) _ (reach_from k s m h)

  -- by k, whether or not k is the middle
  through : (k s t : ℕ) → reach L k s k ≡ true → reach L k k t ≡ true → reach L (suc k) s t ≡ true
  through k s t g h = or_right (reach L k s t) _ (and_from _ _ g h)

  to_last : (k s : ℕ) → reach L (suc k) s k ≡ true → reach L k s k ≡ true
  to_last k s h =
      elim (or_cases (reach L k s k) (reach L k s k && reach L k k k) h) [ inl e ↦ e | inr e ↦ (and_parts (reach L k s k) (reach L k k k) e).0 ]

  from_last : (k t : ℕ) → reach L (suc k) k t ≡ true → reach L k k t ≡ true
  from_last k t h =
      elim (or_cases (reach L k k t) (reach L k k k && reach L k k t) h) [ inl e ↦ e | inr e ↦ (and_parts (reach L k k k) (reach L k k t) e).1 ]

  reach_trans : (k s m t : ℕ) → m < k → reach L k s m ≡ true → reach L k m t ≡ true → reach L k s t ≡ true
  reach_trans zero s m t hm g h = absurd (omega arith)
  reach_trans (suc k) s m t hm g h =
      elim (cases_eq m k) [
        | inl e ↦ through k s t (to_last k s (rw e at g)) (from_last k t (rw e at h))
        | inr ne ↦
            let lt : m < k = omega arith in
            elim (or_cases (reach L k s m) (reach L k s k && reach L k k m) g) [
              | inl a ↦
                  elim (or_cases (reach L k m t) (reach L k m k && reach L k k t) h) [
                    | inl b ↦ or_left (reach L k s t) _ (reach_trans k s m t lt a b)
                    | inr b ↦ let w = and_parts (reach L k m k) (reach L k k t) b in through k s t (reach_trans k s m k lt a w.0) w.1
                  ]
              | inr a ↦
                  let v = and_parts (reach L k s k) (reach L k k m) a in
                  elim (or_cases (reach L k m t) (reach L k m k && reach L k k t) h) [
                    | inl b ↦ through k s t v.0 (reach_trans k k m t lt v.1 b)
                    | inr b ↦ through k s t v.0 (and_parts (reach L k m k) (reach L k k t) b).1
                  ]
            ]
      ]

  module _ (law : Lawful L) where
    reach_whole : {s m : ℕ} → Silent L s m → reach L L.states s m ≡ true
    reach_whole {s} stay = reach_from L.states s s (or_left (eqb s s) _ (eq-eqb s s refl))
    reach_whole {s} {m} (go {m = r} (p, e) q) =
        let w = law.step_in s p _ e in
        reach_trans L.states s r m w.3 (reach_from L.states s r (or_right (eqb s r) _ ((one_step s r).1 (p, w.1, e)))) (reach_whole q)

    decides_reach : (s m : ℕ) → Decides (reach L L.states s m) (Silent L s m)
    decides_reach s m = (reach_sound L.states s m, reach_whole)

-- ---- the conditions

-- a condition on what is true
pub decides_given : (c b : Bool) {P : Type 0} → Decides b P → Decides (not c || b) (c ≡ true → P)
decides_given true b h = (λ e _. h.0 e, λ f. h.1 (f refl))
decides_given false b h = (λ _ e. absurd (false≢true e), λ _. refl)

module _ (R : Lts) (law : Lawful R) (B : Pairing) where
  places : (m a s' : ℕ) → Decides (any R.width (λ q. hits B a s' (R.step m q))) ((t' : ℕ) × Steps R m a t' × Stands B s' t')
  places m a s' =
      Decides-like (any R.width (λ q. hits B a s' (R.step m q))) (λ w. (w.2.0, (w.0, w.2.1), w.2.2))
      (λ w. (w.1.0, (law.step_in m w.1.0 _ w.1.1).1, (w.0, w.1.1, w.2)))
      (decides_any R.width _ (λ q. (t' : ℕ) × (R.step m q ≡ Some (record { action = a; target = t' })) × Stands B s' t') (λ q. decides_hits B a s' (R.step m q)))

  pub decides_answered : (s t a s' : ℕ) → t < R.states → Decides (answered R B s t a s') (Answered R B s t a s')
  decides_answered s t a s' ht =
      Decides-or (eqb a 0 && B s' t) _ (Decides-and (eqb a 0) (B s' t) (Decides-eqb a 0) (λ e. e, λ e. e))
      (Decides-like (any R.states _)
      (λ w. record { middle = w.0; target = w.2.1.1.0; leads = w.2.0; keeps = w.2.1.0; steps = w.2.1.1.1; stands = w.2.1.1.2 })
      (λ w. (w.middle, silent_in R law w.leads ht, (w.leads, (w.keeps, (w.target, w.steps, w.stands)))))
      (decides_any R.states _ (λ m. Silent R t m × (Stands B s m × ((t' : ℕ) × Steps R m a t' × Stands B s' t')))
      (λ m. Decides-and (reach R R.states t m) _ (decides_reach R law t m) (Decides-and (B s m) _ (λ e. e, λ e. e) (places m a s')))))

  pub decides_place : (L : Lts) (s t p : ℕ) → t < R.states → Decides (place_ok R B s t (L.step s p)) (AtPlace L R B s t p)
  decides_place L s t p ht = go_on (L.step s p)
    where
      go_on : (o : Option Step) → Decides (place_ok R B s t o) ((x : Step) → o ≡ Some x → Answered R B s t x.action x.target)
      go_on None = (λ _ x e. absurd (none_some x e), λ _. refl)
      go_on (Some y) =
          Decides-like (answered R B s t y.action y.target) (λ w x e. subst (λ (z : Step). Answered R B s t z.action z.target) (some_is y x e) w)
          (λ w. w y refl) (decides_answered s t y.action y.target ht)

  pub decides_root : (L : Lts) (s p : ℕ) → Decides (root_ok R B (L.step s p)) (AtRoot L R B s p)
  decides_root L s p = go_on (L.step s p)
    where
      go_on : (o : Option Step) → Decides (root_ok R B o) ((x : Step) → o ≡ Some x → Rooted R B x.action x.target)
      go_on None = (λ _ x e. absurd (none_some x e), λ _. refl)
      go_on (Some y) =
          Decides-like (root_ok R B (Some y))
          (λ w x e. subst (λ (z : Step). Rooted R B z.action z.target) (some_is y x e) (record { target = w.0; steps = w.1; stands = w.2 }))
          (λ w. let v = w y refl in (v.target, v.steps, v.stands)) (places R.start y.action y.target)

  pub decides_end : (L : Lts) (s t : ℕ) → t < R.states → Decides (end_ok L R B s t) (AtEnd L R B s t)
  decides_end L s t ht =
      decides_given (L.ends s) _
      (Decides-like (any R.states _) (λ w. record { middle = w.0; leads = w.2.0; keeps = w.2.1.0; ends = w.2.1.1 })
      (λ w. (w.middle, silent_in R law w.leads ht, (w.leads, (w.keeps, w.ends))))
      (decides_any R.states _ (λ m. Silent R t m × (Stands B s m × (R.ends m ≡ true)))
      (λ m. Decides-and (reach R R.states t m) _ (decides_reach R law t m) (Decides-and (B s m) (R.ends m) (λ e. e, λ e. e) (λ e. e, λ e. e)))))
