-- A change of actions that leaves the silent one keeps a match. Blocking and hiding are such changes.
use Rattle.std.proofs.Common.{◌≡◌, ℕ, false, Some, None, Option, ap, inl, inr, arith}
use Rattle.transitions.specs.declared.steps.Step.{Step}
use Rattle.transitions.specs.Lts.{Lts, Steps, Silent}
use Rattle.transitions.specs.Lts.Silent.{stay, go}
use Rattle.transitions.specs.Match.{Pairing, flip, Answered, Simulates, Match}
use Rattle.transitions.specs.Made.{Actions, Change, leading, changed, relabel, dropping, silencing, block, hide}

-- A step of the changed model is a changed step.
pub leading_back : (t : ℕ) (o : Option ℕ) (a s' : ℕ) → leading t o ≡ Some (record { action = a; target = s' }) → (o ≡ Some a) × (t ≡ s')
leading_back t None a s' e = absurd (let z : ◌≡◌ {A = ℕ} 0 1 = cc in omega arith)
leading_back t (Some b) a s' e =
    let k : ◌≡◌ {A = Step} (record { action = b; target = t }) (record { action = a; target = s' }) = cc in
    (ap (λ (x : Step). Some x.action) k, ap (λ (x : Step). x.target) k)

pub back : (f : Change) (o : Option Step) (a s' : ℕ) → changed f o ≡ Some (record { action = a; target = s' }) → (b : ℕ) × (o ≡ Some (record { action = b; target = s' })) × (f b ≡ Some a)
back f None a s' e = absurd (let z : ◌≡◌ {A = ℕ} 0 1 = cc in omega arith)
back f (Some x) a s' e =
    let h = leading_back x.target (f x.action) a s' e in
    (x.action, ap (λ t. Some (record { action = x.action; target = t })) h.1, h.0)

module _ (f : Change) where
  pub forth : (L : Lts) (s a b s' : ℕ) → f b ≡ Some a → Steps L s b s' → Steps (relabel f L) s a s'
  forth L s a b s' e (p, h) = (p, rw h (rw e))

  module _ (quiet : f 0 ≡ Some 0) where
    silent : (L : Lts) {s m : ℕ} → Silent L s m → Silent (relabel f L) s m
    silent L stay = stay
    silent L (go {s} {m} h q) = go (forth L s 0 0 m quiet h) (silent L q)

    side : (L R : Lts) (B : Pairing) → Simulates L R B → Simulates (relabel f L) (relabel f R) B
    side L R B h =
        record {
          step = λ s t hs ht st a s' p.
              let w = back f (L.step s p.0) a s' p.1 in
              answer s t a w.0 s' w.2 (h.step s t hs ht st w.0 s' (p.0, w.1));
          end = λ s t hs ht st e.
              let w = h.end s t hs ht st e in
              record { middle = w.middle; leads = silent R w.leads; keeps = w.keeps; ends = w.ends };
          root = λ a s' p.
              let w = back f (L.step L.start p.0) a s' p.1 in
              let r = h.root w.0 s' (p.0, w.1) in
              record { target = r.target; steps = forth R R.start a w.0 r.target w.2 r.steps; stands = r.stands };
        }
      where
        answer : (s t a b s' : ℕ) → f b ≡ Some a → Answered R B s t b s' → Answered (relabel f R) B s t a s'
        answer s t a b s' e (inl w) = let k : f b ≡ Some 0 = rw w.0 quiet in inl (cc, w.1)
        answer s t a b s' e (inr w) =
            inr (record { middle = w.middle; target = w.target; leads = silent R w.leads; keeps = w.keeps; steps = forth R w.middle a b w.target e w.steps; stands = w.stands })

    pub relabel_keeps : (L R : Lts) (B : Pairing) → Match L R B → Match (relabel f L) (relabel f R) B
    relabel_keeps L R B m = record { starts = m.starts; left = side L R B m.left; right = side R L (flip B) m.right }

module _ (set : Actions) (quiet : set 0 ≡ false) (L R : Lts) (B : Pairing) (m : Match L R B) where
  pub block_keeps : Match (block set L) (block set R) B
  block_keeps = relabel_keeps (dropping set) (rw quiet) L R B m

  pub hide_keeps : Match (hide set L) (hide set R) B
  hide_keeps = relabel_keeps (silencing set) (rw quiet) L R B m
