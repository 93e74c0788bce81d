-- Doing one action again and again from the start, always at the lowest place that holds it.
use Rattle.std.specs.Prelude.{◌≡◌, ℕ, suc, ◌<◌, ◌≤◌, Some, ◌≢◌}
use Rattle.transitions.specs.Lts.{Lts, Steps}

-- Place p is the lowest of s that holds a step of the action a, and that step leads to t.
pub record FirstStep (L : Lts) (a s p t : ℕ) : Type 0 where
  pub holds : L.step s p ≡ Some (record { action = a; target = t })
  pub lowest : (q u : ℕ) → q < p → L.step s q ≢ Some (record { action = a; target = u })

-- No place of s holds a step of the action a.
abbrev pub HasNoStep : Lts → ℕ → ℕ → Type 0
HasNoStep L a s = (t : ℕ) → Steps L s a t → ⊥

-- n such steps, one after the other, lead from s to t.
pub data Repeats (L : Lts) (a : ℕ) : ℕ → ℕ → ℕ → Type 0 where
  none : {s : ℕ} → Repeats L a s 0 s
  more : {s m p t n : ℕ} → Repeats L a s n m → FirstStep L a m p t → Repeats L a s (suc n) t

-- From the start the action was done `made` times, at most `turns`, and led to `last`; fewer than `turns` only where `last` has
-- no step of the action.
pub record Repeated (L : Lts) (a turns made last : ℕ) : Type 0 where
  pub walked : Repeats L a L.start made last
  pub few : made ≤ turns
  pub stopped : made < turns → HasNoStep L a last
