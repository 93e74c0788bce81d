-- The counter of places taken and given back.
use Rattle.std.specs.Prelude.{◌≡◌, ℕ, ◌+◌, ◌-◌, ◌<◌, ◌≤◌, true, cond, ◌&&◌, Some, None, Option, ◌==◌, nat_lt}
use Rattle.transitions.specs.declared.steps.Step.{Step}
use Rattle.transitions.specs.Lts.{Lts}
use Rattle.transitions.specs.Made.{Visible}
use Rattle.transitions.specs.Rules.{Iff}

-- The limits of a counter: a cap of at most 4,095, and two visible actions.
pub record Countable (cap take give : ℕ) : Type 0 where
  pub cap_fits : cap ≤ 4095
  pub take_visible : Visible take
  pub give_visible : Visible give

-- The step x at place p of the state k: place 0 takes one more below the cap, place 1 gives one back above 0.
pub data Counts (cap take give : ℕ) : ℕ → ℕ → Step → Type 0 where
  takes : {k : ℕ} → k < cap → Counts cap take give k 0 (record { action = take; target = k + 1 })
  gives : {k : ℕ} → k < cap → Counts cap take give (k + 1) 1 (record { action = give; target = k })

-- M counts from 0 to the cap, and may end at 0.
pub record CountsTo (cap take give : ℕ) (M : Lts) : Type 0 where
  pub states : M.states ≡ cap + 1
  pub start : M.start ≡ 0
  pub width : M.width ≡ 2
  pub ends : (k : ℕ) → Iff (M.ends k ≡ true) (k ≡ 0)
  pub steps : (k p : ℕ) (x : Step) → Iff (M.step k p ≡ Some x) (Counts cap take give k p x)

-- M is the counter that was asked for, empty where the limits are not kept.
pub record CounterIs (cap take give : ℕ) (M : Lts) : Type 0 where
  pub made : Countable cap take give → CountsTo cap take give M
  pub empty : (Countable cap take give → ⊥) → (M.states ≡ 0) × (M.width ≡ 0)

-- ---- the same, computed

abbrev pub step_to : ℕ → ℕ → Option Step
step_to a t = Some (record { action = a; target = t })

-- The step at a place of the counter of n states, computed.
abbrev pub counting_step : ℕ → ℕ → ℕ → ℕ → ℕ → Option Step
counting_step n take give k p =
    cond (nat_lt k n)
    (cond (p == 0) (cond (nat_lt (k + 1) n) (step_to take (k + 1)) None) (cond (p == 1) (cond (nat_lt 0 k) (step_to give (k - 1)) None) None))
    None

-- The counter of n states, computed; the one of no states is empty.
abbrev pub counting : ℕ → ℕ → ℕ → Lts
counting n take give =
    record {
      states = n;
      start = 0;
      width = cond (n == 0) 0 2;
      ends = λ k. (k == 0) && nat_lt k n;
      step = counting_step n take give;
    }
