-- A model of one state, with no step and no end.
use Rattle.std.specs.Prelude.{◌≡◌, ℕ, ◌≤◌, false, None}
use Rattle.std.proofs.Common.{arith}
use Rattle.transitions.specs.Lts.{Lts, Lawful}

abbrev pub wide : ℕ → Lts
wide w = record { states = 1; start = 0; width = w; ends = λ s. false; step = λ s p. None }

pub wide_lawful : (w : ℕ) → w ≤ 4096 → Lawful (wide w)
wide_lawful w h =
    record {
      states_fit = omega arith;
      width_fits = h;
      start_in = λ p. p;
      start_empty = λ e. absurd (omega arith);
      ends_in = λ s e. absurd (let z : ◌≡◌ {A = ℕ} 0 1 = cc in omega arith);
      step_in = λ s p x e. absurd (let z : ◌≡◌ {A = ℕ} 0 1 = cc in omega arith);
    }
