-- The port communication keeps the three laws, and joins what its rule says.
use Rattle.std.proofs.Common.{◌≡◌, ℕ, ◌+◌, ◌*◌, ◌/◌, ◌%◌, ◌<◌, ◌⊎◌, Some, inl, inr, arith}
use mathlib.Core.Path.{subst₃}
use Rattle.std.proofs.lemmas.Bool.Decides.{nat_tests}
use Rattle.transitions.specs.Made.{Communication}
use Rattle.transitions.specs.Communications.{port_joins, Ported, ByPorts}
use Rattle.transitions.specs.Communications.Ported.{send_first, receive_first}

pub ports_lawful : Communication port_joins
ports_lawful =
    record {
      commutes = λ a b. grind (arith, nat_tests);
      silent_free = λ a b c h. grind (arith, nat_tests);
      associates = λ a b c. grind (arith, nat_tests);
    }

-- which of the two sends
sides : (a b c : ℕ) → port_joins a b ≡ Some c → ((a < 60) × (a % 3 ≡ 1) × (b ≡ a + 1) × (c ≡ a + 2)) ⊎ ((b < 60) × (b % 3 ≡ 1) × (a ≡ b + 1) × (c ≡ b + 2))
sides a b c h = grind (arith, nat_tests)

pub by_ports : ByPorts port_joins
by_ports a b c = (there a b c, back)
  where
    there : (a b c : ℕ) → port_joins a b ≡ Some c → Ported a b c
    there a b c h =
        elim (sides a b c h) [
          | inl w ↦
              let p : ℕ = a / 3 in
              subst₃ Ported {x = 3 * p + 1} (omega arith) (omega arith) (omega arith) (send_first p (omega arith))
          | inr w ↦
              let p : ℕ = b / 3 in
              subst₃ Ported (omega arith) (omega arith) (omega arith) (receive_first p (omega arith))
        ]

    back : {a b c : ℕ} → Ported a b c → port_joins a b ≡ Some c
    back (send_first p h) = grind (arith, nat_tests)
    back (receive_first p h) = grind (arith, nat_tests)
