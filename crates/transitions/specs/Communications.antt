-- The sets of actions, and the port communication.
use Rattle.std.specs.Prelude.{◌≡◌, ℕ, ◌+◌, ◌*◌, ◌/◌, ◌%◌, ◌^◌, ◌<◌, Bool, cond, ◌&&◌, Some, None, ◌==◌, nat_lt}
use Rattle.transitions.specs.Made.{Actions, Joins}
use Rattle.transitions.specs.Rules.{Iff}

-- The actions of a mask, which is the sum of 2 ^ a over them.
abbrev pub of_mask : ℕ → Actions
of_mask mask a = nat_lt a 64 && (mask / 2 ^ a) % 2 == 1

-- A set without the silent action.
abbrev pub visible_of : Actions → Actions
visible_of set a = nat_lt 0 a && set a

-- Port p, from 0 to 19, joins its send 3p + 1 and its receive 3p + 2 to 3p + 3.
pub data Ported : ℕ → ℕ → ℕ → Type 0 where
  send_first : (p : ℕ) → p < 20 → Ported (3 * p + 1) (3 * p + 2) (3 * p + 3)
  receive_first : (p : ℕ) → p < 20 → Ported (3 * p + 2) (3 * p + 1) (3 * p + 3)

-- The same, computed.
abbrev pub sends : ℕ → Bool
sends a = nat_lt a 60 && a % 3 == 1

abbrev pub port_joins : Joins
port_joins a b =
    cond (sends a && b == a + 1) (Some (a + 2)) (cond (sends b && a == b + 1) (Some (b + 2)) None)

-- What is joined under a port communication, and what is not.
abbrev pub ByPorts : Joins → Type 0
ByPorts join = (a b c : ℕ) → Iff (join a b ≡ Some c) (Ported a b c)
