-- The plain set of pairs. It knows of a sheet only the two sizes, and of a call only what it is handed.
use Rattle.std.specs.Prelude.{ℕ, List, [], ◌∷◌}
use Rattle.auditing.specs.declared.calls.Call.{Call}
use Rattle.auditing.specs.declared.calls.Call.TheVariants.{Pair, Unpair, Judge, Without, Reply}
use Rattle.sheets.specs.Calls.{no_pairs, adding, removing, pair_says, unpair_says, settled}
use Rattle.transitions.specs.Match.{Pairing}

-- The set after one call, on a sheet of n by m. Only a pair put in or taken out changes it, and no refusal does.
abbrev pub next : {X Y : Type 0} → ℕ → ℕ → Pairing → Call X Y → Pairing
next n m B (Pair s t) = settled (pair_says n m B s t) B (adding B s t)
next n m B (Unpair s t) = settled (unpair_says n m B s t) B (removing B s t)
next n m B (Judge l r lent) = B
next n m B (Without l r s t lent) = B
next n m B (Reply l r ask lent) = B

-- The set after a list of calls.
abbrev pub after : {X Y : Type 0} → ℕ → ℕ → Pairing → List (Call X Y) → Pairing
after n m B [] = B
after n m B (c ∷ cs) = after n m (next n m B c) cs

-- The same, from the empty set on.
abbrev pub plain : {X Y : Type 0} → ℕ → ℕ → List (Call X Y) → Pairing
plain n m calls = after n m no_pairs calls
