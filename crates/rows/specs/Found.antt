-- What a search for an entry answers, by a test of sameness and by the entry itself.
use Rattle.std.specs.Prelude.{◌≡◌, ◌≢◌, ℕ, ◌<◌, Bool, true, false, List, length, Some, None, Option, slice_get, slice_index_or}

-- No entry below place n is the same as x.
abbrev pub NoneBelow : {T : Type 0} → (T → T → Bool) → List T → T → ℕ → Type 0
NoneBelow same entries x n = (k : ℕ) → k < n → same (slice_index_or entries k x) x ≡ false

-- The lowest place whose entry is the same as x, or none if there is no such place.
abbrev pub Found : {T : Type 0} → (T → T → Bool) → List T → T → Option ℕ → Type 0
Found same entries x (Some i) = (i < length entries) × (same (slice_index_or entries i x) x ≡ true) × NoneBelow same entries x i
Found same entries x None = NoneBelow same entries x (length entries)

-- No entry is the same as an earlier one. Past the end an entry reads as d.
abbrev pub Differ : {T : Type 0} → (T → T → Bool) → List T → Type 0
Differ {T} same entries = (j k : ℕ) (d : T) → j < k → k < length entries → same (slice_index_or entries j d) (slice_index_or entries k d) ≡ false

-- No place below n holds x.
abbrev pub HeldNot : {T : Type 0} → List T → T → ℕ → Type 0
HeldNot entries x n = (k : ℕ) → k < n → slice_get entries k ≢ Some x

-- The lowest place that holds x, or none where no place does.
abbrev pub HeldAt : {T : Type 0} → List T → T → Option ℕ → Type 0
HeldAt entries x (Some i) = (slice_get entries i ≡ Some x) × HeldNot entries x i
HeldAt entries x None = (k : ℕ) → slice_get entries k ≢ Some x

-- No entry stands at two places.
abbrev pub NoneTwice : {T : Type 0} → List T → Type 0
NoneTwice {T} entries = (j k : ℕ) (x : T) → j < k → slice_get entries j ≡ Some x → slice_get entries k ≢ Some x
