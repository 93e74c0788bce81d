-- No pair is named twice where each line is fresh: no line before it names its pair.
use Rattle.std.proofs.Common.{◌≡◌, ℕ, ◌<◌, Bool, true, false, List, length, take, sym, refl, ◌∙◌, inl, inr, arith}
use Rattle.std.proofs.lemmas.Bool.{both_ways, cases_Bool}
use Rattle.std.proofs.lemmas.List.{get_or-take, get_or_default, length-take-le}
use Rattle.std.proofs.lemmas.List.Folds.{Any-from_list_any, list_any_at}
use Rattle.std.specs.List.{list_any}
use Rattle.transitions.specs.declared.lines.JoinLine.{JoinLine}
use Rattle.transitions.specs.Listed.{line_at, Names, Once, names}
use Rattle.transitions.proofs.Listing.{named}

abbrev pub Fresh : List JoinLine → ℕ → Type 0
Fresh lines k = (j : ℕ) → j < k → names (line_at lines j) (line_at lines k).a (line_at lines k).b ≡ false

-- two lines that name the same pair
meet : (x y : JoinLine) (a b : ℕ) → Names x a b → Names y a b → Names x y.a y.b
meet x y a b (inl (e, f)) (inl (g, h)) = inl (e ∙ sym g, f ∙ sym h)
meet x y a b (inl (e, f)) (inr (g, h)) = inr (e ∙ sym h, f ∙ sym g)
meet x y a b (inr (e, f)) (inl (g, h)) = inr (e ∙ sym h, f ∙ sym g)
meet x y a b (inr (e, f)) (inr (g, h)) = inl (e ∙ sym g, f ∙ sym h)

pub all_fresh : (lines : List JoinLine) → ((k : ℕ) → k < length lines → Fresh lines k) → Once lines
all_fresh lines fresh j k a b l h n m =
    both_ways _ (fresh k h j l) ((named (line_at lines j) (line_at lines k).a (line_at lines k).b).1 (meet (line_at lines j) (line_at lines k) a b n m))

-- What the lines before place k say of the pair that the line there names.
module _ (lines : List JoinLine) (k : ℕ) (l : k < length lines) where
  abbrev pub named_before : Bool
  named_before = list_any (λ (x : JoinLine). names x (line_at lines k).a (line_at lines k).b) (take k lines)

  pub fresh : named_before ≡ false → Fresh lines k
  fresh e j h =
      elim (cases_Bool (names (line_at lines j) (line_at lines k).a (line_at lines k).b)) [
        | inl t ↦ absurd (both_ways named_before e (list_any_at _ (take k lines) j (record { a = 0; b = 0; joint = 0 }) (omega (arith, length-take-le k lines (omega arith))) (rw (get_or-take k lines j (record { a = 0; b = 0; joint = 0 }) h) t)))
        | inr f ↦ f
      ]

  pub repeated : named_before ≡ true → Once lines → ⊥
  repeated e once =
      let w = Any-from_list_any (λ (x : JoinLine). names x (line_at lines k).a (line_at lines k).b) (take k lines) e in
      let below : w.0 < k = omega (arith, length-take-le k lines (omega arith)) in
      let line : line_at lines w.0 ≡ w.1 = sym (get_or-take k lines w.0 (record { a = 0; b = 0; joint = 0 }) below) ∙ get_or_default (take k lines) w.0 (record { a = 0; b = 0; joint = 0 }) w.1 w.2 ∙ w.3 in
      let said : names (line_at lines w.0) (line_at lines k).a (line_at lines k).b ≡ true = rw line w.4 in
      once w.0 k (line_at lines k).a (line_at lines k).b below l ((named (line_at lines w.0) (line_at lines k).a (line_at lines k).b).0 said) (inl (refl, refl))
