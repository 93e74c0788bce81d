-- What lines say is what the first line that names a pair gives, where no pair is named twice.
use Rattle.std.proofs.Common.{◌≡◌, ℕ, zero, suc, ◌<◌, Bool, true, false, cond, List, [], ◌∷◌, length, get_or, Some, None, Decides, Option, option_map, find, refl, ap, ◌∙◌, inl, inr, arith}
use Rattle.std.proofs.lemmas.Bool.{cases_Bool, cond-true, cond-false}
use Rattle.std.proofs.lemmas.Bool.Decides.{nat_tests, Decides-and, Decides-or, Decides-eqb}
use Rattle.transitions.specs.declared.lines.JoinLine.{JoinLine}
use Rattle.transitions.specs.Listed.{line_at, Names, Said, Once, names, listed_joins}

pub none_some : (x : ℕ) → None ≡ Some x → ⊥
none_some x e = let z : ◌≡◌ {A = ℕ} 0 1 = cc in omega arith

pub named : (line : JoinLine) (a b : ℕ) → Decides (names line a b) (Names line a b)
named line a b =
    Decides-or _ _
    (Decides-and _ _ (Decides-eqb line.a a) (Decides-eqb line.b b))
    (Decides-and _ _ (Decides-eqb line.a b) (Decides-eqb line.b a))

swap : (line : JoinLine) (a b : ℕ) → Names line a b → Names line b a
swap line a b (inl h) = inr h
swap line a b (inr h) = inl h

pub said_swap : {lines : List JoinLine} {a b c : ℕ} → Said lines a b c → Said lines b a c
said_swap {lines} {a} {b} s = record { place = s.place; within = s.within; names = swap (line_at lines s.place) a b s.names; joint = s.joint }

-- the first line that names the pair gives its joint; d is what stands past the end
pub first_joint : (d : JoinLine) (lines : List JoinLine) (a b k : ℕ) → k < length lines → names (get_or lines k d) a b ≡ true → ((j : ℕ) → j < k → names (get_or lines j d) a b ≡ false) → listed_joins lines a b ≡ Some (line_at lines k).joint
unfolding listed_joins
first_joint d [] a b k l h before = absurd (omega arith)
first_joint d (line ∷ lines) a b zero l h before = cond-true _ _ _ h
first_joint d (line ∷ lines) a b (suc k) l h before =
    cond-false _ _ _ (before 0 (omega arith)) ∙ first_joint d lines a b k (omega arith) h (λ j i. before (suc j) (omega arith))

pub no_joint : (d : JoinLine) (lines : List JoinLine) (a b : ℕ) → ((j : ℕ) → j < length lines → names (get_or lines j d) a b ≡ false) → listed_joins lines a b ≡ None
unfolding listed_joins
no_joint d [] a b h = refl
no_joint d (line ∷ lines) a b h = cond-false _ _ _ (h 0 (omega arith)) ∙ no_joint d lines a b (λ j i. h (suc j) (omega arith))

-- the joint of the first line that a search finds
pub found_joint : (lines : List JoinLine) (a b : ℕ) → option_map (λ (l : JoinLine). l.joint) (find (λ (l : JoinLine). names l a b) lines) ≡ listed_joins lines a b
unfolding listed_joins
found_joint [] a b = refl
found_joint (line ∷ lines) a b = elim (names line a b) as (λ t. option_map (λ (l : JoinLine). l.joint) (cond t (Some line) (find (λ (l : JoinLine). names l a b) lines)) ≡ cond t (Some line.joint) (listed_joins lines a b)) [ true ↦ refl | false ↦ found_joint lines a b ]

-- what is joined is said
pub joined_said : (lines : List JoinLine) (a b c : ℕ) → listed_joins lines a b ≡ Some c → Said lines a b c
unfolding listed_joins
joined_said [] a b c e = absurd (none_some c e)
joined_said (line ∷ lines) a b c e =
    elim (cases_Bool (names line a b)) [
      | inl h ↦ let k : Some line.joint ≡ Some c = rw h at e in record { place = 0; within = omega arith; names = (named line a b).0 h; joint = cc }
      | inr h ↦
          let s = joined_said lines a b c (rw h at e) in
          record { place = suc s.place; within = omega (arith, s.within); names = s.names; joint = s.joint }
    ]

-- and what is said is joined
pub said_joined : (lines : List JoinLine) → Once lines → (a b c : ℕ) → Said lines a b c → listed_joins lines a b ≡ Some c
said_joined lines once a b c s = first_joint (record { a = 0; b = 0; joint = 0 }) lines a b s.place s.within ((named (line_at lines s.place) a b).1 s.names) before ∙ ap Some s.joint
  where
    before : (j : ℕ) → j < s.place → names (line_at lines j) a b ≡ false
    before j l =
        elim (cases_Bool (names (line_at lines j) a b))
        [ inl h ↦ absurd (once j s.place a b l s.within ((named (line_at lines j) a b).0 h) s.names) | inr h ↦ h ]

pub listed_commutes : (lines : List JoinLine) (a b : ℕ) → listed_joins lines a b ≡ listed_joins lines b a
unfolding listed_joins
listed_commutes [] a b = refl
listed_commutes (line ∷ lines) a b =
    ap (λ (t : Bool). cond t (Some line.joint) (listed_joins lines a b)) (turned line) ∙ ap (λ (o : Option ℕ). cond (names line b a) (Some line.joint) o) (listed_commutes lines a b)
  where
    turned : (line : JoinLine) → names line a b ≡ names line b a
    turned line = grind (arith, nat_tests)
