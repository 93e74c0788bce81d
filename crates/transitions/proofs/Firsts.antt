-- What the loops of a judge know, turned into the verdict.
use Rattle.std.proofs.Common.{◌≡◌, ℕ, ◌<◌, ◌⊎◌, [], ◌∷◌, subst, inl, inr, arith}
use Rattle.transitions.specs.declared.verdicts.Side.TheVariants.{Left, Right}
use Rattle.transitions.specs.declared.verdicts.Counterexample.{Counterexample}
use Rattle.transitions.specs.declared.verdicts.Counterexample.TheVariants.{StartMissing, StepUnanswered, EndUnanswered, RootUnanswered}
use Rattle.transitions.specs.Lts.{Lts, Silent, Steps}
use Rattle.transitions.specs.Lts.Silent.{stay, go}
use Rattle.transitions.specs.Match.{Pairing, Stands}
use Rattle.transitions.specs.Verdict.{Holds, Proper, rank, Lex, First}

-- A search that is closed under silent steps has missed nothing: what a queue that ran empty shows.
pub closed_whole : (L : Lts) (M : ℕ → Type 0) → ((s m : ℕ) → M s → Steps L s 0 m → M m) → {s m : ℕ} → Silent L s m → M s → M m
closed_whole L M closed stay h = h
closed_whole L M closed (go {s} {m} st q) h = closed_whole L M closed q (closed s m h st)

-- The conditions of one pair up to the place (a, b) of its order.
pub record Upto (L R : Lts) (B : Pairing) (s t a b : ℕ) : Type 0 where
  pub lefts : (q : ℕ) → q < L.width → (0 < a) ⊎ ((0 ≡ a) × (q < b)) → Holds L R B (StepUnanswered s t Left q)
  pub rights : (q : ℕ) → q < R.width → (1 < a) ⊎ ((1 ≡ a) × (q < b)) → Holds L R B (StepUnanswered s t Right q)
  pub left_end : (2 < a) ⊎ ((2 ≡ a) × (0 < b)) → Holds L R B (EndUnanswered s t Left)
  pub right_end : (3 < a) ⊎ ((3 ≡ a) × (0 < b)) → Holds L R B (EndUnanswered s t Right)

-- All conditions of the pairs before (s, t).
abbrev pub PairsBefore : Lts → Lts → Pairing → ℕ → ℕ → Type 0
PairsBefore L R B s t = (s' t' : ℕ) → s' < L.states → t' < R.states → (s' < s) ⊎ ((s' ≡ s) × (t' < t)) → Upto L R B s' t' 4 0

abbrev PairLex : ℕ → ℕ → ℕ → ℕ → ℕ → ℕ → ℕ → ℕ → Type 0
PairLex s' t' a' b' s t a b = ((s' < s) ⊎ ((s' ≡ s) × (t' < t))) ⊎ ((s' ≡ s) × (t' ≡ t) × ((a' < a) ⊎ ((a' ≡ a) × (b' < b))))

pair_lex : (s' t' a' b' s t a b : ℕ) → Lex (1 ∷ s' ∷ t' ∷ a' ∷ b' ∷ []) (1 ∷ s ∷ t ∷ a ∷ b ∷ []) → PairLex s' t' a' b' s t a b
pair_lex s' t' a' b' s t a b (inl h) = absurd (omega arith)
pair_lex s' t' a' b' s t a b (inr (e, inl h)) = inl (inl h)
pair_lex s' t' a' b' s t a b (inr (e, inr (f, inl h))) = inl (inr (f, h))
pair_lex s' t' a' b' s t a b (inr (e, inr (f, inr (g, inl h)))) = inr (f, g, inl h)
pair_lex s' t' a' b' s t a b (inr (e, inr (f, inr (g, inr (h, inl i))))) = inr (f, g, inr (h, i))
pair_lex s' t' a' b' s t a b (inr (e, inr (f, inr (g, inr (h, inr (i, j)))))) = absurd j

module _ (L R : Lts) (B : Pairing) (s t a b : ℕ) (start : Stands B L.start R.start) (pairs : PairsBefore L R B s t) (upto : Upto L R B s t a b) where
  upto_at : (s' t' a' b' : ℕ) → s' < L.states → t' < R.states → a' < 4 → PairLex s' t' a' b' s t a b → (c d : ℕ) × Upto L R B s' t' c d × ((a' < c) ⊎ ((a' ≡ c) × (b' < d)))
  upto_at s' t' a' b' hs ht ha (inl h) = (4, 0, pairs s' t' hs ht h, inl ha)
  upto_at s' t' a' b' hs ht ha (inr (e, f, h)) = (a, b, rw (e, f) upto, h)

  earlier : (j : Counterexample) → Proper L R j → Lex (rank j) (1 ∷ s ∷ t ∷ a ∷ b ∷ []) → Holds L R B j
  earlier (StartMissing s' t') (e, f) l = rw (e, f) start
  earlier (StepUnanswered s' t' Left q) (hs, ht, hq) l =
      let w = upto_at s' t' 0 q hs ht (omega arith) (pair_lex s' t' 0 q s t a b l) in w.2.lefts q hq w.3
  earlier (StepUnanswered s' t' Right q) (hs, ht, hq) l =
      let w = upto_at s' t' 1 q hs ht (omega arith) (pair_lex s' t' 1 q s t a b l) in w.2.rights q hq w.3
  earlier (EndUnanswered s' t' Left) (hs, ht) l =
      let w = upto_at s' t' 2 0 hs ht (omega arith) (pair_lex s' t' 2 0 s t a b l) in w.2.left_end w.3
  earlier (EndUnanswered s' t' Right) (hs, ht) l =
      let w = upto_at s' t' 3 0 hs ht (omega arith) (pair_lex s' t' 3 0 s t a b l) in w.2.right_end w.3
  earlier (RootUnanswered s' t' Left q) h l = absurd (omega arith)
  earlier (RootUnanswered s' t' Right q) h l = absurd (omega arith)

  -- The condition at that place of that pair is the first broken one, if it is broken.
  pub first_in_pair : (k : Counterexample) → rank k ≡ 1 ∷ s ∷ t ∷ a ∷ b ∷ [] → Proper L R k → (Holds L R B k → ⊥) → First L R B k
  first_in_pair k e p h = record { proper = p; broken = h; earlier = λ j q l. earlier j q (subst (λ x. Lex (rank j) x) e l) }
