-- From what the judge found, part by part, to the verdict.
use Rattle.std.proofs.Common.{◌≡◌, ℕ, ◌<◌, ◌≤◌, Bool, true, ◌⊎◌, [], ◌∷◌, Some, None, Ok, Err, sym, refl, ap, ◌∙◌, subst, inl, inr, ⊎_elim, arith}
use Rattle.std.proofs.lemmas.Bool.{cases_lt}
use Rattle.transitions.specs.declared.verdicts.Side.TheVariants.{Left, Right}
use Rattle.transitions.specs.declared.verdicts.Counterexample.{Counterexample}
use Rattle.transitions.specs.declared.verdicts.Counterexample.TheVariants.{StartMissing, StepUnanswered, EndUnanswered, RootUnanswered}
use Rattle.transitions.specs.Lts.{Lts, Lawful}
use Rattle.transitions.specs.Match.{Pairing, flip, Stands, Match}
use Rattle.transitions.specs.Verdict.{AtPlace, AtEnd, AtRoot, Holds, Proper, rank, Lex, First}
use Rattle.transitions.proofs.Firsts.{Upto, PairsBefore, first_in_pair}
use Rattle.pairings.specs.Next.{NoneFrom}
use Rattle.judging.specs.Parts.{Lowest, PairJudged, RowJudged, RowsJudged}

past : {A : Type 0} (i a q b : ℕ) → a < i → (i < a) ⊎ ((i ≡ a) × (q < b)) → A
past i a q b h (inl l) = absurd (omega arith)
past i a q b h (inr (e, l)) = absurd (omega arith)

same_at : (i q b : ℕ) → (i < i) ⊎ ((i ≡ i) × (q < b)) → q < b
same_at i q b (inl l) = absurd (omega arith)
same_at i q b (inr (e, l)) = l

not_here : {A : Type 0} (i : ℕ) → (i < i) ⊎ ((i ≡ i) × (0 < 0)) → A
not_here i (inl l) = absurd (omega arith)
not_here i (inr (e, l)) = absurd (omega arith)

-- ---- one pair

module _ (L R : Lts) (B : Pairing) (s t : ℕ) where
  -- A pair that does not stand breaks nothing.
  pub unpaired : (Stands B s t → ⊥) → Upto L R B s t 4 0
  unpaired out =
      record { lefts = λ q h w st. absurd (out st); rights = λ q h w st. absurd (out st); left_end = λ w st. absurd (out st); right_end = λ w st. absurd (out st) }

module _ (L R : Lts) (B : Pairing) (s t : ℕ) (hs : s < L.states) (ht : t < R.states) (st : Stands B s t) where
  pub left_step : (p : ℕ) → Lowest L.width (AtPlace L R B s t) (Some p) → PairJudged L R B s t (Err (StepUnanswered s t Left p))
  left_step p (hp, out, low) start before =
      first_in_pair L R B s t 0 p start before
      (record {
        lefts = λ q h w _. low q (same_at 0 q p w);
        rights = λ q h w. past 1 0 q p (omega arith) w;
        left_end = λ w. past 2 0 0 p (omega arith) w;
        right_end = λ w. past 3 0 0 p (omega arith) w;
      })
      (StepUnanswered s t Left p) refl (hs, ht, hp) (λ h. out (h st))

  module _ (lefts : Lowest L.width (AtPlace L R B s t) None) where
    pub right_step : (p : ℕ) → Lowest R.width (AtPlace R L (flip B) t s) (Some p) → PairJudged L R B s t (Err (StepUnanswered s t Right p))
    right_step p (hp, out, low) start before =
        first_in_pair L R B s t 1 p start before
        (record {
          lefts = λ q h w _. lefts q h;
          rights = λ q h w _. low q (same_at 1 q p w);
          left_end = λ w. past 2 1 0 p (omega arith) w;
          right_end = λ w. past 3 1 0 p (omega arith) w;
        })
        (StepUnanswered s t Right p) refl (hs, ht, hp) (λ h. out (h st))

    module _ (rights : Lowest R.width (AtPlace R L (flip B) t s) None) where
      pub left_end : (AtEnd L R B s t → ⊥) → PairJudged L R B s t (Err (EndUnanswered s t Left))
      left_end out start before =
          first_in_pair L R B s t 2 0 start before
          (record {
            lefts = λ q h w _. lefts q h;
            rights = λ q h w _. rights q h;
            left_end = λ w. not_here 2 w;
            right_end = λ w. past 3 2 0 0 (omega arith) w;
          })
          (EndUnanswered s t Left) refl (hs, ht) (λ h. out (h st))

      module _ (ended : AtEnd L R B s t) where
        pub right_end : (AtEnd R L (flip B) t s → ⊥) → PairJudged L R B s t (Err (EndUnanswered s t Right))
        right_end out start before =
            first_in_pair L R B s t 3 0 start before
            (record {
              lefts = λ q h w _. lefts q h;
              rights = λ q h w _. rights q h;
              left_end = λ w _. ended;
              right_end = λ w. not_here 3 w;
            })
            (EndUnanswered s t Right) refl (hs, ht) (λ h. out (h st))

-- ---- a row of pairs

module _ (L R : Lts) (B : Pairing) (s : ℕ) where
  -- The pairs of s with the states below n break nothing.
  abbrev pub RowUpto : ℕ → Type 0
  RowUpto n = (t : ℕ) → t < n → Upto L R B s t 4 0

  -- The states from n on and below t do not stand with s.
  pub row_passed : (n t : ℕ) → RowUpto n → NoneFrom (B s) n t → RowUpto t
  row_passed n t row none u h =
      ⊎_elim (λ (l : u < n). row u l) (λ (l : n ≤ u). unpaired L R B s u (none u l h)) (cases_lt u n)

  pub row_broken : (n t : ℕ) (k : Counterexample) → RowUpto n → NoneFrom (B s) n t → PairJudged L R B s t (Err k) → RowJudged L R B s (Err k)
  row_broken n t k row none judged start before = judged start pairs
    where
      pairs : PairsBefore L R B s t
      pairs s' t' hs ht (inl h) = before s' t' hs ht (inl h)
      pairs s' t' hs ht (inr (e, h)) = subst (λ (x : ℕ). Upto L R B x t' 4 0) (sym e) (row_passed n t row none t' h)

pub rows_broken : (L R : Lts) (B : Pairing) (s : ℕ) (k : Counterexample) → ((x : ℕ) → x < s → RowJudged L R B x (Ok tt)) → RowJudged L R B s (Err k) → RowsJudged L R B (Err k)
rows_broken L R B s k rows judged start = judged start pairs
  where
    pairs : PairsBefore L R B s 0
    pairs s' t' hs ht (inl h) = rows s' h t' ht
    pairs s' t' hs ht (inr (e, h)) = absurd (omega arith)

-- ---- the start and the root

module _ (L R : Lts) (B : Pairing) where
  root_lex : (c d q p : ℕ) → Lex (2 ∷ 0 ∷ 0 ∷ c ∷ q ∷ []) (2 ∷ 0 ∷ 0 ∷ d ∷ p ∷ []) → (c < d) ⊎ ((c ≡ d) × (q < p))
  root_lex c d q p (inl h) = absurd (omega arith)
  root_lex c d q p (inr (e, inl h)) = absurd (omega arith)
  root_lex c d q p (inr (e, inr (f, inl h))) = absurd (omega arith)
  root_lex c d q p (inr (e, inr (f, inr (g, inl h)))) = inl h
  root_lex c d q p (inr (e, inr (f, inr (g, inr (h, inl i))))) = inr (h, i)
  root_lex c d q p (inr (e, inr (f, inr (g, inr (h, inr (i, j)))))) = absurd j

  module _ (start : Stands B L.start R.start) (rows : RowsJudged L R B (Ok tt)) where
    root_earlier : (d p : ℕ)
        → ((q : ℕ) → q < L.width → (0 < d) ⊎ ((0 ≡ d) × (q < p)) → AtRoot L R B L.start q)
        → ((q : ℕ) → q < R.width → (1 < d) ⊎ ((1 ≡ d) × (q < p)) → AtRoot R L (flip B) R.start q)
        → (j : Counterexample) → Proper L R j → Lex (rank j) (2 ∷ 0 ∷ 0 ∷ d ∷ p ∷ []) → Holds L R B j
    root_earlier d p lefts rights (StartMissing s t) (e, f) lx = rw (e, f) start
    root_earlier d p lefts rights (StepUnanswered s t Left q) (hs, ht, hq) lx = (rows s hs t ht).lefts q hq (inl (omega arith))
    root_earlier d p lefts rights (StepUnanswered s t Right q) (hs, ht, hq) lx = (rows s hs t ht).rights q hq (inl (omega arith))
    root_earlier d p lefts rights (EndUnanswered s t Left) (hs, ht) lx = (rows s hs t ht).left_end (inl (omega arith))
    root_earlier d p lefts rights (EndUnanswered s t Right) (hs, ht) lx = (rows s hs t ht).right_end (inl (omega arith))
    root_earlier d p lefts rights (RootUnanswered s t Left q) (e, f, hq) lx =
        subst (λ (x : ℕ). AtRoot L R B x q) (sym e) (lefts q hq (root_lex 0 d q p lx))
    root_earlier d p lefts rights (RootUnanswered s t Right q) (e, f, hq) lx =
        subst (λ (x : ℕ). AtRoot R L (flip B) x q) (sym f) (rights q hq (root_lex 1 d q p lx))

    left_root : (p : ℕ) → Lowest L.width (AtRoot L R B L.start) (Some p) → First L R B (RootUnanswered L.start R.start Left p)
    left_root p (hp, out, low) =
        record { proper = (refl, refl, hp); broken = out; earlier = root_earlier 0 p (λ q h w. low q (same_at 0 q p w)) (λ q h w. past 1 0 q p (omega arith) w) }

    module _ (lefts : Lowest L.width (AtRoot L R B L.start) None) where
      right_root : (p : ℕ) → Lowest R.width (AtRoot R L (flip B) R.start) (Some p) → First L R B (RootUnanswered L.start R.start Right p)
      right_root p (hp, out, low) =
          record { proper = (refl, refl, hp); broken = out; earlier = root_earlier 1 p (λ q h w. lefts q h) (λ q h w. low q (same_at 1 q p w)) }

      -- Nothing is broken.
      pub matched : Lawful L → Lawful R → Lowest R.width (AtRoot R L (flip B) R.start) None → Match L R B
      matched law law' rights =
          record {
            starts = start;
            left = record {
              step = λ s t hs ht st a s' w. (rows s hs t ht).lefts w.0 (law.step_in s w.0 _ w.1).1 (inl (omega arith)) st _ w.1;
              end = λ s t hs ht st e. (rows s hs t ht).left_end (inl (omega arith)) st e;
              root = λ a s' w. lefts w.0 (law.step_in _ w.0 _ w.1).1 _ w.1;
            };
            right = record {
              step = λ t s ht hs st a t' w. (rows s hs t ht).rights w.0 (law'.step_in t w.0 _ w.1).1 (inl (omega arith)) st _ w.1;
              end = λ t s ht hs st e. (rows s hs t ht).right_end (inl (omega arith)) st e;
              root = λ a t' w. rights w.0 (law'.step_in _ w.0 _ w.1).1 _ w.1;
            };
          }

-- ---- the same with the starts as the code has them

module _ (L R : Lts) (B : Pairing) (s t : ℕ) (sl : s ≡ L.start) (tr : t ≡ R.start) where
  pub started : (b : Bool) → B s t ≡ b → B L.start R.start ≡ b
  started b h = ap (λ (x : ℕ). B x R.start) (sym sl) ∙ ap (B s) (sym tr) ∙ h

  carried : (k : ℕ → ℕ → Counterexample) → First L R B (k L.start R.start) → First L R B (k s t)
  carried k h = subst (λ (x : ℕ). First L R B (k x t)) (sym sl) (subst (λ (y : ℕ). First L R B (k L.start y)) (sym tr) h)

  pub unrooted_left : (p : ℕ) → B s t ≡ true → RowsJudged L R B (Ok tt) → Lowest L.width (AtRoot L R B L.start) (Some p) → First L R B (RootUnanswered s t Left p)
  unrooted_left p h rows low = carried (λ x y. RootUnanswered x y Left p) (left_root L R B (started true h) rows p low)

  pub unrooted_right : (p : ℕ) → B s t ≡ true → RowsJudged L R B (Ok tt) → Lowest L.width (AtRoot L R B L.start) None → Lowest R.width (AtRoot R L (flip B) R.start) (Some p) → First L R B (RootUnanswered s t Right p)
  unrooted_right p h rows lefts low = carried (λ x y. RootUnanswered x y Right p) (right_root L R B (started true h) rows lefts p low)
