-- The computed verdict is the one that the pairing has, and the only one.
use Rattle.std.proofs.Common.{◌≡◌, ℕ, zero, suc, ◌<◌, ◌≤◌, Bool, true, false, cond, not, ◌||◌, eqb, ◌⊎◌, List, [], ◌∷◌, length, get_or, Some, None, Decides, Option, Ok, Err, sym, refl, ap, ◌∙◌, subst, subst₂, inl, inr, ⊎_elim, arith}
use Rattle.std.proofs.lemmas.Bool.{false≢true, cases_eq, cases_order}
use Rattle.transitions.specs.declared.verdicts.Side.TheVariants.{Left, Right}
use Rattle.transitions.specs.declared.verdicts.Counterexample.{Counterexample}
use Rattle.transitions.specs.declared.verdicts.Counterexample.TheVariants.{StartMissing, StepUnanswered, EndUnanswered, RootUnanswered}
use Rattle.transitions.specs.Lts.{Lts, Lawful}
use Rattle.transitions.specs.Match.{Pairing, flip, Match}
use Rattle.transitions.specs.Verdict.{Verdict, Holds, Proper, rank, Lex, Before, First, VerdictIs}
use Rattle.transitions.specs.Theorems.{VerdictsExact}
use Rattle.transitions.proofs.Computed.{or_else, first, test, place_ok, root_ok, broken_in_pair, first_broken, verdict_of, verdict}
use Rattle.transitions.proofs.Reach.{decides_place, decides_end, decides_root, decides_given}

-- ---- a search through conditions in order

none_some : (k : Counterexample) → None ≡ Some k → ⊥
none_some k e = let z : ◌≡◌ {A = ℕ} 0 1 = cc in omega arith

some_is : (j k : Counterexample) → Some j ≡ Some k → j ≡ k
some_is j k e = cc

lex_irrefl : (xs : List ℕ) → Lex xs xs → ⊥
lex_irrefl [] h = h
lex_irrefl (x ∷ xs) (inl h) = omega arith
lex_irrefl (x ∷ xs) (inr h) = lex_irrefl xs h.1

-- o is the first broken one of the conditions c i, or nothing where all hold.
pub record Search (H : Counterexample → Type 0) (I : Type 0) (c : I → Counterexample) (o : Option Counterexample) : Type 0 where
  pub none : o ≡ None → (i : I) → H (c i)
  pub some : (k : Counterexample) → o ≡ Some k → (i : I) × (c i ≡ k) × (H k → ⊥) × ((j : I) → Before (c j) k → H (c j))

module _ (H : Counterexample → Type 0) where
  one : (b : Bool) (k : Counterexample) → Decides b (H k) → Search H (Unit {0}) (λ _. k) (test b k)
  one true k d = record { none = λ e i. d.0 refl; some = λ j e. absurd (none_some j e) }
  one false k d =
      record {
        none = λ e. absurd (none_some k (sym e));
        some = λ j e.
            let q = some_is k j e in
            (tt, q, λ h. false≢true (d.1 (subst H (sym q) h)), λ i b. absurd (lex_irrefl (rank k) (subst (λ x. Before k x) (sym q) b)));
      }

  both : {I J : Type 0} (c : I → Counterexample) (d : J → Counterexample) (o q : Option Counterexample) → Search H I c o → Search H J d q → ((i : I) (j : J) → Before (d j) (c i) → ⊥)
      → Search H (I ⊎ J) (⊎_elim c d) (or_else o q)
  both c d None q a b apart =
      record {
        none = λ e. elim [ inl i ↦ a.none refl i | inr j ↦ b.none e j ];
        some = λ k e. let w = b.some k e in (inr w.0, w.1, w.2, elim [ inl i ↦ λ _. a.none refl i | inr j ↦ w.3 j ]);
      }
  both c d (Some x) q a b apart =
      record {
        none = λ e. absurd (none_some x (sym e));
        some = λ k e.
            let w = a.some k e in
            (inl w.0, w.1, w.2, elim [ inl i ↦ w.3 i | inr j ↦ λ bf. absurd (apart w.0 j (subst (λ x. Before (d j) x) (sym w.1) bf)) ]);
      }

  renamed : {I J : Type 0} (c : I → Counterexample) (d : J → Counterexample) (o : Option Counterexample) → ((i : I) → (j : J) × (d j ≡ c i)) → ((j : J) → (i : I) × (c i ≡ d j)) → Search H I c o → Search H J d o
  renamed c d o there back a =
      record {
        none = λ e j. let w = back j in subst H w.1 (a.none e w.0);
        some = λ k e.
            let w = a.some k e in
            let v = there w.0 in
            (v.0, v.1 ∙ w.1, w.2, λ j b. let u = back j in subst H u.1 (w.3 u.0 (subst (λ x. Before x k) (sym u.1) b)));
      }

  each : (N : ℕ) (I : ℕ → Type 0) (c : (i : ℕ) → I i → Counterexample) (f : ℕ → Option Counterexample) → ((i : ℕ) → i < N → Search H (I i) (c i) (f i))
      → ((i j : ℕ) → i < j → (x : I i) (y : I j) → Before (c j y) (c i x) → ⊥)
      → (n : ℕ) → n ≤ N → Search H ((i : ℕ) × (i < n) × I i) (λ z. c z.0 z.2) (first n f)
  each N I c f h apart zero le = record { none = λ e z. absurd (let k = z.1 in omega arith); some = λ k e. absurd (none_some k e) }
  each N I c f h apart (suc n) le =
      renamed (⊎_elim (λ (z : (i : ℕ) × (i < n) × I i). c z.0 z.2) (c n)) (λ z. c z.0 z.2) (first (suc n) f)
      (elim [ inl z ↦ ((z.0, (let k = z.1 in omega arith), z.2), refl) | inr x ↦ ((n, omega arith, x), refl) ])
      (λ z. back z.0 z.1 z.2)
      (both (λ z. c z.0 z.2) (c n) (first n f) (f n) (each N I c f h apart n (omega arith)) (h n le) (λ z y b. apart z.0 n z.1 z.2 y b))
    where
      back : (i : ℕ) → i < suc n → (x : I i) → (w : ((i : ℕ) × (i < n) × I i) ⊎ I n) × (⊎_elim (λ (z : (i : ℕ) × (i < n) × I i). c z.0 z.2) (c n) w ≡ c i x)
      back i lt x =
          elim (cases_eq i n) [
            | inl e ↦ at i e x
            | inr ne ↦ (inl (i, omega arith, x), refl)
          ]
        where
          at : (i : ℕ) → i ≡ n → (x : I i) → (w : ((i : ℕ) × (i < n) × I i) ⊎ I n) × (⊎_elim (λ (z : (i : ℕ) × (i < n) × I i). c z.0 z.2) (c n) w ≡ c i x)
          at i e = subst (λ j. (x : I j) → (w : ((i : ℕ) × (i < n) × I i) ⊎ I n) × (⊎_elim (λ (z : (i : ℕ) × (i < n) × I i). c z.0 z.2) (c n) w ≡ c j x)) (sym e) (λ x. (inr x, refl))

-- ---- the conditions of a match, in their order

abbrev Places : Lts → Type 0
Places L = (p : ℕ) × (p < L.width) × Unit {0}

abbrev InPair : Lts → Lts → Type 0
InPair L R = Places L ⊎ (Places R ⊎ (Unit {0} ⊎ Unit {0}))

abbrev in_pair : (L R : Lts) (s t : ℕ) → InPair L R → Counterexample
in_pair L R s t = ⊎_elim (λ z. StepUnanswered s t Left z.0) (⊎_elim (λ z. StepUnanswered s t Right z.0) (⊎_elim (λ _. EndUnanswered s t Left) (λ _. EndUnanswered s t Right)))

abbrev InPairs : Lts → Lts → Type 0
InPairs L R = (s : ℕ) × (s < L.states) × ((t : ℕ) × (t < R.states) × InPair L R)

abbrev All : Lts → Lts → Type 0
All L R = Unit {0} ⊎ (InPairs L R ⊎ (Places L ⊎ Places R))

abbrev all_of : (L R : Lts) → All L R → Counterexample
all_of L R =
    ⊎_elim (λ _. StartMissing L.start R.start)
    (⊎_elim (λ z. in_pair L R z.0 z.2.0 z.2.2) (⊎_elim (λ z. RootUnanswered L.start R.start Left z.0) (λ z. RootUnanswered L.start R.start Right z.0)))

shape : (L R : Lts) (s t : ℕ) (x : InPair L R) → (a : ℕ) × (b : ℕ) × (rank (in_pair L R s t x) ≡ 1 ∷ s ∷ t ∷ a ∷ b ∷ [])
shape L R s t (inl z) = (0, z.0, refl)
shape L R s t (inr (inl z)) = (1, z.0, refl)
shape L R s t (inr (inr (inl z))) = (2, 0, refl)
shape L R s t (inr (inr (inr z))) = (3, 0, refl)

pairs_apart : (L R : Lts) (s t s' t' : ℕ) → (s < s') ⊎ ((s ≡ s') × (t < t')) → (x y : InPair L R) → Before (in_pair L R s' t' y) (in_pair L R s t x) → ⊥
pairs_apart L R s t s' t' h x y b =
    let u = shape L R s t x in
    let v = shape L R s' t' y in
    let l : Lex (1 ∷ s' ∷ t' ∷ v.0 ∷ v.1 ∷ []) (1 ∷ s ∷ t ∷ u.0 ∷ u.1 ∷ []) = subst₂ Lex v.2 u.2 b in
    omega arith

module _ (L R : Lts) (lawL : Lawful L) (lawR : Lawful R) (B : Pairing) where
  lefts : (s t : ℕ) → t < R.states → Search (Holds L R B) (Places L) (λ z. StepUnanswered s t Left z.0) (first L.width (λ p. test (not (B s t) || place_ok R B s t (L.step s p)) (StepUnanswered s t Left p)))
  lefts s t ht =
      each (Holds L R B) L.width (λ _. Unit {0}) (λ p _. StepUnanswered s t Left p) _
      (λ p hp. one (Holds L R B) _ (StepUnanswered s t Left p) (decides_given (B s t) _ (decides_place R lawR B L s t p ht))) (λ i j lt x y b. omega arith) L.width (omega arith)

  rights : (s t : ℕ) → s < L.states → Search (Holds L R B) (Places R) (λ z. StepUnanswered s t Right z.0) (first R.width (λ p. test (not (B s t) || place_ok L (flip B) t s (R.step t p)) (StepUnanswered s t Right p)))
  rights s t hs =
      each (Holds L R B) R.width (λ _. Unit {0}) (λ p _. StepUnanswered s t Right p) _
      (λ p hp. one (Holds L R B) _ (StepUnanswered s t Right p) (decides_given (B s t) _ (decides_place L lawL (flip B) R t s p hs))) (λ i j lt x y b. omega arith) R.width (omega arith)

  pair_search : (s t : ℕ) → s < L.states → t < R.states → Search (Holds L R B) (InPair L R) (in_pair L R s t) (broken_in_pair L R B s t)
  pair_search s t hs ht =
      both (Holds L R B) (λ z. StepUnanswered s t Left z.0) _ _ _ (lefts s t ht)
      (both (Holds L R B) (λ z. StepUnanswered s t Right z.0) _ _ _ (rights s t hs)
      (both (Holds L R B) (λ _. EndUnanswered s t Left) (λ _. EndUnanswered s t Right) _ _
      (one (Holds L R B) _ (EndUnanswered s t Left) (decides_given (B s t) _ (decides_end R lawR B L s t ht)))
      (one (Holds L R B) _ (EndUnanswered s t Right) (decides_given (B s t) _ (decides_end L lawL (flip B) R t s hs)))
      (λ i j b. omega arith))
      (λ i. elim [ inl j ↦ λ b. omega arith | inr j ↦ λ b. omega arith ]))
      (λ i. elim [ inl j ↦ λ b. omega arith | inr (inl j) ↦ λ b. omega arith | inr (inr j) ↦ λ b. omega arith ])

  pairs_search : Search (Holds L R B) (InPairs L R) (λ z. in_pair L R z.0 z.2.0 z.2.2) (first L.states (λ s. first R.states (λ t. broken_in_pair L R B s t)))
  pairs_search =
      each (Holds L R B) L.states (λ s. (t : ℕ) × (t < R.states) × InPair L R) (λ s z. in_pair L R s z.0 z.2) _
      (λ s hs.
      each (Holds L R B) R.states (λ t. InPair L R) (λ t z. in_pair L R s t z) _ (λ t ht. pair_search s t hs ht)
      (λ i j lt x y b. pairs_apart L R s i s j (inr (refl, lt)) x y b) R.states (omega arith))
      (λ i j lt x y b. pairs_apart L R i x.0 j y.0 (inl lt) x.2 y.2 b) L.states (omega arith)

  root_lefts : Search (Holds L R B) (Places L) (λ z. RootUnanswered L.start R.start Left z.0) (first L.width (λ p. test (root_ok R B (L.step L.start p)) (RootUnanswered L.start R.start Left p)))
  root_lefts =
      each (Holds L R B) L.width (λ _. Unit {0}) (λ p _. RootUnanswered L.start R.start Left p) _
      (λ p hp. one (Holds L R B) _ (RootUnanswered L.start R.start Left p) (decides_root R lawR B L L.start p)) (λ i j lt x y b. omega arith) L.width (omega arith)

  root_rights : Search (Holds L R B) (Places R) (λ z. RootUnanswered L.start R.start Right z.0) (first R.width (λ p. test (root_ok L (flip B) (R.step R.start p)) (RootUnanswered L.start R.start Right p)))
  root_rights =
      each (Holds L R B) R.width (λ _. Unit {0}) (λ p _. RootUnanswered L.start R.start Right p) _
      (λ p hp. one (Holds L R B) _ (RootUnanswered L.start R.start Right p) (decides_root L lawL (flip B) R R.start p)) (λ i j lt x y b. omega arith) R.width (omega arith)

  start_first : (j : InPairs L R ⊎ (Places L ⊎ Places R)) → Before (all_of L R (inr j)) (StartMissing L.start R.start) → ⊥
  start_first (inl z) b =
      let v = shape L R z.0 z.2.0 z.2.2 in
      let l : Lex (1 ∷ z.0 ∷ z.2.0 ∷ v.0 ∷ v.1 ∷ []) (rank (StartMissing L.start R.start)) = subst (λ x. Lex x (rank (StartMissing L.start R.start))) v.2 b in
      omega arith
  start_first (inr (inl z)) b = omega arith
  start_first (inr (inr z)) b = omega arith

  root_last : (z : InPairs L R) (j : Places L ⊎ Places R) → Before (all_of L R (inr (inr j))) (in_pair L R z.0 z.2.0 z.2.2) → ⊥
  root_last z (inl j) b =
      let v = shape L R z.0 z.2.0 z.2.2 in
      let l : Lex (rank (RootUnanswered L.start R.start Left j.0)) (1 ∷ z.0 ∷ z.2.0 ∷ v.0 ∷ v.1 ∷ []) = subst (λ x. Lex (rank (RootUnanswered L.start R.start Left j.0)) x) v.2 b in
      omega arith
  root_last z (inr j) b =
      let v = shape L R z.0 z.2.0 z.2.2 in
      let l : Lex (rank (RootUnanswered L.start R.start Right j.0)) (1 ∷ z.0 ∷ z.2.0 ∷ v.0 ∷ v.1 ∷ []) = subst (λ x. Lex (rank (RootUnanswered L.start R.start Right j.0)) x) v.2 b in
      omega arith

  first_broken_search : Search (Holds L R B) (All L R) (all_of L R) (first_broken L R B)
  first_broken_search =
      both (Holds L R B) (λ _. StartMissing L.start R.start) _ _ _ (one (Holds L R B) (B L.start R.start) (StartMissing L.start R.start) (λ e. e, λ e. e))
      (both (Holds L R B) (λ z. in_pair L R z.0 z.2.0 z.2.2) _ _ _ pairs_search
      (both (Holds L R B) (λ z. RootUnanswered L.start R.start Left z.0) (λ z. RootUnanswered L.start R.start Right z.0) _ _ root_lefts root_rights (λ i j b. omega arith))
      root_last)
      (λ i j b. start_first j b)

  there : (i : All L R) → (z : (k : Counterexample) × Proper L R k) × (z.0 ≡ all_of L R i)
  there (inl x) = ((StartMissing L.start R.start, (refl, refl)), refl)
  there (inr (inl (s, hs, (t, ht, inl z)))) = ((StepUnanswered s t Left z.0, (hs, ht, z.1)), refl)
  there (inr (inl (s, hs, (t, ht, inr (inl z))))) = ((StepUnanswered s t Right z.0, (hs, ht, z.1)), refl)
  there (inr (inl (s, hs, (t, ht, inr (inr (inl z)))))) = ((EndUnanswered s t Left, (hs, ht)), refl)
  there (inr (inl (s, hs, (t, ht, inr (inr (inr z)))))) = ((EndUnanswered s t Right, (hs, ht)), refl)
  there (inr (inr (inl z))) = ((RootUnanswered L.start R.start Left z.0, (refl, refl, z.1)), refl)
  there (inr (inr (inr z))) = ((RootUnanswered L.start R.start Right z.0, (refl, refl, z.1)), refl)

  back : (k : Counterexample) → Proper L R k → (i : All L R) × (all_of L R i ≡ k)
  back (StartMissing s t) (a, b) = (inl tt, cc)
  back (StepUnanswered s t Left p) (a, b, c) = (inr (inl (s, a, (t, b, inl (p, c, tt)))), refl)
  back (StepUnanswered s t Right p) (a, b, c) = (inr (inl (s, a, (t, b, inr (inl (p, c, tt))))), refl)
  back (EndUnanswered s t Left) (a, b) = (inr (inl (s, a, (t, b, inr (inr (inl tt))))), refl)
  back (EndUnanswered s t Right) (a, b) = (inr (inl (s, a, (t, b, inr (inr (inr tt))))), refl)
  back (RootUnanswered s t Left p) (a, b, c) = (inr (inr (inl (p, c, tt))), cc)
  back (RootUnanswered s t Right p) (a, b, c) = (inr (inr (inr (p, c, tt))), cc)

  proper_search : Search (Holds L R B) ((k : Counterexample) × Proper L R k) (λ z. z.0) (first_broken L R B)
  proper_search = renamed (Holds L R B) (all_of L R) (λ z. z.0) (first_broken L R B) there (λ z. back z.0 z.1) first_broken_search

  -- ---- all conditions hold of a match, and make one

  match_holds : Match L R B → (k : Counterexample) → Proper L R k → Holds L R B k
  match_holds m (StartMissing s t) (a, b) = rw (a, b) m.starts
  match_holds m (StepUnanswered s t Left p) (a, b, c) = λ st x e. m.left.step s t a b st x.action x.target (p, e)
  match_holds m (StepUnanswered s t Right p) (a, b, c) = λ st x e. m.right.step t s b a st x.action x.target (p, e)
  match_holds m (EndUnanswered s t Left) (a, b) = λ st e. m.left.end s t a b st e
  match_holds m (EndUnanswered s t Right) (a, b) = λ st e. m.right.end t s b a st e
  match_holds m (RootUnanswered s t Left p) (a, b, c) = λ x e. m.left.root x.action x.target (p, rw a at e)
  match_holds m (RootUnanswered s t Right p) (a, b, c) = λ x e. m.right.root x.action x.target (p, rw b at e)

  holds_match : ((k : Counterexample) → Proper L R k → Holds L R B k) → Match L R B
  holds_match h =
      record {
        starts = h (StartMissing L.start R.start) (refl, refl);
        left = record {
          step = λ s t hs ht st a s' w. h (StepUnanswered s t Left w.0) (hs, ht, (lawL.step_in s w.0 _ w.1).1) st _ w.1;
          end = λ s t hs ht st e. h (EndUnanswered s t Left) (hs, ht) st e;
          root = λ a s' w. h (RootUnanswered L.start R.start Left w.0) (refl, refl, (lawL.step_in L.start w.0 _ w.1).1) _ w.1;
        };
        right = record {
          step = λ t s ht hs st a t' w. h (StepUnanswered s t Right w.0) (hs, ht, (lawR.step_in t w.0 _ w.1).1) st _ w.1;
          end = λ t s ht hs st e. h (EndUnanswered s t Right) (hs, ht) st e;
          root = λ a t' w. h (RootUnanswered L.start R.start Right w.0) (refl, refl, (lawR.step_in R.start w.0 _ w.1).1) _ w.1;
        };
      }

  pub verdict_stands : VerdictIs L R B (verdict L R B)
  verdict_stands = go_on (first_broken L R B) refl
    where
      go_on : (o : Option Counterexample) → first_broken L R B ≡ o → VerdictIs L R B (verdict_of o)
      go_on None e = holds_match (λ k h. proper_search.none e (k, h))
      go_on (Some k) e =
          let w = proper_search.some k e in
          record { proper = subst (λ x. Proper L R x) w.1 w.0.1; broken = w.2; earlier = λ j h b. w.3 (j, h) b }

-- ---- there is one verdict only

lex_tri : (xs ys : List ℕ) → length xs ≡ length ys → (xs ≡ ys) ⊎ (Lex xs ys ⊎ Lex ys xs)
lex_tri [] [] e = inl refl
lex_tri [] (y ∷ ys) e = absurd (omega arith)
lex_tri (x ∷ xs) [] e = absurd (omega arith)
lex_tri (x ∷ xs) (y ∷ ys) e =
    elim (cases_order x y) [
      | inl q ↦
          elim (lex_tri xs ys (omega arith))
          [ inl r ↦ inl (cc) | inr (inl l) ↦ inr (inl (inr (q, l))) | inr (inr l) ↦ inr (inr (inr (sym q, l))) ]
      | inr (inl l) ↦ inr (inl (inl l))
      | inr (inr l) ↦ inr (inr (inl l))
    ]

rank_length : (k : Counterexample) → length (rank k) ≡ 5
rank_length (StartMissing s t) = refl
rank_length (StepUnanswered s t Left p) = refl
rank_length (StepUnanswered s t Right p) = refl
rank_length (EndUnanswered s t Left) = refl
rank_length (EndUnanswered s t Right) = refl
rank_length (RootUnanswered s t Left p) = refl
rank_length (RootUnanswered s t Right p) = refl

abbrev unrank : Lts → Lts → List ℕ → Counterexample
unrank L R xs =
    cond (eqb (get_or xs 0 0) 0) (StartMissing L.start R.start)
    (cond (eqb (get_or xs 0 0) 1)
    (cond (eqb (get_or xs 3 0) 0) (StepUnanswered (get_or xs 1 0) (get_or xs 2 0) Left (get_or xs 4 0))
    (cond (eqb (get_or xs 3 0) 1) (StepUnanswered (get_or xs 1 0) (get_or xs 2 0) Right (get_or xs 4 0))
    (cond (eqb (get_or xs 3 0) 2) (EndUnanswered (get_or xs 1 0) (get_or xs 2 0) Left) (EndUnanswered (get_or xs 1 0) (get_or xs 2 0) Right))))
    (cond (eqb (get_or xs 3 0) 0) (RootUnanswered L.start R.start Left (get_or xs 4 0)) (RootUnanswered L.start R.start Right (get_or xs 4 0))))

unrank_rank : (L R : Lts) (k : Counterexample) → Proper L R k → unrank L R (rank k) ≡ k
unrank_rank L R (StartMissing s t) (a, b) = cc
unrank_rank L R (StepUnanswered s t Left p) h = refl
unrank_rank L R (StepUnanswered s t Right p) h = refl
unrank_rank L R (EndUnanswered s t Left) h = refl
unrank_rank L R (EndUnanswered s t Right) h = refl
unrank_rank L R (RootUnanswered s t Left p) (a, b, c) = cc
unrank_rank L R (RootUnanswered s t Right p) (a, b, c) = cc

same_first : (L R : Lts) (B : Pairing) (j k : Counterexample) → First L R B j → First L R B k → j ≡ k
same_first L R B j k v w =
    elim (lex_tri (rank j) (rank k) (rank_length j ∙ sym (rank_length k))) [
      | inl e ↦ sym (unrank_rank L R j v.proper) ∙ ap (unrank L R) e ∙ unrank_rank L R k w.proper
      | inr (inl l) ↦ absurd (v.broken (w.earlier j v.proper l))
      | inr (inr l) ↦ absurd (w.broken (v.earlier k w.proper l))
    ]

one_verdict : (L R : Lts) (lawL : Lawful L) (lawR : Lawful R) (B : Pairing) (v w : Verdict) → VerdictIs L R B v → VerdictIs L R B w → v ≡ w
one_verdict L R lawL lawR B (Ok u) (Ok v) g h = refl
one_verdict L R lawL lawR B (Ok u) (Err k) g h = absurd (h.broken (match_holds L R lawL lawR B g k h.proper))
one_verdict L R lawL lawR B (Err j) (Ok u) g h = absurd (g.broken (match_holds L R lawL lawR B h j g.proper))
one_verdict L R lawL lawR B (Err j) (Err k) g h = ap Err (same_first L R B j k g h)

pub verdicts_exact : VerdictsExact
verdicts_exact L R lawL lawR B =
    record {
      verdict = verdict L R B;
      is = verdict_stands L R lawL lawR B;
      only = λ v h. one_verdict L R lawL lawR B v (verdict L R B) h (verdict_stands L R lawL lawR B);
    }
