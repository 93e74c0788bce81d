-- The test of associativity looks only at what two lines can join, and tells all. Acceptable lines are a lawful communication.
use Rattle.std.proofs.Common.{◌≡◌, ℕ, suc, ◌<◌, List, [], length, Some, None, Option, sym, refl, ap, ◌∙◌, inl, inr, arith}
use mathlib.Core.Path.{subst₃}
use mathlib.Core.Logic.{∥∥₁_elim}
use native.Mathlib.Nat.{ℕ_set}
use denote.Struct.Props.{props}
use Rattle.transitions.specs.declared.lines.JoinLine.{JoinLine}
use Rattle.transitions.specs.Made.{Communication, Visible, after}
use Rattle.transitions.specs.Rules.{Iff}
use Rattle.transitions.specs.Listed.{line_at, Names, Said, Once, Associative, VisibleLine, Acceptable, ByLines, listed_joins}
use Rattle.transitions.proofs.Listing.{none_some, said_swap, joined_said, said_joined, listed_commutes}

-- Joining b with c and then a with that gives r.
abbrev pub Regroups : List JoinLine → ℕ → ℕ → ℕ → ℕ → Type 0
Regroups lines a b c r = after (listed_joins lines a) (listed_joins lines b c) ≡ Some r

-- What the first line joins, and then the second with an action more, can be grouped the other way.
unfoldable pub PairRegroups : List JoinLine → JoinLine → JoinLine → Type 0
PairRegroups lines first second = (a b c : ℕ) → Names first a b → Names second first.joint c → Regroups lines a b c second.joint

unfoldable pub LineRegroups : List JoinLine → JoinLine → Type 0
LineRegroups lines first = (k : ℕ) → k < length lines → PairRegroups lines first (line_at lines k)

abbrev pub AllRegroup : List JoinLine → Type 0
AllRegroup lines = (j : ℕ) → j < length lines → LineRegroups lines (line_at lines j)

-- Where the second line names c beside the joint of the first, two looks tell.
pub two_looks : (lines : List JoinLine) (first second : JoinLine) (c : ℕ) → ((x : ℕ) → Iff (Some c ≡ Some x) (Names second first.joint x))
    → Iff (PairRegroups lines first second) (Regroups lines first.a first.b c second.joint × Regroups lines first.b first.a c second.joint)
unfolding PairRegroups
two_looks lines first second c only = (λ all. (all _ _ c (inl (refl, refl)) ((only c).0 refl), all _ _ c (inr (refl, refl)) ((only c).0 refl)), λ w. back w)
  where
    back : Regroups lines first.a first.b c second.joint × Regroups lines first.b first.a c second.joint → PairRegroups lines first second
    back (h, k) a b x (inl (e, f)) m = let q = (only x).1 m in subst₃ (λ u v w. Regroups lines u v w second.joint) e f (cc) h
    back (h, k) a b x (inr (e, f)) m = let q = (only x).1 m in subst₃ (λ u v w. Regroups lines u v w second.joint) f e (cc) k

-- Where it names none, there is nothing to look at.
pub no_looks : (lines : List JoinLine) (first second : JoinLine) → ((x : ℕ) → Names second first.joint x → ⊥) → PairRegroups lines first second
unfolding PairRegroups
no_looks lines first second none a b x n m = absurd (none x m)

after_some : (f : ℕ → Option ℕ) (o : Option ℕ) (r : ℕ) → after f o ≡ Some r → (d : ℕ) × (o ≡ Some d) × (f d ≡ Some r)
after_some f None r e = absurd (none_some r e)
after_some f (Some d) r e = (d, refl, e)

some_after : (f : ℕ → Option ℕ) (o : Option ℕ) (d r : ℕ) → o ≡ Some d → f d ≡ Some r → after f o ≡ Some r
some_after f o d r e h = rw e h

-- The test tells of every three actions.
pub associative : (lines : List JoinLine) → AllRegroup lines → Associative lines
unfolding PairRegroups LineRegroups
associative lines all a b c r = (there a b c, λ w. back w)
  where
    there : (a b c : ℕ) → ((d : ℕ) × Said lines a b d × Said lines d c r) → (d : ℕ) × Said lines b c d × Said lines a d r
    there a b c (d, s, t) =
        let n : Names (line_at lines t.place) (line_at lines s.place).joint c = rw s.joint t.names in
        let e : Regroups lines a b c r = all s.place s.within t.place t.within a b c s.names n ∙ ap Some t.joint in
        let w = after_some (listed_joins lines a) (listed_joins lines b c) r e in
        (w.0, joined_said lines b c w.0 w.1, joined_said lines a w.0 r w.2)

    back : ((d : ℕ) × Said lines b c d × Said lines a d r) → (d : ℕ) × Said lines a b d × Said lines d c r
    back (d, s, t) = let w = there c b a (d, said_swap s, said_swap t) in (w.0, said_swap w.1, said_swap w.2)

-- And where no pair is named twice, associative lines pass it.
pub all_regroup : (lines : List JoinLine) → Once lines → Associative lines → AllRegroup lines
unfolding PairRegroups LineRegroups
all_regroup lines once assoc j lj k lk a b c n m =
    let s : Said lines a b (line_at lines j).joint = record { place = j; within = lj; names = n; joint = refl } in
    let t : Said lines (line_at lines j).joint c (line_at lines k).joint = record { place = k; within = lk; names = m; joint = refl } in
    let w = (assoc a b c (line_at lines k).joint).0 ((line_at lines j).joint, s, t) in
    some_after (listed_joins lines a) (listed_joins lines b c) w.0 (line_at lines k).joint
    (said_joined lines once b c w.0 w.1) (said_joined lines once a w.0 (line_at lines k).joint w.2)

-- ---- acceptable lines are a lawful communication

same_some : (o p : Option ℕ) → ((r : ℕ) → Iff (o ≡ Some r) (p ≡ Some r)) → o ≡ p
same_some None None h = refl
same_some None (Some x) h = (h x).1 refl
same_some (Some x) p h = sym ((h x).0 refl)

visible_names : (line : JoinLine) (a b c : ℕ) → VisibleLine line → Names line a b → line.joint ≡ c → Visible a × Visible b × Visible c
visible_names line a b c v (inl (e, f)) g = ((omega arith, omega arith), (omega arith, omega arith), (omega arith, omega arith))
visible_names line a b c v (inr (e, f)) g = ((omega arith, omega arith), (omega arith, omega arith), (omega arith, omega arith))

pub listed_visible : (lines : List JoinLine) → Acceptable lines → (a b c : ℕ) → listed_joins lines a b ≡ Some c → Visible a × Visible b × Visible c
listed_visible lines ok a b c e =
    let s = joined_said lines a b c e in visible_names (line_at lines s.place) a b c (ok.visible s.place s.within) s.names s.joint

listed_associates : (lines : List JoinLine) → Acceptable lines → (a b c : ℕ) → after (λ d. listed_joins lines d c) (listed_joins lines a b) ≡ after (λ d. listed_joins lines a d) (listed_joins lines b c)
listed_associates lines ok a b c = same_some _ _ (λ r. (there r, back r))
  where
    there : (r : ℕ) → after (λ d. listed_joins lines d c) (listed_joins lines a b) ≡ Some r → after (λ d. listed_joins lines a d) (listed_joins lines b c) ≡ Some r
    there r e =
        let w = after_some (λ d. listed_joins lines d c) (listed_joins lines a b) r e in
        let v = (ok.associative a b c r).0 (w.0, joined_said lines a b w.0 w.1, joined_said lines w.0 c r w.2) in
        some_after (λ d. listed_joins lines a d) (listed_joins lines b c) v.0 r (said_joined lines ok.once b c v.0 v.1) (said_joined lines ok.once a v.0 r v.2)

    back : (r : ℕ) → after (λ d. listed_joins lines a d) (listed_joins lines b c) ≡ Some r → after (λ d. listed_joins lines d c) (listed_joins lines a b) ≡ Some r
    back r e =
        let w = after_some (λ d. listed_joins lines a d) (listed_joins lines b c) r e in
        let v = (ok.associative a b c r).1 (w.0, joined_said lines b c w.0 w.1, joined_said lines a w.0 r w.2) in
        some_after (λ d. listed_joins lines d c) (listed_joins lines a b) v.0 r (said_joined lines ok.once a b v.0 v.1) (said_joined lines ok.once v.0 c r v.2)

number : Option ℕ → ℕ
number None = 0
number (Some c) = suc c

same_number : (o p : Option ℕ) → number o ≡ number p → o ≡ p
unfolding number
same_number None None e = refl
same_number None (Some c) e = absurd (omega arith)
same_number (Some c) None e = absurd (omega arith)
same_number (Some c) (Some d) e = ap Some (omega arith)

pub listed_lawful : (lines : List JoinLine) → ∥ Acceptable lines ∥₁ → Communication (listed_joins lines)
listed_lawful lines some =
    record {
      commutes = listed_commutes lines;
      silent_free = λ a b c e. ∥∥₁_elim some (hlevel props) (λ ok. listed_visible lines ok a b c e);
      associates = λ a b c. same_number _ _ (∥∥₁_elim some (ℕ_set _ _) (λ ok. ap number (listed_associates lines ok a b c)));
    }

pub none_acceptable : Acceptable []
none_acceptable =
    record {
      few = omega arith;
      visible = λ k h. absurd (omega arith);
      once = λ j k a b l h. absurd (omega arith);
      associative = λ a b c r. (λ w. absurd (none_said w.1), λ w. absurd (none_said w.1));
    }
  where
    none_said : {a b c : ℕ} → Said [] a b c → ⊥
    none_said s = omega (arith, s.within)

-- ---- what is joined

pub by_acceptable : (lines : List JoinLine) → Acceptable lines → ByLines lines (listed_joins lines)
by_acceptable lines ok =
    record { accepted = λ _ a b c. (joined_said lines a b c, said_joined lines ok.once a b c); refused = λ not-ok. absurd (not-ok ok) }

no_lines : (a b : ℕ) → listed_joins [] a b ≡ None
unfolding listed_joins
no_lines a b = refl

pub by_refused : (lines : List JoinLine) → (Acceptable lines → ⊥) → ByLines lines (listed_joins [])
by_refused lines not-ok = record { accepted = λ ok. absurd (not-ok ok); refused = λ _ a b. no_lines a b }
