-- A file has one refusal: one number at one line.
use Rattle.std.proofs.Common.{◌≡◌, ℕ, suc, ◌<◌, ◌≤◌, ◌⊎◌, List, [], ◌∷◌, length, Some, None, sym, refl, ap, ◌∙◌, subst, inl, inr, arith}
use Rattle.modelfile.specs.Accepted.{Room}
use Rattle.modelfile.specs.Entries.{entry_of}
use Rattle.modelfile.specs.Faults.{number_of}
use Rattle.modelfile.specs.Refusals.{NamesStart, Least, Says, Upto, here, on, Refused, too_long, at_line, no_start, goes_on}
use Rattle.modelfile.specs.Tests.{Sofar, nothing, after, start_of}
use Rattle.modelfile.specs.declared.faults.Fault.{Fault}
use Rattle.modelfile.specs.declared.faults.Fault.TheVariants.{TooLong, WrongEnd}
use Rattle.tokens.specs.Forms.{values}
use Rattle.tokens.specs.Lines.{Raw, raw_lines}
use Rattle.tokens.specs.declared.said.Said.{Said}

abbrev pub Same : Fault → ℕ → Fault → ℕ → Type 0
Same k i k' i' = (number_of k ≡ number_of k') × (i ≡ i')

module _ (R : Room) where
  -- From these lines on, the file is refused with k at line j.
  data Stops : Sofar → List Raw → ℕ → Fault → ℕ → Type 0 where
    faulty : {S : Sofar} {l : Raw} {ls : List Raw} {k : Fault} {i : ℕ} → Least R S l k → Stops S (l ∷ ls) i k i
    ends : {S : Sofar} {i : ℕ} → Stops S [] i WrongEnd i
    more : {S : Sofar} {l m : Raw} {ls : List Raw} {s : Said} {i : ℕ} → Says R S l s → NamesStart s → Stops S (l ∷ m ∷ ls) i WrongEnd (suc i)
    past : {S : Sofar} {l : Raw} {ls : List Raw} {s : Said} {k : Fault} {i j : ℕ} → Says R S l s → start_of (entry_of s) ≡ None → Stops (after S (entry_of s)) ls (suc i) k j → Stops S (l ∷ ls) i k j

  upto : {S S' : Sofar} {ls ls' : List Raw} {i i' j : ℕ} {k : Fault} → Upto R S ls i S' ls' i' → Stops S' ls' i' k j → Stops S ls i k j
  upto here w = w
  upto (on a e u) w = past a e (upto u w)

  said_once : {S : Sofar} {l : Raw} {s r : Said} → Says R S l s → Says R S l r → s ≡ r
  said_once {s = s} {r = r} a b =
      let f = a.is_form in
      let g = b.is_form in
      let h : a.form ≡ b.form = cc in
      let v = a.is_said in
      let w : values a.form ≡ Some r = ap values h ∙ b.is_said in
      cc

  starts_not : {s r : Said} → s ≡ r → NamesStart s → start_of (entry_of r) ≡ None → ⊥
  starts_not e n h = let q = n.1 in let p = ap (λ (x : Said). start_of (entry_of x)) e in let z : ◌≡◌ {A = ℕ} 0 1 = cc in omega arith

  once : {S : Sofar} {ls : List Raw} {i j j' : ℕ} {k k' : Fault} → Stops S ls i k j → Stops S ls i k' j' → Same k j k' j'
  once (faulty {k = k} a) (faulty {k = k'} b) = let p = a.smallest k' b.applies in let q = b.smallest k a.applies in (omega arith, refl)
  once (faulty {k = k} a) (more w n) = absurd (w.faultless k a.applies)
  once (faulty {k = k} a) (past w n u) = absurd (w.faultless k a.applies)
  once ends ends = (refl, refl)
  once (more w n) (faulty {k = k} b) = absurd (w.faultless k b.applies)
  once (more w n) (more v o) = (refl, refl)
  once (more w n) (past v e u) = absurd (starts_not (said_once w v) n e)
  once (past w e u) (faulty {k = k} b) = absurd (w.faultless k b.applies)
  once (past w e u) (more v n) = absurd (starts_not (said_once v w) n e)
  once (past {S = S} {ls = ls} {i = i} w e u) (past {k = k'} {j = j'} v f t) =
      once u (subst (λ (s : Said). Stops (after S (entry_of s)) ls (suc i) k' j') (said_once v w) t)

  -- A refusal is for the whole file, or for a line of one that is not too long.
  abbrev Way : List ℕ → Fault → ℕ → Type 0
  Way file k i = ((32768 < length file) × Same k i TooLong 0) ⊎ ((length file ≤ 32768) × Stops nothing (raw_lines file) 1 k i)

  way : {file : List ℕ} {k : Fault} {i : ℕ} → Refused R file k i → Way file k i
  way (too_long l) = inl (l, (refl, refl))
  way (at_line l u w) = inr (l, upto u (faulty w))
  way (no_start l u) = inr (l, upto u ends)
  way (goes_on l u w n) = inr (l, upto u (more w n))

  both_ways : (file : List ℕ) {k k' : Fault} {i i' : ℕ} → Way file k i → Way file k' i' → Same k i k' i'
  both_ways file (inl a) (inl b) = (a.1.0 ∙ sym b.1.0, a.1.1 ∙ sym b.1.1)
  both_ways file (inl a) (inr b) = let l = a.0 in let m = b.0 in absurd (omega arith)
  both_ways file (inr a) (inl b) = let l = a.0 in let m = b.0 in absurd (omega arith)
  both_ways file (inr a) (inr b) = once a.1 b.1

  pub one_refusal : {file : List ℕ} {k k' : Fault} {i i' : ℕ} → Refused R file k i → Refused R file k' i' → Same k i k' i'
  one_refusal {file} a b = both_ways file (way a) (way b)
