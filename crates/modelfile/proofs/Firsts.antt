-- The first test that holds, part by part.
use Rattle.std.proofs.Common.{◌≡◌, ℕ, Bool, true, false, cond, not, List, [], ◌∷◌, ◌++◌, Some, None, Decides, refl, ap₂, arith}
use Rattle.acceptance.proofs.Circling.{no_ring, ring_found}
use Rattle.acceptance.specs.Accepted.{NoRing}
use Rattle.acceptance.specs.Walks.{silent_ring}
use Rattle.processes.specs.declared.equations.Equation.{Equation}
use Rattle.transitions.specs.declared.lines.JoinLine.{JoinLine}
use Rattle.modelfile.specs.declared.faults.Fault.{Fault}
use Rattle.modelfile.specs.declared.faults.Fault.TheVariants.{NotAssociative, SilentRing}
use Rattle.modelfile.specs.Computed.{Test, test, first_fault, not_associative, start_tests}

pub first_left : (xs ys : List Test) (k : Fault) → first_fault xs ≡ Some k → first_fault (xs ++ ys) ≡ Some k
first_left [] ys k h = let z : ◌≡◌ {A = ℕ} 0 1 = cc in absurd (omega arith)
first_left (test j b ∷ xs) ys k h = go (first_left xs ys k) b h
  where
    go : (first_fault xs ≡ Some k → first_fault (xs ++ ys) ≡ Some k) → (b : Bool) → cond b (Some j) (first_fault xs) ≡ Some k → cond b (Some j) (first_fault (xs ++ ys)) ≡ Some k
    go ih true h = h
    go ih false h = ih h

pub first_right : (xs ys : List Test) → first_fault xs ≡ None → first_fault (xs ++ ys) ≡ first_fault ys
first_right [] ys h = refl
first_right (test j b ∷ xs) ys h = go (first_right xs ys) b h
  where
    go : (first_fault xs ≡ None → first_fault (xs ++ ys) ≡ first_fault ys) → (b : Bool) → cond b (Some j) (first_fault xs) ≡ None → cond b (Some j) (first_fault (xs ++ ys)) ≡ first_fault ys
    go ih true h = let z : ◌≡◌ {A = ℕ} 0 1 = cc in absurd (omega arith)
    go ih false h = ih h

pub start_by : (ls : List JoinLine) (es : List Equation) (x y : Bool) → not_associative ls ≡ x → silent_ring es ≡ y → first_fault (start_tests ls es) ≡ cond x (Some NotAssociative) (cond y (Some SilentRing) None)
start_by ls es x y e f = ap₂ (λ u v. cond u (Some NotAssociative) (cond v (Some SilentRing) None)) e f

-- What decides that there is no ring decides the search.
pub ring_decided : (es : List Equation) (r : Bool) → Decides r (NoRing es) → silent_ring es ≡ not r
ring_decided es true d = go (silent_ring es) refl
  where
    go : (b : Bool) → silent_ring es ≡ b → silent_ring es ≡ false
    go true e = let w = ring_found es e in absurd (d.0 refl w.0 w.1)
    go false e = e
ring_decided es false d = go (silent_ring es) refl
  where
    go : (b : Bool) → silent_ring es ≡ b → silent_ring es ≡ true
    go true e = e
    go false e = let w : false ≡ true = d.1 (no_ring es e) in let z : ◌≡◌ {A = ℕ} 0 1 = cc in absurd (omega arith)
