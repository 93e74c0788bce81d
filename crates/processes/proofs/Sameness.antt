-- Terms whose sign and operands agree are equal, and so are lines of the equations that say the same.
use Rattle.std.proofs.Common.{◌≡◌, ℕ, true, cond, ◌&&◌, eqb, sym, refl, ap, ◌∙◌, ap₂, eq-eqb, eqb-true}
use Rattle.processes.specs.declared.equations.Equation.{Equation}
use Rattle.processes.specs.declared.equations.Equation.TheVariants.{Ends, Becomes}
use Rattle.processes.specs.declared.terms.Term.{Term}
use Rattle.processes.specs.declared.terms.Term.TheVariants.{Action, Deadlock, Variable, Choice, Sequence, Merge, LeftMerge, CommMerge, Block, Hide}
use Rattle.processes.specs.Sameness.{sign, first, second, same_term, same_equation}
use Rattle.std.proofs.lemmas.Bool.{and_parts, false≢true}

-- the term of a sign and two operands
term : ℕ → ℕ → ℕ → Term
term s p q =
    cond (eqb s 97) (Action p) (cond (eqb s 100) Deadlock (cond (eqb s 118) (Variable p) (cond (eqb s 43) (Choice p q) (cond (eqb s 46) (Sequence p q)
    (cond (eqb s 109) (Merge p q) (cond (eqb s 108) (LeftMerge p q) (cond (eqb s 106) (CommMerge p q) (cond (eqb s 98) (Block p q) (Hide p q)))))))))

term_is : (t : Term) → term (sign t) (first t) (second t) ≡ t
unfolding term
term_is (Action a) = refl
term_is Deadlock = refl
term_is (Variable x) = refl
term_is (Choice p q) = refl
term_is (Sequence p q) = refl
term_is (Merge p q) = refl
term_is (LeftMerge p q) = refl
term_is (CommMerge p q) = refl
term_is (Block p set) = refl
term_is (Hide p set) = refl

pub same_then_is : (d e : Term) → same_term d e ≡ true → d ≡ e
same_then_is d e h =
    let a = and_parts (eqb (sign d) (sign e) && eqb (first d) (first e)) (eqb (second d) (second e)) h in
    let b = and_parts (eqb (sign d) (sign e)) (eqb (first d) (first e)) a.0 in
    let es : sign d ≡ sign e = eqb-true _ _ b.0 in
    let ep : first d ≡ first e = eqb-true _ _ b.1 in
    let eq : second d ≡ second e = eqb-true _ _ a.1 in
    sym (term_is d) ∙ ap (λ s. term s (first d) (second d)) es ∙ ap (λ p. term (sign e) p (second d)) ep ∙ ap (λ q. term (sign e) (first e) q) eq ∙ term_is e

pub same_as_itself : (e : Term) → same_term e e ≡ true
same_as_itself e = ap₂ ◌&&◌ (ap₂ ◌&&◌ (eq-eqb (sign e) (sign e) refl) (eq-eqb (first e) (first e) refl)) (eq-eqb (second e) (second e) refl)

pub same_line_is : (d e : Equation) → same_equation d e ≡ true → d ≡ e
same_line_is (Ends x a) (Ends y b) h = let p = and_parts (eqb x y) (eqb a b) h in ap₂ Ends (eqb-true x y p.0) (eqb-true a b p.1)
same_line_is (Ends x a) (Becomes y b z) h = absurd (false≢true h)
same_line_is (Becomes x a z) (Ends y b) h = absurd (false≢true h)
same_line_is (Becomes x a z) (Becomes y b w) h =
    let p = and_parts (eqb x y && eqb a b) (eqb z w) h in
    let q = and_parts (eqb x y) (eqb a b) p.0 in
    ap₂ (λ u v. Becomes u v z) (eqb-true x y q.0) (eqb-true a b q.1) ∙ ap (λ v. Becomes y b v) (eqb-true z w p.1)

pub line_as_itself : (e : Equation) → same_equation e e ≡ true
line_as_itself (Ends x a) = ap₂ ◌&&◌ (eq-eqb x x refl) (eq-eqb a a refl)
line_as_itself (Becomes x a z) = ap₂ ◌&&◌ (ap₂ ◌&&◌ (eq-eqb x x refl) (eq-eqb a a refl)) (eq-eqb z z refl)
