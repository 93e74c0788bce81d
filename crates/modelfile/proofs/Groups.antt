-- Asked of the actions that lines name, the question of grouping tells of all actions.
use Rattle.std.proofs.Common.{◌≡◌, ℕ, zero, suc, ◌<◌, Bool, true, false, not, ◌||◌, List, [], ◌∷◌, length, Some, None, Decides, Option, sym, refl, ap, ◌∙◌, subst, inl, inr, arith, eq-eqb, eqb-true}
use Rattle.std.proofs.lemmas.Bool.{not-false}
use mathlib.Core.List.{Memᴰ}
use Rattle.tokens.specs.Forms.{and_then}
use Rattle.transitions.specs.Listed.{line_at, Names, Said, Once, Associative, listed_joins}
use Rattle.transitions.specs.declared.lines.JoinLine.{JoinLine}
use Rattle.transitions.proofs.Listing.{said_swap, joined_said, said_joined}
use Rattle.modelfile.specs.Computed.{partners, same_answer, left_first, right_first, not_associative}
use Rattle.modelfile.specs.Tests.{any}

pub no_way : {A : Type 0} → true ≡ false → A
no_way e = let z : ◌≡◌ {A = ℕ} 0 1 = cc in absurd (omega arith)

pub or_false : (a b : Bool) → a || b ≡ false → (a ≡ false) × (b ≡ false)
or_false true b h = no_way h
or_false false b h = (refl, h)

pub or_no : {a b : Bool} → a ≡ false → b ≡ false → a || b ≡ false
or_no {a} {b} e f = ap (λ x. x || b) e ∙ f

pub then_some : {A B : Type 0} (o : Option A) (f : A → Option B) (y : B) → and_then o f ≡ Some y → (x : A) × (o ≡ Some x) × (f x ≡ Some y)
then_some None f y e = let z : ◌≡◌ {A = ℕ} 0 1 = cc in absurd (omega arith)
then_some (Some x) f y e = (x, refl, e)

pub then_eq : {A B : Type 0} {o : Option A} {x : A} (f : A → Option B) → o ≡ Some x → and_then o f ≡ f x
then_eq f e = ap (λ o. and_then o f) e

any_mem : {A : Type 0} (f : A → Bool) {y : A} {xs : List A} → Memᴰ y xs → any f xs ≡ false → f y ≡ false
any_mem f (Memᴰ.head {x = x} {xs = xs} e) h = ap f e ∙ (or_false (f x) (any f xs) h).0
any_mem f (Memᴰ.tail {x = x} {xs = xs} m) h = any_mem f m (or_false (f x) (any f xs) h).1

any_each : {A : Type 0} (f : A → Bool) (xs : List A) → ((y : A) → f y ≡ false) → any f xs ≡ false
any_each f [] h = refl
any_each f (x ∷ xs) h = or_no (h x) (any_each f xs h)

named_partner : (ls : List JoinLine) (k a b : ℕ) → k < length ls → Names (line_at ls k) a b → Memᴰ a (partners ls)
named_partner [] k a b l n = absurd (omega arith)
named_partner (x ∷ ls) zero a b l (inl (e, f)) = Memᴰ.head (sym e)
named_partner (x ∷ ls) zero a b l (inr (e, f)) = Memᴰ.tail (Memᴰ.head (sym f))
named_partner (x ∷ ls) (suc k) a b l n = Memᴰ.tail (Memᴰ.tail (named_partner ls k a b (omega arith) n))

same_is : (o p : Option ℕ) → same_answer o p ≡ true → o ≡ p
same_is None None h = refl
same_is None (Some b) h = no_way (sym h)
same_is (Some a) None h = no_way (sym h)
same_is (Some a) (Some b) h = ap Some (eqb-true a b h)

is_same : (o p : Option ℕ) → o ≡ p → same_answer o p ≡ true
is_same o p e = subst (λ z. same_answer o z ≡ true) e (self o)
  where
    self : (o : Option ℕ) → same_answer o o ≡ true
    self None = refl
    self (Some a) = eq-eqb a a refl

module _ (ls : List JoinLine) (once : Once ls) where
  first_in : {a b c : ℕ} → Said ls a b c → Memᴰ a (partners ls)
  first_in {a} {b} s = named_partner ls s.place a b s.within s.names

  second_in : {a b c : ℕ} → Said ls a b c → Memᴰ b (partners ls)
  second_in s = first_in (said_swap s)

  left_said : (a b c d r : ℕ) → Said ls a b d → Said ls d c r → left_first ls a b c ≡ Some r
  left_said a b c d r s t = then_eq (λ x. listed_joins ls x c) (said_joined ls once a b d s) ∙ said_joined ls once d c r t

  right_said : (a b c d r : ℕ) → Said ls b c d → Said ls a d r → right_first ls a b c ≡ Some r
  right_said a b c d r s t = then_eq (λ x. listed_joins ls a x) (said_joined ls once b c d s) ∙ said_joined ls once a d r t

  left_of : (a b c r : ℕ) → left_first ls a b c ≡ Some r → (d : ℕ) × Said ls a b d × Said ls d c r
  left_of a b c r e = let w = then_some (listed_joins ls a b) (λ x. listed_joins ls x c) r e in (w.0, joined_said ls a b w.0 w.1, joined_said ls w.0 c r w.2)

  right_of : (a b c r : ℕ) → right_first ls a b c ≡ Some r → (d : ℕ) × Said ls b c d × Said ls a d r
  right_of a b c r e = let w = then_some (listed_joins ls b c) (λ x. listed_joins ls a x) r e in (w.0, joined_said ls b c w.0 w.1, joined_said ls a w.0 r w.2)

  module _ (h : not_associative ls ≡ false) where
    inside : (a b c : ℕ) → Memᴰ a (partners ls) → Memᴰ b (partners ls) → Memᴰ c (partners ls) → left_first ls a b c ≡ right_first ls a b c
    inside a b c ma mb mc =
        same_is _ _ (not-false _
        (any_mem (λ c. not (same_answer (left_first ls a b c) (right_first ls a b c))) mc
        (any_mem (λ b. any (λ c. not (same_answer (left_first ls a b c) (right_first ls a b c))) (partners ls)) mb
        (any_mem (λ a. any (λ b. any (λ c. not (same_answer (left_first ls a b c) (right_first ls a b c))) (partners ls)) (partners ls)) ma h))))

    pub associative_from : Associative ls
    associative_from a b c r = (λ w. there w, λ w. back w)
      where
        there : ((d : ℕ) × Said ls a b d × Said ls d c r) → (d : ℕ) × Said ls b c d × Said ls a d r
        there (d, s, t) = right_of a b c r (sym (inside a b c (first_in s) (second_in s) (second_in t)) ∙ left_said a b c d r s t)

        back : ((d : ℕ) × Said ls b c d × Said ls a d r) → (d : ℕ) × Said ls a b d × Said ls d c r
        back (d, s, t) = left_of a b c r (inside a b c (first_in t) (first_in s) (second_in s) ∙ right_said a b c d r s t)

  pub associative_no : Associative ls → not_associative ls ≡ false
  associative_no h = any_each _ (partners ls) (λ a. any_each _ (partners ls) (λ b. any_each _ (partners ls) (λ c. ap not (is_same _ _ (same a b c (left_first ls a b c) refl (right_first ls a b c) refl)))))
    where
      same : (a b c : ℕ) (o : Option ℕ) → left_first ls a b c ≡ o → (p : Option ℕ) → right_first ls a b c ≡ p → left_first ls a b c ≡ right_first ls a b c
      same a b c None e None f = e ∙ sym f
      same a b c (Some x) e p f = let w = left_of a b c x e in let v = (h a b c x).0 w in e ∙ sym (right_said a b c v.0 x v.1 v.2)
      same a b c None e (Some x) f = let w = right_of a b c x f in let v = (h a b c x).1 w in left_said a b c v.0 x v.1 v.2 ∙ sym f

  -- What decides associativity decides the question.
  pub not_decided : (r : Bool) → Decides r (Associative ls) → not_associative ls ≡ not r
  not_decided true d = associative_no (d.0 refl)
  not_decided false d = go (not_associative ls) refl
    where
      go : (b : Bool) → not_associative ls ≡ b → not_associative ls ≡ true
      go true e = e
      go false e = no_way (sym (d.1 (associative_from e)))
