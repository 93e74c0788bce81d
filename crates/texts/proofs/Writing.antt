-- A text that grows at the front of a buffer, or within it.
use Rattle.std.proofs.Common.{◌≡◌, ℕ, suc, ◌+◌, ◌/◌, ◌%◌, ◌^◌, ◌<◌, ◌≤◌, List, [], ◌∷◌, ◌++◌, length, take, drop, set, decimal, sym, refl, ap, ◌∙◌, ap₂, append_assoc, arith, length-append, length-take, length-set}
use Rattle.std.proofs.Math.Seq.{drop-append_seam, take-append_seam}
use Rattle.std.proofs.lemmas.List.{drop-drop, set_split}
use Rattle.std.proofs.lemmas.Fmt.{decimal_digit}
use Rattle.texts.proofs.Digits.{decimal_pair, decimal_pairs}

-- The text stands at the front of the buffer, up to the end; the rest is as it was.
pub record Front (buffer₀ buffer : List ℕ) (end : ℕ) (text : List ℕ) : Type 0 where
  pub is : buffer ≡ text ++ drop end buffer₀
  pub ends : end ≡ length text

pub front_none : (b : List ℕ) → Front b b 0 []
front_none b = record { is = refl; ends = refl }

pub front_more : (b o o' : List ℕ) (e e' : ℕ) (t u : List ℕ) → Front b o e t → o' ≡ take e o ++ u ++ drop e' o → e' ≡ e + length u → Front b o' e' (t ++ u)
front_more b o o' e e' t u f w q =
    let front : take e o ≡ t = ap (take e) f.is ∙ ap (λ k. take k (t ++ drop e b)) f.ends ∙ take-append_seam t (drop e b) in
    let rest : drop e o ≡ drop e b = ap (drop e) f.is ∙ ap (λ k. drop k (t ++ drop e b)) f.ends ∙ drop-append_seam t (drop e b) in
    let last : drop e' o ≡ drop e' b = ap (λ k. drop k o) q ∙ sym (drop-drop (length u) e o) ∙ ap (drop (length u)) rest ∙ drop-drop (length u) e b ∙ ap (λ k. drop k b) (sym q) in
    record {
      is = w ∙ ap₂ (λ p r. p ++ u ++ r) front last;
      ends = let a = length-append t u in let p = f.ends in omega arith;
    }

-- one byte
pub put_byte : (o : List ℕ) (e d : ℕ) → e < length o → set o e d ≡ take e o ++ (d ∷ []) ++ drop (e + 1) o
put_byte o e d l =
    let s : suc e ≡ e + 1 = omega arith in
    set_split o e d l ∙ ap (λ k. take e o ++ d ∷ drop k o) s ∙ sym (append_assoc (take e o) (d ∷ []) (drop (e + 1) o))

pub front_byte : (b o : List ℕ) (e d : ℕ) (t : List ℕ) → Front b o e t → e < length o → Front b (set o e d) (e + 1) (t ++ (d ∷ []))
front_byte b o e d t f l = front_more b o (set o e d) e (e + 1) t (d ∷ []) f (put_byte o e d l) refl

-- what is written within a buffer stands at its front, with all that came before
pub within : (b o : List ℕ) (a e : ℕ) (u : List ℕ) → a ≤ length b → o ≡ take a b ++ u ++ drop e b → e ≡ a + length u → Front b o e (take a b ++ u)
within b o a e u l w q = record { is = w; ends = let p = length-append (take a b) u in let r = length-take a b in omega arith }

-- one text after another
pub put_after : (b o o' : List ℕ) (a e e' : ℕ) (u v : List ℕ) → a ≤ length b → o ≡ take a b ++ u ++ drop e b → e ≡ a + length u → o' ≡ take e o ++ v ++ drop e' o → e' ≡ e + length v → o' ≡ take a b ++ (u ++ v) ++ drop e' b
put_after b o o' a e e' u v l w q w' q' =
    let f = front_more b o o' e e' (take a b ++ u) v (within b o a e u l w q) w' q' in
    f.is ∙ ap (λ p. p ++ drop e' b) (append_assoc (take a b) u v)

-- two bytes
pub put_two : (o : List ℕ) (a d e : ℕ) → a + 2 ≤ length o → set (set o a d) (a + 1) e ≡ take a o ++ (d ∷ e ∷ []) ++ drop (a + 2) o
put_two o a d e l =
    let s : a + 1 + 1 ≡ a + 2 = omega arith in
    put_after o (set o a d) (set (set o a d) (a + 1) e) a (a + 1) (a + 1 + 1) (d ∷ []) (e ∷ []) (omega arith) (put_byte o a d (omega arith)) refl (put_byte (set o a d) (a + 1) e (omega (arith, length-set o a d))) refl
    ∙ ap (λ k. take a o ++ (d ∷ e ∷ []) ++ drop k o) s

-- a number of one digit, one of two, and one of more
pub put_last : (o : List ℕ) (a n : ℕ) → n < 10 → a < length o → set o a (48 + n) ≡ take a o ++ decimal n ++ drop (a + 1) o
put_last o a n h l = put_byte o a (48 + n) l ∙ ap (λ d. take a o ++ d ++ drop (a + 1) o) (sym (decimal_digit n h))

pub put_small : (b o : List ℕ) (a n : ℕ) → 10 ≤ n → n < 100 → o ≡ take a b ++ ((48 + n / 10) ∷ (48 + n % 10) ∷ []) ++ drop (a + 2) b → o ≡ take a b ++ decimal n ++ drop (a + 2) b
put_small b o a n h l w = w ∙ ap (λ d. take a b ++ d ++ drop (a + 2) b) (sym (decimal_pair n h l))

pub put_next : (b o o' : List ℕ) (a e n : ℕ) → 100 ≤ n → n < 2 ^ 64 → a ≤ length b → e ≡ a + length (decimal (n / 100)) → o ≡ take a b ++ decimal (n / 100) ++ drop e b → o' ≡ take e o ++ ((48 + n % 100 / 10) ∷ (48 + n % 100 % 10) ∷ []) ++ drop (e + 2) o → o' ≡ take a b ++ decimal n ++ drop (e + 2) b
put_next b o o' a e n h f l q w w' =
    put_after b o o' a e (e + 2) (decimal (n / 100)) ((48 + n % 100 / 10) ∷ (48 + n % 100 % 10) ∷ []) l w q w' refl
    ∙ ap (λ d. take a b ++ d ++ drop (e + 2) b) (sym (decimal_pairs n h f))

-- a comma, and then a number
pub put_comma : (b o : List ℕ) (a e : ℕ) (u : List ℕ) → a < length b → o ≡ take (a + 1) (set b a 44) ++ u ++ drop e (set b a 44) → e ≡ a + 1 + length u → o ≡ take a b ++ (44 ∷ u) ++ drop e b
put_comma b o a e u l w q = put_after b (set b a 44) o a (a + 1) e (44 ∷ []) u (omega arith) (put_byte b a 44 l) refl w q

-- the line's letter and its three fields, and at last its line feed
pub front_is : (b o : List ℕ) (e l : ℕ) (x y z : List ℕ) → Front b o e ((((l ∷ []) ++ (44 ∷ x)) ++ (44 ∷ y)) ++ (44 ∷ z)) → e < length o → set o e 10 ≡ (l ∷ (44 ∷ [])) ++ x ++ (44 ∷ []) ++ y ++ (44 ∷ []) ++ z ++ (10 ∷ []) ++ drop (e + 1) b
front_is b o e l x y z f m = (front_byte b o e 10 _ f m).is ∙ simp append_assoc

pub put_digit : (b : List ℕ) (a n : ℕ) → n < 10 → a + 2 ≤ length b → set (set b a 44) (a + 1) (48 + n) ≡ take a b ++ (44 ∷ decimal n) ++ drop (a + 2) b
put_digit b a n h l = put_two b a 44 (48 + n) l ∙ ap (λ d. take a b ++ (44 ∷ d) ++ drop (a + 2) b) (sym (decimal_digit n h))
