-- What pair and unpair answer.
use Rattle.std.proofs.Common.{◌≡◌, ℕ, Bool, true, false, cond, Some, None, Ok, Err, Result, refl}
use Rattle.pairings.specs.declared.faults.Fault.{Fault}
use Rattle.pairings.specs.declared.faults.Fault.TheVariants.{NoState, Blank, Stands, Missing}
use Rattle.sheets.specs.Calls.{blank, in_range, bitless, pair_says, unpair_says}
use Rattle.transitions.specs.Match.{Pairing}

refused : (a b : Bool) (o : Result (Unit {0}) Fault) (f : Fault) → cond a (Some Blank) (cond b None (Some NoState)) ≡ Some f → cond a (Err Blank) (cond b o (Err NoState)) ≡ Err f
refused true b o f e = cc
refused false true o f e = cc
refused false false o f e = cc

put : (a b c : Bool) → a ≡ false → b ≡ true → c ≡ false → cond {A = Result (Unit {0}) Fault} a (Err Blank) (cond b (cond c (Err Stands) (Ok tt)) (Err NoState)) ≡ Ok tt
put a b c e f g = rw (e, f, g) refl

taken : (a b c : Bool) → a ≡ false → b ≡ true → c ≡ true → cond {A = Result (Unit {0}) Fault} a (Err Blank) (cond b (cond c (Ok tt) (Err Missing)) (Err NoState)) ≡ Ok tt
taken a b c e f g = rw (e, f, g) refl

module _ (n m : ℕ) (B : Pairing) (s t : ℕ) where
  pub pair_refused : (f : Fault) → bitless n m s t ≡ Some f → pair_says n m B s t ≡ Err f
  pair_refused f e = refused (blank n m) (in_range n m s t) (cond (B s t) (Err Stands) (Ok tt)) f e

  pub unpair_refused : (f : Fault) → bitless n m s t ≡ Some f → unpair_says n m B s t ≡ Err f
  unpair_refused f e = refused (blank n m) (in_range n m s t) (cond (B s t) (Ok tt) (Err Missing)) f e

  module _ (a : blank n m ≡ false) (b : in_range n m s t ≡ true) where
    pub pair_ok : B s t ≡ false → pair_says n m B s t ≡ Ok tt
    pair_ok c = put (blank n m) (in_range n m s t) (B s t) a b c

    pub unpair_ok : B s t ≡ true → unpair_says n m B s t ≡ Ok tt
    unpair_ok c = taken (blank n m) (in_range n m s t) (B s t) a b c
