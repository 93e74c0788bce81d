-- The search finds a silent ring exactly where there is one.
use Rattle.std.proofs.Common.{◌≡◌, ℕ, zero, suc, ◌<◌, ◌≤◌, Bool, true, false, cond, ◌&&◌, ◌||◌, eqb, ◌⊎◌, List, [], ◌∷◌, length, sym, refl, ap, ◌∙◌, subst, ap₂, inl, inr, arith, eq-eqb, eqb-true}
use mathlib.Core.List.Memᴰ
use mathlib.Core.List.{Memᴰ}
use borrow.Author.Tests.{both_ways}
use Rattle.processes.specs.declared.equations.Equation.{Equation}
use Rattle.processes.specs.declared.equations.Equation.TheVariants.{Ends, Becomes}
use Rattle.acceptance.specs.Accepted.{Silently, one, more}
use Rattle.acceptance.specs.Walks.{any, member, walkers, walk, targets, some?, silent_ring}

and_true : (a b : Bool) → a && b ≡ true → (a ≡ true) × (b ≡ true)
and_true true b h = (refl, h)
and_true false b h = let z : ◌≡◌ {A = ℕ} 0 1 = cc in absurd (omega arith)

module _ (E : List Equation) where
  pub last_target : {x z : ℕ} (F : List Equation) → Memᴰ (Becomes x 0 z) F → Memᴰ z (targets F)
  last_target [] m = absurd (Memᴰ.not-nil m)
  last_target {x} {z} (l ∷ F) m = go l (last_target F) m
    where
      go : (l : Equation) → (Memᴰ (Becomes x 0 z) F → Memᴰ z (targets F)) → Memᴰ (Becomes x 0 z) (l ∷ F) → Memᴰ z (targets (l ∷ F))
      go (Ends y b) ih (Memᴰ.head e) = let q : ◌≡◌ {A = ℕ} 0 1 = cc in absurd (omega arith)
      go (Ends y b) ih (Memᴰ.tail m) = ih m
      go (Becomes y b w) ih (Memᴰ.head e) = let q : z ≡ w = cc in Memᴰ.head q
      go (Becomes y b w) ih (Memᴰ.tail m) = Memᴰ.tail (ih m)

  reaches : {x z : ℕ} → Silently E x z → Memᴰ z (targets E)
  reaches (one m) = last_target E m
  reaches (more m w) = reaches w

  pub snoc : {x y z : ℕ} → Silently E x y → Memᴰ (Becomes y 0 z) E → Silently E x z
  snoc (one m) h = more m (one h)
  snoc (more m w) h = more m (snoc w h)

  rotate : {x z : ℕ} → x ≡ z → Silently E x z → (y : ℕ) × Memᴰ (Becomes x 0 y) E × Silently E y y
  rotate {x} {z} e (one m) = (z, m, subst (λ k. Silently E k z) e (one m))
  rotate {x} {z} e (more {y = y} m w) = (y, m, snoc w (subst (λ k. Memᴰ (Becomes k 0 y) E) e m))

  pub mem_member : {y : ℕ} {A : List ℕ} → Memᴰ y A → member y A ≡ true
  mem_member {y} (Memᴰ.head {x = x} {xs = xs} e) = ap (λ b. b || any (λ k. eqb y k) xs) (eq-eqb y x e)
  mem_member {y} (Memᴰ.tail {x = x} m) = or_right (eqb y x) _ (mem_member m)
    where
      or_right : (x y : Bool) → y ≡ true → x || y ≡ true
      or_right true y h = refl
      or_right false y h = h

  walks : {x y : ℕ} (A : List ℕ) (F : List Equation) → Memᴰ (Becomes x 0 y) F → Memᴰ y A → Memᴰ x (walkers F A)
  walks A [] m h = absurd (Memᴰ.not-nil m)
  walks {x} {y} A (l ∷ F) m h = go l (λ k. walks A F k h) m
    where
      keep : (b : Bool) (u : ℕ) → Memᴰ x (walkers F A) → Memᴰ x (cond b (u ∷ walkers F A) (walkers F A))
      keep true u w = Memᴰ.tail w
      keep false u w = w

      go : (l : Equation) → (Memᴰ (Becomes x 0 y) F → Memᴰ x (walkers F A)) → Memᴰ (Becomes x 0 y) (l ∷ F) → Memᴰ x (walkers (l ∷ F) A)
      go (Ends u b) ih (Memᴰ.head e) = let q : ◌≡◌ {A = ℕ} 0 1 = cc in absurd (omega arith)
      go (Ends u b) ih (Memᴰ.tail m) = ih m
      go (Becomes u b w) ih (Memᴰ.head e) =
          let eu : x ≡ u = cc in
          let eb : b ≡ 0 = cc in
          let ew : y ≡ w = cc in
          let t : eqb b 0 && member w A ≡ true = ap₂ ◌&&◌ (eq-eqb b 0 eb) (subst (λ k. member k A ≡ true) ew (mem_member h)) in
          subst (λ c. Memᴰ x (cond c (u ∷ walkers F A) (walkers F A))) (sym t) (Memᴰ.head eu)
      go (Becomes u b w) ih (Memᴰ.tail m) = keep (eqb b 0 && member w A) u (ih m)

  stay : (k : ℕ) (A : List ℕ) → ((x : ℕ) → Silently E x x → Memᴰ x A) → (x : ℕ) → Silently E x x → Memᴰ x (walk E k A)
  stay zero A h x w = h x w
  stay (suc k) A h x w = stay k (walkers E A) (λ z v. let r = rotate refl v in walks A E r.1 (h r.0 r.2)) x w

  mem_some : {x : ℕ} {A : List ℕ} → Memᴰ x A → some? A ≡ true
  mem_some (Memᴰ.head e) = refl
  mem_some (Memᴰ.tail m) = refl

  pub no_ring : silent_ring E ≡ false → (x : ℕ) → Silently E x x → ⊥
  no_ring h x w = both_ways _ h (mem_some (stay (suc (length E)) (targets E) (λ z v. reaches v) x w))

module _ (E : List Equation) where
  abbrev Ring : Type 0
  Ring = (x : ℕ) × Silently E x x

  join : {x y z : ℕ} → Silently E x y → Silently E y z → Silently E x z
  join (one m) w = more m w
  join (more m v) w = more m (join v w)

  ring_of : (A : List ℕ) → ((x : ℕ) → Memᴰ x A → (y : ℕ) × Silently E x y × Memᴰ y A) → (z : ℕ) → Memᴰ z A → Ring
  ring_of [] p z m = absurd (Memᴰ.not-nil m)
  ring_of (a ∷ A) p z m = go (ring_of A) (p a (Memᴰ.head refl))
    where
      go : (((x : ℕ) → Memᴰ x A → (y : ℕ) × Silently E x y × Memᴰ y A) → (z : ℕ) → Memᴰ z A → Ring) → (y : ℕ) × Silently E a y × Memᴰ y (a ∷ A) → Ring
      go ih r = first (Memᴰ.cases_cons r.2)
        where
          first : (r.0 ≡ a) ⊎ Memᴰ r.0 A → Ring
          first (inl e) = (a, subst (Silently E a) e r.1)
          first (inr k) = ih (λ x h. other x (p x (Memᴰ.tail h))) r.0 k
            where
              side : (x u : ℕ) → Silently E x u → (u ≡ a) ⊎ Memᴰ u A → (y : ℕ) × Silently E x y × Memᴰ y A
              side x u v (inl e) = (r.0, join (subst (Silently E x) e v) r.1, k)
              side x u v (inr h) = (u, v, h)

              other : (x : ℕ) → (y : ℕ) × Silently E x y × Memᴰ y (a ∷ A) → (y : ℕ) × Silently E x y × Memᴰ y A
              other x q = side x q.0 q.1 (Memᴰ.cases_cons q.2)

  data Sub : List ℕ → List ℕ → Type 0 where
    none : Sub [] []
    keep : {x : ℕ} {A B : List ℕ} → Sub A B → Sub (x ∷ A) (x ∷ B)
    skip : {x : ℕ} {A B : List ℕ} → Sub A B → Sub A (x ∷ B)

  sub_or : {A B : List ℕ} → Sub A B → (A ≡ B) ⊎ (length A < length B)
  sub_or none = inl refl
  sub_or (keep {x = x} {A = A} {B = B} s) = go (sub_or s)
    where
      go : (A ≡ B) ⊎ (length A < length B) → (x ∷ A ≡ x ∷ B) ⊎ (length (x ∷ A) < length (x ∷ B))
      go (inl e) = inl (ap (λ r. x ∷ r) e)
      go (inr l) = inr (omega arith)
  sub_or (skip {x = x} {A = A} {B = B} s) = inr (go (sub_or s))
    where
      go : (A ≡ B) ⊎ (length A < length B) → length A < length (x ∷ B)
      go (inl e) = let h = ap length e in omega arith
      go (inr l) = omega arith

  sub_member : {A B : List ℕ} → Sub A B → (y : ℕ) → member y A ≡ true → member y B ≡ true
  sub_member none y h = h
  sub_member (keep {x = x} {A = A} {B = B} s) y h = go (eqb y x) (sub_member s y) h
    where
      go : (b : Bool) → (member y A ≡ true → member y B ≡ true) → b || member y A ≡ true → b || member y B ≡ true
      go true f h = refl
      go false f h = f h
  sub_member (skip {x = x} {B = B} s) y h = go (eqb y x) (sub_member s y h)
    where
      go : (b : Bool) → member y B ≡ true → b || member y B ≡ true
      go true h = refl
      go false h = h

  sub_walkers : (F : List Equation) (A B : List ℕ) → ((x y : ℕ) → Memᴰ (Becomes x 0 y) F → member y A ≡ true → member y B ≡ true) → Sub (walkers F A) (walkers F B)
  sub_walkers [] A B h = none
  sub_walkers (Ends x a ∷ F) A B h = sub_walkers F A B (λ u v m. h u v (Memᴰ.tail m))
  sub_walkers (Becomes x a y ∷ F) A B h = go (sub_walkers F A B (λ u v m. h u v (Memᴰ.tail m))) (eqb a 0) refl (member y A) refl (member y B) refl
    where
      go : Sub (walkers F A) (walkers F B) → (z : Bool) → eqb a 0 ≡ z → (p : Bool) → member y A ≡ p → (q : Bool) → member y B ≡ q → Sub (cond (z && p) (x ∷ walkers F A) (walkers F A)) (cond (z && q) (x ∷ walkers F B) (walkers F B))
      go s false g p e q f = s
      go s true g true e true f = keep s
      go s true g false e true f = skip s
      go s true g false e false f = s
      go s true g true e false f =
          let z : 0 ≡ a = sym (eqb-true a 0 g) in
          let w : member y B ≡ true = h x y (Memᴰ.head (ap (λ k. Becomes x k y) z)) e in
          let c : ◌≡◌ {A = ℕ} 0 1 = cc in absurd (omega arith)

  member_mem : (y : ℕ) (A : List ℕ) → member y A ≡ true → Memᴰ y A
  member_mem y [] h = let c : ◌≡◌ {A = ℕ} 0 1 = cc in absurd (omega arith)
  member_mem y (x ∷ A) h = go (eqb y x) refl (member_mem y A) h
    where
      go : (b : Bool) → eqb y x ≡ b → (member y A ≡ true → Memᴰ y A) → b || member y A ≡ true → Memᴰ y (x ∷ A)
      go true g f h = Memᴰ.head (eqb-true y x g)
      go false g f h = Memᴰ.tail (f h)

  of_walkers : (F : List Equation) (A : List ℕ) (x : ℕ) → Memᴰ x (walkers F A) → (y : ℕ) × Memᴰ (Becomes x 0 y) F × Memᴰ y A
  of_walkers [] A x m = absurd (Memᴰ.not-nil m)
  of_walkers (Ends u a ∷ F) A x m = let r = of_walkers F A x m in (r.0, Memᴰ.tail r.1, r.2)
  of_walkers (Becomes u a w ∷ F) A x m = go (of_walkers F A x) (eqb a 0 && member w A) refl m
    where
      Goal : Type 0
      Goal = (y : ℕ) × Memᴰ (Becomes x 0 y) (Becomes u a w ∷ F) × Memᴰ y A

      later : (Memᴰ x (walkers F A) → (y : ℕ) × Memᴰ (Becomes x 0 y) F × Memᴰ y A) → Memᴰ x (walkers F A) → Goal
      later ih m = let r = ih m in (r.0, Memᴰ.tail r.1, r.2)

      go : (Memᴰ x (walkers F A) → (y : ℕ) × Memᴰ (Becomes x 0 y) F × Memᴰ y A) → (b : Bool) → eqb a 0 && member w A ≡ b → Memᴰ x (cond b (u ∷ walkers F A) (walkers F A)) → Goal
      go ih false g m = later ih m
      go ih true g m = side (Memᴰ.cases_cons m)
        where
          side : (x ≡ u) ⊎ Memᴰ x (walkers F A) → Goal
          side (inl e) =
              let t = and_true (eqb a 0) (member w A) g in
              let z : a ≡ 0 = eqb-true a 0 t.0 in
              (w, Memᴰ.head (ap₂ (λ p q. Becomes p q w) e (sym z)), member_mem w A t.1)
          side (inr h) = later ih h

  walk_nil : (F : List Equation) → walkers F [] ≡ []
  walk_nil [] = refl
  walk_nil (Ends x a ∷ F) = walk_nil F
  walk_nil (Becomes x a y ∷ F) = go (eqb a 0) (walk_nil F)
    where
      go : (b : Bool) → walkers F [] ≡ [] → cond (b && false) (x ∷ walkers F []) (walkers F []) ≡ []
      go true h = h
      go false h = h

  walk_empty : (k : ℕ) → walk E k [] ≡ []
  walk_empty zero = refl
  walk_empty (suc k) = ap (walk E k) (walk_nil E) ∙ walk_empty k

  settle : (n k : ℕ) (A : List ℕ) → n ≤ k → length A ≤ n → Sub (walkers E A) A → some? (walk E k A) ≡ true → Ring
  settle n k [] l m s h = let e : some? (walk E k []) ≡ false = ap some? (walk_empty k) in let c : ◌≡◌ {A = ℕ} 0 1 = cc in absurd (omega arith)
  settle zero k (a ∷ A) l m s h = absurd (omega arith)
  settle (suc n) zero (a ∷ A) l m s h = absurd (omega arith)
  settle (suc n) (suc k) (a ∷ A) l m s h = go (λ b. settle n k (walkers E (a ∷ A)) (omega arith) b (sub_walkers E (walkers E (a ∷ A)) (a ∷ A) (λ x y _ w. sub_member s y w)) h) (sub_or s)
    where
      go : (length (walkers E (a ∷ A)) ≤ n → Ring) → (walkers E (a ∷ A) ≡ a ∷ A) ⊎ (length (walkers E (a ∷ A)) < length (a ∷ A)) → Ring
      go ih (inl e) = ring_of (a ∷ A) (λ x q. let r = of_walkers E (a ∷ A) x (subst (Memᴰ x) (sym e) q) in (r.0, one r.1, r.2)) a (Memᴰ.head refl)
      go ih (inr w) = ih (omega arith)

  walkers_short : (F : List Equation) (A : List ℕ) → length (walkers F A) ≤ length F
  walkers_short [] A = omega arith
  walkers_short (Ends x a ∷ F) A = let h = walkers_short F A in omega arith
  walkers_short (Becomes x a y ∷ F) A = go (eqb a 0 && member y A) (walkers_short F A)
    where
      go : (b : Bool) → length (walkers F A) ≤ length F → length (cond b (x ∷ walkers F A) (walkers F A)) ≤ suc (length F)
      go true h = omega arith
      go false h = omega arith

  pub ring_found : silent_ring E ≡ true → Ring
  ring_found h = settle (length E) (length E) (walkers E (targets E)) (omega arith) (walkers_short E (targets E)) (sub_walkers E (walkers E (targets E)) (targets E) (λ x y m _. mem_member E (last_target E E m))) h
