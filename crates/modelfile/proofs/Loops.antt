-- One line further, and the end of the file.
use Rattle.std.proofs.Common.{◌≡◌, ℕ, suc, ◌+◌, ◌-◌, ◌<◌, ◌≤◌, Bool, true, false, cond, eqb, List, [], ◌∷◌, length, drop, MutBor, Some, None, Option, Ok, Err, Result, sym, subst, refl, ap, ◌∙◌, add-one, arith}
use Rattle.std.specs.Result.{MatchResult, IsErrAnd}
use Rattle.std.proofs.lemmas.Bool.{le-ltb}
use Rattle.std.proofs.lemmas.List.{drop-drop}
use Rattle.processes.specs.declared.terms.Term.{Term}
use Rattle.tokens.specs.Lines.{Raw, whole, cut, grow, raw_lines}
use Rattle.modelfile.specs.declared.faults.Fault.{Fault}
use Rattle.modelfile.specs.declared.faults.Fault.TheVariants.{TooLong, WrongEnd}
use Rattle.modelfile.specs.Computed.{read_lines, reading, refused_at, ended}
use Rattle.modelfile.specs.Tests.{nothing}
use Rattle.modelfile.specs.Tests as file
use Rattle.transitions.specs.declared.lines.JoinLine.{JoinLine}
use Rattle.processes.specs.declared.equations.Equation.{Equation}
use Rattle.modelfile.specs.declared.filling.Filling.{Filling}
use Rattle.modelfile.specs.declared.answers.Counts.{Counts}
use Rattle.modelfile.specs.declared.answers.Refusal.{Refusal}
use Rattle.modelfile.specs.State.{seen, room_of, Grows, ReadsLine, reading_on, Ends, Filled}

goes_on : (i : ℕ) (S : file.Sofar) (n : ℕ) (bs : List ℕ) → 0 < length bs → ended i S n (raw_lines bs) ≡ refused_at WrongEnd (suc i)
goes_on i S n [] l = absurd (omega arith)
goes_on i S n (b ∷ bs) l = go (eqb b 10) (raw_lines bs)
  where
    go : (t : Bool) (es : List Raw) → ended i S n (cond t (whole [] ∷ es) (grow b es)) ≡ refused_at WrongEnd (suc i)
    go true es = refl
    go false [] = refl
    go false (whole l ∷ es) = refl
    go false (cut l ∷ es) = refl

drop_past : {A : Type 0} (xs zs : List A) (n m : ℕ) → n ≤ m → drop n zs ≡ drop n xs → drop m zs ≡ drop m xs
drop_past xs zs n m l e =
    let k : n + (m - n) ≡ m = omega arith in
    ap (λ j. drop j zs) (sym k) ∙ sym (drop-drop (m - n) n zs) ∙ ap (drop (m - n)) e ∙ drop-drop (m - n) n xs ∙ ap (λ j. drop j xs) k

-- What a line leads to, told by the answer once its fault is given the line.
module _ (f f' : Filling) (text : List ℕ) (line : ℕ) {Q : Fault → Refusal → Type 0} (gives : (k : Fault) (e : Refusal) → Q k e → e ≡ record { fault = k; line = line }) where
  pub leads : (r : Result (Option ℕ) Fault) (o : Result (Option ℕ) Refusal) → ReadsLine f text f' r → MatchResult r (λ x. o ≡ Ok x) (λ k. IsErrAnd o (Q k)) → (y : Option ℕ) → o ≡ Ok y → ReadsLine f text f' (Ok y)
  leads (Ok x) o h m y g = let j : x ≡ y = cc in subst (λ z. ReadsLine f text f' (Ok z)) j h
  leads (Err k) (Ok x) h m y g = absurd m
  leads (Err k) (Err d) h m y g = cc

-- A row that grows twice grows.
grows_on : {A : Type 0} (l m n : ℕ) (a b c : MutBor (List A)) → Grows l a m b → Grows m b n c → Grows l a n c
grows_on l m n a b c g h = record {
  same = h.same ∙ g.same;
  room = h.room ∙ g.room;
  more = omega (arith, g.more, h.more);
  past = h.past ∙ drop_past a.now b.now m n h.more g.past;
}

-- Where the reading of a text stands: at a line, with the text from there on, and rows that grew from the first ones.
pub record Stands (f0 : Filling) (bytes : List ℕ) (f : Filling) (line : ℕ) (rest : List ℕ) : Type 0 where
  pub reads : read_lines (room_of f0) line (seen f) (raw_lines rest) ≡ read_lines (room_of f0) 1 (seen f0) (raw_lines bytes)
  pub behind : line + length rest ≤ length bytes + 1
  pub lines : Grows f0.line_count f0.lines f.line_count f.lines
  pub equations : Grows f0.equation_count f0.equations f.equation_count f.equations
  pub terms : Grows f0.term_count f0.terms f.term_count f.terms

-- Short enough, a file is read from its first line on.
pub short_enough : (f : Filling) (bytes : List ℕ) → length bytes ≤ 32768 → reading_on f bytes ≡ read_lines (room_of f) 1 (seen f) (raw_lines bytes)
short_enough f bytes few = ap (λ (b : Bool). elim b [ true ↦ refused_at TooLong 0 | false ↦ read_lines (room_of f) 1 (seen f) (raw_lines bytes) ]) (le-ltb 32768 (length bytes) few)

module _ {f0 : Filling} {bytes : List ℕ} (few : length bytes ≤ 32768) {f : Filling} {line : ℕ} {rest : List ℕ} (h : Stands f0 bytes f line rest) (f' : Filling) (text more : List ℕ) (cuts : raw_lines rest ≡ whole text ∷ raw_lines more) where
  room_stays : room_of f ≡ room_of f0
  room_stays = rw (h.lines.room, h.equations.room, h.terms.room) refl

  here : read_lines (room_of f) line (seen f) (whole text ∷ raw_lines more) ≡ read_lines (room_of f0) 1 (seen f0) (raw_lines bytes)
  here = ap (λ r. read_lines r line (seen f) (whole text ∷ raw_lines more)) room_stays ∙ ap (read_lines (room_of f0) line (seen f)) (sym cuts) ∙ h.reads

  pub at_more : (n : ℕ) → ReadsLine f text f' (Ok (Some n)) → 0 < length more → reading_on f0 bytes ≡ refused_at WrongEnd (line + 1)
  at_more n b l = short_enough f0 bytes few ∙ sym here ∙ b.reads line (raw_lines more) ∙ goes_on line (seen f) n more l ∙ ap (refused_at WrongEnd) (sym (add-one line))

  pub again : ReadsLine f text f' (Ok None) → length more < length rest → Stands f0 bytes f' (line + 1) more
  again o m = record {
    reads = ap (λ i. read_lines (room_of f0) i (seen f') (raw_lines more)) (add-one line)
        ∙ ap (λ r. read_lines r (suc line) (seen f') (raw_lines more)) (sym room_stays) ∙ sym (o.reads line (raw_lines more)) ∙ here;
    behind = omega (arith, h.behind);
    lines = grows_on f0.line_count f.line_count f'.line_count f0.lines f.lines f'.lines h.lines o.lines;
    equations = grows_on f0.equation_count f.equation_count f'.equation_count f0.equations f.equations f'.equations h.equations o.equations;
    terms = grows_on f0.term_count f.term_count f'.term_count f0.terms f.terms f'.terms h.terms o.terms;
  }

-- What the rows end as, told of a reading from nothing.
module _ {f f' : Filling} {bytes : List ℕ} {n : Counts} {ls' : List JoinLine} {es' : List Equation} {ts' : List Term} (from_nothing : reading_on f bytes ≡ reading (room_of f) bytes) (h : Ends f bytes n f') (end_lines : ls' ≡ f'.lines.now) (end_equations : es' ≡ f'.equations.now) (end_terms : ts' ≡ f'.terms.now) where
  pub is_filled : Filled bytes n f.lines.now f.equations.now f.terms.now ls' es' ts'
  is_filled =
      let a : n.lines ≡ f'.line_count = ap (λ (k : Counts). k.lines) h.is in
      let b : n.equations ≡ f'.equation_count = ap (λ (k : Counts). k.equations) h.is in
      let d : n.terms ≡ f'.term_count = ap (λ (k : Counts). k.terms) h.is in
      record {
        reads = sym from_nothing ∙ rw (end_lines, end_equations, end_terms) h.reads;
        lines_in = omega (arith, a, f'.lines_in, h.lines.room);
        equations_in = omega (arith, b, f'.equations_in, h.equations.room);
        terms_in = omega (arith, d, f'.terms_in, h.terms.room);
        past_lines = rw (a, end_lines) h.lines.past;
        past_equations = rw (b, end_equations) h.equations.past;
        past_terms = rw (d, end_terms) h.terms.past;
      }
