-- What is read is the one text of tables that are accepted.
use Rattle.std.proofs.Common.{◌≡◌, ℕ, zero, suc, ◌<◌, Bool, true, false, ltb, List, [], ◌∷◌, ◌++◌, length, sym, refl, ap, ◌∙◌, subst, append_assoc, arith, ltb-false}
use Rattle.acceptance.proofs.Circling.{no_ring}
use Rattle.tokens.specs.Lines.{raw_lines}
use Rattle.tokens.specs.declared.said.Said.{Said}
use Rattle.tokens.specs.declared.said.Said.TheVariants.{Variables, Starts}
use Rattle.rows.proofs.Sameness.{nothing_twice}
use Rattle.modelfile.specs.declared.faults.Fault.TheVariants.{TooLong}
use Rattle.modelfile.specs.Accepted.{Room, Accepted}
use Rattle.modelfile.specs.Computed.{Answer, read, refused_at, read_lines, reading}
use Rattle.modelfile.specs.Promise.{Holds}
use Rattle.modelfile.specs.Tables.{Tables, written_line, written, all_lines, render}
use Rattle.modelfile.specs.Tests.{Sofar, nothing}
use Rattle.modelfile.proofs.Goods.{Good, Passes, passes, said_at, all_on, good_after, said_after, turn_is, earlier}
use Rattle.modelfile.proofs.Groups.{associative_from}
use Rattle.modelfile.proofs.Spelled.{unlines_lines, Chain, done, next, tables_of, chained}

-- all that is read
module _ (R : Room) where
  record Whole (S : Sofar) (ss : List Said) (n : ℕ) (S' : Sofar) : Type 0 where
    accepted : Accepted R (tables_of R S' n)
    said : said_at R S.turn S ++ (ss ++ (Starts n ∷ [])) ≡ all_lines (tables_of R S' n)

  at_start : (S : Sofar) (n : ℕ) → Good R S → Passes R S (Starts n) → Whole S [] n S
  at_start S n g p = record {
    accepted = record {
      tables = record {
        lines_fit = record { few = g.lines_few.0; visible = g.lines_visible; once = g.lines_once; associative = associative_from S.lines g.lines_once p.grouped };
        equations_few = g.equations_few.0;
        equations_fit = g.equations_fit;
        equations_once = g.equations_once;
        no_ring = no_ring S.equations p.ringless;
        terms_few = g.terms_few.0;
        terms_fit = g.terms_fit;
        terms_once = g.terms_once;
        started = let e = earlier (suc (length S.terms)) n p.right_number in (e.0, omega arith);
      };
      variables_few = g.variables_few;
      equations_below = g.equations_below;
      terms_below = g.terms_below;
      lines_room = g.lines_few.1;
      equations_room = g.equations_few.1;
      terms_room = g.terms_few.1;
    };
    said = go S.turn (turn_is R S.turn 4 (omega arith) p.in_turn).0;
  }
    where
      go : (k : ℕ) → 0 < k → said_at R k S ++ (Starts n ∷ []) ≡ all_lines (tables_of R S n)
      go zero l = absurd (omega arith)
      go (suc k) l = ap (λ z. Variables S.variables ∷ z) (all_on R S.lines S.equations S.terms [] (Starts n ∷ []))

  whole_chain : {S : Sofar} {ss : List Said} {n : ℕ} {S' : Sofar} → Chain R S ss n S' → Good R S → Whole S ss n S'
  whole_chain (done {S = S} {n = n} h) g = at_start S n g (passes R S (Starts n) h)
  whole_chain (next {S = S} {s = s} {ss = ss} {n = n} h k f c) g =
      let p = passes R S s h in
      let w = whole_chain c (good_after R S s g p k f) in
      record { accepted = w.accepted; said = sym (append_assoc (said_at R S.turn S) (s ∷ []) (ss ++ (Starts n ∷ []))) ∙ ap (λ z. z ++ (ss ++ (Starts n ∷ []))) (sym (said_after R S s g p k)) ∙ w.said }

  good_nothing : Good R nothing
  good_nothing = record {
    before_lines = λ _. refl;
    before_equations = λ _. refl;
    before_terms = λ _. refl;
    variables_few = omega arith;
    lines_few = (omega arith, omega arith);
    equations_few = (omega arith, omega arith);
    terms_few = (omega arith, omega arith);
    lines_visible = λ k l. absurd (omega arith);
    lines_once = λ j k a b l m _ _. omega arith;
    equations_fit = λ k l. absurd (omega arith);
    equations_below = λ k l. absurd (omega arith);
    equations_once = nothing_twice;
    terms_fit = λ k l. absurd (omega arith);
    terms_below = λ k l. absurd (omega arith);
    terms_once = nothing_twice;
  }

  written_end : (ss : List Said) (s : Said) → written ss ++ written_line s ≡ written (ss ++ (s ∷ []))
  written_end [] s = sym (append_nil (written_line s))
    where
      append_nil : (xs : List ℕ) → xs ++ [] ≡ xs
      append_nil [] = refl
      append_nil (x ∷ xs) = ap (λ r. x ∷ r) (append_nil xs)
  written_end (r ∷ ss) s = append_assoc (written_line r) (written ss) (written_line s) ∙ ap (λ z. written_line r ++ z) (written_end ss s)

  from_lines : (bytes : List ℕ) (t : Tables) → read_lines R 1 nothing (raw_lines bytes) ≡ read t → (bytes ≡ render t) × Accepted R t
  from_lines bytes t e =
      let c = chained R 1 nothing (raw_lines bytes) t e in
      let w = whole_chain c.chain good_nothing in (
        sym (unlines_lines bytes) ∙ c.text ∙ written_end c.said (Starts c.start) ∙ ap written w.said ∙ ap render c.is,
        subst (Accepted R) c.is w.accepted,
      )

pub reads_sound : (R : Room) (bytes : List ℕ) (t : Tables) → reading R bytes ≡ read t → Holds R bytes t
reads_sound R bytes t e = go (ltb 32768 (length bytes)) refl e
  where
    go : (b : Bool) → ltb 32768 (length bytes) ≡ b → (elim b as (λ _. Answer) [ true ↦ refused_at TooLong 0 | false ↦ read_lines R 1 nothing (raw_lines bytes) ]) ≡ read t → Holds R bytes t
    go true g e = let z : ◌≡◌ {A = ℕ} 0 1 = cc in absurd (omega arith)
    go false g e = let r = from_lines R bytes t e in record { text = r.0; accepted = r.1; few = ltb-false 32768 (length bytes) g }
