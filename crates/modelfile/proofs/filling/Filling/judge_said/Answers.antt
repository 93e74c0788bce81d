use Rattle.std.proofs.Common.{◌≡◌, ◌≤◌, length, take, sym, ap, ◌∙◌}
use Rattle.std.proofs.lemmas.List.{length-take-le}
use Rattle.std.proofs.lemmas.Result.{err_from_is_err_and}
use Rattle.tokens.specs.declared.said.Said.{Said}
use Rattle.modelfile.specs.declared.filling.Filling.{Filling}
use Rattle.modelfile.specs.Computed.{first_fault, early_tests, late_tests}
use Rattle.modelfile.specs.Entries.{entry_of}
use Rattle.modelfile.specs.State.{room_of, seen, turn_after}
use Rattle.modelfile.proofs.Firsts.{first_left, first_right}
use Rattle.modelfile.proofs.filling.Filling.judge_said.Goals as goal

-- The terms that stand are as many as are counted.
stand : (f : Filling) (d : Said) → f.term_count ≤ length f.terms.now → first_fault (early_tests (turn_after f.section) f.variables (length (take f.term_count f.terms.now)) d) ≡ first_fault (early_tests (turn_after f.section) f.variables f.term_count d)
stand f d h = ap (λ n. first_fault (early_tests (turn_after f.section) f.variables n d)) (length-take-le f.term_count f.terms.now h)

pub returns-in_err-check_said : goal.returns-in_err-check_said
returns-in_err-check_said c =
    let p = err_from_is_err_and c.from_residual.result c.from_residual.ensures.1 in
    let f = c.args.self.now in
    rw (p.1, p.2) (first_left (early_tests (turn_after f.section) f.variables _ c.args.said) (late_tests (room_of f) (seen f) (entry_of c.args.said)) _ (stand f c.args.said f.terms_in ∙ c.in_err-check_said.ensures.finds))

pub returns-in_err-check_entry : goal.returns-in_err-check_entry
returns-in_err-check_entry c =
    let p = err_from_is_err_and c.from_residual-in_err-check_entry.result c.from_residual-in_err-check_entry.ensures.1 in
    let f = c.args.self.now in
    rw (p.1, p.2) (first_right (early_tests (turn_after f.section) f.variables _ c.args.said) (late_tests (room_of f) (seen f) (entry_of c.args.said)) (stand f c.args.said f.terms_in ∙ c.in_ok-check_said.ensures.finds)
    ∙ ap (λ e. first_fault (late_tests (room_of f) (seen f) e)) (sym c.entry_of-entry.ensures.is) ∙ c.in_err-check_entry.ensures.finds)
