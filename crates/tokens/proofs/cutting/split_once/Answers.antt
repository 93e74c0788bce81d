use Rattle.std.proofs.Common.{sym, ◌∙◌}
use Rattle.std.proofs.lemmas.List.{take_rest}
use Rattle.tokens.proofs.Cuts.{cut_at, lacks_before, nowhere}
use Rattle.tokens.proofs.cutting.split_once.Goals as goal

pub returns-in_err-at-clause-none : goal.returns-in_err-at-clause-none
returns-in_err-at-clause-none c = rw c.from_residual.ensures (nowhere c.args.separator c.args.bytes.now (sym c.place_of.ensures ∙ c.in_err-at.was))

pub returns-clause-parts : goal.returns-clause-parts
returns-clause-parts c = rw take_rest (cut_at c.args.separator c.in_ok-at.at c.args.bytes.now (sym c.place_of.ensures ∙ c.in_ok-at.was))

pub returns-clause-first : goal.returns-clause-first
returns-clause-first c = lacks_before c.args.separator c.in_ok-at.at c.args.bytes.now (sym c.place_of.ensures ∙ c.in_ok-at.was)
