use Rattle.std.proofs.Common.{◌<◌, length, Ok, sym, ◌∙◌, ap, arith, rules}
use Rattle.std.proofs.lemmas.Bool.{eqb-false}
use Rattle.modelfile.proofs.Loops.{leads, at_more, again}
use Rattle.modelfile.proofs.filling.Filling.read.Goals as goal

pub returns-in-Some-start : goal.returns-in-Some-start
returns-in-Some-start c =
    let r = leads c.loop-text.self c.read_line.new.self c.in-Some.text.now c.loop-text.line (λ k e q. search rules) c.read_line.result c.map_err.result c.read_line.ensures c.map_err.ensures.cases _ (c.in_ok-start.was ∙ ap Ok c.in-Some-start.is) in
    let l : 0 < length c.in-Some.more.now = let n = eqb-false (length c.in-Some.more.now) 0 (sym c.if-is_empty.ensures) in omega arith in
    record { reads = at_more (omega arith) c.loop-text.invariant c.read_line.new.self c.in-Some.text.now c.in-Some.more.now c.in-Some.ensures.line c.in-Some-start.start r l }

pub loop-text-preserved : goal.loop-text-preserved
loop-text-preserved c =
    let r = leads c.loop-text.self c.read_line.new.self c.in-Some.text.now c.loop-text.line (λ k e q. search rules) c.read_line.result c.map_err.result c.read_line.ensures c.map_err.ensures.cases _ (c.in_ok-start.was ∙ ap Ok c.in_default-start.is) in
    again (omega arith) c.loop-text.invariant c.read_line.new.self c.in-Some.text.now c.in-Some.more.now c.in-Some.ensures.line r c.in-Some.ensures.shorter
