use Rattle.std.proofs.Common.{refl}
use Rattle.modelfile.proofs.Firsts.{ring_decided, start_by}
use Rattle.modelfile.proofs.Groups.{not_decided}
use Rattle.modelfile.proofs.judging.check_start.Goals as goal

pub returns-then-not-is_associative : goal.returns-then-not-is_associative
returns-then-not-is_associative c = start_by c.args.lines.now c.args.equations.now _ _ (not_decided c.args.lines.now c.requires _ (c.if-not-is_associative.ensures c.requires)) refl

pub returns-then-not-has_no_ring : goal.returns-then-not-has_no_ring
returns-then-not-has_no_ring c = start_by c.args.lines.now c.args.equations.now _ _ (not_decided c.args.lines.now c.requires _ (c.if-not-is_associative.ensures c.requires)) (ring_decided c.args.equations.now _ c.if-not-has_no_ring.ensures)

pub returns : goal.returns
returns c = start_by c.args.lines.now c.args.equations.now _ _ (not_decided c.args.lines.now c.requires _ (c.if-not-is_associative.ensures c.requires)) (ring_decided c.args.equations.now _ c.if-not-has_no_ring.ensures)
