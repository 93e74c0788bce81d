use Rattle.std.proofs.Common.{refl}
use Rattle.actions.proofs.acceptance.is_acceptable.Goals as goal

pub returns : goal.returns
returns c =
    let once = c.if-not-names_once.ensures.0 refl in (
      λ e. record { few = c.if-lines-gt32.false; visible = c.if-not-all_visible.ensures.0 refl; once = once; associative = (c.is_associative.ensures once).0 e },
      λ ok. (c.is_associative.ensures once).1 ok.associative,
    )
