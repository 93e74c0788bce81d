use Rattle.std.proofs.Common.{rules}
use Rattle.judging.proofs.Wiping.{wiped_part}
use Rattle.judging.proofs.calls.judge.Goals as goal

pub returns : goal.returns
returns g c =
    record {
      says = (c.in_ok-check_ready.ensures, c.judge_in.ensures.is);
      marks = wiped_part _ c.max-n.result _ _ (search rules) (search rules) c.judge_in.ensures.clean.no_marks;
      queue = wiped_part _ c.max-n.result _ _ (search rules) (search rules) c.judge_in.ensures.clean.no_queue;
    }
