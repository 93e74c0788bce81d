use Rattle.std.proofs.Common.{◌≡◌, ℕ, true, length, sym, refl, subst}
use Rattle.judging.specs.Judged.{Scratch, Judged, refusal}
use Rattle.transitions.specs.Match.{Pairing}
use Rattle.sheets.specs.Calls.{in_range}
use Rattle.sheets.specs.Sheets.{in_force}
use Rattle.sheets.proofs.Sizing.{there, taken_stood}
use Rattle.sheets.proofs.Taking.{taken_made}
use Rattle.sheets.proofs.sheet.lifting.judge_without.Goals as goal

pub bounds-bytes-i : goal.bounds-bytes-i
bounds-bytes-i g c =
    let z = c.args.size in
    let n = in_force z (length c.args.bytes.now) z.rows in
    let em = c.within-columns.ensures.columns in
    there z c.args.bytes.now n c.within-columns.result.columns c.args.s c.args.t refl em (subst (λ (x : ℕ). in_range n x c.args.s c.args.t ≡ true) (sym em) c.requires)

pub judge_with-requires : goal.judge_with-requires
judge_with-requires g c =
    let z = c.args.size in
    let n = in_force z (length c.args.bytes.now) z.rows in
    let em = c.within-columns.ensures.columns in
    there z c.args.bytes.now n c.within-columns.result.columns c.args.s c.args.t refl em (subst (λ (x : ℕ). in_range n x c.args.s c.args.t ≡ true) (sym em) c.requires)

pub returns : goal.returns
returns g c =
    let z = c.args.size in
    let bytes = c.args.bytes.now in
    let n = in_force z (length bytes) z.rows in
    let em = c.within-columns.ensures.columns in
    let h = subst (λ (x : ℕ). in_range n x c.args.s c.args.t ≡ true) (sym em) c.requires in
    let L = g.L.TransitionSystem.meaning c.args.left.now in
    let R = g.R.TransitionSystem.meaning c.args.right.now in
    let before : Scratch = record { marks = c.args.marks.now; queue = c.args.queue.now } in
    let after : Scratch = record { marks = c.judge_with.new.marks; queue = c.judge_with.new.queue } in
    record {
      judged = subst (λ (B : Pairing). Judged (refusal L R before) L R B before after c.judge_with.result)
          (taken_stood z bytes n c.within-columns.result.columns c.args.s c.args.t refl em h _ (taken_made bytes _)) c.judge_with.ensures.judged;
      same = c.judge_with.ensures.same;
    }
