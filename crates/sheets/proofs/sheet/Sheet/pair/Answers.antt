use Rattle.std.proofs.Common.{sym, refl, ap, ◌∙◌, rules}
use Rattle.std.proofs.lemmas.Result.{err_from_is_err_and}
use Rattle.sheets.specs.Bits.{with_bit}
use Rattle.sheets.specs.Sheets.{standing, rows_of, columns_of}
use Rattle.sheets.proofs.Refusals.{pair_ok, pair_refused}
use Rattle.sheets.proofs.Sizing.{there, put_stood}
use Rattle.sheets.proofs.sheet.Sheet.pair.Goals as goal

pub put_bit-requires : goal.put_bit-requires
put_bit-requires c =
    let v = c.args.self.now in
    let numbers = c.in_ok-i.ensures in
    rw numbers.2 (there v.size v.bytes.now (rows_of v) (columns_of v) c.args.s c.args.t refl refl numbers.1)

pub returns-in_err-i : goal.returns-in_err-i
returns-in_err-i c =
    let v = c.args.self.now in
    let p = err_from_is_err_and c.from_residual.result c.from_residual.ensures.1 in
    rw (p.1, p.2) (record {
      says = sym (pair_refused (rows_of v) (columns_of v) (standing v) c.args.s c.args.t _ c.in_err-i.ensures);
      pairs = refl;
      bytes = refl;
      kept = search rules;
    })

pub returns : goal.returns
returns c =
    let v = c.args.self.now in
    let n = rows_of v in
    let m = columns_of v in
    let numbers = c.in_ok-i.ensures in
    let made = c.put_bit.ensures ∙ ap (with_bit v.bytes.now) numbers.2 in
    record {
      says = sym (pair_ok n m (standing v) _ _ numbers.0 numbers.1 (sym c.if-stands.ensures));
      pairs = put_stood v.size v.bytes.now n m _ _ refl refl numbers.1 _ made;
      bytes = made;
      kept = search rules;
    }
