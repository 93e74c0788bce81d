-- What stands after a sheet that is not blank was opened.
use Rattle.std.proofs.Common.{◌≡◌, ℕ, ◌≤◌, Bool, false, cond, List, length, sym, ap, ◌∙◌, subst, ap₂, MutBor}
use Rattle.judging.specs.Judged.{Wiped}
use Rattle.transitions.specs.Lts.{Lts}
use Rattle.sheets.specs.declared.sheet.Sheet.{Sheet}
use Rattle.sheets.specs.Bits.{needed}
use Rattle.sheets.specs.Calls.{blank, Opened}
use Rattle.sheets.specs.Sheets.{in_force, rows_of, columns_of}
use Rattle.sheets.proofs.Sizing.{none_stand, fitting, opening}

module _ (L R : Lts) (bytes : MutBor (List ℕ)) (v : Sheet) (el : v.size.rows ≡ L.states) (er : v.size.columns ≡ R.states) (some : blank v.size.rows v.size.columns ≡ false) (fits : needed v.size.rows v.size.columns ≤ length bytes.now) (long : length v.bytes.now ≡ length bytes.now) where
  rows_kept : rows_of v ≡ v.size.rows
  rows_kept = ap (λ (k : ℕ). in_force v.size k v.size.rows) long ∙ fitting L R v.size (length bytes.now) el er some fits v.size.rows

  columns_kept : columns_of v ≡ v.size.columns
  columns_kept = ap (λ (k : ℕ). in_force v.size k v.size.columns) long ∙ fitting L R v.size (length bytes.now) el er some fits v.size.columns

  pub opened : Wiped (needed v.size.rows v.size.columns) bytes.now v.bytes.now → v.bytes.ghost_name ≡ bytes.ghost_name → Opened L R bytes v
  opened wiped lent =
      let is = opening L R v.size (length bytes.now) el er some fits in
      let all : Wiped (needed (rows_of v) (columns_of v)) bytes.now v.bytes.now = subst (λ (k : ℕ). Wiped k bytes.now v.bytes.now) (sym (ap₂ needed rows_kept columns_kept)) wiped in
      record {
        rows = rows_kept ∙ el ∙ sym (ap (λ (b : Bool). cond b L.states 0) is);
        columns = columns_kept ∙ er ∙ sym (ap (λ (b : Bool). cond b R.states 0) is);
        cleared = all;
        none = none_stand (rows_of v) (columns_of v) v.bytes.now all.zeros;
        lent = lent;
      }
