-- What the calls make of a file, in the words of their own contracts.
use Rattle.std.specs.Prelude.{◌≡◌, ℕ, List, Ok}
use Rattle.modelfile.specs.Accepted.{Room}
use Rattle.modelfile.specs.Faults.{number_of}
use Rattle.modelfile.specs.Promise.{Holds}
use Rattle.modelfile.specs.Refusals.{Refused}
use Rattle.modelfile.specs.Tables.{Tables}
use Rattle.modelfile.specs.declared.faults.Fault.{Fault}
use Rattle.processes.specs.declared.terms.Term.{Term}
use Rattle.tables.specs.Meanings.{of_table}
use Rattle.tables.specs.Text.{text_of}
use Rattle.tables.specs.declared.steps_table.Table.{Table}
use Rattle.transitions.specs.Lts.{Lts}
use Rattle.transitions.specs.declared.steps.Step.{Step}
use Rattle.unfolding.specs.Model.{IsModel}
use Rattle.unfolding.specs.Promise.{IsUnfolded}
use Rattle.unfolding.specs.declared.counts.Counts.{Counts}

-- ---- read

-- Entries are handed over for the largest file.
abbrev pub full : Room
full = record { for_lines = 32; for_equations = 1024; for_terms = 256 }

-- The file is the text of the tables, which are accepted, and of no others.
pub record Reads (file : List ℕ) (t : Tables) : Type 0 where
  pub holds : Holds full file t
  pub no_other : (u : Tables) → Holds full file u → u ≡ t

-- The file holds no tables. It is refused with this number, at this line, and with no other.
pub record Refuses (file : List ℕ) (number line : ℕ) : Type 0 where
  pub no_tables : (t : Tables) → Holds full file t → ⊥
  pub some_refusal : (k : Fault) × Refused full file k line
  pub every : (k : Fault) (i : ℕ) → Refused full file k i → (number_of k ≡ number) × (i ≡ line)

-- ---- unfold

-- What is read unfolds into these steps and row ends, in some lent tables.
pub record Unfolds (file : List ℕ) (steps : List Step) (ends : List ℕ) (n : Counts) : Type 0 where
  pub tables : Tables
  pub reads : Reads file tables
  pub terms₀ : List Term
  pub terms : List Term
  pub steps₀ : List Step
  pub ends₀ : List ℕ
  pub unfolded : IsUnfolded tables.lines tables.equations tables.terms tables.start terms₀ terms steps₀ steps ends₀ ends (Ok n)

-- ---- Table::new and Table::write

-- M is the model of the file's table.
pub record Makes (file : List ℕ) (M : Lts) : Type 0 where
  pub steps : List Step
  pub ends : List ℕ
  pub counts : Counts
  pub unfolds : Unfolds file steps ends counts
  pub model : IsModel steps ends counts M

-- The file has a table, and whatever table `Table::new` makes of it, its text is the listing.
pub record Lists (file listing : List ℕ) : Type 0 where
  pub steps : List Step
  pub ends : List ℕ
  pub counts : Counts
  pub unfolds : Unfolds file steps ends counts
  pub every : (zs : List Step) (es : List ℕ) (n : Counts) → Unfolds file zs es n → (t : Table) → IsModel zs es n (of_table t) → text_of t ≡ listing
