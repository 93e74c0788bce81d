-- What a line adds to the tables.
use Rattle.std.specs.Prelude.{ℕ}
use Rattle.processes.specs.declared.equations.Equation.TheVariants as equation
use Rattle.processes.specs.declared.terms.Term.{Term}
use Rattle.processes.specs.declared.terms.Term.TheVariants as term
use Rattle.tokens.specs.declared.said.Said.{Said}
use Rattle.tokens.specs.declared.said.Said.TheVariants as said
use Rattle.tokens.specs.declared.token.Kind.{Kind}
use Rattle.tokens.specs.declared.token.Kind.TheVariants.{Action, Deadlock, Variable, Choice, Sequence, Merge, LeftMerge, CommMerge, Block, Hide}
use Rattle.modelfile.specs.declared.entries.Entry.{Entry}
use Rattle.modelfile.specs.declared.entries.Entry.TheVariants.{Variables, Joins, Does, Gives, Starts}

-- The term of a kind and its operands.
abbrev pub term_of : Kind → ℕ → ℕ → Term
term_of Action p q = term.Action p
term_of Deadlock p q = term.Deadlock
term_of Variable p q = term.Variable p
term_of Choice p q = term.Choice p q
term_of Sequence p q = term.Sequence p q
term_of Merge p q = term.Merge p q
term_of LeftMerge p q = term.LeftMerge p q
term_of CommMerge p q = term.CommMerge p q
term_of Block p q = term.Block p q
term_of Hide p q = term.Hide p q

abbrev pub entry_of : Said → Entry
entry_of (said.Variables v) = Variables v
entry_of (said.Joins a b r) = Joins (record { a = a; b = b; joint = r })
entry_of (said.Becomes x a y) = Does (equation.Becomes x a y)
entry_of (said.Ends x a) = Does (equation.Ends x a)
entry_of (said.Gives n k p q) = Gives (term_of k p q)
entry_of (said.Starts n) = Starts n
