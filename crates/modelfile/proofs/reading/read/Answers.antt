use Rattle.std.proofs.Common.{◌≡◌, ℕ, ◌≤◌, List, length, sym, refl, ap, ◌∙◌, subst, arith, rules}
use Rattle.processes.specs.declared.equations.Equation.{Equation}
use Rattle.processes.specs.declared.terms.Term.{Term}
use Rattle.transitions.specs.declared.lines.JoinLine.{JoinLine}
use Rattle.modelfile.specs.declared.answers.Counts.{Counts}
use Rattle.modelfile.specs.declared.faults.Fault.{Fault}
use Rattle.modelfile.specs.Accepted.{Room}
use Rattle.modelfile.specs.Computed.{reading, read, refused_at}
use Rattle.modelfile.specs.Promise.{Holds, IsModel, room_is, tables_is}
use Rattle.modelfile.specs.State.{Filled}
use Rattle.modelfile.proofs.Loops.{is_filled}
use Rattle.modelfile.specs.Tables.{Tables}
use Rattle.modelfile.proofs.Backs.{reads_back}
use Rattle.modelfile.proofs.Refusing.{refuses_first}
use Rattle.modelfile.proofs.Sounds.{reads_sound}
use Rattle.modelfile.proofs.reading.read.Goals as goal

held : (R : Room) (bytes : List ℕ) (t : Tables) → Holds R bytes t → reading R bytes ≡ read t
held R bytes t h = ap (reading R) h.text ∙ reads_back R t h.accepted (subst (λ z. length z ≤ 32768) h.text h.few)

only : (R : Room) (bytes : List ℕ) (s t : Tables) → reading R bytes ≡ read s → Holds R bytes t → t ≡ s
only R bytes s t e h = let f : read t ≡ read s = sym (held R bytes t h) ∙ e in cc

apart : (R : Room) (bytes : List ℕ) (t : Tables) (k : Fault) (i : ℕ) → reading R bytes ≡ refused_at k i → Holds R bytes t → ⊥
apart R bytes t k i e h = let f = held R bytes t h in let z : ◌≡◌ {A = ℕ} 0 1 = cc in omega arith

-- The reading told of as what the file holds.
model : {bytes : List ℕ} {n : Counts} {ls ls' : List JoinLine} {es es' : List Equation} {ts ts' : List Term} → Filled bytes n ls es ts ls' es' ts' → IsModel bytes ls es ts ls' es' ts' n
model {bytes} {n} {ls} {ls'} {es} {es'} {ts} {ts'} f =
    let R : Room = room_is ls es ts in
    record {
      holds = reads_sound R bytes (tables_is n ls' es' ts') f.reads;
      no_other = λ t h. only R bytes (tables_is n ls' es' ts') t f.reads h;
      lines_in = f.lines_in;
      equations_in = f.equations_in;
      terms_in = f.terms_in;
      past_lines = f.past_lines;
      past_equations = f.past_equations;
      past_terms = f.past_terms;
    }

pub returns-in-Ok : goal.returns-in-Ok
returns-in-Ok c =
    let h = c.in-Ok.ensures in
    let ls = sym h.lines.same in
    let es = sym h.equations.same in
    let ts = sym h.terms.same in
    model (is_filled refl h (search rules) (search rules) (search rules))

pub returns-in-Err : goal.returns-in-Err
returns-in-Err c =
    let f = c.in-Err.ensures.reads in
    let R : Room = room_is c.args.lines.now c.args.equations.now c.args.terms.now in
    record {
      refused = refuses_first R c.args.bytes.now c.in-Err.e.fault c.in-Err.e.line f;
      no_model = λ t h. apart R c.args.bytes.now t c.in-Err.e.fault c.in-Err.e.line f h;
      lines_cleared = c.clear.ensures;
      equations_cleared = c.clear-in-Err.ensures;
      terms_cleared = c.clear-in-Err-2.ensures;
    }
