-- The computed reading of a file tells what the file holds, or why it is refused.
use Rattle.std.proofs.Common.{◌≡◌, ℕ, ◌≤◌, List, length, sym, ap, ◌∙◌, subst, arith}
use Rattle.modelfile.specs.Computed.{reading, read, refused_at}
use Rattle.modelfile.specs.Faults.{number_of}
use Rattle.modelfile.specs.Promise.{Holds}
use Rattle.modelfile.specs.Tables.{Tables}
use Rattle.modelfile.specs.declared.faults.Fault.{Fault}
use Rattle.modelfile.proofs.Backs.{reads_back}
use Rattle.modelfile.proofs.Refusing.{refuses_first}
use Rattle.modelfile.proofs.Sounds.{reads_sound}
use Rattle.worked.specs.Making.{full, Reads, Refuses}
use Rattle.worked.proofs.Once.{one_refusal}

held : (file : List ℕ) (t : Tables) → Holds full file t → reading full file ≡ read t
held file t h = ap (reading full) h.text ∙ reads_back full t h.accepted (subst (λ z. length z ≤ 32768) h.text h.few)

pub reads : (file : List ℕ) (t : Tables) → reading full file ≡ read t → Reads file t
reads file t e =
    record {
      holds = reads_sound full file t e;
      no_other = λ u h. let f : read u ≡ read t = sym (held file u h) ∙ e in cc;
    }

pub refuses : (file : List ℕ) (k : Fault) (line : ℕ) → reading full file ≡ refused_at k line → Refuses file (number_of k) line
refuses file k line e =
    let r = refuses_first full file k line e in
    record {
      no_tables = λ t h. let f = held file t h in let z : ◌≡◌ {A = ℕ} 0 1 = cc in omega arith;
      some_refusal = (k, r);
      every = λ j i h. one_refusal full h r;
    }
