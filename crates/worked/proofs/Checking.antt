-- The test of a run, and that the runs which pass it hold.
use Rattle.std.proofs.Common.{◌≡◌, ℕ, Bool, true, false, ◌&&◌, eqb, List, [], ◌∷◌, Option, refl, ◌∙◌, subst₂}
use Rattle.std.proofs.lemmas.Bool.{false≢true, and_parts, eqb-true}
use Rattle.judging.specs.Judged.{larger}
use Rattle.judging.specs.Replies.{wanted}
use Rattle.judging.specs.declared.replies.Ask.{Ask}
use Rattle.modelfile.specs.Computed.{Answer, read, refused_at, reading}
use Rattle.modelfile.specs.Faults.{number_of}
use Rattle.pairings.specs.declared.faults.Fault.{Fault}
use Rattle.sheets.specs.Calls.{removing, judge_why, without_why, reply_why}
use Rattle.transitions.specs.Lts.{Lts, Lawful}
use Rattle.transitions.specs.Match.{Pairing}
use Rattle.transitions.specs.Verdict.{figures}
use Rattle.transitions.specs.declared.replies.Reply.{Reply}
use Rattle.transitions.specs.declared.verdicts.Figures.{Figures}
use Rattle.transitions.specs.Verdict.{Verdict}
use Rattle.transitions.proofs.Computed.{verdict}
use Rattle.worked.specs.Making.{full, Refuses}
use Rattle.worked.specs.Runs.{Run, unfolds, refuses, judges, judges_without, replies, sheet, Between, Told, Holds}
use Rattle.worked.specs.Worked.{AllHold}
use Rattle.worked.proofs.Answering.{is_free, tells_free, told_by}
use Rattle.worked.proofs.Replying.{replies_to, replied_by}
use Rattle.worked.proofs.Readings.{refuses as file-refused}
use Rattle.worked.proofs.Sames.{same_bytes, tells_bytes, same_figures, tells_figures, same_verdict, tells_verdict}
use Rattle.worked.proofs.Tabling.{Tabled, table_in, counts_in, model_in, has_table, found}
use Rattle.worked.proofs.Texts.{text_is}
use Rattle.worked.proofs.Uniquely.{agree, listing_of, same_text, one_model}

-- ---- the tests

abbrev text_in : Tabled → List ℕ
text_in w = listing_of w.steps w.ends (counts_in w)

abbrev is_refused : Answer → ℕ → ℕ → Bool
is_refused (read t) number line = false
is_refused (refused_at k i) number line = eqb (number_of k) number && eqb i line

abbrev is_told : Option Fault → Lts → Lts → Pairing → Verdict → Figures → Bool
is_told why L R B v f = is_free why && (same_verdict (verdict L R B) v && same_figures (figures v) f)

abbrev judge_test : List (ℕ × ℕ) → Verdict → Figures → Lts → Lts → Bool
judge_test pairs v f L R = is_told (judge_why L.states R.states L R (larger L R) (larger L R)) L R (sheet pairs) v f

abbrev without_test : List (ℕ × ℕ) → ℕ × ℕ → Verdict → Figures → Lts → Lts → Bool
without_test pairs out v f L R =
    is_told (without_why L.states R.states L R (larger L R) (larger L R) (sheet pairs) out.0 out.1) L R (removing (sheet pairs) out.0 out.1) v f

abbrev reply_test : List (ℕ × ℕ) → Ask → Option Reply → Lts → Lts → Bool
reply_test pairs ask r L R =
    is_free (reply_why L.states R.states L R (larger L R) (larger L R) (sheet pairs) ask) && replies_to L R (sheet pairs) ask (wanted L R ask) r

-- Both files have a table, and their models pass the test.
abbrev both_pass : List ℕ → List ℕ → (Lts → Lts → Bool) → Bool
both_pass left right test = has_table left && (has_table right && test (model_in left) (model_in right))

abbrev pub passes : Run → Bool
passes (unfolds file listing) = has_table file && same_bytes (text_in (table_in file)) listing
passes (refuses file number line) = is_refused (reading full file) number line
passes (judges left right pairs v f) = both_pass left right (judge_test pairs v f)
passes (judges_without left right pairs out v f) = both_pass left right (without_test pairs out v f)
passes (replies left right pairs ask r) = both_pass left right (reply_test pairs ask r)

abbrev pub all_pass : List Run → Bool
all_pass [] = true
all_pass (r ∷ rs) = passes r && all_pass rs

-- ---- what passes holds

between : (left right : List ℕ) (test : Lts → Lts → Bool) (P : Lts → Lts → Type 0) → ((L R : Lts) → Lawful L → Lawful R → test L R ≡ true → P L R) → both_pass left right test ≡ true → Between left right P
between left right test P tells h =
    let a = and_parts (has_table left) _ h in
    let b = and_parts (has_table right) _ a.1 in
    let l = found left a.0 in
    let r = found right b.0 in
    let p = tells (model_in left) (model_in right) l.law r.law b.1 in
    record {
      left_model = (model_in left, l.makes);
      right_model = (model_in right, r.makes);
      every = λ L R u v. subst₂ P (one_model left (model_in left) L l.makes u) (one_model right (model_in right) R r.makes v) p;
    }

tells_told : (why : Option Fault) (L R : Lts) (B : Pairing) (v : Verdict) (f : Figures) → Lawful L → Lawful R → is_told why L R B v f ≡ true → Told why L R B v f
tells_told why L R B v f lawL lawR h =
    let a = and_parts (is_free why) _ h in
    let b = and_parts (same_verdict (verdict L R B) v) _ a.1 in
    told_by why L R B v f lawL lawR (tells_free why a.0) (tells_verdict _ v b.0) (tells_figures _ f b.1)

tells_refused : (file : List ℕ) (number line : ℕ) (a : Answer) → reading full file ≡ a → is_refused a number line ≡ true → Refuses file number line
tells_refused file number line (read t) e h = absurd (false≢true h)
tells_refused file number line (refused_at k i) e h =
    let both = and_parts (eqb (number_of k) number) (eqb i line) h in subst₂ (Refuses file) (eqb-true _ _ both.0) (eqb-true _ _ both.1) (file-refused file k i e)

pub holds : (r : Run) → passes r ≡ true → Holds r
holds (unfolds file listing) h =
    let both = and_parts (has_table file) _ h in
    let f = found file both.0 in
    let w = table_in file in
    record {
      steps = w.steps;
      ends = w.ends;
      counts = counts_in w;
      unfolds = f.unfolds;
      every = λ zs es n u t m.
          let a = agree file zs es n w.steps w.ends (counts_in w) u f.unfolds in
          text_is t zs es n a.fits m ∙ same_text zs es n w.steps w.ends (counts_in w) a ∙ tells_bytes _ _ both.1;
    }
holds (refuses file number line) h = tells_refused file number line (reading full file) refl h
holds (judges left right pairs v f) h = between left right (judge_test pairs v f) _ (λ L R lawL lawR e. tells_told _ L R _ v f lawL lawR e) h
holds (judges_without left right pairs out v f) h = between left right (without_test pairs out v f) _ (λ L R lawL lawR e. tells_told _ L R _ v f lawL lawR e) h
holds (replies left right pairs ask r) h =
    between left right (reply_test pairs ask r) _
    (λ L R lawL lawR e. let both = and_parts (is_free _) _ e in replied_by _ L R (sheet pairs) ask r lawL lawR (tells_free _ both.0) both.1) h

pub all_hold : (rs : List Run) → all_pass rs ≡ true → AllHold rs
all_hold [] h = tt
all_hold (r ∷ rs) h = let both = and_parts (passes r) (all_pass rs) h in (holds r both.0, all_hold rs both.1)
