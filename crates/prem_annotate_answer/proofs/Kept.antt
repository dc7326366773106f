-- What a set is annotated to keeps what is promised, task by task.
use Rattle.std.specs.Prelude.{min, if◌then◌else◌, ◌==◌, IsTrue, is_none}
use Rattle.std.specs.Option.{option_map}
use Rattle.std.proofs.Common.{◌≡◌, ℕ, ◌+◌, ◌≤◌, Bool, true, false, List, [], ◌∷◌, Option, None, Some, Result, Ok, Err, refl, ap, sym, ◌∙◌, subst, arith}
use Rattle.prem_syntax.specs.Syntax.{ProgramText}
use Rattle.prem_syntax.specs.ProgramRules.{IsWellFormed}
use Rattle.prem_syntax.specs.ProgramRules as meaning
use Rattle.prem_text.specs.declared.lexing.token.fail.FrontFail.{FrontFail}
use Rattle.prem_text.specs.Lexing.Token.Reading.{◌>>=◌}
use Rattle.prem_text.specs.Lexing.Token.Lexeme.{Seen}
use Rattle.prem_text.specs.Lexing.Tokens.{tokens_of}
use Rattle.prem_text.specs.Grammar.Reader.{read}
use Rattle.prem_text.specs.Texts.{reads}
use Rattle.prem_text.proofs.Whole.{text_sound}
use Rattle.prem_text.proofs.ReadWordsLemmas.ProgramWords.{reads_have_words}
use Rattle.prem_layout.specs.Facts.{IntervalFact}
use Rattle.prem_layout.specs.Rules.{or_else, refused_by, first_among, over_tasks, memory_rules}
use Rattle.prem_tasks.specs.Broken.{TaskText, TaskSet, unread, text_rules, program_rules, range_rules, program_before, programs_of, late_refusal, broken_programs}
use Rattle.prem_tasks.specs.Compiled.{places_in}
use Rattle.prem_tasks.specs.At.{code_broken, broken_early}
use Rattle.prem_compile.specs.Bounding.{unbounded_at, bounds_told}
use Rattle.prem_annotating.specs.Annotated.{annotated, first_other}
use Rattle.prem_annotating.proofs.Transformed.{annotated_runs}
use Rattle.prem_annotating.proofs.Ranges.{ranges_are_least}
use Rattle.prem_annotating.proofs.Regions.{annotated_stays}
use Rattle.prem_annotating.proofs.Least.{regions_are_least}
use Rattle.prem_annotating.proofs.Said.{annotations_can_be_said}
use Rattle.prem_annotate.specs.Notes.{no_lengths, program_notes}
use Rattle.prem_annotate.specs.Writing.Text.{annotated_text}
use Rattle.prem_annotate.proofs.WritingLemmas.Writing.{texts_are_edits, texts_are_read}
use Rattle.prem_annotate_answer.specs.Unplaced.{unlined}
use Rattle.prem_annotate_answer.specs.Written.{written_by, with_text, written_task, written_tasks, unlengthened, length_in, facts_told, length_told, lengths_of, other_ranges}
use Rattle.prem_annotate_answer.specs.Kept.{IsAnnotatedTask, AreAnnotatedTasks, SetsAreAnnotated}
use Rattle.prem_annotate_answer.proofs.Annotated.{first_none, then_none}
use Rattle.prem_annotate_answer.proofs.UnplacedRuns.{runs_follow_no_place}
use Rattle.prem_annotate_answer.proofs.BoundsStay.{lengths_stay}

-- ---- nothing is refused

pub told_none : {R : Type 0} (task : Option ℕ) (o : Option R) → refused_by task o ≡ None → o ≡ None
told_none task None e = refl
told_none task (Some r) e = absurd cc

pub mapped_none : {A B : Type 0} (f : A → B) (o : Option A) → option_map f o ≡ None → o ≡ None
mapped_none f None e = refl
mapped_none f (Some x) e = absurd cc

-- ---- lengths

small_if : (b : Bool) (bound rest : ℕ) → rest ≤ 2147483647 → (if b then min bound 2147483647 else rest) ≤ 2147483647
small_if true bound rest h = omega arith
small_if false bound rest h = h

length_small : (facts : List (ℕ × IntervalFact)) (n : ℕ) → length_in facts n ≤ 2147483647
length_small [] n = omega arith
length_small (x ∷ facts) n = small_if (x.1.function == n) x.1.bound (length_in facts n) (length_small facts n)

wider : (n : ℕ) → n ≤ 2147483647 → n ≤ 4294967295
wider n h = omega (arith, h)

-- ---- a task

has_tokens : (r : Result (List Seen) FrontFail) → unread (r >>= read) ≡ None → (ts : List Seen) × (r ≡ Ok ts)
has_tokens (Ok ts) e = (ts, refl)
has_tokens (Err fail) e = absurd cc

one_task : (lengths : ℕ → ℕ) → ((n : ℕ) → lengths n ≤ 2147483647) → (t : TaskText) (p : ProgramText) → reads t.text ≡ Ok p → program_rules p ≡ None →
    other_ranges p ≡ None → text_rules (written_task annotated_text lengths t) ≡ None →
    IsAnnotatedTask lengths t (written_task annotated_text lengths t)
one_task lengths small t p is two three one =
    let text_is = text_sound t.text p is in
    let words = reads_have_words t.text p is in
    let none : meaning.first_breach p ≡ None = mapped_none _ (meaning.first_breach p) two in
    let formed : IsWellFormed p = subst (λ o. IsTrue (is_none o)) (sym none) refl in
    let others : first_other p ≡ None = mapped_none _ (first_other p) three in
    let said = annotations_can_be_said lengths t.text p text_is formed others (λ n. wider (lengths n) (small n)) in
    let edits = texts_are_edits lengths t.text p text_is said in
    let new = annotated_text (program_notes lengths p) t.text in
    let by_read : written_by annotated_text lengths t.text (reads t.text) ≡ new = ap (λ (r : Result ProgramText FrontFail). written_by annotated_text lengths t.text r) is in
    let unrefused : unread (reads new) ≡ None = ap (λ (text : List ℕ). unread (reads text)) (sym by_read) ∙ one in
    let tokens = has_tokens (tokens_of new) unrefused in
    let back = texts_are_read lengths t.text p text_is said tokens.0 tokens.1 in
    record {
      program = p;
      text_is = text_is;
      formed = formed;
      others = others;
      pieces = edits.0;
      new_is = ap (λ (text : List ℕ). with_text text t) (by_read ∙ edits.1);
      read = back.0;
      is_read = ap reads by_read ∙ back.1;
      tree_is = back.2;
      runs = λ inputs jobs. annotated_runs lengths p inputs jobs;
      runs_read = λ inputs jobs. runs_follow_no_place back.0 (annotated lengths p) back.2 inputs jobs ∙ ap unlined (annotated_runs lengths p inputs jobs);
      stays = annotated_stays lengths p formed words others;
      ranges = ranges_are_least lengths p formed words;
      regions = regions_are_least lengths p formed words others;
    }

-- ---- tasks, from number k on

all_tasks : (lengths : ℕ → ℕ → ℕ) → ((k n : ℕ) → lengths k n ≤ 2147483647) → (k j : ℕ) (ts : List TaskText) → first_among text_rules j ts ≡ None →
    first_among program_rules j (programs_of ts) ≡ None → first_among other_ranges j (programs_of ts) ≡ None →
    first_among text_rules j (written_tasks annotated_text lengths k ts) ≡ None → AreAnnotatedTasks lengths k ts (written_tasks annotated_text lengths k ts)
all_tasks lengths small k j [] one two three new = tt
all_tasks lengths small k j (t ∷ ts) one two three new = by (reads t.text) refl (λ o w h n. all_tasks lengths small (k + 1) (j + 1) ts o w h n)
  where
    by : (r : Result ProgramText FrontFail) → reads t.text ≡ r →
        (first_among text_rules (j + 1) ts ≡ None → first_among program_rules (j + 1) (programs_of ts) ≡ None → first_among other_ranges (j + 1) (programs_of ts) ≡ None →
        first_among text_rules (j + 1) (written_tasks annotated_text lengths (k + 1) ts) ≡ None → AreAnnotatedTasks lengths (k + 1) ts (written_tasks annotated_text lengths (k + 1) ts)) →
        AreAnnotatedTasks lengths k (t ∷ ts) (written_tasks annotated_text lengths k (t ∷ ts))
    by (Err fail) is more =
        let no : unread (reads t.text) ≡ None = told_none (Some j) (text_rules t) (first_none (refused_by (Some j) (text_rules t)) (first_among text_rules (j + 1) ts) one) in
        let bad : unread (Err fail) ≡ None = ap unread (sym is) ∙ no in
        absurd cc
    by (Ok p) is more =
        let all : programs_of (t ∷ ts) ≡ p ∷ programs_of ts = ap (λ (r : Result ProgramText FrontFail). program_before r (programs_of ts)) is in
        let two' : first_among program_rules j (p ∷ programs_of ts) ≡ None = ap (λ (ps : List ProgramText). first_among program_rules j ps) (sym all) ∙ two in
        let three' : first_among other_ranges j (p ∷ programs_of ts) ≡ None = ap (λ (ps : List ProgramText). first_among other_ranges j ps) (sym all) ∙ three in
        let head = written_task annotated_text (lengths k) t in
        let rest = written_tasks annotated_text lengths (k + 1) ts in (
          one_task (lengths k) (small k) t p is (told_none (Some j) (program_rules p) (first_none (refused_by (Some j) (program_rules p)) (first_among program_rules (j + 1) (programs_of ts)) two'))
              (told_none (Some j) (other_ranges p) (first_none (refused_by (Some j) (other_ranges p)) (first_among other_ranges (j + 1) (programs_of ts)) three'))
              (told_none (Some j) (text_rules head) (first_none (refused_by (Some j) (text_rules head)) (first_among text_rules (j + 1) rest) new)),
          more (then_none (refused_by (Some j) (text_rules t)) (first_among text_rules (j + 1) ts) one)
              (then_none (refused_by (Some j) (program_rules p)) (first_among program_rules (j + 1) (programs_of ts)) two')
              (then_none (refused_by (Some j) (other_ranges p)) (first_among other_ranges (j + 1) (programs_of ts)) three')
              (then_none (refused_by (Some j) (text_rules head)) (first_among text_rules (j + 1) rest) new),
        )

-- ---- the set

pub sets_are_annotated : SetsAreAnnotated
sets_are_annotated set new_set is =
    let lengths = lengths_of annotated_text set in
    let tasks_are : new_set.tasks ≡ written_tasks annotated_text lengths 0 set.tasks = ap (λ (s : TaskSet). s.tasks) is.written_is in
    let one : first_among text_rules 0 (written_tasks annotated_text lengths 0 set.tasks) ≡ None =
    ap (λ (ts : List TaskText). first_among text_rules 0 ts) (sym tasks_are) ∙ first_none (first_among text_rules 0 new_set.tasks) (broken_programs new_set (programs_of new_set.tasks)) is.lawful in
    let all = all_tasks lengths (λ k n. length_small (facts_told (bounds_told (unlengthened annotated_text set)) k) n) 0 0 set.tasks is.texts_are_read is.programs_are_formed is.ranges_are_kept one in
    let first = unlengthened annotated_text set in
    let early : broken_early first ≡ None =
    first_none (broken_early first)
    (or_else (late_refusal (refused_by None (memory_rules first.plant (places_in first)))) (unbounded_at first (places_in first))) is.has_bounds in
    let read : first_among text_rules 0 first.tasks ≡ None =
    first_none (over_tasks text_rules first.tasks)
    (or_else (over_tasks program_rules (programs_of first.tasks))
    (or_else (over_tasks range_rules (programs_of first.tasks)) (late_refusal (code_broken first)))) early in
    let before = all_tasks (λ k. no_lengths) (λ k n. omega arith) 0 0 set.tasks is.texts_are_read is.programs_are_formed is.ranges_are_kept read in
    record {
      tasks = subst (λ (ts : List TaskText). AreAnnotatedTasks lengths 0 set.tasks ts) (sym tasks_are) all;
      else_same = is.written_is ∙ ap (λ (ts : List TaskText). record set { tasks = ts }) (sym tasks_are);
      bounds = λ k n. lengths_stay set (λ k. no_lengths) lengths before all k n ∙ ap (λ (s : TaskSet). length_told (bounds_told s) k n) (sym is.written_is);
      lawful = is.lawful;
    }
