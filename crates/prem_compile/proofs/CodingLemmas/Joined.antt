-- What a coded set gives to the stages behind it.
use Rattle.std.specs.Prelude.{slice_index}
use Rattle.std.specs.Option.{option_map}
use Rattle.std.proofs.Common.{◌≡◌, ℕ, ◌+◌, List, [], ◌∷◌, Option, None, Some, Result, Ok, Err, refl, is_none, IsTrue}
use Rattle.prem_plant.specs.declared.plant.Target.{Target}
use Rattle.prem_syntax.specs.Syntax.{ProgramText}
use Rattle.prem_syntax.specs.Rules.{Breach}
use Rattle.prem_syntax.specs.ProgramRules as meaning
use Rattle.prem_check.specs.Told.{told_of as told_of_breach}
use Rattle.prem_text.specs.declared.lexing.token.fail.FrontFail.{FrontFail}
use Rattle.prem_text.specs.Texts.{reads}
use Rattle.prem_ranges.specs.RangesKept.{turn_bounds, bounded}
use Rattle.prem_layout.specs.Template.Parts.{parts_of as task_parts}
use Rattle.prem_layout.specs.Rules.{or_else, refused_by, first_among, over_tasks, code_rules}
use Rattle.prem_code_laws.proofs.FitLawsLemmas.MeasureLemmas.ProgramNodes.{codes_are_small}
use Rattle.prem_prefetch.specs.Sizes.Sizes.{AreCodesOf}
use Rattle.prem_tasks.specs.Told.{of_program}
use Rattle.prem_tasks.specs.Broken.{TaskText, TaskSet, unread, text_rules, program_before, programs_of, program_rules, range_rules, coded_of, late_refusal}
use Rattle.prem_tasks.specs.At.{code_broken, broken_early}
use Rattle.prem_tasks.specs.Compiled.{coded_in}
use Rattle.prem_prefetch.specs.declared.sizes.coded.CodedTask.{CodedTask}
use Rattle.prem_stages.specs.declared.code.CodedProgram.{CodedProgram}
use Rattle.prem_stages.specs.Coded.{AreCoded}
use Rattle.prem_stages.proofs.Groups.{late_four}
use Rattle.prem_sets_sound.proofs.ImagePremisesLemmas.Follow.{not_late}
use Rattle.prem_sets_sound.proofs.TaskRunsLemmas.Filled.{not_exceeding}
use Rattle.prem_compile.specs.Coding.Tasks.{AreTasksOf}
use Rattle.prem_compile.specs.Joined.{HasCode}

-- ---- no rule is broken

neither : {A : Type 0} (a b : Option A) → or_else a b ≡ None → (a ≡ None) × (b ≡ None)
neither None b e = (refl, e)
neither (Some x) b e = absurd cc

not_refused : {R : Type 0} (task : Option ℕ) (rule : Option R) → refused_by task rule ≡ None → rule ≡ None
not_refused task None e = refl
not_refused task (Some r) e = absurd cc

is_formed : (p : ProgramText) → program_rules p ≡ None → meaning.IsWellFormed p
is_formed p e = by (meaning.first_breach p) e
  where
    by : (found : Option Breach) → option_map (λ b. of_program (told_of_breach b)) found ≡ None → IsTrue (is_none found)
    by None e = refl
    by (Some b) e = absurd cc

-- ---- the code of a set's programs

abbrev AreCodes : Target → List TaskText → List ProgramText → Type 0
AreCodes target ts ps = AreCodesOf ps (coded_of target ts ps)

codes_from : (target : Target) (n : ℕ) (ts : List TaskText) → first_among text_rules n ts ≡ None →
    first_among program_rules n (programs_of ts) ≡ None → first_among late_four n (coded_of target ts (programs_of ts)) ≡ None →
    AreCodes target ts (programs_of ts)
codes_from target n [] one two four = tt
codes_from target n (t ∷ ts) one two four = by (reads t.text) refl one two four (codes_from target (n + 1) ts)
  where
    by : (read : Result ProgramText FrontFail) → reads t.text ≡ read →
        or_else (refused_by (Some n) (unread read)) (first_among text_rules (n + 1) ts) ≡ None →
        first_among program_rules n (program_before read (programs_of ts)) ≡ None →
        first_among late_four n (coded_of target (t ∷ ts) (program_before read (programs_of ts))) ≡ None →
        (first_among text_rules (n + 1) ts ≡ None → first_among program_rules (n + 1) (programs_of ts) ≡ None →
        first_among late_four (n + 1) (coded_of target ts (programs_of ts)) ≡ None → AreCodes target ts (programs_of ts)) →
        AreCodes target (t ∷ ts) (program_before read (programs_of ts))
    by (Err fail) is one two four more = absurd cc
    by (Ok p) is one two four more =
        let of_two = neither (refused_by (Some n) (program_rules p)) (first_among program_rules (n + 1) (programs_of ts)) two in
        let of_four = neither (refused_by (Some n) (code_rules (bounded p))) (first_among late_four (n + 1) (coded_of target ts (programs_of ts))) four in (
          record {
            target = target;
            turns = slice_index (turn_bounds p);
            formed = is_formed p (not_refused (Some n) (program_rules p) of_two.0);
            program = refl;
            kept = not_exceeding (bounded p) (not_refused (Some n) (code_rules (bounded p)) of_four.0);
            code = refl;
            small = codes_are_small t.text p (slice_index (turn_bounds p)) (task_parts target (bounded p).routines) is;
          },
          more one of_two.1 of_four.1,
        )

-- no rule on code generation or before it is broken
pub codes_when_early : (set : TaskSet) → broken_early set ≡ None → AreCodesOf (programs_of set.tasks) (coded_in set)
codes_when_early set e =
    let one = neither (over_tasks text_rules set.tasks)
    (or_else (over_tasks program_rules (programs_of set.tasks))
    (or_else (over_tasks range_rules (programs_of set.tasks)) (late_refusal (code_broken set)))) e in
    let two = neither (over_tasks program_rules (programs_of set.tasks)) (or_else (over_tasks range_rules (programs_of set.tasks)) (late_refusal (code_broken set))) one.1 in
    let three = neither (over_tasks range_rules (programs_of set.tasks)) (late_refusal (code_broken set)) two.1 in
    codes_from set.plant.target 0 set.tasks one.0 two.0 (not_late (code_broken set) three.1)

-- all that is known of a set's tasks
pub has_code : (set : TaskSet) (programs : List CodedProgram) (tasks : List CodedTask) → AreCoded set programs → AreTasksOf set tasks → HasCode set tasks
has_code set programs tasks is are = record {
  tasks_are = are;
  codes_are = codes_from set.plant.target 0 set.tasks is.texts_are_read is.programs_are_formed is.code_is_there;
  as_many = is.count;
  early = is.early;
  broken_is = is.broken_is;
}
