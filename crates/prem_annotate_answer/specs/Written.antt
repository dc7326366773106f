-- The set with the annotations that it needs, and the first rule that stands against it.
use Rattle.std.specs.Prelude.{◌≡◌, ℕ, zero, suc, ◌+◌, ◌==◌, min, if◌then◌else◌, List, [], ◌∷◌, Option, None, Some, Result, Ok, Err}
use Rattle.std.specs.Option.{option_map}
use Rattle.std.specs.Str.{bytes_eq}
use Rattle.prem_syntax.specs.Syntax.{ProgramText}
use Rattle.prem_text.specs.declared.lexing.token.fail.FrontFail.{FrontFail}
use Rattle.prem_text.specs.Texts.{reads}
use Rattle.prem_ranges.specs.RangeRules.{RangeBreach}
use Rattle.prem_ranges.specs.RangesKept.{resolved}
use Rattle.prem_layout.specs.Facts.{IntervalFact}
use Rattle.prem_layout.specs.Rules.{Refusal, or_else, over_tasks}
use Rattle.prem_place.specs.Verdict.Told.{BoundsTold}
use Rattle.prem_tasks.specs.Broken.{TaskText, TaskSet, text_rules, program_rules, range_told, programs_of, broken}
use Rattle.prem_tasks.specs.Told.{Told, of_ranges}
use Rattle.prem_compile.specs.Bounding.{unbounded, bounds_told}
use Rattle.prem_annotating.specs.Annotated.{first_other}
use Rattle.prem_annotate.specs.Notes.{Notes, no_lengths, program_notes}

-- how annotations are put into a text
abbrev pub Writer : Type 0
Writer = List Notes → List ℕ → List ℕ

-- ---- sets with annotations

-- the text of a program with the annotations that it needs, where lengths are at least the given ones; what is no program stays
abbrev pub written_by : Writer → (ℕ → ℕ) → List ℕ → Result ProgramText FrontFail → List ℕ
written_by write lengths text (Ok p) = write (program_notes lengths p) text
written_by write lengths text (Err fail) = text

abbrev pub with_text : List ℕ → TaskText → TaskText
with_text text t = record t { text = text }

abbrev pub written_task : Writer → (ℕ → ℕ) → TaskText → TaskText
written_task write lengths t = with_text (written_by write lengths t.text (reads t.text)) t

-- the tasks from number k on
abbrev pub written_tasks : Writer → (ℕ → ℕ → ℕ) → ℕ → List TaskText → List TaskText
written_tasks write lengths k [] = []
written_tasks write lengths k (t ∷ ts) = written_task write (lengths k) t ∷ written_tasks write lengths (k + 1) ts

abbrev pub with_tasks : List TaskText → TaskSet → TaskSet
with_tasks tasks set = record set { tasks = tasks }

abbrev pub with_annotations : Writer → (ℕ → ℕ → ℕ) → TaskSet → TaskSet
with_annotations write lengths set = with_tasks (written_tasks write lengths 0 set.tasks) set

-- with the lengths that stand
abbrev pub unlengthened : Writer → TaskSet → TaskSet
unlengthened write set = with_annotations write (λ k. no_lengths) set

-- ---- tasks by name

-- the text of the task with a name
abbrev pub text_named : List ℕ → List TaskText → Option (List ℕ)
text_named name [] = None
text_named name (t ∷ ts) = if bytes_eq t.name name then Some t.text else text_named name ts

-- ---- lengths

-- what a bound asks for, where it can be stated
abbrev pub length_for : ℕ → ℕ
length_for bound = min bound 2147483647

-- by what is told of a task's marked functions, of the function with a number
abbrev pub length_in : List (ℕ × IntervalFact) → ℕ → ℕ
length_in [] n = 0
length_in (x ∷ xs) n = if x.1.function == n then length_for x.1.bound else length_in xs n

-- what is told of a task's marked functions, of the task with a number
abbrev pub facts_told : List BoundsTold → ℕ → List (ℕ × IntervalFact)
facts_told [] k = []
facts_told (b ∷ bs) zero = b.facts
facts_told (b ∷ bs) (suc k) = facts_told bs k

-- by what is told of all tasks, of the function with a number in the task with a number
abbrev pub length_told : List BoundsTold → ℕ → ℕ → ℕ
length_told bs k = length_in (facts_told bs k)

-- of each task and function the bound in the set with its annotations
abbrev pub lengths_of : Writer → TaskSet → ℕ → ℕ → ℕ
lengths_of write set = length_told (bounds_told (unlengthened write set))

abbrev pub written : Writer → TaskSet → TaskSet
written write set = with_annotations write (lengths_of write set) set

-- ---- refusals

-- the first rule on ranges but for regions that a program with its new ranges breaks, at the lines of its text
abbrev pub other_ranges : ProgramText → Option Told
other_ranges p = option_map (λ (b : RangeBreach). of_ranges (range_told (resolved p) b.at.line b.rule)) (first_other p)

-- those of the set with its annotations: up to bounds with the lengths that stand, then all rules with those that are put
abbrev pub unwritten : Writer → TaskSet → Option (Refusal Told)
unwritten write set = or_else (unbounded (unlengthened write set)) (broken (written write set))

-- those that no annotation mends
abbrev pub unranged : Writer → TaskSet → Option (Refusal Told)
unranged write set = or_else (over_tasks other_ranges (programs_of set.tasks)) (unwritten write set)

-- first the rules on the texts and programs that stand, then those on ranges of the programs with their new ranges, but for regions
abbrev pub unannotated : Writer → TaskSet → Option (Refusal Told)
unannotated write set = or_else (over_tasks text_rules set.tasks) (or_else (over_tasks program_rules (programs_of set.tasks)) (unranged write set))

-- what a set is annotated to
pub record IsAnnotated (write : Writer) (set new_set : TaskSet) : Type 0 where
  pub texts_are_read : over_tasks text_rules set.tasks ≡ None
  pub programs_are_formed : over_tasks program_rules (programs_of set.tasks) ≡ None
  pub ranges_are_kept : over_tasks other_ranges (programs_of set.tasks) ≡ None
  pub has_bounds : unbounded (unlengthened write set) ≡ None
  pub written_is : new_set ≡ written write set
  pub lawful : broken new_set ≡ None
