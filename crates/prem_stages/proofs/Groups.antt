-- The groups of rules up to code, one after another.
use Rattle.std.specs.List.{AllByRecursion}
use Rattle.std.specs.Option.{option_map}
use Rattle.std.proofs.Common.{◌≡◌, ℕ, suc, ◌+◌, ◌≤◌, List, [], ◌∷◌, Option, None, Some, Result, Ok, Err, length, map, refl, ap, sym, ◌∙◌, subst, arith}
use Rattle.prem_plant.specs.declared.plant.Target.{Target}
use Rattle.prem_syntax.specs.Syntax.{ProgramText}
use Rattle.prem_text.specs.declared.lexing.token.fail.FrontFail.{FrontFail}
use Rattle.prem_text.specs.Texts.{reads}
use Rattle.prem_tree.specs.declared.checked.Checked.{Checked}
use Rattle.prem_ranges.specs.RangesKept.{bounded}
use Rattle.prem_layout.specs.Placed.{Coded as CodedText}
use Rattle.prem_layout.specs.Rules.{LateRule, Refusal, or_else, refused_by, first_among, over_tasks, code_rules}
use Rattle.prem_layout.specs.Broken.{broken_at_places}
use Rattle.prem_tasks.specs.Told.{Told, of_code}
use Rattle.prem_tasks.specs.Broken.{TaskText, TaskSet, unread, text_rules, program_before, programs_of, program_rules, range_rules, coded_of, late_refusal, broken}
use Rattle.prem_tasks.specs.SetOf.{task_of}
use Rattle.prem_tasks.specs.declared.set.TaskText.{TaskText as TaskTree}
use Rattle.prem_tasks.specs.Compiled.{coded_in, places_in}
use Rattle.prem_tasks.specs.At.{code_broken, broken_early}
use Rattle.prem_tasks.specs.Stops.{Stop, Stops}
use Rattle.prem_stages.specs.Stages.{checked_text, uncoded}
use Rattle.prem_stages.specs.Programs.{IsCodedProgram, coded_text}
use Rattle.prem_stages.specs.Coded.{AreCoded, AreFormed}
use Rattle.prem_stages.specs.declared.code.CodedProgram.{CodedProgram}
use Rattle.prem_stages.proofs.Passing.{same_stop, first_stops, none_passes}

-- ---- texts that are read

read_count : (n : ℕ) (ts : List TaskText) → first_among text_rules n ts ≡ None → length (programs_of ts) ≡ length ts
read_count n [] e = refl
read_count n (t ∷ ts) e = by (reads t.text) e (read_count (n + 1) ts)
  where
    by : (read : Result ProgramText FrontFail) → or_else (refused_by (Some n) (unread read)) (first_among text_rules (n + 1) ts) ≡ None →
        (first_among text_rules (n + 1) ts ≡ None → length (programs_of ts) ≡ length ts) → length (program_before read (programs_of ts)) ≡ suc (length ts)
    by (Ok p) e more = ap suc (more e)
    by (Err fail) e more = absurd cc

pub as_many_programs : (ts : List TaskText) → over_tasks text_rules ts ≡ None → length (programs_of ts) ≡ length ts
as_many_programs ts e = read_count 0 ts e

pub map_count : {A B : Type 0} (f : A → B) (xs : List A) → length (map f xs) ≡ length xs
map_count f [] = refl
map_count f (x ∷ xs) = ap suc (map_count f xs)

-- no more than there are tasks
pub few_programs : {A : Type 0} (text_of : A → ProgramText) (all : List A) (tasks : List TaskTree) →
    map text_of all ≡ programs_of (map task_of tasks) → over_tasks text_rules (map task_of tasks) ≡ None → length tasks ≤ 16 →
    length all ≤ 16
few_programs text_of all tasks are read few =
    let same : length all ≡ length tasks = sym (map_count text_of all) ∙ ap length are ∙ as_many_programs (map task_of tasks) read ∙ map_count task_of tasks in
    omega (arith, same)

pub few_read : {A : Type 0} {ts : List TaskText} (text_of : A → ProgramText) (all : List A) (tasks : List TaskTree) → map task_of tasks ≡ ts →
    map text_of all ≡ programs_of ts → over_tasks text_rules ts ≡ None →
    length tasks ≤ 16 → length all ≤ 16
few_read text_of all tasks same are read few =
    few_programs text_of all tasks (are ∙ sym (ap programs_of same)) (ap (λ (ts : List TaskText). over_tasks text_rules ts) same ∙ read) few

-- ---- code

pub late_or : (a b : Option (Refusal LateRule)) → late_refusal (or_else a b) ≡ or_else (late_refusal a) (late_refusal b)
late_or None b = refl
late_or (Some r) b = refl

late_by : (task : Option ℕ) (rule : Option LateRule) → late_refusal (refused_by task rule) ≡ refused_by task (option_map of_code rule)
late_by task None = refl
late_by task (Some rule) = refl

abbrev pub late_four : CodedText → Option LateRule
late_four c = code_rules c.program

late_among : (target : Target) (n : ℕ) (ts : List TaskText) (ps : List ProgramText) → length ps ≡ length ts → late_refusal (first_among late_four n (coded_of target ts ps)) ≡ first_among uncoded n ps
late_among target n [] [] count = refl
late_among target n [] (p ∷ ps) count = absurd (omega (arith, count))
late_among target n (t ∷ ts) [] count = refl
late_among target n (t ∷ ts) (p ∷ ps) count =
    late_or (refused_by (Some n) (code_rules (bounded p))) (first_among late_four (n + 1) (coded_of target ts ps))
    ∙ ap (λ (x : Option (Refusal Told)). or_else x (late_refusal (first_among late_four (n + 1) (coded_of target ts ps)))) (late_by (Some n) (code_rules (bounded p)))
    ∙ ap (λ (x : Option (Refusal Told)). or_else (refused_by (Some n) (uncoded p)) x) (late_among target (n + 1) ts ps (omega (arith, count)))

late_none : (found : Option (Refusal LateRule)) → late_refusal found ≡ None → found ≡ None
late_none None e = refl
late_none (Some r) e = absurd cc

-- ---- where a set is refused

-- the groups so far refuse nothing
pub record FormedWell (set : TaskSet) : Type 0 where
  pub texts : over_tasks text_rules set.tasks ≡ None
  pub programs : over_tasks program_rules (programs_of set.tasks) ≡ None

pub record KeptWell (set : TaskSet) : Type 0 where
  pub texts : over_tasks text_rules set.tasks ≡ None
  pub programs : over_tasks program_rules (programs_of set.tasks) ≡ None
  pub ranges : over_tasks range_rules (programs_of set.tasks) ≡ None

-- what is known behind the analysis
pub kept_well : (set : TaskSet) (programs : List Checked) → AreFormed set programs → over_tasks range_rules (map checked_text programs) ≡ None → KeptWell set
kept_well set programs k three =
    record {
      texts = k.texts_are_read;
      programs = k.programs_are_formed;
      ranges = ap (λ (xs : List ProgramText). over_tasks range_rules xs) (sym k.programs_are) ∙ three;
    }

-- ---- the rules up to code generation

abbrev four_in : TaskSet → Option (Refusal Told)
four_in set = late_refusal (code_broken set)

abbrev from_ranges : TaskSet → Option (Refusal Told)
from_ranges set = or_else (over_tasks range_rules (programs_of set.tasks)) (four_in set)

abbrev from_programs : TaskSet → Option (Refusal Told)
from_programs set = or_else (over_tasks program_rules (programs_of set.tasks)) (from_ranges set)

behind_texts : (set : TaskSet) → over_tasks text_rules set.tasks ≡ None → broken_early set ≡ from_programs set
behind_texts set one = none_passes (over_tasks text_rules set.tasks) (from_programs set) one

behind_programs : (set : TaskSet) → FormedWell set → broken_early set ≡ from_ranges set
behind_programs set well = behind_texts set well.texts ∙ none_passes (over_tasks program_rules (programs_of set.tasks)) (from_ranges set) well.programs

behind_ranges : (set : TaskSet) → KeptWell set → broken_early set ≡ four_in set
behind_ranges set well =
    behind_programs set (record { texts = well.texts; programs = well.programs })
    ∙ none_passes (over_tasks range_rules (programs_of set.tasks)) (four_in set) well.ranges

pub at_ranges : (set : TaskSet) (stop : Stop) (programs : List Checked) → AreFormed set programs → Stops stop (over_tasks range_rules (map checked_text programs)) → Stops stop (broken_early set)
at_ranges set stop programs k s =
    let here : Stops stop (over_tasks range_rules (programs_of set.tasks)) = subst (λ (qs : List ProgramText). Stops stop (over_tasks range_rules qs)) k.programs_are s in
    first_stops stop (over_tasks range_rules (programs_of set.tasks)) (four_in set) (broken_early set) here
    (sym (behind_programs set (record { texts = k.texts_are_read; programs = k.programs_are_formed })))

four_is : (set : TaskSet) → over_tasks text_rules set.tasks ≡ None → four_in set ≡ over_tasks uncoded (programs_of set.tasks)
four_is set one = late_among set.plant.target 0 set.tasks (programs_of set.tasks) (as_many_programs set.tasks one)

pub at_code : (set : TaskSet) (stop : Stop) (ps : List ProgramText) → ps ≡ programs_of set.tasks → KeptWell set → Stops stop (over_tasks uncoded ps) → Stops stop (broken_early set)
at_code set stop ps are well s =
    let here : Stops stop (over_tasks uncoded (programs_of set.tasks)) = subst (λ (qs : List ProgramText). Stops stop (over_tasks uncoded qs)) are s in
    let four : Stops stop (four_in set) = same_stop stop _ _ (four_is set well.texts) here in
    same_stop stop _ _ (behind_ranges set well) four

-- ---- all rules

-- the rules behind code generation
abbrev placed_in_set : TaskSet → Option (Refusal LateRule)
placed_in_set set = broken_at_places set.plant (places_in set) (coded_in set)

pub or_joins : {R : Type 0} (a b c : Option (Refusal R)) → or_else (or_else a b) c ≡ or_else a (or_else b c)
or_joins None b c = refl
or_joins (Some r) b c = refl

-- those up to code generation, then those behind it
broken_parts : (set : TaskSet) → broken set ≡ or_else (broken_early set) (late_refusal (placed_in_set set))
broken_parts set =
    let one = over_tasks text_rules set.tasks in
    let two = over_tasks program_rules (programs_of set.tasks) in
    let three = over_tasks range_rules (programs_of set.tasks) in
    let late = late_refusal (placed_in_set set) in
    ap (λ (x : Option (Refusal Told)). or_else one (or_else two (or_else three x))) (late_or (code_broken set) (placed_in_set set))
    ∙ ap (λ (x : Option (Refusal Told)). or_else one (or_else two x)) (sym (or_joins three (four_in set) late))
    ∙ ap (λ (x : Option (Refusal Told)). or_else one x) (sym (or_joins two (from_ranges set) late))
    ∙ sym (or_joins one (from_programs set) late)

-- ---- where it isn't

pub set_is_coded : (set : TaskSet) (programs : List CodedProgram) (ps : List ProgramText) → KeptWell set → ps ≡ programs_of set.tasks → over_tasks uncoded ps ≡ None →
    map coded_text programs ≡ ps → AllByRecursion (IsCodedProgram set.plant.target) programs → AreCoded set programs
set_is_coded set programs ps well are coded texts each =
    let none : four_in set ≡ None = four_is set well.texts ∙ ap (λ (qs : List ProgramText). over_tasks uncoded qs) (sym are) ∙ coded in
    let early : broken_early set ≡ None = behind_ranges set well ∙ none in
    record {
      texts_are_read = well.texts;
      programs_are_formed = well.programs;
      ranges_are_kept = well.ranges;
      code_is_there = late_none (code_broken set) none;
      early = early;
      broken_is = broken_parts set ∙ none_passes (broken_early set) (late_refusal (placed_in_set set)) early;
      count = as_many_programs set.tasks well.texts;
      programs_are = texts ∙ are;
      each = each;
    }
