-- The first rule that a task set breaks: the groups of rules one after another, each over all tasks before the next.
use Rattle.std.specs.Prelude.{ℕ, List, [], ◌∷◌, Option, None, Some, Result, Ok, Err, map, slice_index_or}
use Rattle.std.specs.Option.{option_map}
use Rattle.prem_plant.specs.declared.plant.Target.{Target}
use Rattle.prem_plant.specs.declared.plant.Plant.{Plant}
use Rattle.prem_plant.specs.declared.plant.Device.{Device}
use Rattle.prem_syntax.specs.Syntax.{Text, GlobalVariable, ProgramText}
use Rattle.prem_syntax.specs.ProgramRules as meaning
use Rattle.prem_syntax.specs.Resolved.{Resolved}
use Rattle.prem_check.specs.Told.{told_of as told_of_breach}
use Rattle.prem_text.specs.declared.lexing.token.fail.FrontFail.{FrontFail}
use Rattle.prem_text.specs.Texts.{reads}
use Rattle.prem_ranges.specs.RangeRules.{RangeBreach, RangeRule, LoopBound, TooLarge, ZeroDivisor, IndexOutside, RegionOutside, ArgRange}
use Rattle.prem_ranges.specs.RangesKept as ranges
use Rattle.prem_layout.specs.Template.Parts.{codes_of, parts_of as task_parts}
use Rattle.prem_layout.specs.Placed.{Coded, name_at}
use Rattle.prem_layout.specs.Rules.{LateRule, or_else, Refusal, over_tasks}
use Rattle.prem_layout.specs.Broken.{broken_late}
use Rattle.prem_tasks.specs.Told.{RangeTold, loop_bound, too_large, zero_divisor, index_outside, region_outside, arg_range, Told, of_text, of_program, of_ranges, of_code}

-- ---- a set as plain data

-- a task as it is stated: its text is bytes
pub record TaskText : Type 0 where
  pub name : Text
  pub text : List ℕ
  pub period : ℕ
  pub jobs : ℕ

pub record TaskSet : Type 0 where
  pub plant : Plant
  pub devices : List Device
  pub tasks : List TaskText

-- ---- texts

abbrev pub unread : Result ProgramText FrontFail → Option Told
unread (Ok p) = None
unread (Err fail) = Some (of_text fail)

abbrev pub text_rules : TaskText → Option Told
text_rules t = unread (reads t.text)

abbrev pub program_before : Result ProgramText FrontFail → List ProgramText → List ProgramText
program_before (Ok p) ps = p ∷ ps
program_before (Err fail) ps = ps

-- the programs of the texts that have one
abbrev pub programs_of : List TaskText → List ProgramText
programs_of [] = []
programs_of (t ∷ ts) = program_before (reads t.text) (programs_of ts)

-- ---- programs

abbrev pub program_rules : ProgramText → Option Told
program_rules p = option_map (λ b. of_program (told_of_breach b)) (meaning.first_breach p)

-- ---- ranges

abbrev pub global_name : List GlobalVariable → ℕ → Text
global_name globals g = slice_index_or (map (λ (g : GlobalVariable). g.name) globals) g []

abbrev pub range_told : Resolved → ℕ → RangeRule → RangeTold
range_told p line LoopBound = loop_bound line
range_told p line TooLarge = too_large line
range_told p line (ZeroDivisor divisor) = zero_divisor line divisor
range_told p line (IndexOutside index length) = index_outside line index length
range_told p line (RegionOutside function elements global) =
    region_outside line (name_at p.routines function) elements (global_name p.globals global)
range_told p line (ArgRange argument stated) = arg_range line argument stated

abbrev pub range_rules : ProgramText → Option Told
range_rules p = option_map (λ (b : RangeBreach). of_ranges (range_told (ranges.resolved p) b.at.line b.rule)) (ranges.first_range_breach p)

-- ---- code

abbrev pub coded_one : Target → TaskText → Resolved → Coded
coded_one target t p = record { name = t.name; period = t.period; jobs = t.jobs; program = p; code = codes_of (task_parts target p.routines) p.routines }

abbrev pub coded_of : Target → List TaskText → List ProgramText → List Coded
coded_of target [] ps = []
coded_of target (t ∷ ts) [] = []
coded_of target (t ∷ ts) (p ∷ ps) = coded_one target t (ranges.bounded p) ∷ coded_of target ts ps

abbrev pub late_refusal : Option (Refusal LateRule) → Option (Refusal Told)
late_refusal None = None
late_refusal (Some r) = Some (record { task = r.task; rule = of_code r.rule })

-- ---- the whole

-- the groups that look at programs
abbrev pub broken_programs : TaskSet → List ProgramText → Option (Refusal Told)
broken_programs set ps =
    or_else (over_tasks program_rules ps)
    (or_else (over_tasks range_rules ps) (late_refusal (broken_late set.plant set.devices (coded_of set.plant.target set.tasks ps))))

abbrev pub broken : TaskSet → Option (Refusal Told)
broken set = or_else (over_tasks text_rules set.tasks) (broken_programs set (programs_of set.tasks))
