-- The steps in which a set is annotated: by what is read of its texts, and by lists of notes.
use Rattle.std.specs.Prelude.{◌≡◌, ℕ, zero, suc, ◌+◌, Vec, List, [], ◌∷◌, map, None, Result, Ok}
use Rattle.std.specs.Global.{Global}
use Rattle.prem_syntax.specs.Syntax.{ProgramText}
use Rattle.prem_text.specs.declared.lexing.token.fail.FrontFail.{FrontFail}
use Rattle.prem_text.specs.Texts.{reads}
use Rattle.prem_layout.specs.Facts.{IntervalFact}
use Rattle.prem_ranges.specs.RangeRules.{RangeRule, LoopBound, TooLarge, ZeroDivisor, IndexOutside, RegionOutside, ArgRange, RangeBreach}
use Rattle.prem_layout.specs.Rules.{over_tasks}
use Rattle.prem_tasks.specs.Broken.{TaskText, TaskSet, programs_of}
use Rattle.prem_tasks.specs.Told.{RangeTold, loop_bound, too_large, zero_divisor, index_outside, region_outside, arg_range, Told, of_ranges}
use Rattle.prem_annotate.specs.Notes.{Notes, notes_of, lengthened, program_notes}
use Rattle.prem_annotate.specs.declared.notes.FunctionNotes.{FunctionNotes}
use Rattle.prem_annotate_answer.specs.Written.{Writer, with_text, with_tasks, length_in, other_ranges}

-- ---- programs and their texts

abbrev pub read_of : TaskText → Result ProgramText FrontFail
read_of t = reads t.text

abbrev pub ok_program : ProgramText → Result ProgramText FrontFail
ok_program p = Ok p

-- these are the programs of the tasks' texts
abbrev pub AreReadAs : List TaskText → List ProgramText → Type 0
AreReadAs ts ps = map read_of ts ≡ map ok_program ps

-- what is told of a rule on ranges that needs no name
abbrev pub nameless : ℕ → RangeRule → RangeTold
nameless line LoopBound = loop_bound line
nameless line TooLarge = too_large line
nameless line (ZeroDivisor divisor) = zero_divisor line divisor
nameless line (IndexOutside index length) = index_outside line index length
nameless line (RegionOutside function elements global) = region_outside line [] elements []
nameless line (ArgRange argument stated) = arg_range line argument stated

abbrev pub told_nameless : RangeBreach → Told
told_nameless b = of_ranges (nameless b.at.line b.rule)

-- no program breaks a rule on ranges but for regions with its new ranges
abbrev pub AreRanged : TaskSet → Type 0
AreRanged set = over_tasks other_ranges (programs_of set.tasks) ≡ None

-- ---- notes

abbrev pub notes_in : Vec FunctionNotes Global → List Notes
notes_in ns = map notes_of ns.items

-- those that programs need, from number k on
abbrev pub programs_notes : (ℕ → ℕ → ℕ) → ℕ → List ProgramText → List (List Notes)
programs_notes lengths k [] = []
programs_notes lengths k (p ∷ ps) = program_notes (lengths k) p ∷ programs_notes lengths (k + 1) ps

-- each with greater lengths, from number k on
abbrev pub all_lengthened : (ℕ → ℕ → ℕ) → ℕ → List (List Notes) → List (List Notes)
all_lengthened lengths k [] = []
all_lengthened lengths k (ns ∷ rest) = lengthened (lengths k) 0 ns ∷ all_lengthened lengths (k + 1) rest

-- as many lengths, from function n on
abbrev pub lengths_from : List (ℕ × IntervalFact) → ℕ → ℕ → List ℕ
lengths_from facts n zero = []
lengths_from facts n (suc more) = length_in facts n ∷ lengths_from facts (n + 1) more

-- ---- tasks

-- each text with its notes
abbrev pub noted_tasks : Writer → List TaskText → List (List Notes) → List TaskText
noted_tasks write [] notes = []
noted_tasks write (t ∷ ts) [] = []
noted_tasks write (t ∷ ts) (ns ∷ notes) = with_text (write ns t.text) t ∷ noted_tasks write ts notes

abbrev pub noted_set : Writer → List (List Notes) → TaskSet → TaskSet
noted_set write notes set = with_tasks (noted_tasks write set.tasks notes) set
