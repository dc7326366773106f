-- What is written of the first rule that a task set breaks.
use Rattle.std.specs.Prelude.{ℕ, List, [], ◌++◌, Option, None, Some, slice_get, unwrap_or, codes, decimal}
use Rattle.std.specs.Fmt.{signed_decimal}
use Rattle.std.specs.Option.{option_map_or}
use Rattle.prem_word.specs.Ranges.{Span}
use Rattle.prem_syntax.specs.declared.rules.Count.{Count}
use Rattle.prem_syntax.specs.declared.rules.Count.TheVariants as c
use Rattle.prem_syntax.specs.declared.rules.TypeRule.{TypeRule}
use Rattle.prem_syntax.specs.declared.rules.TypeRule.TheVariants as t
use Rattle.prem_syntax.specs.Syntax.{Text}
use Rattle.prem_syntax.specs.Rules.{Rule, Limit, NoJob, Unknown, Twice, OfTypes, CallOrder, MarkedCall, SystemCall, LoopForm}
use Rattle.prem_text.specs.declared.lexing.token.fail.FrontFail.{FrontFail}
use Rattle.prem_text.specs.declared.lexing.token.fail.FrontFail.TheVariants.{TooLong, NotText, Token, Syntax, TooDeep, OutOfMemory}
use Rattle.prem_layout.specs.Rules.{LateRule, Depth, Frame, MemoryFull, Reach, ConflictIn, BoundTooLarge, Length, Outputs, Intervals, Refusal}
use Rattle.prem_tasks.specs.Told.{RangeTold, loop_bound, too_large, zero_divisor, index_outside, region_outside, arg_range, Told, of_text, of_program, of_ranges, of_code}
use Rattle.prem_tasks.specs.Broken.{TaskText}
use Rattle.prem_answer.specs.declared.status.Status.TheVariants.{Refused}
use Rattle.prem_answer.specs.Stages.{Reply}

-- ---- words and numbers

-- a rule and a number
abbrev pub numbered : List ℕ → ℕ → List ℕ
numbered words n = words ++ (codes " " ++ decimal n)

-- a rule and two numbers
abbrev pub twice_numbered : List ℕ → ℕ → ℕ → List ℕ
twice_numbered words m n = words ++ (codes " " ++ (decimal m ++ (codes " " ++ decimal n)))

-- a rule and a name
abbrev pub called : List ℕ → Text → List ℕ
called words name = words ++ (codes " " ++ name)

-- a rule, a number and a name
abbrev pub named : List ℕ → ℕ → Text → List ℕ
named words n name = words ++ (codes " " ++ (decimal n ++ (codes " " ++ name)))

-- the ends of a range
abbrev pub ends : Span → List ℕ
ends r = codes " " ++ (signed_decimal r.lo ++ (codes " " ++ signed_decimal r.hi))

-- a rule, a number and a range
abbrev pub ranged : List ℕ → ℕ → Span → List ℕ
ranged words n r = numbered words n ++ ends r

-- ---- texts that are no programs

-- want of memory is no rule
abbrev pub front_text : FrontFail → List ℕ
front_text TooLong = codes "too-long"
front_text (NotText at) = numbered (codes "not-text") at
front_text (Token line col) = twice_numbered (codes "token") line col
front_text (Syntax line col) = twice_numbered (codes "syntax") line col
front_text (TooDeep line) = numbered (codes "too-deep") line
front_text OutOfMemory = []

-- ---- rules of well-formed programs

abbrev pub count_word : Count → List ℕ
count_word c.Functions = codes "functions"
count_word c.Globals = codes "globals"
count_word c.Parameters = codes "parameters"
count_word c.Regions = codes "regions"
count_word c.Length = codes "length"
count_word c.Stated = codes "stated"

abbrev pub type_word : TypeRule → List ℕ
type_word t.Void = codes "void"
type_word t.Narrow = codes "narrow"
type_word t.Scalar = codes "scalar"
type_word t.Initial = codes "initial"
type_word t.Count = codes "count"
type_word t.Target = codes "target"
type_word t.Return = codes "return"
type_word t.Marked = codes "marked"
type_word t.Region = codes "region"
type_word t.Range = codes "range"
type_word t.Job = codes "job"

-- a rule that is broken in a line, or in the program as a whole
abbrev pub program_text : ℕ → Rule → List ℕ
program_text line (Limit which) = codes "limit " ++ count_word which
program_text line NoJob = codes "no-job"
program_text line (Unknown name) = named (codes "unknown") line name
program_text line (Twice name) = named (codes "twice") line name
program_text line (OfTypes rule) = named (codes "type") line (type_word rule)
program_text line CallOrder = numbered (codes "call-order") line
program_text line MarkedCall = numbered (codes "marked-call") line
program_text line SystemCall = numbered (codes "system-call") line
program_text line LoopForm = numbered (codes "loop-form") line

-- ---- rules on ranges

abbrev pub range_text : RangeTold → List ℕ
range_text (loop_bound line) = numbered (codes "loop-bound") line
range_text (too_large line) = numbered (codes "too-large") line
range_text (zero_divisor line divisor) = ranged (codes "zero-divisor") line divisor
range_text (index_outside line index length) = numbered (ranged (codes "index") line index) length
range_text (region_outside line function elements global) = called (named (codes "region") line function ++ ends elements) global
range_text (arg_range line argument stated) = ranged (codes "argument") line argument ++ ends stated

-- ---- rules from code generation on

abbrev pub late_text : LateRule → List ℕ
late_text (Depth line) = numbered (codes "depth") line
late_text (Frame function) = called (codes "frame") function
late_text (MemoryFull need have) = twice_numbered (codes "memory") need have
late_text (Reach function) = called (codes "reach") function
late_text (ConflictIn function set lines room) = numbered (twice_numbered (called (codes "conflict") function) set lines) room
late_text (BoundTooLarge function) = called (codes "bound") function
late_text (Length function bound stated) = twice_numbered (called (codes "length") function) bound stated
late_text Outputs = codes "outputs"
late_text Intervals = codes "intervals"

-- ---- all rules

-- rules of the program as a whole show no line
abbrev pub rule_text : Told → List ℕ
rule_text (of_text fail) = front_text fail
rule_text (of_program told) = program_text (unwrap_or told.line 0) told.rule
rule_text (of_ranges told) = range_text told
rule_text (of_code rule) = late_text rule

-- the name of the task that breaks a rule, and a star where the set as a whole does
abbrev pub breaker : List TaskText → Option ℕ → Text
breaker tasks None = codes "*"
breaker tasks (Some n) = option_map_or (λ (t : TaskText). t.name) (slice_get tasks n) []

abbrev pub refusal_line : List TaskText → Refusal Told → List ℕ
refusal_line tasks r = codes "refused " ++ (breaker tasks r.task ++ (codes " " ++ (rule_text r.rule ++ codes "\n")))

abbrev pub refused_reply : List TaskText → Refusal Told → Reply
refused_reply tasks r = (Refused, refusal_line tasks r)
