-- What is said of each rule, in plain words.
use Rattle.std.specs.Prelude.{ℕ, ◌-◌, pos, List, [], ◌++◌, codes, decimal}
use Rattle.std.specs.Fmt.{signed_decimal}
use Rattle.prem_word.specs.Ranges.{Span}
use Rattle.prem_syntax.specs.declared.rules.Count.{Count}
use Rattle.prem_syntax.specs.declared.rules.Count.TheVariants as c
use Rattle.prem_syntax.specs.declared.rules.TypeRule.{TypeRule}
use Rattle.prem_syntax.specs.declared.rules.TypeRule.TheVariants as t
use Rattle.prem_syntax.specs.Syntax.{Text}
use Rattle.prem_syntax.specs.Rules.{Rule, Limit, NoJob, Unknown, Twice, OfTypes, CallOrder, MarkedCall, SystemCall, LoopForm}
use Rattle.prem_text.specs.declared.lexing.token.fail.FrontFail.{FrontFail}
use Rattle.prem_text.specs.declared.lexing.token.fail.FrontFail.TheVariants.{TooLong, NotText, Token, Syntax, TooDeep, OutOfMemory}
use Rattle.prem_layout.specs.Rules.{LateRule, Depth, Frame, MemoryFull, Reach, ConflictIn, BoundTooLarge, Length, Outputs, Intervals}
use Rattle.prem_tasks.specs.Told.{RangeTold, loop_bound, too_large, zero_divisor, index_outside, region_outside, arg_range, Told, of_text, of_program, of_ranges, of_code}
use Rattle.prem_lint.specs.Elements.{values, past, element, array}

-- ---- texts that are no programs

-- want of memory is no rule
abbrev pub front_message : FrontFail → List ℕ
front_message TooLong = codes "the source is too long: it may have 1048576 bytes and 200000 tokens"
front_message (NotText at) = codes "the byte at offset " ++ (decimal at ++ codes " is neither printable ASCII nor a blank")
front_message (Token line col) = codes "no token begins here"
front_message (Syntax line col) = codes "this can't follow what stands before it"
front_message (TooDeep line) = codes "nested too deeply: an expression may have 256 tokens, and a statement may stand in 63 others"
front_message OutOfMemory = []

abbrev pub front_advice : FrontFail → List ℕ
front_advice TooLong = codes "split the task into several, or shorten its text"
front_advice (NotText at) = codes "outside comments a source is ASCII"
front_advice (Token line col) = codes "a name has at most 64 characters, a literal at most 32 bits, a comment has an end, and strings and characters are left out"
front_advice (Syntax line col) = codes "look for a missing ; or ) before it, or for a form of C that the language leaves out"
front_advice (TooDeep line) = codes "put a part of the expression into a local, or inner statements into a function"
front_advice OutOfMemory = []

-- ---- rules of well-formed programs

abbrev pub count_message : Count → List ℕ
count_message c.Functions = codes "too many functions: a program may have 256"
count_message c.Globals = codes "too many globals: a program may have 256"
count_message c.Parameters = codes "too many parameters: a function may have 8"
count_message c.Regions = codes "too many regions: a function may state 32"
count_message c.Length = codes "the length of an array is out of its range, which is 1 to 65536"
count_message c.Stated = codes "a stated length is out of its range, which is 1 to 2147483647 cycles"

abbrev pub count_advice : Count → List ℕ
count_advice c.Functions = codes "join functions, or move some into another task"
count_advice c.Globals = codes "join globals into arrays, or move some into another task"
count_advice c.Parameters = codes "leave some of the values in globals"
count_advice c.Regions = codes "state one region for several that lie side by side"
count_advice c.Length = codes "give each array 1 to 65536 elements"
count_advice c.Stated = codes "write PREDICTABLE(1000000) at first: where that is too short, the least length is told"

abbrev pub type_message : TypeRule → List ℕ
type_message t.Void = codes "a global, parameter or local can't be void"
type_message t.Narrow = codes "a parameter, local or result has to be int or unsigned"
type_message t.Scalar = codes "an array is used without an index, an index without an array, or a function's name as a value"
type_message t.Initial = codes "the initial value doesn't fit what is declared"
type_message t.Count = codes "the call has a wrong number of arguments"
type_message t.Target = codes "the value goes to no parameter or local, or comes from a void function"
type_message t.Return = codes "a void function returns a value, or another one returns none"
type_message t.Marked = codes "a PREDICTABLE function has to be void, and can't be job"
type_message t.Region = codes "the limits of REGION aren't those of elements of the global"
type_message t.Range = codes "the limits of RANGE are out of order, or outside the parameter's type"
type_message t.Job = codes "job has to be void job(void)"

abbrev pub type_advice : TypeRule → List ℕ
type_advice t.Void = codes "give it a type of values, such as int"
type_advice t.Narrow = codes "short and char are types of globals alone; write int or unsigned"
type_advice t.Scalar = codes "write name[index] for an element, and a name alone for everything else"
type_advice t.Initial = codes "a scalar takes one constant, an array a list in braces that is no longer than the array"
type_advice t.Count = codes "give one argument for each parameter"
type_advice t.Target = codes "put the value into a local first, and assign that to a global"
type_advice t.Return = codes "end it with return and a value exactly where its type isn't void"
type_advice t.Marked = codes "let it leave its result in a global, and call it from job"
type_advice t.Region = codes "write REGION(name, first, last) with first <= last, and last below the length (0 for a scalar)"
type_advice t.Range = codes "write RANGE(low, high) with low <= high, both values of the type"
type_advice t.Job = codes "give it its values by in() or by globals"

abbrev pub program_message : Rule → List ℕ
program_message (Limit which) = count_message which
program_message NoJob = codes "there is no function job"
program_message (Unknown name) = name ++ codes " isn't declared here"
program_message (Twice name) = name ++ codes " is declared a second time"
program_message (OfTypes rule) = type_message rule
program_message CallOrder = codes "the function called here isn't defined before the one that calls it"
program_message MarkedCall = codes "a PREDICTABLE function is called outside of job"
program_message SystemCall = codes "in() or out() stands in a PREDICTABLE function, or in one that it calls"
program_message LoopForm = codes "this is neither a counting loop nor a bounded one"

abbrev pub program_advice : Rule → List ℕ
program_advice (Limit which) = count_advice which
program_advice NoJob = codes "write void job(void) { .. }: it is what the task does at each release"
program_advice (Unknown name) = codes "declare it above this line, or mend its spelling"
program_advice (Twice name) = codes "rename one of the two: a parameter or local can't have the name of a global or function either"
program_advice (OfTypes rule) = type_advice rule
program_advice CallOrder = codes "move the callee above its caller; a function can't call itself"
program_advice MarkedCall = codes "call it from the body of job"
program_advice SystemCall = codes "take inputs into globals before the call of the PREDICTABLE function, and give outputs behind it"
program_advice LoopForm = codes "write for (i = low; i < high; i++) over an int that the body doesn't assign, with int limits and a step of 1 to 2047, or BOUNDED(n) while (..) with n of 1 to 1048576"

-- ---- rules on ranges

abbrev pub divisor_message : Span → List ℕ
divisor_message divisor = codes "the divisor can be 0: it is " ++ values divisor

-- the line goes on so at the index
abbrev pub index_message : Span → ℕ → List ℕ → List ℕ
index_message index length rest =
    element rest ++ (codes ": the index can be " ++ (signed_decimal (past (pos (length - 1)) index) ++ (codes ", and "
    ++ (array rest ++ (codes " has elements 0 to " ++ decimal (length - 1))))))

abbrev pub region_message : Text → Span → Text → List ℕ
region_message function elements global =
    function ++ (codes " may access " ++ (global ++ (codes " at " ++ (values elements ++ codes " here, and no REGION that it states has that"))))

abbrev pub argument_message : Span → Span → List ℕ
argument_message argument stated =
    codes "an argument of this call can be " ++ (signed_decimal (past stated.hi argument) ++ (codes ", and its parameter has RANGE("
    ++ (signed_decimal stated.lo ++ (codes ", " ++ (signed_decimal stated.hi ++ codes ")")))))

abbrev pub range_message : RangeTold → List ℕ → List ℕ
range_message (loop_bound line) rest = codes "the variable of this loop can pass 2147483647"
range_message (too_large line) rest = codes "this loop and those around it can take more than 1099511627776 turns"
range_message (zero_divisor line divisor) rest = divisor_message divisor
range_message (index_outside line index length) rest = index_message index length rest
range_message (region_outside line function elements global) rest = region_message function elements global
range_message (arg_range line argument stated) rest = argument_message argument stated

abbrev pub index_advice : Span → List ℕ
index_advice index =
    codes "the index is " ++ (values index ++ codes " here; keep it inside by the limits of a loop, a RANGE or an if on a local")

abbrev pub region_advice : Text → Span → Text → List ℕ
region_advice function elements global =
    codes "write REGION(" ++ (global ++ (codes ", " ++ (signed_decimal elements.lo ++ (codes ", " ++ (signed_decimal elements.hi ++ (codes ") before " ++ function))))))

abbrev pub argument_advice : Span → List ℕ
argument_advice argument =
    codes "the argument is " ++ (values argument ++ codes " here; widen the RANGE, or keep it inside by an if on a local")

abbrev pub range_advice : RangeTold → List ℕ
range_advice (loop_bound line) = codes "let the loop end at a lower number"
range_advice (too_large line) = codes "give one of these loops fewer turns"
range_advice (zero_divisor line divisor) = codes "divide by a local, where an if has shown that it is above 0 or below 0"
range_advice (index_outside line index length) = index_advice index
range_advice (region_outside line function elements global) = region_advice function elements global
range_advice (arg_range line argument stated) = argument_advice argument

-- ---- rules from code generation on

abbrev pub late_message : LateRule → List ℕ
late_message (Depth line) = codes "this expression needs more than 12 registers"
late_message (Frame function) = codes "the frame of " ++ (function ++ codes " has more than 2032 bytes")
late_message (MemoryFull need have) = codes "the set needs " ++ (decimal need ++ (codes " bytes of memory, and has " ++ decimal have))
late_message (Reach function) = codes "a jump in the code of " ++ (function ++ codes " goes further than 1048576 bytes")
late_message (ConflictIn function set lines room) =
    function ++ (codes " needs " ++ (decimal lines ++ (codes " lines in set " ++ (decimal set ++ (codes " of the cache, which has " ++ (decimal room ++ codes " ways"))))))
late_message (BoundTooLarge function) = codes "the bound of " ++ (function ++ codes " passes 1099511627776 cycles")
late_message (Length function bound stated) =
    function ++ (codes " needs at least " ++ (decimal bound ++ (codes " cycles, and states " ++ decimal stated)))
late_message Outputs = codes "all jobs together can give more than 262143 outputs"
late_message Intervals = codes "all jobs together can have more than 262143 intervals"

abbrev pub late_advice : LateRule → List ℕ
late_advice (Depth line) = codes "put a part of it into a local first"
late_advice (Frame function) = codes "give it fewer locals: each parameter, local and BOUNDED loop takes 4 bytes"
late_advice (MemoryFull need have) = codes "raise memory in [plant], or make globals smaller"
late_advice (Reach function) = codes "split it into several functions"
late_advice (ConflictIn function set lines room) = codes "raise ways or sets in [plant], or let it access less"
late_advice (BoundTooLarge function) = codes "give its loops fewer turns"
late_advice (Length function bound stated) = codes "write PREDICTABLE(" ++ (decimal bound ++ codes ") or more")
late_advice Outputs = codes "let some task have fewer jobs, or give fewer outputs in each"
late_advice Intervals = codes "let some task have fewer jobs, or call fewer PREDICTABLE functions in each"

-- ---- all rules

-- what is wrong; the source goes on so at the place of the rule
unfoldable pub message : Told → List ℕ → List ℕ
message (of_text fail) rest = front_message fail
message (of_program told) rest = program_message told.rule
message (of_ranges told) rest = range_message told rest
message (of_code rule) rest = late_message rule

-- what to do
unfoldable pub advice : Told → List ℕ
advice (of_text fail) = front_advice fail
advice (of_program told) = program_advice told.rule
advice (of_ranges told) = range_advice told
advice (of_code rule) = late_advice rule
