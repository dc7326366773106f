-- Where in a text a rule is broken.
use Rattle.std.specs.Prelude.{ℕ, if◌then◌else◌, List, [], ◌∷◌, Option, None, Some, Result, Ok, Err}
use Rattle.std.specs.Option.{option_map}
use Rattle.std.specs.Str.{bytes_eq}
use Rattle.prem_syntax.specs.declared.tree.Place.{Place}
use Rattle.prem_syntax.specs.Syntax.{Text, ItemText, ProgramText, global_item, function_item}
use Rattle.prem_syntax.specs.Rules.{Breach}
use Rattle.prem_syntax.specs.ProgramRules.{first_breach}
use Rattle.prem_text.specs.declared.lexing.token.fail.FrontFail.{FrontFail}
use Rattle.prem_text.specs.declared.lexing.token.fail.FrontFail.TheVariants.{TooLong, NotText, Token, Syntax, TooDeep, OutOfMemory}
use Rattle.prem_text.specs.Texts.{reads}
use Rattle.prem_ranges.specs.RangeRules.{RangeBreach}
use Rattle.prem_ranges.specs.RangesKept.{first_range_breach}
use Rattle.prem_layout.specs.Rules.{LateRule, or_else, Depth, Frame, MemoryFull, Reach, ConflictIn, BoundTooLarge, Length, Outputs, Intervals}
use Rattle.prem_tasks.specs.Told.{RangeTold, loop_bound, too_large, zero_divisor, index_outside, region_outside, arg_range, Told, of_text, of_program, of_ranges, of_code}
use Rattle.prem_lint.specs.declared.spot.Spot.{Spot}
use Rattle.prem_lint.specs.declared.spot.Spot.TheVariants.{Whole, Line, At}
use Rattle.prem_lint.specs.Spots.{place_of}

-- ---- functions

-- the place of an item, where it is the function with this name
abbrev pub item_place : Text → ItemText → Option Place
item_place name (global_item g) = None
item_place name (function_item f) = if bytes_eq f.name name then Some f.at else None

abbrev pub named_place : Text → ProgramText → Option Place
named_place name [] = None
named_place name (i ∷ is) = or_else (item_place name i) (named_place name is)

abbrev pub spot_at : Option Place → Spot
spot_at None = Whole
spot_at (Some at) = At at.line at.col

abbrev pub function_spot_in : Text → Result ProgramText FrontFail → Spot
function_spot_in name (Err fail) = Whole
function_spot_in name (Ok p) = spot_at (named_place name p)

-- where a text has the function with this name
unfoldable pub function_spot : Text → List ℕ → Spot
function_spot name text = function_spot_in name (reads text)

-- ---- rules on ranges

-- the place of the first broken rule on ranges, where no rule of well-formed programs is broken
abbrev pub breach_place : Option Breach → ProgramText → Option Place
breach_place None p = option_map (λ (b : RangeBreach). b.at) (first_range_breach p)
breach_place (Some b) p = None

unfoldable pub program_place : ProgramText → Option Place
program_place p = breach_place (first_breach p) p

abbrev pub range_place_in : Result ProgramText FrontFail → Option Place
range_place_in (Err fail) = None
range_place_in (Ok p) = program_place p

unfoldable pub range_place : List ℕ → Option Place
range_place text = range_place_in (reads text)

-- a line, with the column of a place
abbrev pub beside : ℕ → Option Place → Spot
beside line None = Line line
beside line (Some at) = At line at.col

unfoldable pub range_spot : ℕ → List ℕ → Spot
range_spot line text = beside line (range_place text)

-- ---- all rules

abbrev pub front_spot : FrontFail → List ℕ → Spot
front_spot TooLong text = Whole
front_spot (NotText at) text = place_of at text
front_spot (Token line col) text = At line col
front_spot (Syntax line col) text = At line col
front_spot (TooDeep line) text = Line line
front_spot OutOfMemory text = Whole

abbrev pub line_spot : Option ℕ → Spot
line_spot None = Whole
line_spot (Some line) = Line line

abbrev pub range_line : RangeTold → ℕ
range_line (loop_bound line) = line
range_line (too_large line) = line
range_line (zero_divisor line divisor) = line
range_line (index_outside line index length) = line
range_line (region_outside line function elements global) = line
range_line (arg_range line argument stated) = line

abbrev pub late_spot : LateRule → List ℕ → Spot
late_spot (Depth line) text = Line line
late_spot (Frame function) text = function_spot function text
late_spot (MemoryFull need have) text = Whole
late_spot (Reach function) text = function_spot function text
late_spot (ConflictIn function set lines room) text = function_spot function text
late_spot (BoundTooLarge function) text = function_spot function text
late_spot (Length function bound stated) text = function_spot function text
late_spot Outputs text = Whole
late_spot Intervals text = Whole

-- the line is the rule's own; a rule on ranges has a column too, and one that names a function is shown where that stands
unfoldable pub spot_of : Told → List ℕ → Spot
spot_of (of_text fail) text = front_spot fail text
spot_of (of_program told) text = line_spot told.line
spot_of (of_ranges told) text = range_spot (range_line told) text
spot_of (of_code rule) text = late_spot rule text
