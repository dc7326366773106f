-- Reading the items of a program, one token after the other.
use Rattle.std.specs.Prelude.{ℕ, ◌-◌, ℤ, pos, neg_ℤ, Bool, true, false, not, nat_lt, if◌then◌else◌, List, [], ◌∷◌, ◌++◌, Option, None, Some}
use Rattle.prem_text.specs.Prelude.{Text, Expression, no_statements, Statements, Parameter, LocalVariable, RegionText, MarkText, InitialValue, absent, one, many, GlobalVariable}
use Rattle.prem_text.specs.Prelude.{FunctionText, ItemText, global_item, function_item, Place, Ty, Void, Short, Ushort, Schar, Uchar}
use Rattle.prem_syntax.specs.declared.tree.Ty.TheVariants.{Int, Unsigned}
use Rattle.prem_text.specs.Grammar.Expression.{bottom, State, wants, goes, ends, stops, move}
use Rattle.prem_text.specs.Grammar.Slots.{Slot, left_parenthesis, right_parenthesis, left_brace, right_brace, right_bracket, semicolon, comma, equal_sign, a_name, a_literal, fits, text_at}
use Rattle.prem_text.specs.Grammar.Slots.{value_at, place_at, is_left_parenthesis, is_right_parenthesis, is_left_bracket, is_left_brace, is_right_brace, is_comma, is_semicolon, is_equal}
use Rattle.prem_text.specs.Grammar.Slots.{is_return, is_void, is_range, is_predictable, is_region, is_end}
use Rattle.prem_text.specs.Grammar.Statement.{listed, in_body, Point, between, Turn, on, leaves, wrong, turn, is_past}
use Rattle.prem_text.specs.Lexing.Token.Lexeme.{Lexeme, name, number, word, mark, Seen}
use Rattle.prem_text.specs.declared.lexing.token.token.Word.{Word}
use Rattle.prem_text.specs.declared.lexing.token.token.Mark.TheVariants as m
use Rattle.prem_text.specs.declared.lexing.token.token.Word.TheVariants as w

-- ---- types

-- how far a type is read: `unsigned` is one, and the beginning of others
pub data Typing : Type 0 where
  no_type : Typing
  after_signed : Typing
  after_unsigned : Typing
  a_type : (ty : Ty) → Typing

abbrev pub type_begun : Word → Option Typing
type_begun w.Void = Some (a_type Void)
type_begun w.Int = Some (a_type Int)
type_begun w.Short = Some (a_type Short)
type_begun w.Signed = Some after_signed
type_begun w.Unsigned = Some after_unsigned
type_begun _ = None

abbrev pub behind_signed : Word → Option Typing
behind_signed w.Char = Some (a_type Schar)
behind_signed _ = None

abbrev pub behind_unsigned : Word → Option Typing
behind_unsigned w.Int = Some (a_type Unsigned)
behind_unsigned w.Short = Some (a_type Ushort)
behind_unsigned w.Char = Some (a_type Uchar)
behind_unsigned _ = None

-- a further word of a type
abbrev pub type_word : Typing → Word → Option Typing
type_word no_type x = type_begun x
type_word after_signed x = behind_signed x
type_word after_unsigned x = behind_unsigned x
type_word (a_type ty) x = None

-- the type that a name may follow
abbrev pub type_in : Typing → Option Ty
type_in after_unsigned = Some Unsigned
type_in (a_type ty) = Some ty
type_in _ = None

-- ---- what is read

-- what a type and a name declare; a function is held as far as it is read
pub data Declared : Type 0 where
  an_item : (annotation : Option MarkText) → Declared
  a_parameter : (f : FunctionText) → Declared
  a_local : (f : FunctionText) → Declared

-- what a constant is: a limit of a parameter's range, or the initial value of a global or of its next element
pub data Constant : Type 0 where
  range_low : (f : FunctionText) (p : Parameter) → Constant
  range_high : (f : FunctionText) (p : Parameter) (low : ℤ) → Constant
  only_value : (g : GlobalVariable) → Constant
  next_value : (g : GlobalVariable) (before : List ℤ) → Constant

-- what an expression outside statements is: the value of a local, or the result of a function
pub data Value : Type 0 where
  local_value : (f : FunctionText) (ty : Ty) (at : Place) (text : Text) → Value
  result_value : (f : FunctionText) → Value

-- what a row of tokens is for: `PREDICTABLE ( literal )`, `REGION ( name , literal , literal )`, `[ literal ]` and the
-- `;` of a global, `void ) {` and `) {` of a function, `RANGE (` of a parameter, `=` of a local, `; }` behind a result
pub data ItemRow : Type 0 where
  mark_row : ItemRow
  region_row : (annotation : MarkText) → ItemRow
  length_row : (g : GlobalVariable) → ItemRow
  global_row : (g : GlobalVariable) → ItemRow
  body_row : (f : FunctionText) → ItemRow
  range_row : (f : FunctionText) (p : Parameter) → ItemRow
  local_row : (f : FunctionText) (ty : Ty) (at : Place) (text : Text) → ItemRow
  end_row : (f : FunctionText) → ItemRow

-- where the reader stands: before an item; behind a mark and some of its regions; in a row; in a type; behind the name
-- of an item; behind the length of a global; before an initial value; before a constant and behind it; before the first
-- parameter; behind the name of a parameter and behind a parameter; before a local or the first statement; in the
-- statements; in an expression outside them; behind the end of the text
pub data Stage : Type 0 where
  outside : Stage
  marked : (annotation : MarkText) → Stage
  in_row : (row : ItemRow) (got : List Seen) (wanted : Slot) (later : List Slot) → Stage
  in_type : (d : Declared) (typing : Typing) → Stage
  behind_item : (annotation : Option MarkText) (ty : Ty) (at : Place) (text : Text) → Stage
  behind_global : (g : GlobalVariable) → Stage
  before_initial : (g : GlobalVariable) → Stage
  before_constant : (c : Constant) (negative : Bool) → Stage
  behind_constant : (c : Constant) (value : ℤ) → Stage
  before_parameter : (f : FunctionText) → Stage
  on_parameter : (f : FunctionText) (p : Parameter) → Stage
  behind_parameter : (f : FunctionText) → Stage
  before_local : (f : FunctionText) → Stage
  in_statements : (f : FunctionText) (p : Point) → Stage
  in_value : (v : Value) (s : State) (room : ℕ) → Stage
  finished : Stage

-- a token continues the program, it ends an item, or no program has it here
pub data ItemStep : Type 0 where
  ahead : (stage : Stage) → ItemStep
  made : (item : ItemText) → ItemStep
  refused : ItemStep

abbrev pub begin_row : ItemRow → Seen → Slot → List Slot → ItemStep
begin_row row t wanted later = ahead (in_row row (t ∷ []) wanted later)

-- ---- types and names

abbrev pub declared : Declared → Ty → Place → Text → Stage
declared (an_item annotation) ty at x = behind_item annotation ty at x
declared (a_parameter f) ty at x = on_parameter f record { at = at; ty = ty; name = x; range = None }
declared (a_local f) ty at x = in_row (local_row f ty at x) [] equal_sign []

abbrev pub type_or_name : Declared → Typing → Place → Lexeme → ItemStep
type_or_name d typing at (word x) = elim (type_word typing x) [ Some more ↦ ahead (in_type d more) | None ↦ refused ]
type_or_name d typing at (name x) = elim (type_in typing) [ Some ty ↦ ahead (declared d ty at x) | None ↦ refused ]
type_or_name d typing at _ = refused

abbrev pub type_begins : Declared → Seen → ItemStep
type_begins d t = type_or_name d no_type t.1 t.0

abbrev pub item_begins : Seen → ItemStep
item_begins t =
    if is_end t.0 then ahead finished else
    if is_predictable t.0 then begin_row mark_row t left_parenthesis (a_literal ∷ right_parenthesis ∷ []) else type_begins (an_item None) t

abbrev pub behind_mark : MarkText → Seen → ItemStep
behind_mark annotation t =
    if is_region t.0 then begin_row (region_row annotation) t left_parenthesis (a_name ∷ comma ∷ a_literal ∷ comma ∷ a_literal ∷ right_parenthesis ∷ [])
    else type_begins (an_item (Some annotation)) t

-- ---- globals

abbrev pub scalar : Ty → Place → Text → GlobalVariable
scalar ty at x = record { at = at; ty = ty; name = x; len = None; initial = absent }

abbrev pub with_length : GlobalVariable → ℕ → GlobalVariable
with_length g n = record g { len = Some n }

abbrev pub with_initial : GlobalVariable → InitialValue → GlobalVariable
with_initial g initial = record g { initial = initial }

abbrev pub global_ends : GlobalVariable → Seen → ItemStep
global_ends g t = if is_equal t.0 then ahead (before_initial g) else if is_semicolon t.0 then made (global_item g) else refused

abbrev pub new_function : Option MarkText → Ty → Place → Text → FunctionText
new_function annotation ty at x = record { at = at; mark = annotation; ty = ty; name = x; params = []; locals = []; body = no_statements; result = None }

abbrev pub global_or : Option MarkText → Ty → Place → Text → Seen → ItemStep
global_or (Some annotation) ty at x t = refused
global_or None ty at x t =
    if is_left_bracket t.0 then begin_row (length_row (scalar ty at x)) t a_literal (right_bracket ∷ []) else global_ends (scalar ty at x) t

abbrev pub item_goes_on : Option MarkText → Ty → Place → Text → Seen → ItemStep
item_goes_on annotation ty at x t = if is_left_parenthesis t.0 then ahead (before_parameter (new_function annotation ty at x)) else global_or annotation ty at x t

-- ---- constants

abbrev pub constant_of : Bool → ℕ → ℤ
constant_of false n = pos n
constant_of true n = neg_ℤ (pos n)

abbrev pub minus_once : Constant → Bool → ItemStep
minus_once c true = refused
minus_once c false = ahead (before_constant c true)

abbrev pub constant : Constant → Bool → Lexeme → ItemStep
constant c negative (number n kind) = ahead (behind_constant c (constant_of negative n))
constant c negative (mark m.Minus) = minus_once c negative
constant c negative _ = refused

abbrev pub with_parameter : FunctionText → Parameter → FunctionText
with_parameter f p = record f { params = f.params ++ p ∷ [] }

abbrev pub with_range : Parameter → ℤ → ℤ → Parameter
with_range p low high = record p { range = Some (low, high) }

abbrev pub constant_ends : Constant → ℤ → Seen → ItemStep
constant_ends (range_low f p) value t = if is_comma t.0 then ahead (before_constant (range_high f p value) false) else refused
constant_ends (range_high f p low) value t = if is_right_parenthesis t.0 then ahead (behind_parameter (with_parameter f (with_range p low value))) else refused
constant_ends (only_value g) value t = if is_semicolon t.0 then made (global_item (with_initial g (one value))) else refused
constant_ends (next_value g before) value t =
    if is_comma t.0 then ahead (before_constant (next_value g (before ++ value ∷ [])) false) else
    if is_right_brace t.0 then begin_row (global_row (with_initial g (many (before ++ value ∷ [])))) t semicolon [] else refused

abbrev pub initial_begins : GlobalVariable → Seen → ItemStep
initial_begins g t = if is_left_brace t.0 then ahead (before_constant (next_value g []) false) else constant (only_value g) false t.0

-- ---- functions

-- `void` alone is the empty list of parameters
abbrev pub parameter_begins : FunctionText → Seen → ItemStep
parameter_begins f t = if is_void t.0 then begin_row (body_row f) t right_parenthesis (left_brace ∷ []) else type_begins (a_parameter f) t

abbrev pub parameter_ends : FunctionText → Seen → ItemStep
parameter_ends f t =
    if is_comma t.0 then ahead (in_type (a_parameter f) no_type) else
    if is_right_parenthesis t.0 then begin_row (body_row f) t left_brace [] else refused

abbrev pub parameter_goes_on : FunctionText → Parameter → Seen → ItemStep
parameter_goes_on f p t = if is_range t.0 then begin_row (range_row f p) t left_parenthesis [] else parameter_ends (with_parameter f p) t

abbrev pub with_local : FunctionText → LocalVariable → FunctionText
with_local f l = record f { locals = f.locals ++ l ∷ [] }

abbrev pub with_body : FunctionText → Statements → FunctionText
with_body f body = record f { body = body }

abbrev pub with_result : FunctionText → Expression → FunctionText
with_result f e = record f { result = Some e }

-- an expression may have 256 tokens
abbrev pub value_begins : Value → Stage
value_begins v = in_value v (wants bottom) 257

-- behind the last statement
abbrev pub body_ends : FunctionText → Seen → ItemStep
body_ends f t = if is_right_brace t.0 then made (function_item f) else if is_return t.0 then ahead (value_begins (result_value f)) else refused

abbrev pub statement_step : FunctionText → Turn → Seen → ItemStep
statement_step f (on p) t = ahead (in_statements f p)
statement_step f (leaves statements) t = body_ends (with_body f (listed statements)) t
statement_step f wrong t = refused

abbrev pub begins_type : Lexeme → Bool
begins_type (word w.Void) = true
begins_type (word w.Int) = true
begins_type (word w.Short) = true
begins_type (word w.Signed) = true
begins_type (word w.Unsigned) = true
begins_type _ = false

-- locals stand before the first statement
abbrev pub local_begins : FunctionText → Seen → ItemStep
local_begins f t = if begins_type t.0 then type_begins (a_local f) t else statement_step f (turn (between (in_body [])) t) t

abbrev pub value_ends : Value → Expression → Seen → ItemStep
value_ends (local_value f ty at x) e t = ahead (before_local (with_local f record { at = at; ty = ty; name = x; value = e }))
value_ends (result_value f) e t = begin_row (end_row (with_result f e)) t right_brace []

abbrev pub value_goes_on : Value → State → ℕ → Seen → ItemStep
value_goes_on v s room t = elim (move 1 s t) [
  | goes s' ↦ ahead (in_value v s' (room - 1))
  | ends e ↦ if is_semicolon t.0 then value_ends v e t else refused
  | stops ↦ refused
]

-- ---- rows

abbrev pub with_region : MarkText → RegionText → MarkText
with_region annotation r = record annotation { regions = annotation.regions ++ r ∷ [] }

-- a row has all its tokens
abbrev pub row_ends : ItemRow → List Seen → ItemStep
row_ends mark_row got = ahead (marked record { stated = value_at 2 got; regions = [] })
row_ends (region_row annotation) got = elim (text_at 2 got) [
  | Some x ↦ ahead (marked (with_region annotation record { at = place_at 2 got; name = x; low = value_at 4 got; high = value_at 6 got }))
  | None ↦ refused
]
row_ends (length_row g) got = ahead (behind_global (with_length g (value_at 1 got)))
row_ends (global_row g) got = made (global_item g)
row_ends (body_row f) got = ahead (before_local f)
row_ends (range_row f p) got = ahead (before_constant (range_low f p) false)
row_ends (local_row f ty at x) got = ahead (value_begins (local_value f ty at x))
row_ends (end_row f) got = made (function_item f)

abbrev pub row_goes_on : ItemRow → List Seen → List Slot → ItemStep
row_goes_on row got [] = row_ends row got
row_goes_on row got (wanted ∷ later) = ahead (in_row row got wanted later)

abbrev pub step : Stage → Seen → ItemStep
step outside t = item_begins t
step (marked annotation) t = behind_mark annotation t
step (in_row row got wanted later) t = if fits wanted t.0 then row_goes_on row (got ++ t ∷ []) later else refused
step (in_type d typing) t = type_or_name d typing t.1 t.0
step (behind_item annotation ty at x) t = item_goes_on annotation ty at x t
step (behind_global g) t = global_ends g t
step (before_initial g) t = initial_begins g t
step (before_constant c negative) t = constant c negative t.0
step (behind_constant c value) t = constant_ends c value t
step (before_parameter f) t = parameter_begins f t
step (on_parameter f p) t = parameter_goes_on f p t
step (behind_parameter f) t = parameter_ends f t
step (before_local f) t = local_begins f t
step (in_statements f p) t = statement_step f (turn p t) t
step (in_value v s room) t = value_goes_on v s room t
step finished t = refused

-- the last token was the 257th of an outermost expression, or the first of a statement of nesting 65
abbrev pub is_too_deep : Stage → Bool
is_too_deep (in_statements f p) = is_past p
is_too_deep (in_value v s room) = not (nat_lt 0 room)
is_too_deep _ = false
