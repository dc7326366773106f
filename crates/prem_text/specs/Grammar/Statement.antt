-- Reading the statements of a body, one token after the other.
use Rattle.std.specs.Prelude.{ℕ, ◌-◌, Bool, true, false, ◌&&◌, not, nat_lt, if◌then◌else◌, List, [], ◌∷◌, ◌++◌, Option, None, Some}
use Rattle.prem_text.specs.Prelude.{Text, Expression, literal, variable, element, binary, LoopNames, Statement, block, if_then, if_else, bounded_while, counting_for, assign, output, input}
use Rattle.prem_text.specs.Prelude.{call, Statements, no_statements, next_statement, Place, BinOp, Add, Sub, Int}
use Rattle.prem_text.specs.Grammar.Expression.{bottom, State, wants, named, goes, ends, stops, move}
use Rattle.prem_text.specs.Grammar.Slots.{Slot, left_parenthesis, right_parenthesis, right_bracket, semicolon, equal_sign, plus_sign, plus_plus, plus_equal, comparison, step_sign, a_name}
use Rattle.prem_text.specs.Grammar.Slots.{a_literal, the_while, fits, text_at, value_at, place_at, slot_at, is_else, is_in, is_left_parenthesis, is_left_bracket, is_right_brace, is_comma}
use Rattle.prem_text.specs.Grammar.Slots.{is_less_equal}
use Rattle.prem_text.specs.Lexing.Token.Lexeme.{Lexeme, name, word, mark, Seen}
use Rattle.prem_text.specs.declared.lexing.token.token.Mark.TheVariants as m
use Rattle.prem_text.specs.declared.lexing.token.token.Word.TheVariants as w

abbrev pub listed : List Statement → Statements
listed [] = no_statements
listed (first ∷ rest) = next_statement first (listed rest)

-- what is open around a statement, the innermost first: the body, a block with what stands in it, an `if` before its
-- statement, one before the statement behind `else`, a loop before its body
pub data Around : Type 0 where
  in_body : (before : List Statement) → Around
  in_block : (at : Place) (before : List Statement) (around : Around) → Around
  in_taken : (at : Place) (condition : Expression) (around : Around) → Around
  in_other : (at : Place) (condition : Expression) (taken : Statement) (around : Around) → Around
  in_while : (at : Place) (turns : ℕ) (condition : Expression) (around : Around) → Around
  in_for : (at : Place) (names : LoopNames) (low : Expression) (closed : Bool) (high : Expression) (step : ℕ) (around : Around) → Around

-- a `for` up to its bound
pub record Header : Type 0 where
  pub at : Place
  pub first : Text
  pub low : Expression
  pub second : Text
  pub closed : Bool
  pub high : Expression

-- what an expression is for
pub data Use : Type 0 where
  for_output : (at : Place) → Use
  for_if : (at : Place) → Use
  for_while : (at : Place) (turns : ℕ) → Use
  for_low : (at : Place) (first : Text) → Use
  for_high : (at : Place) (first : Text) (low : Expression) (second : Text) (closed : Bool) → Use
  for_index : (at : Place) (text : Text) → Use
  for_value : (at : Place) (text : Text) (index : Option Expression) → Use
  for_change : (at : Place) (text : Text) (index : Option Expression) (op : BinOp) (sign : Place) → Use
  for_argument : (at : Place) (target : Option Text) (callee : Text) (before : List Expression) → Use

-- what a row of tokens is for: `if (`, `out (`, `BOUNDED ( literal ) while (`, `for ( name =`; behind the first
-- expression of a `for` `; name <`, and behind its bound `; name` and the sign of its step, then the step's end; what
-- is left of a statement that is known
pub data Row : Type 0 where
  if_row : Row
  out_row : Row
  while_row : Row
  for_row : Row
  bound_row : (at : Place) (first : Text) (low : Expression) → Row
  sign_row : (header : Header) → Row
  step_row : (header : Header) → Row
  last_row : (statement : Statement) → Row

-- where the reader stands
pub data Point : Type 0 where
  between : (around : Around) → Point
  may_else : (at : Place) (condition : Expression) (taken : Statement) (around : Around) → Point
  filling : (row : Row) (got : List Seen) (wanted : Slot) (later : List Slot) (around : Around) → Point
  inside : (use_ : Use) (s : State) (room : ℕ) (around : Around) → Point
  on_name : (at : Place) (text : Text) (around : Around) → Point
  on_element : (at : Place) (text : Text) (index : Expression) (around : Around) → Point

-- a token is one of the body's; it is behind the statements of the body; or no body has it here
pub data Turn : Type 0 where
  on : (p : Point) → Turn
  leaves : (statements : List Statement) → Turn
  wrong : Turn

-- a statement has ended, and perhaps those that it ends; an `if` waits for its `else`
abbrev pub ended : Statement → Around → Point
ended s (in_body before) = between (in_body (before ++ s ∷ []))
ended s (in_block at before around) = between (in_block at (before ++ s ∷ []) around)
ended s (in_taken at condition around) = may_else at condition s around
ended s (in_other at condition taken around) = ended (if_else at condition taken s) around
ended s (in_while at turns condition around) = ended (bounded_while at turns condition s) around
ended s (in_for at names low closed high step around) = ended (counting_for at names low closed high step s) around

-- the same where no `else` comes
abbrev pub settled : Statement → Around → Around
settled s (in_body before) = in_body (before ++ s ∷ [])
settled s (in_block at before around) = in_block at (before ++ s ∷ []) around
settled s (in_taken at condition around) = settled (if_then at condition s) around
settled s (in_other at condition taken around) = settled (if_else at condition taken s) around
settled s (in_while at turns condition around) = settled (bounded_while at turns condition s) around
settled s (in_for at names low closed high step around) = settled (counting_for at names low closed high step s) around

-- an expression is read from its beginning; it may have 256 tokens, and its room is 0 once it has one more
abbrev pub expression : Use → Around → Turn
expression u around = on (inside u (wants bottom) 257 around)

-- only a bound of a `for` is limited: to shifts and what binds tighter
abbrev pub least_of : Use → ℕ
least_of (for_high at first low second closed) = 8
least_of _ = 1

abbrev pub begin : Row → Seen → Slot → List Slot → Around → Turn
begin row t wanted later around = on (filling row (t ∷ []) wanted later around)

-- what is left of a statement behind its last expression: `;`
abbrev pub finish : Statement → Seen → Around → Turn
finish s t around = begin (last_row s) t semicolon [] around

-- the first token of a statement
abbrev pub statement : Around → Seen → Lexeme → Turn
statement around t (mark m.OpenBrace) = on (between (in_block t.1 [] around))
statement around t (word w.If) = begin if_row t left_parenthesis [] around
statement around t (word w.Out) = begin out_row t left_parenthesis [] around
statement around t (word w.Bounded) = begin while_row t left_parenthesis (a_literal ∷ right_parenthesis ∷ the_while ∷ left_parenthesis ∷ []) around
statement around t (word w.For) = begin for_row t left_parenthesis (a_name ∷ equal_sign ∷ []) around
statement around t (name x) = on (on_name t.1 x around)
statement around t _ = wrong

abbrev pub begins_statement : Lexeme → Bool
begins_statement (mark m.OpenBrace) = true
begins_statement (word w.If) = true
begins_statement (word w.Out) = true
begins_statement (word w.Bounded) = true
begins_statement (word w.For) = true
begins_statement (name x) = true
begins_statement _ = false

-- a token that begins no statement is behind the body, or it closes a block
abbrev pub without : Around → Seen → Turn
without (in_body before) t = leaves before
without (in_block at before around) t = if is_right_brace t.0 then on (ended (block at (listed before)) around) else wrong
without _ t = wrong

abbrev pub next : Around → Seen → Turn
next around t = if begins_statement t.0 then statement around t t.0 else without around t

-- an `else` belongs to the nearest `if`
abbrev pub else_or : Place → Expression → Statement → Around → Seen → Turn
else_or at condition taken around t =
    if is_else t.0 then on (between (in_other at condition taken around)) else next (settled (if_then at condition taken) around) t

-- ---- rows of tokens

-- behind `; name` and the sign of a step: `)`, `literal )` or `name + literal )`
abbrev pub rest_of_step : List Seen → Slot × List Slot
rest_of_step got =
    if slot_at 2 plus_plus got then (right_parenthesis, []) else
    if slot_at 2 plus_equal got then (a_literal, right_parenthesis ∷ []) else (a_name, plus_sign ∷ a_literal ∷ right_parenthesis ∷ [])

-- the number of a step: of `++` it is 1
abbrev pub step_in : List Seen → ℕ
step_in got = if slot_at 2 plus_plus got then 1 else if slot_at 2 plus_equal got then value_at 3 got else value_at 5 got

-- where the last name of a step stands: in `name = name + literal` it is the second one
abbrev pub fourth_in : List Seen → Option Text
fourth_in got = if slot_at 2 equal_sign got then text_at 3 got else text_at 1 got

abbrev pub looped : Header → List Seen → Text → Text → Around → Around
looped h got third fourth around =
    in_for h.at record { first = h.first; second = h.second; third = third; fourth = fourth } h.low h.closed h.high (step_in got) around

abbrev pub is_at_most : List Seen → Bool
is_at_most [] = false
is_at_most (t ∷ []) = is_less_equal t.0
is_at_most (t ∷ ts) = is_at_most ts

-- a row has all its tokens
abbrev pub filled : Row → List Seen → Around → Turn
filled if_row got around = expression (for_if (place_at 0 got)) around
filled out_row got around = expression (for_output (place_at 0 got)) around
filled while_row got around = expression (for_while (place_at 0 got) (value_at 2 got)) around
filled for_row got around = elim (text_at 2 got) [ Some first ↦ expression (for_low (place_at 0 got) first) around | None ↦ wrong ]
filled (bound_row at first low) got around = elim (text_at 1 got) [ Some second ↦ expression (for_high at first low second (is_at_most got)) around | None ↦ wrong ]
filled (sign_row h) got around = on (filling (step_row h) got (rest_of_step got).0 (rest_of_step got).1 around)
filled (step_row h) got around = elim (text_at 1 got) [
  | Some third ↦ elim (fourth_in got) [ Some fourth ↦ on (between (looped h got third fourth around)) | None ↦ wrong ]
  | None ↦ wrong
]
filled (last_row s) got around = on (ended s around)

abbrev pub filled_or : Row → List Seen → List Slot → Around → Turn
filled_or row got [] around = filled row got around
filled_or row got (wanted ∷ later) around = on (filling row got wanted later around)

-- ---- behind a name

-- the tree of a left side, read as an operand
abbrev pub side : Place → Text → Option Expression → Expression
side at x None = variable at x
side at x (Some index) = element at x index

-- `x += e` is `x = x + (e)`, and so for the others; what is made stands at the sign
abbrev pub changed : Place → Text → Option Expression → BinOp → Place → Expression → Statement
changed at x index op sign e = assign at x index (binary sign op (side at x index) e)

abbrev pub by_one : Place → Text → Option Expression → BinOp → Place → Statement
by_one at x index op sign = changed at x index op sign (literal sign 1 Int)

-- the sign of an assignment
abbrev pub change : Place → Text → Option Expression → Around → Seen → Lexeme → Turn
change at x index around t (mark m.Equal) = expression (for_value at x index) around
change at x index around t (mark m.PlusEqual) = expression (for_change at x index Add t.1) around
change at x index around t (mark m.MinusEqual) = expression (for_change at x index Sub t.1) around
change at x index around t (mark m.PlusPlus) = finish (by_one at x index Add t.1) t around
change at x index around t (mark m.MinusMinus) = finish (by_one at x index Sub t.1) t around
change at x index around t _ = wrong

abbrev pub behind_name : Place → Text → Around → Seen → Turn
behind_name at x around t =
    if is_left_parenthesis t.0 then expression (for_argument at None x []) around else
    if is_left_bracket t.0 then expression (for_index at x) around else change at x None around t t.0

-- ---- expressions

-- a token is the one that is wanted
abbrev pub when : Slot → Seen → Turn → Turn
when wanted t turn = if fits wanted t.0 then turn else wrong

-- the token behind an expression
abbrev pub used : Use → Expression → Around → Seen → Turn
used (for_output at) e around t = when right_parenthesis t (finish (output at e) t around)
used (for_if at) e around t = when right_parenthesis t (on (between (in_taken at e around)))
used (for_while at turns) e around t = when right_parenthesis t (on (between (in_while at turns e around)))
used (for_low at first) e around t = when semicolon t (begin (bound_row at first e) t a_name (comparison ∷ []) around)
used (for_high at first low second closed) e around t =
    when semicolon t (begin (sign_row record { at = at; first = first; low = low; second = second; closed = closed; high = e }) t a_name (step_sign ∷ []) around)
used (for_index at x) e around t = when right_bracket t (on (on_element at x e around))
used (for_value at x index) e around t = when semicolon t (on (ended (assign at x index e) around))
used (for_change at x index op sign) e around t = when semicolon t (on (ended (changed at x index op sign e) around))
used (for_argument at target callee before) e around t =
    if is_comma t.0 then expression (for_argument at target callee (before ++ e ∷ [])) around else
    when right_parenthesis t (finish (call at target callee (before ++ e ∷ [])) t around)

abbrev pub is_start : State → Bool
is_start (wants bottom) = true
is_start _ = false

-- where no expression has a token at its beginning: `in` behind `name =`, and `)` where a call has no arguments
abbrev pub at_start : Use → Around → Seen → Turn
at_start (for_value at x None) around t = if is_in t.0 then begin (last_row (input at x)) t left_parenthesis (right_parenthesis ∷ semicolon ∷ []) around else wrong
at_start (for_argument at target callee []) around t = when right_parenthesis t (finish (call at target callee []) t around)
at_start _ around t = wrong

-- the name that is all of an expression so far
abbrev pub lone_name : State → Option Text
lone_name (named at y bottom) = Some y
lone_name _ = None

-- `(` behind `name = name` begins a call's arguments
abbrev pub called : Use → Text → Around → Turn
called (for_value at x None) callee around = expression (for_argument at (Some x) callee []) around
called _ callee around = wrong

-- a token of an expression, or the first behind it
abbrev pub within : Use → State → ℕ → Around → Seen → Turn
within u s room around t = elim (move (least_of u) s t) [
  | goes s' ↦ on (inside u s' (room - 1) around)
  | ends e ↦ if is_left_parenthesis t.0 then elim (lone_name s) [ Some callee ↦ called u callee around | None ↦ wrong ] else used u e around t
  | stops ↦ if is_start s then at_start u around t else wrong
]

abbrev pub turn : Point → Seen → Turn
turn (between around) t = next around t
turn (may_else at condition taken around) t = else_or at condition taken around t
turn (filling row got wanted later around) t = when wanted t (filled_or row (got ++ t ∷ []) later around)
turn (inside u s room around) t = within u s room around t
turn (on_name at x around) t = behind_name at x around t
turn (on_element at x index around) t = change at x (Some index) around t t.0

-- ---- limits

-- at most n statements are open
abbrev pub nests : ℕ → Around → Bool
nests n (in_body before) = true
nests n (in_block at before around) = nat_lt 0 n && nests (n - 1) around
nests n (in_taken at condition around) = nat_lt 0 n && nests (n - 1) around
nests n (in_other at condition taken around) = nat_lt 0 n && nests (n - 1) around
nests n (in_while at turns condition around) = nat_lt 0 n && nests (n - 1) around
nests n (in_for at names low closed high step around) = nat_lt 0 n && nests (n - 1) around

abbrev pub is_empty : List Statement → Bool
is_empty [] = true
is_empty (first ∷ rest) = false

abbrev pub is_one : List Seen → Bool
is_one [] = false
is_one (t ∷ []) = true
is_one (t ∷ ts) = false

-- whether the last token began a block, or another statement with a row of its own
abbrev pub has_begun_block : Around → Bool
has_begun_block (in_block at before around) = is_empty before && not (nests 63 around)
has_begun_block _ = false

abbrev pub begins_row : Row → List Seen → Bool
begins_row if_row got = is_one got
begins_row out_row got = is_one got
begins_row while_row got = is_one got
begins_row for_row got = is_one got
begins_row _ got = false

-- the last token was past the 256th of an expression, or the first of a statement of nesting 65 or more
abbrev pub is_past : Point → Bool
is_past (between around) = has_begun_block around
is_past (may_else at condition taken around) = false
is_past (filling row got wanted later around) = begins_row row got && not (nests 63 around)
is_past (inside u s room around) = not (nat_lt 0 room)
is_past (on_name at x around) = not (nests 63 around)
is_past (on_element at x index around) = false
