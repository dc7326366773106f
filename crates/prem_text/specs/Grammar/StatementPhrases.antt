-- The grammar of statements: phrases as they are spelled. Between expressions and statements stand rows of tokens.
use Rattle.std.specs.Prelude.{◌≡◌, ℕ, suc, nat_lt, Bool, true, false, List, [], ◌∷◌, ◌++◌, Option, None, Some}
use Rattle.prem_text.specs.Prelude.{Text, Expression, LoopNames, Statement, block, if_then, if_else, bounded_while, counting_for, assign, output, input, call, Place, BinOp, Add, Sub}
use Rattle.prem_text.specs.Grammar.Phrases.{Phrase, spelled, tree, IsExpression, IsRow, name_at, quiet, counted, opening}
use Rattle.prem_text.specs.Grammar.Slots.{Slot, left_parenthesis, right_parenthesis, left_brace, right_brace, semicolon, comma, equal_sign, plus_sign, plus_plus, plus_equal, minus_minus}
use Rattle.prem_text.specs.Grammar.Slots.{minus_equal, comparison, a_name, a_literal, the_if, the_else, the_for, the_while, the_bounded, the_in, the_out, value_at, place_at}
use Rattle.prem_text.specs.Grammar.Statement.{listed, changed, by_one, is_at_most}
use Rattle.prem_text.specs.Lexing.Token.Lexeme.{name, mark, Seen}
use Rattle.prem_text.specs.declared.lexing.token.token.Mark.TheVariants as m

-- the forms of a step with the token before it and the one behind it: `; i++ )`, `; i += C )`, `; i = j + C )`
pub data StepForm : Type 0 where
  by_one_step : StepForm
  added_step : StepForm
  summed_step : StepForm

abbrev pub step_slots : StepForm → List Slot
step_slots by_one_step = semicolon ∷ a_name ∷ plus_plus ∷ right_parenthesis ∷ []
step_slots added_step = semicolon ∷ a_name ∷ plus_equal ∷ a_literal ∷ right_parenthesis ∷ []
step_slots summed_step = semicolon ∷ a_name ∷ equal_sign ∷ a_name ∷ plus_sign ∷ a_literal ∷ right_parenthesis ∷ []

abbrev pub fourth_name : StepForm → List Seen → Text
fourth_name summed_step ts = name_at 3 ts
fourth_name _ ts = name_at 1 ts

abbrev pub step_size : StepForm → List Seen → ℕ
step_size by_one_step ts = 1
step_size added_step ts = value_at 3 ts
step_size summed_step ts = value_at 5 ts

-- what is assigned: a name, or an element of an array
pub data Target : Type 0 where
  to_name : (at : Place) (text : Text) → Target
  to_element : (at : Place) (text : Text) (a : Place) (index : Phrase) (b : Place) → Target

-- `+=` and `++`, or `-=` and `--`
pub data Direction : Type 0 where
  up : Direction
  down : Direction

-- an expression and the token that parts it from the next argument
abbrev pub Parted : Type 0
Parted = Phrase × List Seen

pub data Arguments : Type 0 where
  no_arguments : Arguments
  arguments : (before : List Parted) (last : Phrase) → Arguments

mutual
  pub data StatementPhrase : Type 0 where
    of_block : (head : List Seen) (inner : StatementPhrases) (tail : List Seen) → StatementPhrase
    of_if : (head : List Seen) (condition : Phrase) (close : List Seen) (taken : StatementPhrase) → StatementPhrase
    of_else : (head : List Seen) (condition : Phrase) (close : List Seen) (taken : StatementPhrase) (middle : List Seen) (other : StatementPhrase) → StatementPhrase
    of_for : (head : List Seen) (low : Phrase) (bound : List Seen) (high : Phrase) (form : StepForm) (step : List Seen) (body : StatementPhrase) → StatementPhrase
    of_while : (head : List Seen) (condition : Phrase) (close : List Seen) (body : StatementPhrase) → StatementPhrase
    of_output : (head : List Seen) (value : Phrase) (tail : List Seen) → StatementPhrase
    of_call : (head : List Seen) (arguments : Arguments) (tail : List Seen) → StatementPhrase
    of_input : (row : List Seen) → StatementPhrase
    of_call_to : (head : List Seen) (arguments : Arguments) (tail : List Seen) → StatementPhrase
    of_assign : (target : Target) (sign : List Seen) (value : Phrase) (tail : List Seen) → StatementPhrase
    of_change : (target : Target) (direction : Direction) (sign : List Seen) (value : Phrase) (tail : List Seen) → StatementPhrase
    of_count : (target : Target) (direction : Direction) (row : List Seen) → StatementPhrase

  pub data StatementPhrases : Type 0 where
    no_phrases : StatementPhrases
    next_phrase : (first : StatementPhrase) (rest : StatementPhrases) → StatementPhrases

-- ---- rows

abbrev pub if_head : List Slot
if_head = the_if ∷ left_parenthesis ∷ []

abbrev pub for_head : List Slot
for_head = the_for ∷ left_parenthesis ∷ a_name ∷ equal_sign ∷ []

abbrev pub for_bound : List Slot
for_bound = semicolon ∷ a_name ∷ comparison ∷ []

abbrev pub while_head : List Slot
while_head = the_bounded ∷ left_parenthesis ∷ a_literal ∷ right_parenthesis ∷ the_while ∷ left_parenthesis ∷ []

abbrev pub out_head : List Slot
out_head = the_out ∷ left_parenthesis ∷ []

abbrev pub statement_tail : List Slot
statement_tail = right_parenthesis ∷ semicolon ∷ []

abbrev pub call_head : List Slot
call_head = a_name ∷ left_parenthesis ∷ []

abbrev pub call_to_head : List Slot
call_to_head = a_name ∷ equal_sign ∷ a_name ∷ left_parenthesis ∷ []

abbrev pub input_row : List Slot
input_row = a_name ∷ equal_sign ∷ the_in ∷ left_parenthesis ∷ right_parenthesis ∷ semicolon ∷ []

abbrev pub change_sign : Direction → Slot
change_sign up = plus_equal
change_sign down = minus_equal

abbrev pub count_sign : Direction → Slot
count_sign up = plus_plus
count_sign down = minus_minus

-- an `else` behind a statement would belong to it
abbrev pub ends_open : StatementPhrase → Bool
ends_open (of_if head condition close taken) = true
ends_open (of_else head condition close taken middle other) = ends_open other
ends_open (of_for head low bound high form step body) = ends_open body
ends_open (of_while head condition close body) = ends_open body
ends_open _ = false

abbrev pub AreParted : List Parted → Type 0
AreParted [] = Unit {0}
AreParted (a ∷ rest) = IsExpression 1 a.0 × IsRow (comma ∷ []) a.1 × AreParted rest

abbrev pub AreArguments : Arguments → Type 0
AreArguments no_arguments = Unit {0}
AreArguments (arguments before last) = AreParted before × IsExpression 1 last

abbrev pub IsTarget : Target → Type 0
IsTarget (to_name at text) = Unit {0}
IsTarget (to_element at text a index b) = IsExpression 1 index

-- the rows are those of the grammar, and an `else` belongs to the nearest `if`
abbrev mutual
  pub IsStatement : StatementPhrase → Type 0
  IsStatement (of_block head inner tail) = IsRow (left_brace ∷ []) head × AreStatements inner × IsRow (right_brace ∷ []) tail
  IsStatement (of_if head condition close taken) = IsRow if_head head × IsExpression 1 condition × IsRow (right_parenthesis ∷ []) close × IsStatement taken
  IsStatement (of_else head condition close taken middle other) =
      IsRow if_head head × IsExpression 1 condition × IsRow (right_parenthesis ∷ []) close × IsStatement taken × (ends_open taken ≡ false) × IsRow (the_else ∷ []) middle × IsStatement other
  IsStatement (of_for head low bound high form step body) =
      IsRow for_head head × IsExpression 1 low × IsRow for_bound bound × IsExpression 8 high × IsRow (step_slots form) step × IsStatement body
  IsStatement (of_while head condition close body) = IsRow while_head head × IsExpression 1 condition × IsRow (right_parenthesis ∷ []) close × IsStatement body
  IsStatement (of_output head value tail) = IsRow out_head head × IsExpression 1 value × IsRow statement_tail tail
  IsStatement (of_call head given tail) = IsRow call_head head × AreArguments given × IsRow statement_tail tail
  IsStatement (of_input row) = IsRow input_row row
  IsStatement (of_call_to head given tail) = IsRow call_to_head head × AreArguments given × IsRow statement_tail tail
  IsStatement (of_assign target sign value tail) = IsTarget target × IsRow (equal_sign ∷ []) sign × IsExpression 1 value × IsRow (semicolon ∷ []) tail
  IsStatement (of_change target direction sign value tail) =
      IsTarget target × IsRow (change_sign direction ∷ []) sign × IsExpression 1 value × IsRow (semicolon ∷ []) tail
  IsStatement (of_count target direction row) = IsTarget target × IsRow (count_sign direction ∷ semicolon ∷ []) row

  pub AreStatements : StatementPhrases → Type 0
  AreStatements no_phrases = Unit {0}
  AreStatements (next_phrase first rest) = IsStatement first × AreStatements rest

-- ---- tokens

abbrev pub parted_tokens : List Parted → List Seen
parted_tokens [] = []
parted_tokens (a ∷ rest) = spelled a.0 ++ a.1 ++ parted_tokens rest

abbrev pub argument_tokens : Arguments → List Seen
argument_tokens no_arguments = []
argument_tokens (arguments before last) = parted_tokens before ++ spelled last

abbrev pub target_tokens : Target → List Seen
target_tokens (to_name at text) = (name text, at) ∷ []
target_tokens (to_element at text a index b) = (name text, at) ∷ (mark m.OpenBracket, a) ∷ spelled index ++ (mark m.CloseBracket, b) ∷ []

abbrev mutual
  pub written : StatementPhrase → List Seen
  written (of_block head inner tail) = head ++ all_written inner ++ tail
  written (of_if head condition close taken) = head ++ spelled condition ++ close ++ written taken
  written (of_else head condition close taken middle other) = head ++ spelled condition ++ close ++ written taken ++ middle ++ written other
  written (of_for head low bound high form step body) = head ++ spelled low ++ bound ++ spelled high ++ step ++ written body
  written (of_while head condition close body) = head ++ spelled condition ++ close ++ written body
  written (of_output head value tail) = head ++ spelled value ++ tail
  written (of_call head given tail) = head ++ argument_tokens given ++ tail
  written (of_input row) = row
  written (of_call_to head given tail) = head ++ argument_tokens given ++ tail
  written (of_assign target sign value tail) = target_tokens target ++ sign ++ spelled value ++ tail
  written (of_change target direction sign value tail) = target_tokens target ++ sign ++ spelled value ++ tail
  written (of_count target direction row) = target_tokens target ++ row

  pub all_written : StatementPhrases → List Seen
  all_written no_phrases = []
  all_written (next_phrase first rest) = written first ++ all_written rest

-- ---- trees

abbrev pub parted_trees : List Parted → List Expression
parted_trees [] = []
parted_trees (a ∷ rest) = tree a.0 ∷ parted_trees rest

abbrev pub argument_trees : Arguments → List Expression
argument_trees no_arguments = []
argument_trees (arguments before last) = parted_trees before ++ tree last ∷ []

abbrev pub target_at : Target → Place
target_at (to_name at text) = at
target_at (to_element at text a index b) = at

abbrev pub target_text : Target → Text
target_text (to_name at text) = text
target_text (to_element at text a index b) = text

abbrev pub target_index : Target → Option Expression
target_index (to_name at text) = None
target_index (to_element at text a index b) = Some (tree index)

abbrev pub change_op : Direction → BinOp
change_op up = Add
change_op down = Sub

abbrev pub loop_names : List Seen → List Seen → StepForm → List Seen → LoopNames
loop_names head bound form step = record { first = name_at 2 head; second = name_at 1 bound; third = name_at 1 step; fourth = fourth_name form step }

abbrev mutual
  pub meant : StatementPhrase → Statement
  meant (of_block head inner tail) = block (place_at 0 head) (listed (all_meant inner))
  meant (of_if head condition close taken) = if_then (place_at 0 head) (tree condition) (meant taken)
  meant (of_else head condition close taken middle other) = if_else (place_at 0 head) (tree condition) (meant taken) (meant other)
  meant (of_for head low bound high form step body) =
      counting_for (place_at 0 head) (loop_names head bound form step) (tree low) (is_at_most bound) (tree high) (step_size form step) (meant body)
  meant (of_while head condition close body) = bounded_while (place_at 0 head) (value_at 2 head) (tree condition) (meant body)
  meant (of_output head value tail) = output (place_at 0 head) (tree value)
  meant (of_call head given tail) = call (place_at 0 head) None (name_at 0 head) (argument_trees given)
  meant (of_input row) = input (place_at 0 row) (name_at 0 row)
  meant (of_call_to head given tail) = call (place_at 0 head) (Some (name_at 0 head)) (name_at 2 head) (argument_trees given)
  meant (of_assign target sign value tail) = assign (target_at target) (target_text target) (target_index target) (tree value)
  meant (of_change target direction sign value tail) =
      changed (target_at target) (target_text target) (target_index target) (change_op direction) (place_at 0 sign) (tree value)
  meant (of_count target direction row) = by_one (target_at target) (target_text target) (target_index target) (change_op direction) (place_at 0 row)

  pub all_meant : StatementPhrases → List Statement
  all_meant no_phrases = []
  all_meant (next_phrase first rest) = meant first ∷ all_meant rest

-- ---- limits, token by token

abbrev pub parted_past : List Parted → List Bool
parted_past [] = []
parted_past (a ∷ rest) = counted 1 (spelled a.0) ++ quiet a.1 ++ parted_past rest

abbrev pub argument_past : Arguments → List Bool
argument_past no_arguments = []
argument_past (arguments before last) = parted_past before ++ counted 1 (spelled last)

abbrev pub target_past : ℕ → Target → List Bool
target_past n (to_name at text) = nat_lt 64 n ∷ []
target_past n (to_element at text a index b) = nat_lt 64 n ∷ false ∷ counted 1 (spelled index) ++ false ∷ []

-- of a statement of nesting n: which tokens are past a limit
abbrev mutual
  pub past : ℕ → StatementPhrase → List Bool
  past n (of_block head inner tail) = opening n head ++ all_past (suc n) inner ++ quiet tail
  past n (of_if head condition close taken) = opening n head ++ counted 1 (spelled condition) ++ quiet close ++ past (suc n) taken
  past n (of_else head condition close taken middle other) =
      opening n head ++ counted 1 (spelled condition) ++ quiet close ++ past (suc n) taken ++ quiet middle ++ past (suc n) other
  past n (of_for head low bound high form step body) =
      opening n head ++ counted 1 (spelled low) ++ quiet bound ++ counted 1 (spelled high) ++ quiet step ++ past (suc n) body
  past n (of_while head condition close body) = opening n head ++ counted 1 (spelled condition) ++ quiet close ++ past (suc n) body
  past n (of_output head value tail) = opening n head ++ counted 1 (spelled value) ++ quiet tail
  past n (of_call head given tail) = opening n head ++ argument_past given ++ quiet tail
  past n (of_input row) = opening n row
  past n (of_call_to head given tail) = opening n head ++ argument_past given ++ quiet tail
  past n (of_assign target sign value tail) = target_past n target ++ quiet sign ++ counted 1 (spelled value) ++ quiet tail
  past n (of_change target direction sign value tail) = target_past n target ++ quiet sign ++ counted 1 (spelled value) ++ quiet tail
  past n (of_count target direction row) = target_past n target ++ quiet row

  pub all_past : ℕ → StatementPhrases → List Bool
  all_past n no_phrases = []
  all_past n (next_phrase first rest) = past n first ++ all_past n rest
