-- No item of the grammar has the end of the text among its tokens.
use Rattle.std.proofs.Common.{◌≡◌, Bool, true, false, List, [], ◌∷◌, ◌++◌, Option, None, Some, refl, not}
use Rattle.prem_text.proofs.Prelude.{Phrase, of_literal, of_name, of_element, of_bracket, of_prefix, of_infix, spelled, IsRow, TypeForm, void_type, type_slots, Declaration, IsDeclaration}
use Rattle.prem_text.proofs.Prelude.{declaration_tokens, ConstantPhrase, constant_slots, IsConstant, PartedConstant, InitialPhrase, no_initial, one_initial, many_initial, ArePartedConstants}
use Rattle.prem_text.proofs.Prelude.{IsInitial, constants_tokens, initial_tokens, IsLength, length_tokens, GlobalPhrase, IsGlobal, global_tokens, MarkPhrase, AreRegions, region_tokens}
use Rattle.prem_text.proofs.Prelude.{IsMark, mark_tokens, RangePhrase, IsRange, range_tokens, ParameterPhrase, IsParameter, parameter_tokens, PartedParameter, ParametersPhrase, of_void}
use Rattle.prem_text.proofs.Prelude.{of_parameters, ArePartedParameters, AreParameters, parted_parameter_tokens, parameters_tokens, LocalPhrase, AreLocals, local_tokens, ResultPhrase}
use Rattle.prem_text.proofs.Prelude.{IsResult, result_tokens, FunctionPhrase, IsFunction, function_tokens, ItemPhrase, of_global, of_function, IsItem, item_tokens, AreItems, items_tokens}
use Rattle.prem_text.proofs.Prelude.{Slot, left_parenthesis, right_parenthesis, left_brace, right_brace, left_bracket, right_bracket, semicolon, comma, equal_sign, a_name, a_literal}
use Rattle.prem_text.proofs.Prelude.{the_else, the_range, the_predictable, the_region, the_void, the_return, the_end, fits, is_end, StepForm, by_one_step, step_slots, Target, to_name}
use Rattle.prem_text.proofs.Prelude.{to_element, Direction, up, Parted, Arguments, no_arguments, arguments, StatementPhrase, StatementPhrases, of_block, of_if, of_else, of_for, of_while}
use Rattle.prem_text.proofs.Prelude.{of_output, of_call, of_input, of_call_to, of_assign, of_change, of_count, no_phrases, next_phrase, AreParted, AreArguments, IsStatement, AreStatements}
use Rattle.prem_text.proofs.Prelude.{parted_tokens, argument_tokens, target_tokens, written, all_written, change_sign, count_sign, if_head, for_head, for_bound, while_head, out_head}
use Rattle.prem_text.proofs.Prelude.{statement_tail, call_head, call_to_head, input_row, Lexeme, name, number, word, mark, end_of_text, Seen, every, and_parts, and_from}
use Rattle.prem_text.proofs.SpellingLemmas.Bytes.{every_append}

abbrev pub is_inner : Seen → Bool
is_inner t = not (is_end t.0)

pub record Inner (ts : List Seen) : Type 0 where
  pub all : every is_inner ts ≡ true

both : (xs ys : List Seen) → Inner xs → Inner ys → Inner (xs ++ ys)
both xs ys x y = record { all = every_append is_inner xs ys x.all y.all }

nothing : Inner []
nothing = record { all = refl }

-- ---- rows

abbrev is_inner_slot : Slot → Bool
is_inner_slot the_end = false
is_inner_slot _ = true

slot_end : (s : Slot) → is_inner_slot s ≡ true → fits s end_of_text ≡ true → ⊥
slot_end the_end inner fit = cc
slot_end left_parenthesis inner fit = cc
slot_end _ inner fit = cc

slot_inner : (s : Slot) (t : Lexeme) → is_inner_slot s ≡ true → fits s t ≡ true → not (is_end t) ≡ true
slot_inner s end_of_text inner fit = absurd (slot_end s inner fit)
slot_inner s (name text) inner fit = refl
slot_inner s (number value kind) inner fit = refl
slot_inner s (word k) inner fit = refl
slot_inner s (mark m) inner fit = refl

row : (slots : List Slot) (ts : List Seen) → every is_inner_slot slots ≡ true → IsRow slots ts → Inner ts
row [] [] inner fit = nothing
row [] (t ∷ ts) inner fit = absurd fit
row (s ∷ slots) [] inner fit = absurd fit
row (s ∷ slots) (t ∷ ts) inner fit =
    let parts = and_parts (is_inner_slot s) (every is_inner_slot slots) inner in
    let rest = row slots ts parts.1 fit.1 in
    record { all = and_from (is_inner t) (every is_inner ts) (slot_inner s t.0 parts.0 fit.0) rest.all }

-- ---- expressions

phrase : (p : Phrase) → Inner (spelled p)
phrase (of_literal at value kind) = record { all = refl }
phrase (of_name at text) = record { all = refl }
phrase (of_element at text a index b) = record { all = every_append is_inner (spelled index) _ (phrase index).all refl }
phrase (of_bracket a inner b) = record { all = every_append is_inner (spelled inner) _ (phrase inner).all refl }
phrase (of_prefix at sign op operand) = record { all = (phrase operand).all }
phrase (of_infix left at sign op right) = both (spelled left) ((mark sign, at) ∷ spelled right) (phrase left) (record { all = (phrase right).all })

-- ---- statements

parted : (all : List Parted) → AreParted all → Inner (parted_tokens all)
parted [] right = nothing
parted (a ∷ rest) right = both _ _ (both _ _ (phrase a.0) (row (comma ∷ []) a.1 refl right.1)) (parted rest right.2)

given_inner : (given : Arguments) → AreArguments given → Inner (argument_tokens given)
given_inner no_arguments right = nothing
given_inner (arguments before last) right = both _ _ (parted before right.0) (phrase last)

target_inner : (t : Target) → Inner (target_tokens t)
target_inner (to_name at text) = record { all = refl }
target_inner (to_element at text a index b) = record { all = every_append is_inner (spelled index) _ (phrase index).all refl }

steps_inner : (form : StepForm) → every is_inner_slot (step_slots form) ≡ true
steps_inner by_one_step = refl
steps_inner _ = refl

change_inner : (d : Direction) → every is_inner_slot (change_sign d ∷ []) ≡ true
change_inner up = refl
change_inner _ = refl

abbrev semicolon_behind : Slot → List Slot
semicolon_behind s = s ∷ semicolon ∷ []

count_inner : (d : Direction) → every is_inner_slot (semicolon_behind (count_sign d)) ≡ true
count_inner up = refl
count_inner _ = refl

mutual
  statement : (s : StatementPhrase) → IsStatement s → Inner (written s)
  statement (of_block head inner tail) right = both _ _ (both _ _ (row (left_brace ∷ []) head refl right.0) (statements inner right.1)) (row (right_brace ∷ []) tail refl right.2)
  statement (of_if head condition close taken) right =
      both _ _ (both _ _ (both _ _ (row if_head head refl right.0) (phrase condition)) (row (right_parenthesis ∷ []) close refl right.2))
      (statement taken right.3)
  statement (of_else head condition close taken middle other) right =
      both _ _ (both _ _ (both _ _ (both _ _ (both _ _ (row if_head head refl right.0) (phrase condition))
      (row (right_parenthesis ∷ []) close refl right.2)) (statement taken right.3)) (row (the_else ∷ []) middle refl right.5)) (statement other right.6)
  statement (of_for head low bound high form step body) right =
      both _ _ (both _ _ (both _ _ (both _ _ (both _ _ (row for_head head refl right.0) (phrase low)) (row for_bound bound refl right.2))
      (phrase high)) (row (step_slots form) step (steps_inner form) right.4)) (statement body right.5)
  statement (of_while head condition close body) right =
      both _ _ (both _ _ (both _ _ (row while_head head refl right.0) (phrase condition)) (row (right_parenthesis ∷ []) close refl right.2))
      (statement body right.3)
  statement (of_output head value tail) right = both _ _ (both _ _ (row out_head head refl right.0) (phrase value)) (row statement_tail tail refl right.2)
  statement (of_call head given tail) right = both _ _ (both _ _ (row call_head head refl right.0) (given_inner given right.1)) (row statement_tail tail refl right.2)
  statement (of_input r) right = row input_row r refl right
  statement (of_call_to head given tail) right = both _ _ (both _ _ (row call_to_head head refl right.0) (given_inner given right.1)) (row statement_tail tail refl right.2)
  statement (of_assign target sign value tail) right =
      both _ _ (both _ _ (both _ _ (target_inner target) (row (equal_sign ∷ []) sign refl right.1)) (phrase value)) (row (semicolon ∷ []) tail refl right.3)
  statement (of_change target direction sign value tail) right =
      both _ _ (both _ _ (both _ _ (target_inner target) (row (change_sign direction ∷ []) sign (change_inner direction) right.1)) (phrase value)) (row (semicolon ∷ []) tail refl right.3)
  statement (of_count target direction r) right = both _ _ (target_inner target) (row (semicolon_behind (count_sign direction)) r (count_inner direction) right.1)

  statements : (ss : StatementPhrases) → AreStatements ss → Inner (all_written ss)
  statements no_phrases right = nothing
  statements (next_phrase first rest) right = both _ _ (statement first right.0) (statements rest right.1)

-- ---- items

form_inner : (form : TypeForm) → every is_inner_slot (type_slots form) ≡ true
form_inner void_type = refl
form_inner _ = refl

declaration : (d : Declaration) → IsDeclaration d → Inner (declaration_tokens d)
declaration d right = both _ _ (row (type_slots d.form) d.type_row (form_inner d.form) right.0) (row (a_name ∷ []) d.name_row refl right.1)

sign_inner : (negative : Bool) → every is_inner_slot (constant_slots negative) ≡ true
sign_inner true = refl
sign_inner false = refl

constant : (c : ConstantPhrase) → IsConstant c → Inner c.row
constant c right = row (constant_slots c.negative) c.row (sign_inner c.negative) right

constants : (all : List PartedConstant) → ArePartedConstants all → Inner (constants_tokens all)
constants [] right = nothing
constants (c ∷ rest) right = both _ _ (both _ _ (constant c.0 right.0) (row (comma ∷ []) c.1 refl right.1)) (constants rest right.2)

initial : (i : InitialPhrase) → IsInitial i → Inner (initial_tokens i)
initial no_initial right = nothing
initial (one_initial sign c) right = both _ _ (row (equal_sign ∷ []) sign refl right.0) (constant c right.1)
initial (many_initial head before last close) right =
    both _ _ (both _ _ (both _ _ (row (equal_sign ∷ left_brace ∷ []) head refl right.0) (constants before right.1)) (constant last right.2)) (row (right_brace ∷ []) close refl right.3)

long : (l : Option (List Seen)) → IsLength l → Inner (length_tokens l)
long None right = nothing
long (Some r) right = row (left_bracket ∷ a_literal ∷ right_bracket ∷ []) r refl right

global : (g : GlobalPhrase) → IsGlobal g → Inner (global_tokens g)
global g right = both _ _ (both _ _ (both _ _ (declaration g.declaration right.0) (long g.length right.1)) (initial g.initial right.2)) (row (semicolon ∷ []) g.tail refl right.3)

regions : (rows : List (List Seen)) → AreRegions rows → Inner (region_tokens rows)
regions [] right = nothing
regions (r ∷ rest) right = both _ _ (row (the_region ∷ left_parenthesis ∷ a_name ∷ comma ∷ a_literal ∷ comma ∷ a_literal ∷ right_parenthesis ∷ []) r refl right.0) (regions rest right.1)

marked : (m : Option MarkPhrase) → IsMark m → Inner (mark_tokens m)
marked None right = nothing
marked (Some m) right = both _ _ (row (the_predictable ∷ left_parenthesis ∷ a_literal ∷ right_parenthesis ∷ []) m.head refl right.0) (regions m.regions right.1)

ranged : (r : Option RangePhrase) → IsRange r → Inner (range_tokens r)
ranged None right = nothing
ranged (Some r) right =
    both _ _ (both _ _ (both _ _ (both _ _ (row (the_range ∷ left_parenthesis ∷ []) r.head refl right.0) (constant r.low right.1))
    (row (comma ∷ []) r.middle refl right.2)) (constant r.high right.3)) (row (right_parenthesis ∷ []) r.close refl right.4)

parameter : (p : ParameterPhrase) → IsParameter p → Inner (parameter_tokens p)
parameter p right = both _ _ (declaration p.declaration right.0) (ranged p.range right.1)

parted_parameters : (all : List PartedParameter) → ArePartedParameters all → Inner (parted_parameter_tokens all)
parted_parameters [] right = nothing
parted_parameters (p ∷ rest) right = both _ _ (both _ _ (parameter p.0 right.0) (row (comma ∷ []) p.1 refl right.1)) (parted_parameters rest right.2)

parameters : (ps : ParametersPhrase) → AreParameters ps → Inner (parameters_tokens ps)
parameters (of_void r) right = row (the_void ∷ []) r refl right
parameters (of_parameters before last) right = both _ _ (parted_parameters before right.0) (parameter last right.1)

locals : (ls : List LocalPhrase) → AreLocals ls → Inner (local_tokens ls)
locals [] right = nothing
locals (l ∷ rest) right =
    both _ _ (both _ _ (both _ _ (both _ _ (declaration l.declaration right.0) (row (equal_sign ∷ []) l.sign refl right.1)) (phrase l.value))
    (row (semicolon ∷ []) l.tail refl right.3)) (locals rest right.4)

result : (r : Option ResultPhrase) → IsResult r → Inner (result_tokens r)
result None right = nothing
result (Some r) right = both _ _ (both _ _ (row (the_return ∷ []) r.head refl right.0) (phrase r.value)) (row (semicolon ∷ []) r.tail refl right.2)

function : (f : FunctionPhrase) → IsFunction f → Inner (function_tokens f)
function f right =
    both _ _ (both _ _ (both _ _ (both _ _
    (both _ _ (both _ _ (both _ _ (both _ _ (marked f.mark right.0) (declaration f.declaration right.1))
    (row (left_parenthesis ∷ []) f.opening refl right.2)) (parameters f.params right.3))
    (row (right_parenthesis ∷ left_brace ∷ []) f.begins refl right.4)) (locals f.locals right.5)) (statements f.body right.6)) (result f.result right.7)) (row (right_brace ∷ []) f.tail refl right.8)

item : (i : ItemPhrase) → IsItem i → Inner (item_tokens i)
item (of_global g) right = global g right
item (of_function f) right = function f right

pub items : (all : List ItemPhrase) → AreItems all → Inner (items_tokens all)
items [] right = nothing
items (i ∷ rest) right = both _ _ (item i right.0) (items rest right.1)
