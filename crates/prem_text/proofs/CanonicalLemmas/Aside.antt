-- Trees that are the same, places aside, have the same canonical tokens.
use Rattle.std.proofs.Common.{◌≡◌, ℕ, ◌+◌, nat_lt, List, [], ◌∷◌, ◌++◌, Option, None, Some, refl, map}
use Rattle.prem_text.proofs.Prelude.{Text, Expression, literal, variable, element, unary, binary, Statement, block, if_then, if_else, bounded_while, counting_for, assign, output, input}
use Rattle.prem_text.proofs.Prelude.{call, Statements, no_statements, next_statement, Parameter, LocalVariable, RegionText, MarkText, ItemText, global_item, function_item, ProgramText}
use Rattle.prem_text.proofs.Prelude.{infix_sign, prefix_sign, enclosed, expression_lexemes, more_arguments, argument_lexemes, target_lexemes, call_lexemes, while_lexemes, for_lexemes}
use Rattle.prem_text.proofs.Prelude.{bound_lexemes, step_lexemes, tail_lexemes, if_lexemes, statement_lexemes, statements_lexemes, number_lexeme, declaration_lexemes, region_lexemes}
use Rattle.prem_text.proofs.Prelude.{regions_lexemes, mark_lexemes, parameter_lexemes, more_parameters, parameters_lexemes, locals_lexemes, result_lexemes, item_lexemes, program_lexemes}
use Rattle.prem_text.proofs.Prelude.{unplaced_expression, unplaced_statement, unplaced_statements, unplaced_parameter, unplaced_local, unplaced_region, unplaced_mark, unplaced_item}
use Rattle.prem_text.proofs.Prelude.{unplaced, level_of, name, word, mark, option_map}
use Rattle.prem_text.specs.declared.lexing.token.token.Mark.TheVariants as m
use Rattle.prem_text.specs.declared.lexing.token.token.Word.TheVariants as w

pub expression_aside : (e : Expression) (least : ℕ) → expression_lexemes least (unplaced_expression e) ≡ expression_lexemes least e
expression_aside (literal at value kind) least = refl
expression_aside (variable at x) least = refl
expression_aside (element at x index) least = λ i. name x ∷ mark m.OpenBracket ∷ expression_aside index 1 i ++ mark m.CloseBracket ∷ []
expression_aside (unary at op operand) least = λ i. mark (prefix_sign op) ∷ expression_aside operand 11 i
expression_aside (binary at op left right) least =
    λ i. enclosed (nat_lt (level_of op) least) (expression_aside left (level_of op) i ++ mark (infix_sign op) ∷ expression_aside right (level_of op + 1) i)

more_aside : (es : List Expression) → more_arguments (map unplaced_expression es) ≡ more_arguments es
more_aside [] = refl
more_aside (e ∷ rest) = λ i. mark m.Comma ∷ expression_aside e 1 i ++ more_aside rest i

arguments_aside : (es : List Expression) → argument_lexemes (map unplaced_expression es) ≡ argument_lexemes es
arguments_aside [] = refl
arguments_aside (e ∷ rest) = λ i. expression_aside e 1 i ++ more_aside rest i

target_aside : (x : Text) (index : Option Expression) → target_lexemes x (option_map unplaced_expression index) ≡ target_lexemes x index
target_aside x None = refl
target_aside x (Some index) = λ i. name x ∷ mark m.OpenBracket ∷ expression_aside index 1 i ++ mark m.CloseBracket ∷ []

if_aside : (condition : Expression) → if_lexemes (unplaced_expression condition) ≡ if_lexemes condition
if_aside condition = λ i. (word w.If ∷ mark m.OpenParenthesis ∷ []) ++ expression_aside condition 1 i ++ mark m.CloseParenthesis ∷ []

mutual
  statement_aside : (s : Statement) → statement_lexemes (unplaced_statement s) ≡ statement_lexemes s
  statement_aside (block at body) = λ i. (mark m.OpenBrace ∷ []) ++ statements_aside body i ++ mark m.CloseBrace ∷ []
  statement_aside (if_then at condition taken) = λ i. if_aside condition i ++ statement_aside taken i
  statement_aside (if_else at condition taken other) = λ i. if_aside condition i ++ statement_aside taken i ++ (word w.Else ∷ []) ++ statement_aside other i
  statement_aside (bounded_while at turns condition body) =
      λ i. while_lexemes turns ++ expression_aside condition 1 i ++ (mark m.CloseParenthesis ∷ []) ++ statement_aside body i
  statement_aside (counting_for at names low closed high step body) =
      λ i. for_lexemes names.first ++ expression_aside low 1 i ++ bound_lexemes names.second closed ++ expression_aside high 8 i
      ++ step_lexemes names.third names.fourth step ++ statement_aside body i
  statement_aside (assign at x index value) = λ i. target_aside x index i ++ (mark m.Equal ∷ []) ++ expression_aside value 1 i ++ mark m.Semicolon ∷ []
  statement_aside (output at value) = λ i. (word w.Out ∷ mark m.OpenParenthesis ∷ []) ++ expression_aside value 1 i ++ tail_lexemes
  statement_aside (input at x) = refl
  statement_aside (call at target callee given) = λ i. call_lexemes target callee ++ arguments_aside given i ++ tail_lexemes

  statements_aside : (ss : Statements) → statements_lexemes (unplaced_statements ss) ≡ statements_lexemes ss
  statements_aside no_statements = refl
  statements_aside (next_statement first rest) = λ i. statement_aside first i ++ statements_aside rest i

regions_aside : (rs : List RegionText) → regions_lexemes (map unplaced_region rs) ≡ regions_lexemes rs
regions_aside [] = refl
regions_aside (r ∷ rest) = λ i. region_lexemes r ++ regions_aside rest i

mark_aside : (k : Option MarkText) → mark_lexemes (option_map unplaced_mark k) ≡ mark_lexemes k
mark_aside None = refl
mark_aside (Some k) = λ i. (word w.Predictable ∷ mark m.OpenParenthesis ∷ number_lexeme k.stated ∷ mark m.CloseParenthesis ∷ []) ++ regions_aside k.regions i

more_parameters_aside : (ps : List Parameter) → more_parameters (map unplaced_parameter ps) ≡ more_parameters ps
more_parameters_aside [] = refl
more_parameters_aside (p ∷ rest) = λ i. mark m.Comma ∷ parameter_lexemes p ++ more_parameters_aside rest i

parameters_aside : (ps : List Parameter) → parameters_lexemes (map unplaced_parameter ps) ≡ parameters_lexemes ps
parameters_aside [] = refl
parameters_aside (p ∷ rest) = λ i. parameter_lexemes p ++ more_parameters_aside rest i

locals_aside : (ls : List LocalVariable) → locals_lexemes (map unplaced_local ls) ≡ locals_lexemes ls
locals_aside [] = refl
locals_aside (l ∷ rest) = λ i. (declaration_lexemes l.ty l.name ++ (mark m.Equal ∷ []) ++ expression_aside l.value 1 i ++ mark m.Semicolon ∷ []) ++ locals_aside rest i

result_aside : (e : Option Expression) → result_lexemes (option_map unplaced_expression e) ≡ result_lexemes e
result_aside None = refl
result_aside (Some e) = λ i. (word w.Return ∷ []) ++ expression_aside e 1 i ++ mark m.Semicolon ∷ []

item_aside : (x : ItemText) → item_lexemes (unplaced_item x) ≡ item_lexemes x
item_aside (global_item g) = refl
item_aside (function_item f) =
    λ i. mark_aside f.mark i ++ declaration_lexemes f.ty f.name ++ (mark m.OpenParenthesis ∷ []) ++ parameters_aside f.params i
    ++ (mark m.CloseParenthesis ∷ mark m.OpenBrace ∷ []) ++ locals_aside f.locals i ++ statements_aside f.body i ++ result_aside f.result i
    ++ mark m.CloseBrace ∷ []

pub program_aside : (items : ProgramText) → program_lexemes (unplaced items) ≡ program_lexemes items
program_aside [] = refl
program_aside (x ∷ rest) = λ i. item_aside x i ++ program_aside rest i
