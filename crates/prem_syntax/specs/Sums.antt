-- Programs that put out sums and differences of literals, and nothing else.
use Rattle.std.specs.Prelude.{ℕ, List, [], ◌∷◌, map, None, ⊤, codes}
use Rattle.prem_word.specs.declared.kind.Kind.{Kind}
use Rattle.prem_word.specs.declared.kind.BinOp.{BinOp}
use Rattle.prem_word.specs.declared.kind.BinOp.TheVariants.{Add, Sub}
use Rattle.prem_word.specs.declared.kind.Kind.TheVariants.{Int}
use Rattle.prem_word.specs.Words.{apply_op}
use Rattle.prem_syntax.specs.declared.tree.Place.{Place}
use Rattle.prem_syntax.specs.declared.tree.Ty.TheVariants.{Void}
use Rattle.prem_syntax.specs.Syntax.{Expression, literal, binary, Statements, no_statements, next_statement, output, FunctionText, function_item, ProgramText}
use Rattle.prem_syntax.specs.Resolve.{common}

-- `void job(void) { body }`
abbrev pub job_function : Place → Statements → FunctionText
job_function at body = record { at = at; mark = None; ty = Void; name = codes "job"; params = []; locals = []; body = body; result = None }

abbrev pub job_program : Place → Statements → ProgramText
job_program at body = function_item (job_function at body) ∷ []

-- `out(e);` for each expression, with the place of the statement
abbrev pub outputs : List (Place × Expression) → Statements
outputs [] = no_statements
outputs (o ∷ os) = next_statement (output o.0 o.1) (outputs os)

-- both sides of + or -
abbrev pub IsSumOf : BinOp → Type 0 → Type 0 → Type 0
IsSumOf Add left right = left × right
IsSumOf Sub left right = left × right
IsSumOf op left right = ⊥

-- literals joined by + and -
abbrev pub IsSum : Expression → Type 0
IsSum (literal at value kind) = ⊤
IsSum (binary at op left right) = IsSumOf op (IsSum left) (IsSum right)
IsSum e = ⊥

abbrev pub sum_kind : Expression → Kind
sum_kind (literal at value kind) = kind
sum_kind (binary at op left right) = common (sum_kind left) (sum_kind right)
sum_kind e = Int

abbrev pub sum_word : Expression → ℕ
sum_word (literal at value kind) = value
sum_word (binary at op left right) = apply_op op (common (sum_kind left) (sum_kind right)) (sum_word left) (sum_word right)
sum_word e = 0

-- each output is a sum
abbrev pub AreSums : List (Place × Expression) → Type 0
AreSums [] = ⊤
AreSums (o ∷ os) = IsSum o.1 × AreSums os

abbrev pub sum_words : List (Place × Expression) → List ℕ
sum_words os = map (λ (o : Place × Expression). sum_word o.1) os
