-- The line table: for each word of a task's code the line of the source to which it belongs, word by word as the templates put them. A word
-- belongs to the statement whose code it is in, and not to one around it.
use Rattle.std.specs.Prelude.{ℕ, ◌+◌, Bool, true, false, if◌then◌else◌, List, [], ◌∷◌, ◌++◌, length, replicate, Option, Some, None}
use Rattle.prem_plant.specs.declared.plant.Target.{Target}
use Rattle.prem_syntax.specs.declared.tree.Ty.{Ty}
use Rattle.prem_syntax.specs.Syntax.{LocalVariable}
use Rattle.prem_syntax.specs.Resolved.{Term, Constant, Local, Scalar, Element, Unary, Binary, AndAlso, OrElse, Steps, Done, SetLocal, SetScalar, SetElement, Output, Input, If, For}
use Rattle.prem_syntax.specs.Resolved.{While, Call, Routine}
use Rattle.prem_asm.specs.Pieces.{words}
use Rattle.prem_layout.specs.Template.Terms.{constant, scale, shift_of, binary_code}
use Rattle.prem_layout.specs.Template.Limits.{first_place}

-- so many words at a line
abbrev pub at_line : (line count : ℕ) → List ℕ
at_line line count = replicate count line

-- ---- terms, all of whose words are at their statement's line

-- a constant is one word or two; an index is scaled by a word, or by none
abbrev pub constant_words : ℕ → ℕ
constant_words word = length (constant 10 word)

abbrev pub scale_words : Ty → ℕ
scale_words ty = length (scale 10 (shift_of ty))

abbrev pub term_lines : Target → (line : ℕ) → Term → List ℕ
term_lines target line (Constant at word kind) = at_line line (constant_words word)
term_lines target line (Local at number kind) = at_line line 1
term_lines target line (Scalar at global ty) = at_line line 3
term_lines target line (Element at global ty index) = term_lines target line index ++ at_line line (scale_words ty + 4)
term_lines target line (Unary at op operand) = term_lines target line operand ++ at_line line 1
term_lines target line (Binary at op kind left right) =
    term_lines target line left ++ (term_lines target line right ++ at_line line (words (binary_code target op kind 10 11)))
term_lines target line (AndAlso at left right) = term_lines target line left ++ (at_line line 2 ++ (term_lines target line right ++ at_line line 1))
term_lines target line (OrElse at left right) = term_lines target line left ++ (at_line line 4 ++ (term_lines target line right ++ at_line line 1))

-- ---- statements

-- arguments, each of which is stored
abbrev pub argument_lines : Target → (line : ℕ) → List Term → List ℕ
argument_lines target line [] = []
argument_lines target line (e ∷ es) = term_lines target line e ++ (at_line line 1 ++ argument_lines target line es)

-- the store of a result
abbrev pub target_words : Option ℕ → ℕ
target_words None = 0
target_words (Some k) = 1

-- whether there is a statement
abbrev pub begins : Steps → Bool
begins Done = false
begins _ = true

-- the jump over the other side of a choice, which is there where that has a statement
abbrev pub jump_words : Bool → ℕ
jump_words other = if other then 1 else 0

abbrev pub steps_lines : Target → Steps → List ℕ
steps_lines target Done = []
steps_lines target (SetLocal at k value rest) = term_lines target at.line value ++ (at_line at.line 1 ++ steps_lines target rest)
steps_lines target (SetScalar at g ty value rest) = term_lines target at.line value ++ (at_line at.line 3 ++ steps_lines target rest)
steps_lines target (SetElement at g ty index value rest) =
    term_lines target at.line value ++ (term_lines target at.line index ++ (at_line at.line (scale_words ty + 4) ++ steps_lines target rest))
steps_lines target (Output at value rest) = term_lines target at.line value ++ (at_line at.line 1 ++ steps_lines target rest)
steps_lines target (Input at k rest) = at_line at.line 2 ++ steps_lines target rest
-- the test and the jump behind it; the jump over the other side
steps_lines target (If at condition taken other rest) =
    term_lines target at.line condition
    ++ (at_line at.line 2 ++ (steps_lines target taken ++ (at_line at.line (jump_words (begins other)) ++ (steps_lines target other ++ steps_lines target rest))))
-- the first value is stored; the head loads the variable; the test and its jump; the variable goes on, and the jump back
steps_lines target (For at k low closed high step turns body rest) =
    term_lines target at.line low
    ++ (at_line at.line 2 ++ (term_lines target at.line high ++ (at_line at.line 2 ++ (steps_lines target body ++ (at_line at.line 4 ++ steps_lines target rest)))))
-- the counter is set; the head loads it, and where turns are left has the condition; the test and its jump; the counter goes down; the jump back
steps_lines target (While at turns condition body rest) =
    at_line at.line (constant_words turns + 4)
    ++ (term_lines target at.line condition ++ (at_line at.line 6 ++ (steps_lines target body ++ (at_line at.line 1 ++ steps_lines target rest))))
steps_lines target (Call at to f arguments rest) =
    argument_lines target at.line arguments ++ (at_line at.line (1 + target_words to) ++ steps_lines target rest)

-- ---- functions

-- the line of the first local, or another one where there is none; and the locals behind it
abbrev pub local_line : (line : ℕ) → List LocalVariable → ℕ
local_line line [] = line
local_line line (v ∷ vs) = v.at.line

abbrev pub locals_behind : List LocalVariable → List LocalVariable
locals_behind [] = []
locals_behind (v ∷ vs) = vs

-- the initialisers of locals, each at its local's line
abbrev pub local_lines : Target → (line : ℕ) → List LocalVariable → List Term → List ℕ
local_lines target line locals [] = []
local_lines target line locals (e ∷ es) =
    term_lines target (local_line line locals) e ++ (at_line (local_line line locals) 1 ++ local_lines target line (locals_behind locals) es)

-- a result, at the line of its first token
abbrev pub result_lines : Target → Option Term → List ℕ
result_lines target None = []
result_lines target (Some e) = term_lines target (first_place e).line e

-- what opens and closes the function is at the line of its name
abbrev pub function_lines : Target → Routine → List ℕ
function_lines target f =
    at_line f.text.at.line 2
    ++ (local_lines target f.text.at.line f.text.locals f.locals
    ++ (steps_lines target f.body ++ (result_lines target f.result ++ at_line f.text.at.line 3)))
