-- Locals that carry a value from one turn of a loop into the next: the loop's body assigns them, and a turn may read them before it has surely assigned them.
use Rattle.std.specs.Prelude.{ℕ, ◌==◌, Bool, false, not, ◌&&◌, ◌||◌, if◌then◌else◌, List, [], ◌∷◌, map, Option, None, Some}
use Rattle.prem_tiling.specs.Prelude.{number_of, Text, Expression, literal, variable, element, unary, binary, Statement, block, if_then, if_else, bounded_while, counting_for, assign, output}
use Rattle.prem_tiling.specs.Prelude.{input, call, Statements, no_statements, next_statement, LocalVariable}

-- ---- which locals a statement assigns; locals are told by their number among the names of all

abbrev pub names_of : List LocalVariable → List Text
names_of ls = map (λ (l : LocalVariable). l.name) ls

abbrev pub is_number : ℕ → Option ℕ → Bool
is_number k None = false
is_number k (Some j) = j == k

abbrev pub is_local_named : List Text → ℕ → Text → Bool
is_local_named locals k name = is_number k (number_of locals name)

abbrev pub is_target : List Text → ℕ → Option Text → Bool
is_target locals k None = false
is_target locals k (Some name) = is_local_named locals k name

-- an element is no local
abbrev pub is_assigned : List Text → ℕ → Text → Option Expression → Bool
is_assigned locals k name None = is_local_named locals k name
is_assigned locals k name (Some index) = false

abbrev mutual
  pub assigns : List Text → ℕ → Statement → Bool
  assigns locals k (block at body) = assign_within locals k body
  assigns locals k (if_then at condition taken) = assigns locals k taken
  assigns locals k (if_else at condition taken other) = assigns locals k taken || assigns locals k other
  assigns locals k (bounded_while at turns condition body) = assigns locals k body
  assigns locals k (counting_for at names low closed high step body) = is_local_named locals k names.first || assigns locals k body
  assigns locals k (assign at name index value) = is_assigned locals k name index
  assigns locals k (output at value) = false
  assigns locals k (input at name) = is_local_named locals k name
  assigns locals k (call at target callee arguments) = is_target locals k target

  pub assign_within : List Text → ℕ → Statements → Bool
  assign_within locals k no_statements = false
  assign_within locals k (next_statement first rest) = assigns locals k first || assign_within locals k rest

-- ---- what is stale in a turn: the locals that the body assigns, and that this turn hasn't surely assigned so far

abbrev pub LocalSet : Type 0
LocalSet = ℕ → Bool

abbrev pub without : Option ℕ → LocalSet → LocalSet
without None stale = stale
without (Some k) stale = λ j. not (k == j) && stale j

-- a local that is assigned is stale no longer
abbrev pub settled : List Text → Text → LocalSet → LocalSet
settled locals name stale = without (number_of locals name) stale

abbrev pub settled_plain : List Text → Text → Option Expression → LocalSet → LocalSet
settled_plain locals name None stale = settled locals name stale
settled_plain locals name (Some index) stale = stale

abbrev pub settled_target : List Text → Option Text → LocalSet → LocalSet
settled_target locals None stale = stale
settled_target locals (Some name) stale = settled locals name stale

-- behind an `if` what one of its arms leaves stale; behind a loop what was stale before it, but for the variable of a counting one
abbrev mutual
  pub behind : List Text → LocalSet → Statement → LocalSet
  behind locals stale (block at body) = behind_all locals stale body
  behind locals stale (if_then at condition taken) = λ k. stale k || behind locals stale taken k
  behind locals stale (if_else at condition taken other) = λ k. behind locals stale taken k || behind locals stale other k
  behind locals stale (bounded_while at turns condition body) = stale
  behind locals stale (counting_for at names low closed high step body) = settled locals names.first stale
  behind locals stale (assign at name index value) = settled_plain locals name index stale
  behind locals stale (output at value) = stale
  behind locals stale (input at name) = settled locals name stale
  behind locals stale (call at target callee arguments) = settled_target locals target stale

  pub behind_all : List Text → LocalSet → Statements → LocalSet
  behind_all locals stale no_statements = stale
  behind_all locals stale (next_statement first rest) = behind_all locals (behind locals stale first) rest

-- ---- the line of the first read of a stale local, in the order of the text

abbrev pub first_line : Option ℕ → Option ℕ → Option ℕ
first_line None later = later
first_line (Some line) later = Some line

abbrev pub is_stale : LocalSet → Option ℕ → Bool
is_stale stale None = false
is_stale stale (Some k) = stale k

abbrev pub read_of : List Text → LocalSet → Expression → Option ℕ
read_of locals stale (literal at value kind) = None
read_of locals stale (variable at name) = if is_stale stale (number_of locals name) then Some at.line else None
read_of locals stale (element at name index) = read_of locals stale index
read_of locals stale (unary at op operand) = read_of locals stale operand
read_of locals stale (binary at op left right) = first_line (read_of locals stale left) (read_of locals stale right)

abbrev pub read_of_option : List Text → LocalSet → Option Expression → Option ℕ
read_of_option locals stale None = None
read_of_option locals stale (Some e) = read_of locals stale e

abbrev pub read_of_all : List Text → LocalSet → List Expression → Option ℕ
read_of_all locals stale [] = None
read_of_all locals stale (e ∷ es) = first_line (read_of locals stale e) (read_of_all locals stale es)

-- a counting loop reads its bound behind the first assignment to its variable
abbrev mutual
  pub read_in : List Text → LocalSet → Statement → Option ℕ
  read_in locals stale (block at body) = read_within locals stale body
  read_in locals stale (if_then at condition taken) = first_line (read_of locals stale condition) (read_in locals stale taken)
  read_in locals stale (if_else at condition taken other) =
      first_line (read_of locals stale condition) (first_line (read_in locals stale taken) (read_in locals stale other))
  read_in locals stale (bounded_while at turns condition body) = first_line (read_of locals stale condition) (read_in locals stale body)
  read_in locals stale (counting_for at names low closed high step body) =
      first_line (read_of locals stale low) (first_line (read_of locals (settled locals names.first stale) high) (read_in locals (settled locals names.first stale) body))
  read_in locals stale (assign at name index value) = first_line (read_of_option locals stale index) (read_of locals stale value)
  read_in locals stale (output at value) = read_of locals stale value
  read_in locals stale (input at name) = None
  read_in locals stale (call at target callee arguments) = read_of_all locals stale arguments

  pub read_within : List Text → LocalSet → Statements → Option ℕ
  read_within locals stale no_statements = None
  read_within locals stale (next_statement first rest) = first_line (read_in locals stale first) (read_within locals (behind locals stale first) rest)

-- where a turn begins, all is stale that the body assigns
abbrev pub stale_first : List Text → Statement → LocalSet
stale_first locals body k = assigns locals k body

-- the line of the first read of a carried local in the body of a loop
abbrev pub carried_in : List Text → Statement → Option ℕ
carried_in locals body = read_in locals (stale_first locals body) body
