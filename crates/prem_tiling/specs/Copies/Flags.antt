-- Flags, one for each local: which locals statements assign, and where a flagged one is read.
use Rattle.std.specs.Prelude.{ℕ, Bool, true, false, if◌then◌else◌, List, [], ◌∷◌, slice_index_or, slice_set, Option, None, Some}
use Rattle.prem_tiling.specs.Prelude.{number_of, Text, Expression, literal, variable, element, unary, binary, Statement, block, if_then, if_else, bounded_while, counting_for, assign, output}
use Rattle.prem_tiling.specs.Prelude.{input, call, Statements, no_statements, next_statement}
use Rattle.prem_tiling.specs.Shapes.Carried.{first_line}

abbrev pub flag_at : List Bool → ℕ → Bool
flag_at flags k = slice_index_or flags k false

abbrev pub flagged : List Bool → Option ℕ → Bool
flagged flags None = false
flagged flags (Some k) = flag_at flags k

abbrev pub with_flag : Option ℕ → List Bool → List Bool
with_flag None flags = flags
with_flag (Some k) flags = slice_set flags k true

-- ---- assigned locals

abbrev pub set_plain : List Text → List Bool → Text → Option Expression → List Bool
set_plain locals flags name None = with_flag (number_of locals name) flags
set_plain locals flags name (Some index) = flags

abbrev pub set_target : List Text → List Bool → Option Text → List Bool
set_target locals flags None = flags
set_target locals flags (Some name) = with_flag (number_of locals name) flags

abbrev mutual
  pub assigned_flags : List Text → List Bool → Statement → List Bool
  assigned_flags locals flags (block at body) = all_assigned_flags locals flags body
  assigned_flags locals flags (if_then at condition taken) = assigned_flags locals flags taken
  assigned_flags locals flags (if_else at condition taken other) = assigned_flags locals (assigned_flags locals flags taken) other
  assigned_flags locals flags (bounded_while at turns condition body) = assigned_flags locals flags body
  assigned_flags locals flags (counting_for at names low closed high step body) = assigned_flags locals (with_flag (number_of locals names.first) flags) body
  assigned_flags locals flags (assign at name index value) = set_plain locals flags name index
  assigned_flags locals flags (output at value) = flags
  assigned_flags locals flags (input at name) = with_flag (number_of locals name) flags
  assigned_flags locals flags (call at target callee arguments) = set_target locals flags target

  pub all_assigned_flags : List Text → List Bool → Statements → List Bool
  all_assigned_flags locals flags no_statements = flags
  all_assigned_flags locals flags (next_statement first rest) = all_assigned_flags locals (assigned_flags locals flags first) rest

-- ---- reads of flagged locals

abbrev pub read_by : List Text → List Bool → Expression → Option ℕ
read_by locals flags (literal at value kind) = None
read_by locals flags (variable at name) = if flagged flags (number_of locals name) then Some at.line else None
read_by locals flags (element at name index) = read_by locals flags index
read_by locals flags (unary at op operand) = read_by locals flags operand
read_by locals flags (binary at op left right) = first_line (read_by locals flags left) (read_by locals flags right)

abbrev pub read_by_option : List Text → List Bool → Option Expression → Option ℕ
read_by_option locals flags None = None
read_by_option locals flags (Some e) = read_by locals flags e

abbrev pub read_by_all : List Text → List Bool → List Expression → Option ℕ
read_by_all locals flags [] = None
read_by_all locals flags (e ∷ es) = first_line (read_by locals flags e) (read_by_all locals flags es)
