-- What keeps a program from being compiled: an expression that needs too many registers, or a frame that is too big.
use Rattle.std.specs.Prelude.{ℕ, ◌+◌, nat_lt, List, [], ◌∷◌, Option, None, Some, if◌then◌else◌}
use Rattle.prem_layout.specs.Prelude.{Term, Constant, Local, Scalar, Element, Unary, Binary, AndAlso, OrElse, Steps, Done, SetLocal, SetScalar, SetElement, Output, Input, If, For, While}
use Rattle.prem_layout.specs.Prelude.{Call, Routine, Resolved}
use Rattle.prem_layout.specs.Template.Frames.{frame_of}
use Rattle.prem_syntax.specs.declared.tree.Place.{Place}

-- ---- the first expression, by its place, that would be evaluated into x22

-- the place of a term, which for an operator between two sides is that of the operator
abbrev pub place_of : Term → Place
place_of (Constant at word kind) = at
place_of (Local at number kind) = at
place_of (Scalar at global ty) = at
place_of (Element at global ty index) = at
place_of (Unary at op operand) = at
place_of (Binary at op kind left right) = at
place_of (AndAlso at left right) = at
place_of (OrElse at left right) = at

-- the first place of those in a term, which begin into its register: in the text a left side stands before its operator
abbrev pub first_place : Term → Place
first_place (Binary at op kind left right) = first_place left
first_place (AndAlso at left right) = first_place left
first_place (OrElse at left right) = first_place left
first_place e = place_of e

abbrev pub first_of : Option Place → Option Place → Option Place
first_of None found = found
first_of (Some at) found = Some at

-- the last register of expressions
abbrev pub past_registers : ℕ
past_registers = 22

-- in a term that goes into register r
abbrev pub too_deep : ℕ → Term → Option Place
too_deep r (Constant at word kind) = if nat_lt r past_registers then None else Some at
too_deep r (Local at number kind) = if nat_lt r past_registers then None else Some at
too_deep r (Scalar at global ty) = if nat_lt r past_registers then None else Some at
too_deep r (Element at global ty index) = if nat_lt r past_registers then too_deep r index else Some at
too_deep r (Unary at op operand) = if nat_lt r past_registers then too_deep r operand else Some at
too_deep r (Binary at op kind left right) =
    if nat_lt r past_registers then first_of (too_deep r left) (too_deep (r + 1) right) else Some (first_place left)
too_deep r (AndAlso at left right) =
    if nat_lt r past_registers then first_of (too_deep r left) (too_deep r right) else Some (first_place left)
too_deep r (OrElse at left right) =
    if nat_lt r past_registers then first_of (too_deep r left) (too_deep r right) else Some (first_place left)

abbrev pub too_deep_among : List Term → Option Place
too_deep_among [] = None
too_deep_among (e ∷ es) = first_of (too_deep 10 e) (too_deep_among es)

-- in statements, in the order of the text: an index stands before the value
abbrev pub too_deep_in : Steps → Option Place
too_deep_in Done = None
too_deep_in (SetLocal at number value rest) = first_of (too_deep 10 value) (too_deep_in rest)
too_deep_in (SetScalar at global ty value rest) = first_of (too_deep 10 value) (too_deep_in rest)
too_deep_in (SetElement at global ty index value rest) =
    first_of (too_deep 11 index) (first_of (too_deep 10 value) (too_deep_in rest))
too_deep_in (Output at value rest) = first_of (too_deep 10 value) (too_deep_in rest)
too_deep_in (Input at number rest) = too_deep_in rest
too_deep_in (If at condition taken other rest) =
    first_of (too_deep 10 condition) (first_of (too_deep_in taken) (first_of (too_deep_in other) (too_deep_in rest)))
too_deep_in (For at number low closed high step turns body rest) =
    first_of (too_deep 10 low) (first_of (too_deep 11 high) (first_of (too_deep_in body) (too_deep_in rest)))
too_deep_in (While at turns condition body rest) =
    first_of (too_deep 10 condition) (first_of (too_deep_in body) (too_deep_in rest))
too_deep_in (Call at target callee arguments rest) = first_of (too_deep_among arguments) (too_deep_in rest)

abbrev pub too_deep_result : Option Term → Option Place
too_deep_result None = None
too_deep_result (Some e) = too_deep 10 e

abbrev pub too_deep_function : Routine → Option Place
too_deep_function f = first_of (too_deep_among f.locals) (first_of (too_deep_in f.body) (too_deep_result f.result))

-- ---- the first of the two, by its place

pub data Excess : Type 0 where
  frame : (function : ℕ) → Excess
  depth : (line : ℕ) → Excess

abbrev pub greatest_frame : ℕ
greatest_frame = 2032

abbrev pub deep_excess : Option Place → Option Excess
deep_excess None = None
deep_excess (Some at) = Some (depth at.line)

-- a function's name stands before its expressions
abbrev pub excess_of : ℕ → Routine → Option Excess
excess_of n f = if nat_lt greatest_frame (frame_of f) then Some (frame n) else deep_excess (too_deep_function f)

abbrev pub excess_or : Option Excess → Option Excess → Option Excess
excess_or None found = found
excess_or (Some x) found = Some x

-- the functions from number n on
abbrev pub excess_among : ℕ → List Routine → Option Excess
excess_among n [] = None
excess_among n (f ∷ fs) = excess_or (excess_of n f) (excess_among (n + 1) fs)

abbrev pub excess : Resolved → Option Excess
excess p = excess_among 0 p.routines
