-- The code of statements and functions.
use Rattle.std.specs.Prelude.{ℕ, ℤ, pos, negsuc, ◌+◌, ◌-◌, ◌*◌, Bool, true, false, List, [], ◌∷◌, length, Option, None, Some}
use Rattle.prem_layout.specs.Prelude.{Pieces, no_pieces, straight, address_of, either, repeat, call_to, followed, Test, Add, Blt, Bge, Instr, Jalr, Load, Store, OpImm, Op, PmIn, PmOut, Lw}
use Rattle.prem_layout.specs.Prelude.{Target, Term, Steps, Done as NoSteps, SetLocal, SetScalar, SetElement, Output, Input, If, For, While, Call, Routine, Ty, Short, Ushort, Schar, Uchar}
use Rattle.prem_isa.specs.declared.instr.StoreOp.{StoreOp}
use Rattle.prem_isa.specs.declared.instr.StoreOp.TheVariants.{Sb, Sh, Sw}
use Rattle.prem_layout.specs.Template.Frames.{counters_in, locals_of, frame_of}
use Rattle.prem_layout.specs.Template.Terms.{only, constant, slot, shift_of, scale, nonzero, truth_code, term_code}

-- what code has to know of its task
pub record Parts : Type 0 where
  pub target : Target
  pub global : ℕ → ℕ  -- the part of a global
  pub frame : ℕ → ℕ  -- the bytes of a function's frame
  pub link : ℕ → ℕ  -- the register that keeps the place behind a call: x1, or x4 of a marked function
  pub callee : ℕ → ℕ  -- the part to which a call goes: the function's code, or the stub of a marked one

-- ---- statements

abbrev pub load_slot : ℕ → Instr
load_slot k = Load Lw 10 2 (slot k)

abbrev pub store_slot : ℕ → Instr
store_slot k = Store Sw 2 10 (slot k)

-- a store takes as many bytes as an element of the type has
abbrev pub store_of : Ty → StoreOp
store_of Short = Sh
store_of Ushort = Sh
store_of Schar = Sb
store_of Uchar = Sb
store_of _ = Sw

-- x10 to a scalar global
abbrev pub scalar_store : ℕ → Ty → Pieces → Pieces
scalar_store part ty rest = address_of 5 part 0 (straight (Store (store_of ty) 5 10 (pos 0) ∷ []) rest)

-- x10 to the element of an array whose index is in x11
abbrev pub element_store : ℕ → Ty → Pieces → Pieces
element_store part ty rest =
    straight (scale 11 (shift_of ty)) (address_of 5 part 0 (straight (Op Add 11 11 5 ∷ Store (store_of ty) 11 10 (pos 0) ∷ []) rest))

-- whether i in x10 is below the bound in x11, or at most at it
abbrev pub bound_test : Bool → Test
bound_test false = record { op = Blt; rs1 = 10; rs2 = 11 }
bound_test true = record { op = Bge; rs1 = 11; rs2 = 10 }

-- i goes on by the step
abbrev pub step_code : ℕ → ℕ → List Instr
step_code number step = load_slot number ∷ OpImm Add 10 10 (pos step) ∷ store_slot number ∷ []

-- a counter goes down by 1
abbrev pub count_code : ℕ → List Instr
count_code n = load_slot n ∷ OpImm Add 10 10 (negsuc 0) ∷ store_slot n ∷ []

-- where turns are left, whether the condition holds
abbrev pub turn_code : Target → (ℕ → ℕ) → ℕ → Term → Pieces
turn_code target parts n condition =
    straight (load_slot n ∷ [])
    (either (nonzero 10) (followed (term_code target parts 10 condition) (only (truth_code 10))) no_pieces no_pieces)

-- a parameter's place below x2, which is where the callee's frame of so many bytes has it
abbrev pub argument_slot : ℕ → ℕ → ℤ
argument_slot frame j = negsuc (frame - 4 - 4 * j - 1)

abbrev pub store_argument : ℕ → ℕ → Instr
store_argument frame j = Store Sw 2 10 (argument_slot frame j)

-- the arguments from number j on
abbrev pub argument_code : Target → (ℕ → ℕ) → ℕ → ℕ → List Term → Pieces
argument_code target parts frame j [] = no_pieces
argument_code target parts frame j (e ∷ es) =
    followed (term_code target parts 10 e) (straight (store_argument frame j ∷ []) (argument_code target parts frame (j + 1) es))

-- a result to its target
abbrev pub target_code : Option ℕ → Pieces → Pieces
target_code None rest = rest
target_code (Some k) rest = straight (store_slot k ∷ []) rest

-- steps whose counters are the slots from n on
abbrev pub steps_code : Parts → ℕ → Steps → Pieces
steps_code parts n NoSteps = no_pieces
steps_code parts n (SetLocal at k value rest) =
    followed (term_code parts.target parts.global 10 value) (straight (store_slot k ∷ []) (steps_code parts n rest))
steps_code parts n (SetScalar at g ty value rest) =
    followed (term_code parts.target parts.global 10 value) (scalar_store (parts.global g) ty (steps_code parts n rest))
steps_code parts n (SetElement at g ty index value rest) =
    followed (term_code parts.target parts.global 10 value) (followed (term_code parts.target parts.global 11 index) (element_store (parts.global g) ty (steps_code parts n rest)))
steps_code parts n (Output at value rest) =
    followed (term_code parts.target parts.global 10 value) (straight (PmOut 10 ∷ []) (steps_code parts n rest))
steps_code parts n (Input at k rest) = straight (PmIn 10 ∷ store_slot k ∷ []) (steps_code parts n rest)
steps_code parts n (If at condition taken other rest) =
    followed (term_code parts.target parts.global 10 condition)
    (either (nonzero 10) (steps_code parts n taken) (steps_code parts (n + counters_in taken) other)
    (steps_code parts (n + counters_in taken + counters_in other) rest))
steps_code parts n (For at k low closed high step turns body rest) =
    followed (term_code parts.target parts.global 10 low) (straight (store_slot k ∷ [])
    (repeat turns (straight (load_slot k ∷ []) (term_code parts.target parts.global 11 high)) (bound_test closed)
    (followed (steps_code parts n body) (only (step_code k step)))
    (steps_code parts (n + counters_in body) rest)))
steps_code parts n (While at turns condition body rest) =
    straight (constant 10 turns) (straight (store_slot n ∷ [])
    (repeat turns (turn_code parts.target parts.global n condition) (nonzero 10)
    (straight (count_code n) (steps_code parts (n + 1) body))
    (steps_code parts (n + 1 + counters_in body) rest)))
steps_code parts n (Call at target f arguments rest) =
    followed (argument_code parts.target parts.global (parts.frame f) 0 arguments)
    (call_to (parts.link f) (parts.callee f) (target_code target (steps_code parts n rest)))

-- ---- functions

-- the frame is taken, and the return address kept
abbrev pub opening : ℕ → List Instr
opening frame = OpImm Add 2 2 (negsuc (frame - 1)) ∷ Store Sw 2 1 (pos 0) ∷ []

-- the frame is given back
abbrev pub closing : ℕ → List Instr
closing frame = Load Lw 1 2 (pos 0) ∷ OpImm Add 2 2 (pos frame) ∷ Jalr 0 1 (pos 0) ∷ []

-- the locals from slot k on, each with its initialiser
abbrev pub declare_code : Target → (ℕ → ℕ) → ℕ → List Term → Pieces
declare_code target parts k [] = no_pieces
declare_code target parts k (e ∷ es) = followed (term_code target parts 10 e) (straight (store_slot k ∷ []) (declare_code target parts (k + 1) es))

abbrev pub result_code : Target → (ℕ → ℕ) → Option Term → Pieces
result_code target parts None = no_pieces
result_code target parts (Some e) = term_code target parts 10 e

abbrev pub function_code : Parts → Routine → Pieces
function_code parts f =
    straight (opening (frame_of f))
    (followed (declare_code parts.target parts.global (length f.text.params) f.locals)
    (followed (steps_code parts (locals_of f) f.body)
    (followed (result_code parts.target parts.global f.result) (only (closing (frame_of f))))))
