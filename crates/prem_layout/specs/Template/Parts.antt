-- The numbers of a task's parts among themselves: the start, the code of each function, the stub of each marked one, the
-- globals, the stack; and the code of its functions.
use Rattle.std.specs.Prelude.{ℕ, zero, suc, ◌+◌, Bool, false, if◌then◌else◌, List, [], ◌∷◌, length, slice_get, unwrap_or, option_map}
use Rattle.prem_layout.specs.Prelude.{Pieces, Target, Routine, is_marked}
use Rattle.prem_layout.specs.Template.Frames.{frame_at}
use Rattle.prem_layout.specs.Template.Steps.{Parts, function_code}

abbrev pub marked_count : List Routine → ℕ
marked_count [] = 0
marked_count (f ∷ fs) = (if is_marked f then 1 else 0) + marked_count fs

-- the marked ones of the first n
abbrev pub marked_before : ℕ → List Routine → ℕ
marked_before zero fs = 0
marked_before (suc n) [] = 0
marked_before (suc n) (f ∷ fs) = (if is_marked f then 1 else 0) + marked_before n fs

abbrev pub is_marked_at : List Routine → ℕ → Bool
is_marked_at routines n = unwrap_or (option_map is_marked (slice_get routines n)) false

abbrev pub code_part : ℕ → ℕ
code_part f = 1 + f

abbrev pub stub_part : List Routine → ℕ → ℕ
stub_part routines f = 1 + length routines + marked_before f routines

abbrev pub global_part : List Routine → ℕ → ℕ
global_part routines g = 1 + length routines + marked_count routines + g

abbrev pub parts_of : Target → List Routine → Parts
parts_of target routines = record {
  target = target;
  global = global_part routines;
  frame = frame_at routines;
  link = λ f. if is_marked_at routines f then 4 else 1;
  callee = λ f. if is_marked_at routines f then stub_part routines f else code_part f;
}

-- ---- the code of functions

-- in their order
abbrev pub codes_of : Parts → List Routine → List Pieces
codes_of parts [] = []
codes_of parts (f ∷ fs) = function_code parts f ∷ codes_of parts fs
