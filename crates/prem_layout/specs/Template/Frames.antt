-- Frames of functions, and the stack.
use Rattle.std.specs.Prelude.{ℕ, zero, suc, ◌+◌, ◌*◌, ◌==◌, max, List, [], ◌∷◌, length, slice_get, Option, None, Some, if◌then◌else◌}
use Rattle.prem_layout.specs.Prelude.{Steps, Done, SetLocal, SetScalar, SetElement, Output, Input, If, For, While, Call, Routine, Resolved, is_marked, next_multiple_of}

-- ---- the frame of a function

-- the BOUNDED loops in steps, each of which has a counter
abbrev pub counters_in : Steps → ℕ
counters_in Done = 0
counters_in (SetLocal at number value rest) = counters_in rest
counters_in (SetScalar at global ty value rest) = counters_in rest
counters_in (SetElement at global ty index value rest) = counters_in rest
counters_in (Output at value rest) = counters_in rest
counters_in (Input at number rest) = counters_in rest
counters_in (If at condition taken other rest) = counters_in taken + counters_in other + counters_in rest
counters_in (For at number low closed high step turns body rest) = counters_in body + counters_in rest
counters_in (While at turns condition body rest) = 1 + counters_in body + counters_in rest
counters_in (Call at target callee arguments rest) = counters_in rest

-- parameters and locals
abbrev pub locals_of : Routine → ℕ
locals_of f = length f.text.params + length f.locals

-- the words behind the return address: parameters, locals, counters
abbrev pub slots_of : Routine → ℕ
slots_of f = locals_of f + counters_in f.body

-- bytes
abbrev pub frame_of : Routine → ℕ
frame_of f = next_multiple_of (4 + 4 * slots_of f) 16

abbrev pub frame_if_there : Option Routine → ℕ
frame_if_there None = 0
frame_if_there (Some f) = frame_of f

abbrev pub frame_at : List Routine → ℕ → ℕ
frame_at routines n = frame_if_there (slice_get routines n)

-- ---- the depth of a function: its frame, and the greatest depth of those that it calls

-- the greatest of what the callees in steps have
abbrev pub deepest : (ℕ → ℕ) → Steps → ℕ
deepest depth Done = 0
deepest depth (SetLocal at number value rest) = deepest depth rest
deepest depth (SetScalar at global ty value rest) = deepest depth rest
deepest depth (SetElement at global ty index value rest) = deepest depth rest
deepest depth (Output at value rest) = deepest depth rest
deepest depth (Input at number rest) = deepest depth rest
deepest depth (If at condition taken other rest) = max (max (deepest depth taken) (deepest depth other)) (deepest depth rest)
deepest depth (For at number low closed high step turns body rest) = max (deepest depth body) (deepest depth rest)
deepest depth (While at turns condition body rest) = max (deepest depth body) (deepest depth rest)
deepest depth (Call at target callee arguments rest) = max (depth callee) (deepest depth rest)

abbrev pub depth_if_there : (ℕ → ℕ) → Option Routine → ℕ
depth_if_there depth None = 0
depth_if_there depth (Some f) = frame_of f + deepest depth f.body

-- that of each function below a number; a function calls those before it
abbrev pub depth_below : List Routine → ℕ → ℕ → ℕ
depth_below routines zero f = 0
depth_below routines (suc n) f =
    if f == n then depth_if_there (depth_below routines n) (slice_get routines n) else depth_below routines n f

abbrev pub depth_of : List Routine → ℕ → ℕ
depth_of routines f = depth_below routines (length routines) f

-- ---- the stack of a task

-- the greatest depth of the marked functions among these, which are counted from n on
abbrev pub deepest_marked : (ℕ → ℕ) → ℕ → List Routine → ℕ
deepest_marked depth n [] = 0
deepest_marked depth n (f ∷ fs) = max (if is_marked f then depth n else 0) (deepest_marked depth (n + 1) fs)

abbrev pub deepest_called : (ℕ → ℕ) → Option Routine → ℕ
deepest_called depth None = 0
deepest_called depth (Some f) = deepest depth f.body

-- the frame of `job`, and the greatest depth of its callees and of the marked functions, called or not
abbrev pub stack_size : Resolved → ℕ
stack_size p =
    frame_at p.routines p.job
    + max (deepest_called (depth_of p.routines) (slice_get p.routines p.job)) (deepest_marked (depth_of p.routines) 0 p.routines)
