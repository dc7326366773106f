-- What statements and calls of functions do.
use Rattle.std.specs.Prelude.{ℕ, zero, suc, ◌+◌, ◌%◌, ◌^◌, ◌==◌, ℤ, pos, ◌+ℤ◌, int_lt, Bool, true, false, not, if◌then◌else◌, List, [], ◌∷◌, ◌++◌, slice_index, slice_set, is_some}
use Rattle.std.specs.Prelude.{Option, None, Some, Ok, Err}
use Rattle.std.specs.Int.{w8, w16, cast_signed}
use Rattle.prem_word.specs.declared.kind.Kind.TheVariants.{Int}
use Rattle.prem_word.specs.Words.{value_in, word_of}
use Rattle.prem_syntax.specs.declared.tree.Ty.{Ty}
use Rattle.prem_syntax.specs.declared.tree.Ty.TheVariants.{Short, Ushort, Schar, Uchar}
use Rattle.prem_syntax.specs.Resolved.{Term, Steps, Done, SetLocal, SetScalar, SetElement, Output, Input, If, For, While, Call, Routine}
use Rattle.prem_syntax.specs.Expressions.{Outcome, and_then, Access, words_of, cell, or_wrong, eval, eval_all}

-- a call of a marked function, with the globals before and after it
pub record MarkedCall : Type 0 where
  pub function : ℕ
  pub before : List (List ℕ)
  pub after : List (List ℕ)

pub record ProgramState : Type 0 where
  pub globals : List (List ℕ)  -- the words of each, in the order of the text
  pub locals : List ℕ  -- of the function at work: parameters, then locals
  pub inputs : List ℕ  -- that are left
  pub used : ℕ  -- number of inputs taken
  pub outputs : List ℕ
  pub marks : List MarkedCall

-- what a call does: the function's access, its number, the arguments; it gives the result and the caller's state behind it
abbrev pub Calls : Type 0
Calls = Access → ℕ → List ℕ → ProgramState → Outcome (ℕ × ProgramState)

-- one of two ways on
abbrev pub choose : Bool → (ProgramState → Outcome ProgramState) → (ProgramState → Outcome ProgramState) → ProgramState → Outcome ProgramState
choose true taken other s = taken s
choose false taken other s = other s

abbrev pub value : Access → ProgramState → Term → Outcome ℕ
value may s e = eval may s.globals s.locals e

abbrev pub values : Access → ProgramState → List Term → Outcome (List ℕ)
values may s es = eval_all may s.globals s.locals es

abbrev pub with_local : ℕ → ℕ → ProgramState → ProgramState
with_local k w s = record s { locals = slice_set s.locals k w }

-- a store keeps the low bits that fit the type, and the element is held as its promoted word
abbrev pub stored : Ty → ℕ → ℕ
stored Short w = word_of (cast_signed w16 (w % 2 ^ 16))
stored Ushort w = w % 2 ^ 16
stored Schar w = word_of (cast_signed w8 (w % 2 ^ 8))
stored Uchar w = w % 2 ^ 8
stored ty w = w

abbrev pub with_cell : ℕ → ℕ → ℕ → ProgramState → ProgramState
with_cell g j w s = record s { globals = slice_set s.globals g (slice_set (words_of s.globals g) j w) }

-- a store to an element, which has to be there
abbrev pub store : Access → ℕ → Ty → ℕ → ℕ → ℕ → ProgramState → Outcome ProgramState
store may line ty g j w s = and_then (or_wrong line (cell may s.globals g j)) (λ old. Ok (with_cell g j (stored ty w) s))

abbrev pub with_output : ℕ → ProgramState → ProgramState
with_output w s = record s { outputs = s.outputs ++ w ∷ [] }

-- the next input to a local; 0 behind the last one
abbrev pub take_input : ℕ → List ℕ → ProgramState → ProgramState
take_input k [] s = with_local k 0 s
take_input k (w ∷ rest) s = with_local k w (record s { inputs = rest; used = s.used + 1 })

abbrev pub holds : Access → Term → ProgramState → Outcome Bool
holds may condition s = and_then (value may s condition) (λ c. Ok (not (c == 0)))

-- whether i is below a loop's bound, or at it
abbrev pub in_bound : Bool → ℤ → ℤ → Bool
in_bound false i high = int_lt i high
in_bound true i high = not (int_lt high i)

abbrev pub int_local : ℕ → ProgramState → ℤ
int_local k s = value_in Int (slice_index s.locals k)

abbrev pub loop_test : Access → ℕ → Bool → Term → ProgramState → Outcome Bool
loop_test may k closed high s = and_then (value may s high) (λ h. Ok (in_bound closed (int_local k s) (value_in Int h)))

-- i goes on by the step, and is wrong past 2147483647
abbrev pub loop_step : ℕ → ℕ → ℕ → ProgramState → Outcome ProgramState
loop_step line k step s =
    if int_lt (pos 2147483647) (int_local k s +ℤ pos step) then Err line else Ok (with_local k (word_of (int_local k s +ℤ pos step)) s)

-- turns while the test holds; wrong where there would be more than so many
unfoldable pub counting : ℕ → ℕ → (ProgramState → Outcome Bool) → (ProgramState → Outcome ProgramState) → ProgramState → Outcome ProgramState
counting line zero test turn s = and_then (test s) (λ go. choose go (λ t. Err line) Ok s)
counting line (suc n) test turn s = and_then (test s) (λ go. choose go (λ t. and_then (turn t) (counting line n test turn)) Ok s)

-- turns while the test holds, but so many at most; with none left there is no test
unfoldable pub bounded : ℕ → (ProgramState → Outcome Bool) → (ProgramState → Outcome ProgramState) → ProgramState → Outcome ProgramState
bounded zero test turn s = Ok s
bounded (suc n) test turn s = and_then (test s) (λ go. choose go (λ t. and_then (turn t) (bounded n test turn)) Ok s)

abbrev pub with_target : Option ℕ → ℕ → ProgramState → ProgramState
with_target None w s = s
with_target (Some k) w s = with_local k w s

abbrev pub run : Access → Calls → Steps → ProgramState → Outcome ProgramState
run may calls Done s = Ok s
run may calls (SetLocal at k e rest) s = and_then (value may s e) (λ w. run may calls rest (with_local k w s))
run may calls (SetScalar at g ty e rest) s =
    and_then (value may s e) (λ w. and_then (store may at.line ty g 0 w s) (run may calls rest))
run may calls (SetElement at g ty index e rest) s =
    and_then (value may s e) (λ w. and_then (value may s index) (λ j. and_then (store may at.line ty g j w s) (run may calls rest)))
run may calls (Output at e rest) s = and_then (value may s e) (λ w. run may calls rest (with_output w s))
run may calls (Input at k rest) s = run may calls rest (take_input k s.inputs s)
run may calls (If at condition taken other rest) s =
    and_then (holds may condition s) (λ c. and_then (choose c (run may calls taken) (run may calls other) s) (run may calls rest))
run may calls (For at k low closed high step turns body rest) s =
    and_then (value may s low) (λ w.
    and_then (counting at.line turns (loop_test may k closed high) (λ t. and_then (run may calls body t) (loop_step at.line k step)) (with_local k w s)) (run may calls rest))
run may calls (While at turns condition body rest) s =
    and_then (bounded turns (holds may condition) (run may calls body) s) (run may calls rest)
run may calls (Call at target f arguments rest) s =
    and_then (values may s arguments) (λ ws. and_then (calls may f ws s) (λ r. run may calls rest (with_target target r.0 r.1)))

abbrev pub with_new_local : ℕ → ProgramState → ProgramState
with_new_local w s = record s { locals = s.locals ++ w ∷ [] }

-- the locals, each with the value of its initialiser
abbrev pub declare : Access → List Term → ProgramState → Outcome ProgramState
declare may [] s = Ok s
declare may (e ∷ es) s = and_then (value may s e) (λ w. declare may es (with_new_local w s))

-- a function without a result gives 0
abbrev pub result_of : Access → Option Term → ProgramState → Outcome ℕ
result_of may None s = Ok 0
result_of may (Some e) s = value may s e

abbrev pub with_mark : Bool → MarkedCall → List MarkedCall → List MarkedCall
with_mark true m ms = ms ++ m ∷ []
with_mark false m ms = ms

abbrev pub is_marked : Routine → Bool
is_marked f = is_some f.text.mark

-- back in the caller, whose state was s: its locals stand, and a marked call is noted
abbrev pub leave : Routine → ℕ → ProgramState → ProgramState → ProgramState
leave f n s t = record t {
  locals = s.locals;
  marks = with_mark (is_marked f) (record { function = n; before = s.globals; after = t.globals }) t.marks;
}

-- parameters and locals are new at each call
abbrev pub enter : Calls → Access → Routine → ℕ → List ℕ → ProgramState → Outcome (ℕ × ProgramState)
enter calls may f n ws s =
    and_then (declare may f.locals (record s { locals = ws })) (λ t.
    and_then (run may calls f.body t) (λ u.
    and_then (result_of may f.result u) (λ w. Ok (w, leave f n s u))))
