-- Resolved steps have the BOUNDED loops of their statements.
use Rattle.std.specs.Int.{next_multiple_of}
use Rattle.std.specs.Option.{option_map}
use Rattle.std.proofs.Common.{◌≡◌, ℕ, ◌+◌, ◌*◌, List, [], ◌∷◌, length, Option, None, Some, refl, ap, arith, map}
use Rattle.prem_syntax.specs.declared.tree.Place.{Place}
use Rattle.prem_syntax.specs.declared.meaning.Meaning.{Meaning}
use Rattle.prem_syntax.specs.declared.meaning.Meaning.TheVariants.{Nothing, Local as LocalName, Scalar as ScalarName, Array as ArrayName, Function as FunctionName}
use Rattle.prem_syntax.specs.Syntax.{Statement, block, if_then, if_else, bounded_while, counting_for, assign, output, input, call, Statements, no_statements, next_statement, LocalVariable}
use Rattle.prem_syntax.specs.Resolve.{Scope, meaning_of, set_steps, input_steps, call_steps, target_of, number_named, loops_in, declared, scope_at, scope_in, resolve_term}
use Rattle.prem_syntax.specs.Resolve.{resolve_statement, resolve_statements, resolve_locals}
use Rattle.prem_syntax.specs.Resolved.{Term, Steps, Done}
use Rattle.prem_layout.specs.Template.Frames.{counters_in}
use Rattle.prem_gen.specs.Frame.Bounded.{bounded_in, bounded_among, FramesAreByText}

set_counters : (at : Place) (m : Meaning) (index : Option Term) (value : Term) (rest : Steps) → counters_in (set_steps at m index value rest) ≡ 0 + counters_in rest
set_counters at (LocalName number ty) None value rest = omega arith
set_counters at (ScalarName number ty) None value rest = omega arith
set_counters at (ArrayName number ty len) None value rest = omega arith
set_counters at (FunctionName number) None value rest = omega arith
set_counters at Nothing None value rest = omega arith
set_counters at (LocalName number ty) (Some i) value rest = omega arith
set_counters at (ScalarName number ty) (Some i) value rest = omega arith
set_counters at (ArrayName number ty len) (Some i) value rest = omega arith
set_counters at (FunctionName number) (Some i) value rest = omega arith
set_counters at Nothing (Some i) value rest = omega arith

input_counters : (at : Place) (m : Meaning) (rest : Steps) → counters_in (input_steps at m rest) ≡ 0 + counters_in rest
input_counters at (LocalName number ty) rest = omega arith
input_counters at (ScalarName number ty) rest = omega arith
input_counters at (ArrayName number ty len) rest = omega arith
input_counters at (FunctionName number) rest = omega arith
input_counters at Nothing rest = omega arith

call_counters : (at : Place) (target f : Option ℕ) (arguments : List Term) (rest : Steps) → counters_in (call_steps at target f arguments rest) ≡ 0 + counters_in rest
call_counters at target None arguments rest = omega arith
call_counters at target (Some f) arguments rest = omega arith

mutual
  counters_resolved : (scope : Scope) (turns : ℕ → ℕ) (n : ℕ) (s : Statement) (rest : Steps) →
      counters_in (resolve_statement scope turns n s rest) ≡ bounded_in s + counters_in rest
  counters_resolved scope turns n (block at body) rest = counters_among scope turns n body rest
  counters_resolved scope turns n (if_then at condition taken) rest = omega (arith, counters_resolved scope turns n taken Done)
  counters_resolved scope turns n (if_else at condition taken other) rest =
      omega (arith, counters_resolved scope turns n taken Done, counters_resolved scope turns (n + loops_in taken) other Done)
  counters_resolved scope turns n (bounded_while at most condition body) rest = omega (arith, counters_resolved scope turns n body Done)
  counters_resolved scope turns n (counting_for at names low closed high step body) rest = omega (arith, counters_resolved scope turns (n + 1) body Done)
  counters_resolved scope turns n (assign at name index value) rest =
      set_counters at (meaning_of scope name) (option_map (resolve_term scope) index) (resolve_term scope value) rest
  counters_resolved scope turns n (output at value) rest = omega arith
  counters_resolved scope turns n (input at name) rest = input_counters at (meaning_of scope name) rest
  counters_resolved scope turns n (call at target callee arguments) rest =
      call_counters at (target_of scope target) (number_named scope.functions callee) (map (resolve_term scope) arguments) rest

  counters_among : (scope : Scope) (turns : ℕ → ℕ) (n : ℕ) (ss : Statements) (rest : Steps) →
      counters_in (resolve_statements scope turns n ss rest) ≡ bounded_among ss + counters_in rest
  counters_among scope turns n no_statements rest = omega arith
  counters_among scope turns n (next_statement first others) rest =
      omega (arith, counters_resolved scope turns n first (resolve_statements scope turns (n + loops_in first) others rest), counters_among scope turns (n + loops_in first) others rest)

pub locals_resolved : (scope : Scope) (ls : List LocalVariable) → length (resolve_locals scope ls) ≡ length ls
locals_resolved scope [] = refl
locals_resolved scope (l ∷ ls) = omega (arith, locals_resolved (declared scope l) ls)

pub frames_are_by_text : FramesAreByText
frames_are_by_text functions turns n globals f =
    let body : counters_in (resolve_statements (scope_in functions globals f) turns n f.body Done) ≡ bounded_among f.body + 0 = counters_among (scope_in functions globals f) turns n f.body Done in
    let locals : length (resolve_locals (scope_at functions globals f) f.locals) ≡ length f.locals = locals_resolved (scope_at functions globals f) f.locals in
    let sum : length f.params + length (resolve_locals (scope_at functions globals f) f.locals) + counters_in
    (resolve_statements (scope_in functions globals f) turns n f.body Done) ≡ length f.params + length f.locals + bounded_among f.body =
    omega (arith, body, locals) in
    ap (λ s. next_multiple_of (4 + 4 * s) 16) sum
