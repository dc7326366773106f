-- Functions resolved one after another.
use Rattle.std.proofs.Common.{◌≡◌, ℕ, ◌+◌, List, [], ◌∷◌, ◌++◌, refl, ap, ◌∙◌, sym, arith, append_assoc, append-nil}
use Rattle.prem_syntax.specs.Syntax.{GlobalVariable, FunctionText, ProgramText, global_item, function_item}
use Rattle.prem_syntax.specs.Resolve.{Scope, resolve_function, resolve_items, globals_of, loops_within}
use Rattle.prem_names.specs.Scopes.{SameItems}
use Rattle.prem_tree.specs.declared.resolve.resolved.Routine.{Routine as RoutineTree}
use Rattle.prem_tree.specs.Resolve.ResolvedOf.{loops_of, routine_of, routines_of, all_loops, item_loops, IsRoutine, AreRoutines}
use Rattle.prem_tree.specs.Resolve.NamesOf.{AreBehind}

globals_of-append : (xs ys : ProgramText) → globals_of (xs ++ ys) ≡ globals_of xs ++ globals_of ys
globals_of-append [] ys = refl
globals_of-append (global_item g ∷ xs) ys = ap (λ gs. g ∷ gs) (globals_of-append xs ys)
globals_of-append (function_item f ∷ xs) ys = globals_of-append xs ys

item_loops-append : (xs ys : ProgramText) → item_loops (xs ++ ys) ≡ item_loops xs + item_loops ys
item_loops-append [] ys = omega arith
item_loops-append (global_item g ∷ xs) ys = item_loops-append xs ys
item_loops-append (function_item f ∷ xs) ys = ap (λ k. loops_within f.body + k) (item_loops-append xs ys) ∙ omega arith

resolve_items-append : (fs : List FunctionText) (turns : ℕ → ℕ) (n : ℕ) (gs : List GlobalVariable) (xs ys : ProgramText) →
    resolve_items fs turns n gs (xs ++ ys) ≡ resolve_items fs turns n gs xs ++ resolve_items fs turns (n + item_loops xs) (gs ++ globals_of xs) ys
resolve_items-append fs turns n gs [] ys = rw (append-nil) (ap (λ k. resolve_items fs turns k gs ys) (omega arith))
resolve_items-append fs turns n gs (global_item g ∷ xs) ys =
    resolve_items-append fs turns n (gs ++ g ∷ []) xs ys
    ∙ ap (λ hs. resolve_items fs turns n (gs ++ g ∷ []) xs ++ resolve_items fs turns (n + item_loops xs) hs ys) (append_assoc gs (g ∷ []) (globals_of xs))
resolve_items-append fs turns n gs (function_item f ∷ xs) ys =
    ap (λ rs. resolve_function fs turns n gs f ∷ rs)
    (resolve_items-append fs turns (n + loops_within f.body) gs xs ys
    ∙ ap (λ k. resolve_items fs turns (n + loops_within f.body) gs xs ++ resolve_items fs turns k (gs ++ globals_of xs) ys) (omega arith))

routines_of-append : (turns : ℕ → ℕ) (n : ℕ) (rs : List RoutineTree) (r : RoutineTree) → routines_of turns n (rs ++ r ∷ []) ≡ routines_of turns n rs ++ routine_of turns (n + all_loops rs) r ∷ []
routines_of-append turns n [] r = ap (λ k. routine_of turns k r ∷ []) (omega arith)
routines_of-append turns n (q ∷ qs) r =
    ap (λ rs. routine_of turns n q ∷ rs) (routines_of-append turns (n + loops_of q.body) qs r ∙ ap (λ k. routines_of turns (n + loops_of q.body) qs ++ routine_of turns k r ∷ []) (omega arith))

all_loops-append : (rs : List RoutineTree) (r : RoutineTree) → all_loops (rs ++ r ∷ []) ≡ all_loops rs + loops_of r.body
all_loops-append [] r = omega arith
all_loops-append (q ∷ qs) r = ap (λ k. loops_of q.body + k) (all_loops-append qs r) ∙ omega arith

-- a global adds no function
AreRoutines_global : (rs : List RoutineTree) (fs : List FunctionText) (items : ProgramText) (g : GlobalVariable) → AreRoutines rs fs items → AreRoutines rs fs (items ++ global_item g ∷ [])
AreRoutines_global rs fs items g h = record {
  same = λ turns n. h.same turns n ∙ sym (resolve_items-append fs turns n [] items (global_item g ∷ []) ∙ append-nil (resolve_items fs turns n [] items));
  counted = h.counted ∙ rw (item_loops-append) (omega arith);
}

-- a function adds itself, behind the globals before it
AreRoutines_function : (rs : List RoutineTree) (r : RoutineTree) (fs : List FunctionText) (items : ProgramText) (f : FunctionText) →
    AreRoutines rs fs items → IsRoutine r fs (globals_of items) f → AreRoutines (rs ++ r ∷ []) fs (items ++ function_item f ∷ [])
AreRoutines_function rs r fs items f hs h = record {
  same = λ turns n.
      routines_of-append turns n rs r ∙ rw (hs.same turns n, h.same turns (n + all_loops rs), hs.counted) (sym (resolve_items-append fs turns n [] items (function_item f ∷ [])));
  counted = all_loops-append rs r ∙ rw (item_loops-append, hs.counted, h.counted) (omega arith);
}

-- behind one more global, and behind one more function
pub AreBehind_global : (old new : Scope) (rs qs : List RoutineTree) (fs : List FunctionText) (items : ProgramText) (g : GlobalVariable) →
    new.functions ≡ old.functions → new.globals ≡ old.globals ++ g ∷ [] → qs ≡ rs → AreBehind old rs fs items → AreBehind new qs fs (items ++ global_item g ∷ [])
AreBehind_global old new rs qs fs items g ef eg er h = record {
  functions_are = ef ∙ h.functions_are;
  globals_are = eg ∙ ap (λ gs. gs ++ g ∷ []) h.globals_are ∙ sym (globals_of-append items (global_item g ∷ []));
  routines_are = rw er (AreRoutines_global rs fs items g h.routines_are);
}

pub AreBehind_function : (old new : Scope) (rs qs : List RoutineTree) (r : RoutineTree) (fs : List FunctionText) (items : ProgramText) (f : FunctionText) →
    SameItems new old → qs ≡ rs ++ r ∷ [] → IsRoutine r old.functions old.globals f → AreBehind old rs fs items → AreBehind new qs fs (items ++ function_item f ∷ [])
AreBehind_function old new rs qs r fs items f es er hr h = record {
  functions_are = es.functions ∙ h.functions_are;
  globals_are = es.globals ∙ h.globals_are ∙ sym (append-nil (globals_of items)) ∙ sym (globals_of-append items (function_item f ∷ []));
  routines_are = rw er (AreRoutines_function rs r fs items f h.routines_are (rw (h.functions_are, h.globals_are) at hr));
}
