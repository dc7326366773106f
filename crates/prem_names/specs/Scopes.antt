-- Scopes, and what is found in them.
use Rattle.std.specs.Prelude.{◌≡◌, ℕ, List, [], ◌∷◌, ◌++◌, map}
use Rattle.std.specs.Borrow.{Bor}
use Rattle.prem_syntax.specs.declared.name.Name.{Name}
use Rattle.prem_syntax.specs.declared.tree.Ty.{Ty}
use Rattle.prem_syntax.specs.declared.tree.Function.{Function}
use Rattle.prem_syntax.specs.declared.tree.Global.{Global}
use Rattle.prem_syntax.specs.Name.{name_bytes}
use Rattle.prem_syntax.specs.Syntax.{Text, GlobalVariable, FunctionText}
use Rattle.prem_syntax.specs.SyntaxOf.{global_of, function_of}
use Rattle.prem_syntax.specs.Resolve.{Scope}

-- what has a name: parameters, then the locals that are declared before, the globals that stand before, and all functions
pub record Known : Type 0 where
  pub locals : List (Bor Name × Ty)
  pub globals : List (Bor Global)
  pub functions : List (Bor Function)

abbrev pub local_of : Bor Name × Ty → Text × Ty
local_of l = (name_bytes l.0.now, l.1)

-- the scope that they are
abbrev pub scope_of : Known → Scope
scope_of n = record {
  locals = map local_of n.locals;
  globals = map (λ g. global_of g.now) n.globals;
  functions = map (λ f. function_of f.now) n.functions;
}

-- the names of parameters and locals
abbrev pub local_texts : Scope → List Text
local_texts scope = map (λ (l : Text × Ty). l.0) scope.locals

-- indexes hold the names
pub record AreIndexed (locals : List (Bor Name × Ty)) (globals : List (Bor Global)) (functions : List (Bor Function)) (local_index global_index function_index : List Text) : Type 0 where
  pub locals_are : local_index ≡ map (λ l. name_bytes l.0.now) locals
  pub globals_are : global_index ≡ map (λ g. name_bytes g.now.name) globals
  pub functions_are : function_index ≡ map (λ f. name_bytes f.now.name) functions

-- ---- what was found under a name, with its number

abbrev pub local_found : ℕ × (Text × Ty) → ℕ × Ty
local_found l = (l.0, l.1.1)

abbrev pub global_found : ℕ × Bor Global → ℕ × GlobalVariable
global_found g = (g.0, global_of g.1.now)

abbrev pub function_found : ℕ × Bor Function → ℕ × FunctionText
function_found f = (f.0, function_of f.1.now)

-- ---- scopes that grow

-- before the first global
abbrev pub first_scope : List FunctionText → Scope
first_scope functions = record { locals = []; globals = []; functions = functions }

abbrev pub with_locals : Scope → List (Text × Ty) → Scope
with_locals scope ls = record scope { locals = scope.locals ++ ls }

abbrev pub without_locals : Scope → Scope
without_locals scope = record scope { locals = [] }

abbrev pub with_global : Scope → GlobalVariable → Scope
with_global scope g = record scope { globals = scope.globals ++ g ∷ [] }

-- the globals and functions of two scopes are the same
pub record SameItems (new old : Scope) : Type 0 where
  pub globals : new.globals ≡ old.globals
  pub functions : new.functions ≡ old.functions
