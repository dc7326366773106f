-- The breaches of a program's rules, in the order of the text.
use Rattle.std.specs.Prelude.{ℕ, ◌+◌, ◌==◌, nat_lt, nat_le, ℤ, pos, neg_ℤ, int_lt, Bool, true, false, not, ◌&&◌, ◌||◌, List, [], ◌∷◌, ◌++◌, length, map, Option, None, Some}
use Rattle.std.specs.Prelude.{is_some, is_none, unwrap_or, codes}
use Rattle.std.specs.List.{list_any, flat_map}
use Rattle.std.specs.Str.{bytes_eq}
use Rattle.prem_word.specs.declared.kind.Kind.{Kind}
use Rattle.prem_word.specs.declared.kind.Kind.TheVariants.{Int, Unsigned}
use Rattle.prem_syntax.specs.declared.tree.Place.{Place}
use Rattle.prem_syntax.specs.declared.tree.Ty.{Ty}
use Rattle.prem_syntax.specs.declared.tree.Ty.TheVariants.{Void as VoidTy, Int as IntTy, Unsigned as UnsignedTy, Short, Ushort, Schar, Uchar}
use Rattle.prem_syntax.specs.declared.rules.Count.TheVariants.{Functions, Globals, Parameters, Regions, Length, Stated}
use Rattle.prem_syntax.specs.declared.rules.TypeRule.TheVariants.{Void, Narrow, Scalar, Initial, Count as CountRule, Target, Return, Marked, Region, Range, Job}
use Rattle.prem_syntax.specs.declared.meaning.Meaning.{Meaning}
use Rattle.prem_syntax.specs.declared.meaning.Meaning.TheVariants.{Nothing, Local as LocalName, Scalar as ScalarName, Array as ArrayName, Function as FunctionName}
use Rattle.prem_syntax.specs.Syntax.{Text, Expression, literal, variable, element, unary, binary, LoopNames, Statement, block, if_then, if_else, bounded_while, counting_for}
use Rattle.prem_syntax.specs.Syntax.{assign, output, input, call, Statements, no_statements, next_statement, Parameter, LocalVariable, RegionText, MarkText, InitialValue, absent}
use Rattle.prem_syntax.specs.Syntax.{one, many, GlobalVariable, FunctionText, ItemText, global_item, function_item, ProgramText}
use Rattle.prem_syntax.specs.Resolve.{Scope, meaning_of, find_global, find_function, kind_of, resolve_term, declared, scope_at, scope_in, globals_of, functions_of}
use Rattle.prem_syntax.specs.Reach.{is_in_set, reached_by}
use Rattle.prem_syntax.specs.Rules.{Rule, Limit, NoJob, Unknown, Twice, OfTypes, CallOrder, MarkedCall, SystemCall, LoopForm, Breach}

abbrev pub if_broken : Bool → Option Place → Rule → List Breach
if_broken true at rule = record { at = at; rule = rule } ∷ []
if_broken false at rule = []

abbrev pub broken_at : Place → Rule → List Breach
broken_at at rule = record { at = Some at; rule = rule } ∷ []

abbrev pub if_at : Bool → Place → Rule → List Breach
if_at broken at rule = if_broken broken (Some at) rule

abbrev pub is_job_name : Text → Bool
is_job_name name = bytes_eq name (codes "job")

-- ---- names

-- a name that stands for nothing
abbrev pub unknown : Place → Text → Meaning → List Breach
unknown at name Nothing = broken_at at (Unknown name)
unknown at name m = []

-- without an index there is no array and no function
abbrev pub used_plain : Place → Meaning → List Breach
used_plain at (ArrayName number ty n) = broken_at at (OfTypes Scalar)
used_plain at (FunctionName number) = broken_at at (OfTypes Scalar)
used_plain at m = []

-- an index stands on an array
abbrev pub used_indexed : Place → Meaning → List Breach
used_indexed at (LocalName number ty) = broken_at at (OfTypes Scalar)
used_indexed at (ScalarName number ty) = broken_at at (OfTypes Scalar)
used_indexed at (FunctionName number) = broken_at at (OfTypes Scalar)
used_indexed at m = []

-- ---- expressions

abbrev pub in_expression : Scope → Expression → List Breach
in_expression scope (literal at value kind) = []
in_expression scope (variable at name) = unknown at name (meaning_of scope name) ++ used_plain at (meaning_of scope name)
in_expression scope (element at name index) =
    unknown at name (meaning_of scope name) ++ used_indexed at (meaning_of scope name) ++ in_expression scope index
in_expression scope (unary at op operand) = in_expression scope operand
in_expression scope (binary at op left right) = in_expression scope left ++ in_expression scope right

abbrev pub in_expressions : Scope → List Expression → List Breach
in_expressions scope es = flat_map (in_expression scope) es

-- ---- counting loops

abbrev pub is_int_local : Meaning → Bool
is_int_local (LocalName number IntTy) = true
is_int_local m = false

abbrev pub same_name : LoopNames → Bool
same_name names = bytes_eq names.second names.first && bytes_eq names.third names.first && bytes_eq names.fourth names.first

abbrev pub is_name : Text → Option Text → Bool
is_name name None = false
is_name name (Some other) = bytes_eq other name

-- whether a statement assigns a local: an element of an array is none
abbrev mutual
  pub assigns : Text → Statement → Bool
  assigns name (block at body) = assigns_within name body
  assigns name (if_then at condition taken) = assigns name taken
  assigns name (if_else at condition taken other) = assigns name taken || assigns name other
  assigns name (bounded_while at turns condition body) = assigns name body
  assigns name (counting_for at names low closed high step body) = bytes_eq names.first name || assigns name body
  assigns name (assign at other index value) = is_none index && bytes_eq other name
  assigns name (output at value) = false
  assigns name (input at other) = bytes_eq other name
  assigns name (call at target callee arguments) = is_name name target

  pub assigns_within : Text → Statements → Bool
  assigns_within name no_statements = false
  assigns_within name (next_statement first rest) = assigns name first || assigns_within name rest

abbrev pub is_int : Kind → Bool
is_int Int = true
is_int Unsigned = false

abbrev pub is_between : ℕ → ℕ → ℕ → Bool
is_between low high n = nat_le low n && nat_le n high

-- one int local or parameter that the body leaves alone, ints as bounds, a step of 1 to 2047
abbrev pub is_loop : Scope → LoopNames → Expression → Expression → ℕ → Statement → Bool
is_loop scope names low high step body =
    same_name names && is_int_local (meaning_of scope names.first) && not (assigns names.first body) && is_int (kind_of (resolve_term scope low)) && is_int (kind_of (resolve_term scope high))
    && is_between 1 2047 step

-- ---- calls

-- the functions that a statement calls, by number
abbrev pub callee_number : Option (ℕ × FunctionText) → List ℕ
callee_number None = []
callee_number (Some f) = f.0 ∷ []

abbrev mutual
  pub callees : List FunctionText → Statement → List ℕ
  callees fs (block at body) = callees_within fs body
  callees fs (if_then at condition taken) = callees fs taken
  callees fs (if_else at condition taken other) = callees fs taken ++ callees fs other
  callees fs (bounded_while at turns condition body) = callees fs body
  callees fs (counting_for at names low closed high step body) = callees fs body
  callees fs (assign at name index value) = []
  callees fs (output at value) = []
  callees fs (input at name) = []
  callees fs (call at target callee arguments) = callee_number (find_function fs callee)

  pub callees_within : List FunctionText → Statements → List ℕ
  callees_within fs no_statements = []
  callees_within fs (next_statement first rest) = callees fs first ++ callees_within fs rest

abbrev pub is_marked_text : FunctionText → Bool
is_marked_text f = is_some f.mark

-- the callees of each function
abbrev pub table_of : List FunctionText → List (List ℕ)
table_of fs = map (λ (f : FunctionText). callees_within fs f.body) fs

-- the marked functions, and all that they reach: no chain of calls needs a function twice
abbrev pub reached : List FunctionText → List Bool
reached fs = reached_by (table_of fs) (map is_marked_text fs) (length fs)

-- ---- statements

-- where a statement stands: the names there, its function's number, whether that is `job`, and whether it is marked or reached from a marked one
pub record Around : Type 0 where
  pub scope : Scope
  pub number : ℕ
  pub is_job : Bool
  pub is_within_marked : Bool

abbrev pub is_void : Ty → Bool
is_void VoidTy = true
is_void ty = false

abbrev pub is_local : Meaning → Bool
is_local (LocalName number ty) = true
is_local m = false

-- the target of a call or of `in()`
abbrev pub in_target : Place → Scope → Text → List Breach
in_target at scope name = unknown at name (meaning_of scope name) ++ if_at (not (is_local (meaning_of scope name))) at (OfTypes Target)

abbrev pub in_call_target : Place → Scope → Option Text → List Breach
in_call_target at scope None = []
in_call_target at scope (Some name) = in_target at scope name

-- a callee: it is there, it stands before, only `job` calls a marked one, a void one has no target, and each parameter has an argument
abbrev pub in_callee : Place → Around → Text → Bool → ℕ → Option (ℕ × FunctionText) → List Breach
in_callee at around callee has_target arguments None = broken_at at (Unknown callee)
in_callee at around callee has_target arguments (Some f) =
    if_at (not (nat_lt f.0 around.number)) at CallOrder ++ if_at (is_marked_text f.1 && not around.is_job) at MarkedCall ++ if_at (has_target && is_void f.1.ty) at (OfTypes Target)
    ++ if_at (not (length f.1.params == arguments)) at (OfTypes CountRule)

-- a name that is assigned, with or without an index
abbrev pub in_assigned : Place → Text → Meaning → Option Expression → List Breach
in_assigned at name m None = unknown at name m ++ used_plain at m
in_assigned at name m (Some index) = unknown at name m ++ used_indexed at m

abbrev pub in_option : Scope → Option Expression → List Breach
in_option scope None = []
in_option scope (Some e) = in_expression scope e

abbrev pub in_names : Place → Scope → LoopNames → List Breach
in_names at scope names =
    unknown at names.first (meaning_of scope names.first) ++ unknown at names.second (meaning_of scope names.second) ++ unknown at names.third (meaning_of scope names.third)
    ++ unknown at names.fourth (meaning_of scope names.fourth)

abbrev mutual
  pub in_statement : Around → Statement → List Breach
  in_statement around (block at body) = in_statements around body
  in_statement around (if_then at condition taken) = in_expression around.scope condition ++ in_statement around taken
  in_statement around (if_else at condition taken other) =
      in_expression around.scope condition ++ in_statement around taken ++ in_statement around other
  in_statement around (bounded_while at turns condition body) =
      if_at (not (is_between 1 1048576 turns)) at LoopForm ++ in_expression around.scope condition ++ in_statement around body
  in_statement around (counting_for at names low closed high step body) =
      in_names at around.scope names ++ if_at (not (is_loop around.scope names low high step body)) at LoopForm ++ in_expression around.scope low ++ in_expression around.scope high
      ++ in_statement around body
  in_statement around (assign at name index value) =
      in_assigned at name (meaning_of around.scope name) index ++ in_option around.scope index ++ in_expression around.scope value
  in_statement around (output at value) = if_at around.is_within_marked at SystemCall ++ in_expression around.scope value
  in_statement around (input at name) = in_target at around.scope name ++ if_at around.is_within_marked at SystemCall
  in_statement around (call at target callee arguments) =
      in_call_target at around.scope target ++ in_callee at around callee (is_some target) (length arguments) (find_function around.scope.functions callee)
      ++ in_expressions around.scope arguments

  pub in_statements : Around → Statements → List Breach
  in_statements around no_statements = []
  in_statements around (next_statement first rest) = in_statement around first ++ in_statements around rest

-- ---- declarations

abbrev pub has_name : List Text → Text → Bool
has_name names name = list_any (λ other. bytes_eq other name) names

abbrev pub is_narrow : Ty → Bool
is_narrow Short = true
is_narrow Ushort = true
is_narrow Schar = true
is_narrow Uchar = true
is_narrow ty = false

-- from -low to high
abbrev pub is_from : ℕ → ℕ → ℤ → Bool
is_from low high z = not (int_lt z (neg_ℤ (pos low))) && not (int_lt (pos high) z)

abbrev pub fits_type : Ty → ℤ → Bool
fits_type VoidTy z = false
fits_type IntTy z = is_from 2147483648 2147483647 z
fits_type UnsignedTy z = is_from 0 4294967295 z
fits_type Short z = is_from 32768 32767 z
fits_type Ushort z = is_from 0 65535 z
fits_type Schar z = is_from 128 127 z
fits_type Uchar z = is_from 0 255 z

abbrev pub is_range : Ty → Option (ℤ × ℤ) → Bool
is_range ty None = true
is_range ty (Some r) = not (int_lt r.1 r.0) && fits_type ty r.0 && fits_type ty r.1

-- a parameter or local: its type, and its name among those of its function and of all items
abbrev pub in_declared : List Text → Place → Ty → Text → List Breach
in_declared taken at ty name =
    if_at (has_name taken name) at (Twice name) ++ if_at (is_void ty) at (OfTypes Void) ++ if_at (is_narrow ty) at (OfTypes Narrow)

abbrev pub in_parameters : List Text → List Parameter → List Breach
in_parameters taken [] = []
in_parameters taken (p ∷ ps) =
    in_declared taken p.at p.ty p.name ++ if_at (not (is_range p.ty p.range)) p.at (OfTypes Range) ++ in_parameters (taken ++ p.name ∷ []) ps

abbrev pub in_locals : List Text → Scope → List LocalVariable → List Breach
in_locals taken scope [] = []
in_locals taken scope (l ∷ ls) =
    in_declared taken l.at l.ty l.name ++ in_expression scope l.value ++ in_locals (taken ++ l.name ∷ []) (declared scope l) ls

-- a region's global stands before, and holds its elements
abbrev pub in_region : RegionText → Option (ℕ × GlobalVariable) → List Breach
in_region r None = broken_at r.at (Unknown r.name)
in_region r (Some g) = if_at (nat_lt r.high r.low || nat_le (unwrap_or g.1.len 1) r.high) r.at (OfTypes Region)

abbrev pub in_regions : Scope → List RegionText → List Breach
in_regions scope rs = flat_map (λ (r : RegionText). in_region r (find_global scope r.name)) rs

abbrev pub regions_of : Option MarkText → List RegionText
regions_of None = []
regions_of (Some m) = m.regions

-- what is said of a function at its name
abbrev pub in_heading : List Text → FunctionText → List Breach
in_heading earlier f =
    if_at (has_name earlier f.name) f.at (Twice f.name) ++ if_at (is_narrow f.ty) f.at (OfTypes Narrow)
    ++ if_at ((is_void f.ty && is_some f.result) || (not (is_void f.ty) && is_none f.result)) f.at (OfTypes Return)
    ++ if_at (is_marked_text f && (not (is_void f.ty) || is_job_name f.name)) f.at (OfTypes Marked) ++ if_at (is_job_name f.name && not (is_void f.ty && length f.params == 0)) f.at (OfTypes Job)

abbrev pub parameter_texts : List Parameter → List Text
parameter_texts ps = map (λ (p : Parameter). p.name) ps

abbrev pub around : Scope → ℕ → Bool → FunctionText → Around
around scope n within f = record { scope = scope; number = n; is_job = is_job_name f.name; is_within_marked = within }

-- the n-th function, behind globals and names of items; `taken` has the names of all items
abbrev pub in_function : List FunctionText → List Text → ℕ → Bool → List GlobalVariable → List Text → FunctionText → List Breach
in_function fs taken n within globals earlier f =
    in_regions (scope_at fs globals f) (regions_of f.mark) ++ in_heading earlier f ++ in_parameters taken f.params
    ++ in_locals (taken ++ parameter_texts f.params) (scope_at fs globals f) f.locals ++ in_statements (around (scope_in fs globals f) n within f) f.body
    ++ in_option (scope_in fs globals f) f.result

-- constants in a list for an array, no more than it has elements; one for a scalar
abbrev pub is_initial : Option ℕ → InitialValue → Bool
is_initial len absent = true
is_initial None (one z) = true
is_initial None (many zs) = false
is_initial (Some n) (one z) = false
is_initial (Some n) (many zs) = nat_le (length zs) n

abbrev pub in_global : List Text → GlobalVariable → List Breach
in_global earlier g =
    if_at (has_name earlier g.name) g.at (Twice g.name) ++ if_at (is_void g.ty) g.at (OfTypes Void) ++ if_at (not (is_initial g.len g.initial)) g.at (OfTypes Initial)

abbrev pub in_items : List FunctionText → List Text → List Bool → ℕ → List GlobalVariable → List Text → ProgramText → List Breach
in_items fs taken within n globals earlier [] = []
in_items fs taken within n globals earlier (global_item g ∷ items) =
    in_global earlier g ++ in_items fs taken within n (globals ++ g ∷ []) (earlier ++ g.name ∷ []) items
in_items fs taken within n globals earlier (function_item f ∷ items) =
    in_function fs taken n (is_in_set within n) globals earlier f ++ in_items fs taken within (n + 1) globals (earlier ++ f.name ∷ []) items

abbrev pub item_name : ItemText → Text
item_name (global_item g) = g.name
item_name (function_item f) = f.name

abbrev pub item_names : ProgramText → List Text
item_names p = map item_name p

-- ---- the program as a whole

abbrev pub is_stated : Option MarkText → Bool
is_stated None = true
is_stated (Some m) = is_between 1 2147483647 m.stated

abbrev pub is_length : Option ℕ → Bool
is_length None = true
is_length (Some n) = is_between 1 65536 n

abbrev pub in_limits : List GlobalVariable → List FunctionText → List Breach
in_limits gs fs =
    if_broken (nat_lt 256 (length fs)) None (Limit Functions) ++ if_broken (nat_lt 256 (length gs)) None (Limit Globals)
    ++ if_broken (list_any (λ (f : FunctionText). nat_lt 8 (length f.params)) fs) None (Limit Parameters)
    ++ if_broken (list_any (λ (f : FunctionText). nat_lt 32 (length (regions_of f.mark))) fs) None (Limit Regions)
    ++ if_broken (list_any (λ (g : GlobalVariable). not (is_length g.len)) gs) None (Limit Length) ++ if_broken (list_any (λ (f : FunctionText). not (is_stated f.mark)) fs) None (Limit Stated)

abbrev pub breaches : ProgramText → List Breach
breaches p =
    in_limits (globals_of p) (functions_of p) ++ if_broken (not (list_any (λ (f : FunctionText). is_job_name f.name) (functions_of p))) None NoJob
    ++ in_items (functions_of p) (item_names p) (reached (functions_of p)) 0 [] [] p
