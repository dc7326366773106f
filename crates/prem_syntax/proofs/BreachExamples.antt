-- Programs that break a rule, and the first breach, computed by the checker; each stands above its tree in the language's own text.
use Rattle.std.specs.Prelude.{codes, pos, negsuc, replicate}
use Rattle.std.proofs.Common.{◌≡◌, refl, ℕ, [], ◌∷◌, Option, None, Some, false}
use Rattle.prem_word.specs.declared.kind.BinOp.TheVariants.{Add}
use Rattle.prem_syntax.specs.declared.tree.Ty.TheVariants.{Void as VoidTy, Int as IntTy, Unsigned as UnsignedTy, Short, Uchar}
use Rattle.prem_syntax.specs.declared.rules.Count.TheVariants.{Functions, Globals, Parameters, Regions, Length, Stated}
use Rattle.prem_syntax.specs.declared.rules.TypeRule.TheVariants.{Void, Narrow, Scalar, Initial, Count as CountRule, Target, Return, Marked, Region, Range, Job}
use Rattle.prem_syntax.specs.Syntax.{variable, element, binary, block, if_then, bounded_while, counting_for, assign, output, input, call, no_statements, absent, one, many, ProgramText}
use Rattle.prem_syntax.specs.Rules.{Rule, Limit, NoJob, Unknown, Twice, OfTypes, CallOrder, MarkedCall, SystemCall, LoopForm, Breach, first_of}
use Rattle.prem_syntax.specs.Breaches.{in_limits}
use Rattle.prem_syntax.specs.ProgramRules.{first_breach}
use Rattle.prem_syntax.specs.Sums.{job_function}
use Rattle.prem_syntax.proofs.Samples.{at, int, uint, statements, one_name, parameter, local, region, global, function, plain}

-- a rule broken at a line and column, or in the program as a whole
abbrev broken : ℕ → ℕ → Rule → Option Breach
broken line col rule = Some (record { at = Some (at line col); rule = rule })

abbrev broken_whole : Rule → Option Breach
broken_whole rule = Some (record { at = None; rule = rule })

too_many_functions : first_of (in_limits [] (replicate 257 (job_function (at 1 1) no_statements))) ≡ broken_whole (Limit Functions)
too_many_functions = refl

enough_functions : first_of (in_limits [] (replicate 256 (job_function (at 1 1) no_statements))) ≡ None
enough_functions = refl

too_many_globals : first_of (in_limits (replicate 257 (record { at = at 1 5; ty = IntTy; name = codes "g"; len = Some 65536; initial = absent })) []) ≡ broken_whole (Limit Globals)
too_many_globals = refl

--   int g;
--   PREDICTABLE(491) REGION(g, 0, 0) void set(int x RANGE(0, 9)) { g = x; }
--   void job(void) { set(7); out(g); }
whole_program_text : ProgramText
whole_program_text = global (at 1 5) IntTy (codes "g") None absent ∷ function (at 2 39)
    (Some (record { stated = 491; regions = (region (at 2 25) (codes "g") 0 0 ∷ []) })) VoidTy (codes "set")
    (parameter (at 2 47) IntTy (codes "x") (Some (pos 0, pos 9)) ∷ []) []
    (statements ((assign (at 2 64) (codes "g") None (variable (at 2 68) (codes "x"))) ∷ [])) None ∷ plain (at 3 6) (codes "job")
    (statements ((call (at 3 18) None (codes "set") ((int 3 22 7) ∷ [])) ∷ (output (at 3 26) (variable (at 3 30) (codes "g"))) ∷ [])) ∷ []

whole_program : first_breach whole_program_text ≡ None
unfolding whole_program_text first_breach
whole_program = refl

--   int g;
no_job_text : ProgramText
no_job_text = global (at 1 5) IntTy (codes "g") None absent ∷ []

no_job : first_breach no_job_text ≡ broken_whole NoJob
unfolding no_job_text first_breach
no_job = refl

-- a limit comes before all places
--   PREDICTABLE(0) void f(void) { }
--   void job(void) { out(x); }
stated_zero_text : ProgramText
stated_zero_text = function (at 1 21) (Some (record { stated = 0; regions = [] })) VoidTy (codes "f") [] [] no_statements None ∷ plain (at 2 6)
    (codes "job") (statements ((output (at 2 18) (variable (at 2 22) (codes "x"))) ∷ [])) ∷ []

stated_zero : first_breach stated_zero_text ≡ broken_whole (Limit Stated)
unfolding stated_zero_text first_breach
stated_zero = refl

--   int a[0];
length_zero_text : ProgramText
length_zero_text = global (at 1 5) IntTy (codes "a") (Some 0) absent ∷ []

length_zero : first_breach length_zero_text ≡ broken_whole (Limit Length)
unfolding length_zero_text first_breach
length_zero = refl

--   int a[65537];
length_past_text : ProgramText
length_past_text = global (at 1 5) IntTy (codes "a") (Some 65537) absent ∷ []

length_past : first_breach length_past_text ≡ broken_whole (Limit Length)
unfolding length_past_text first_breach
length_past = refl

--   void f(int a, int b, int c, int d, int e, int f, int g, int h, int i) { }
--   void job(void) { }
nine_parameters_text : ProgramText
nine_parameters_text = function (at 1 6) None VoidTy (codes "f")
    (parameter (at 1 12) IntTy (codes "a") None ∷ parameter (at 1 19) IntTy (codes "b") None ∷ parameter (at 1 26) IntTy (codes "c") None ∷ parameter
    (at 1 33) IntTy (codes "d") None ∷ parameter (at 1 40) IntTy (codes "e") None ∷ parameter (at 1 47) IntTy (codes "f") None ∷ parameter (at 1 54)
    IntTy (codes "g") None ∷ parameter (at 1 61) IntTy (codes "h") None ∷ parameter (at 1 68) IntTy (codes "i") None ∷ [])
    [] no_statements None ∷ plain (at 2 6) (codes "job") no_statements ∷ []

nine_parameters : first_breach nine_parameters_text ≡ broken_whole (Limit Parameters)
unfolding nine_parameters_text first_breach
nine_parameters = refl

--   int g;
--   PREDICTABLE(1) REGION(g, 0, 0) REGION(g, 0, 0) REGION(g, 0, 0) REGION(g, 0, 0) REGION(g, 0, 0) REGION(g, 0, 0) REGION(g, 0, 0) REGION(g, 0, 0) REGION(g, 0, 0) REGION(g, 0, 0) REGION(g, 0, 0) REGION(g, 0, 0) REGION(g, 0, 0) REGION(g, 0, 0) REGION(g, 0, 0) REGION(g, 0, 0) REGION(g, 0, 0) REGION(g, 0, 0) REGION(g, 0, 0) REGION(g, 0, 0) REGION(g, 0, 0) REGION(g, 0, 0) REGION(g, 0, 0) REGION(g, 0, 0) REGION(g, 0, 0) REGION(g, 0, 0) REGION(g, 0, 0) REGION(g, 0, 0) REGION(g, 0, 0) REGION(g, 0, 0) REGION(g, 0, 0) REGION(g, 0, 0) REGION(g, 0, 0) void f(void) { }
--   void job(void) { }
regions_past_text : ProgramText
regions_past_text = global (at 1 5) IntTy (codes "g") None absent ∷ function (at 2 549)
    (Some (record {
      stated = 1;
      regions =
          (region (at 2 23) (codes "g") 0 0 ∷ region (at 2 39) (codes "g") 0 0 ∷ region (at 2 55) (codes "g") 0 0 ∷ region (at 2 71) (codes "g")
          0 0 ∷ region (at 2 87) (codes "g") 0 0 ∷ region (at 2 103) (codes "g") 0 0 ∷ region (at 2 119) (codes "g") 0 0 ∷ region (at 2 135) (codes "g")
          0 0 ∷ region (at 2 151) (codes "g") 0 0 ∷ region (at 2 167) (codes "g") 0 0 ∷ region (at 2 183) (codes "g") 0 0 ∷ region (at 2 199) (codes "g")
          0 0 ∷ region (at 2 215) (codes "g") 0 0 ∷ region (at 2 231) (codes "g") 0 0 ∷ region (at 2 247) (codes "g") 0 0 ∷ region (at 2 263) (codes "g")
          0 0 ∷ region (at 2 279) (codes "g") 0 0 ∷ region (at 2 295) (codes "g") 0 0 ∷ region (at 2 311) (codes "g") 0 0 ∷ region (at 2 327) (codes "g")
          0 0 ∷ region (at 2 343) (codes "g") 0 0 ∷ region (at 2 359) (codes "g") 0 0 ∷ region (at 2 375) (codes "g") 0 0 ∷ region (at 2 391) (codes "g")
          0 0 ∷ region (at 2 407) (codes "g") 0 0 ∷ region (at 2 423) (codes "g") 0 0 ∷ region (at 2 439) (codes "g") 0 0 ∷ region (at 2 455) (codes "g")
          0 0 ∷ region (at 2 471) (codes "g") 0 0 ∷ region (at 2 487) (codes "g") 0 0 ∷ region (at 2 503) (codes "g") 0 0 ∷ region (at 2 519) (codes "g")
          0 0 ∷ region (at 2 535) (codes "g") 0 0 ∷ []);
    })) VoidTy (codes "f") [] [] no_statements None ∷ plain (at 3 6) (codes "job") no_statements ∷ []

regions_past : first_breach regions_past_text ≡ broken_whole (Limit Regions)
unfolding regions_past_text first_breach
regions_past = refl

--   void job(void) { out(g); }
--   int g;
global_behind_text : ProgramText
global_behind_text = plain (at 1 6) (codes "job") (statements ((output (at 1 18) (variable (at 1 22) (codes "g"))) ∷ [])) ∷ global (at 2 5) IntTy (codes "g") None absent ∷ []

global_behind : first_breach global_behind_text ≡ broken 1 22 (Unknown (codes "g"))
unfolding global_behind_text first_breach
global_behind = refl

-- a local has its name from behind its own declaration on: void job(void) { int x = x; }
local_in_itself_text : ProgramText
local_in_itself_text = function (at 1 6) None VoidTy (codes "job") [] (local (at 1 22) IntTy (codes "x") (variable (at 1 26) (codes "x")) ∷ []) no_statements None ∷ []

local_in_itself : first_breach local_in_itself_text ≡ broken 1 26 (Unknown (codes "x"))
unfolding local_in_itself_text first_breach
local_in_itself = refl

--   void job(void) { int x = y; int y = 1; }
local_in_earlier_text : ProgramText
local_in_earlier_text = function (at 1 6) None VoidTy (codes "job") []
    (local (at 1 22) IntTy (codes "x") (variable (at 1 26) (codes "y")) ∷ local (at 1 33) IntTy (codes "y") (int 1 37 1) ∷ []) no_statements None ∷ []

local_in_earlier : first_breach local_in_earlier_text ≡ broken 1 26 (Unknown (codes "y"))
unfolding local_in_earlier_text first_breach
local_in_earlier = refl

--   void job(void) {
--     a[b] = 1; }
unknown_element_text : ProgramText
unknown_element_text = plain (at 1 6) (codes "job") (statements ((assign (at 2 3) (codes "a") (Some (variable (at 2 5) (codes "b"))) (int 2 10 1)) ∷ [])) ∷ []

unknown_element : first_breach unknown_element_text ≡ broken 2 3 (Unknown (codes "a"))
unfolding unknown_element_text first_breach
unknown_element = refl

-- at the first token of the statement
--   void job(void) { int x = 1;
--     x = f(x); }
unknown_callee_text : ProgramText
unknown_callee_text = function (at 1 6) None VoidTy (codes "job") [] (local (at 1 22) IntTy (codes "x") (int 1 26 1) ∷ [])
    (statements ((call (at 2 3) (Some (codes "x")) (codes "f") ((variable (at 2 9) (codes "x")) ∷ [])) ∷ [])) None ∷ []

unknown_callee : first_breach unknown_callee_text ≡ broken 2 3 (Unknown (codes "f"))
unfolding unknown_callee_text first_breach
unknown_callee = refl

-- the target stands left of the callee
--   void job(void) {
--     y = f(1); }
unknown_target_text : ProgramText
unknown_target_text = plain (at 1 6) (codes "job") (statements ((call (at 2 3) (Some (codes "y")) (codes "f") ((int 2 9 1) ∷ [])) ∷ [])) ∷ []

unknown_target : first_breach unknown_target_text ≡ broken 2 3 (Unknown (codes "y"))
unfolding unknown_target_text first_breach
unknown_target = refl

--   void job(void) { int i = 0;
--     for (i = u; j < 3; k++) { } }
unknown_loop_name_text : ProgramText
unknown_loop_name_text = function (at 1 6) None VoidTy (codes "job") [] (local (at 1 22) IntTy (codes "i") (int 1 26 0) ∷ [])
    (statements ((counting_for (at 2 3) (record { first = codes "i"; second = codes "j"; third = codes "k"; fourth = codes "k" })
    (variable (at 2 12) (codes "u")) false (int 2 19 3) 1 (block (at 2 27) no_statements)) ∷ [])) None ∷ []

unknown_loop_name : first_breach unknown_loop_name_text ≡ broken 2 3 (Unknown (codes "j"))
unfolding unknown_loop_name_text first_breach
unknown_loop_name = refl

--   void job(void) {
--     y = in(); }
unknown_input_text : ProgramText
unknown_input_text = plain (at 1 6) (codes "job") (statements ((input (at 2 3) (codes "y")) ∷ [])) ∷ []

unknown_input : first_breach unknown_input_text ≡ broken 2 3 (Unknown (codes "y"))
unfolding unknown_input_text first_breach
unknown_input = refl

--   PREDICTABLE(9) REGION(g, 0, 0) void f(void) { }
--   int g;
--   void job(void) { }
unknown_region_text : ProgramText
unknown_region_text = function (at 1 37) (Some (record { stated = 9; regions = (region (at 1 23) (codes "g") 0 0 ∷ []) })) VoidTy (codes "f")
    [] [] no_statements None ∷ global (at 2 5) IntTy (codes "g") None absent ∷ plain (at 3 6) (codes "job") no_statements ∷ []

unknown_region : first_breach unknown_region_text ≡ broken 1 23 (Unknown (codes "g"))
unfolding unknown_region_text first_breach
unknown_region = refl

--   int g;
--   short g;
--   void job(void) { }
global_twice_text : ProgramText
global_twice_text = global (at 1 5) IntTy (codes "g") None absent ∷ global (at 2 7) Short (codes "g") None absent ∷ plain (at 3 6) (codes "job") no_statements ∷ []

global_twice : first_breach global_twice_text ≡ broken 2 7 (Twice (codes "g"))
unfolding global_twice_text first_breach
global_twice = refl

--   int g;
--   void g(void) { }
--   void job(void) { }
function_twice_text : ProgramText
function_twice_text = global (at 1 5) IntTy (codes "g") None absent ∷ plain (at 2 6) (codes "g") no_statements ∷ plain (at 3 6) (codes "job") no_statements ∷ []

function_twice : first_breach function_twice_text ≡ broken 2 6 (Twice (codes "g"))
unfolding function_twice_text first_breach
function_twice = refl

-- also of a later one
--   void f(int job) { }
--   void job(void) { }
parameter_as_function_text : ProgramText
parameter_as_function_text = function (at 1 6) None VoidTy (codes "f") (parameter (at 1 12) IntTy (codes "job") None ∷ []) [] no_statements None ∷ plain (at 2 6) (codes "job") no_statements ∷ []

parameter_as_function : first_breach parameter_as_function_text ≡ broken 1 12 (Twice (codes "job"))
unfolding parameter_as_function_text first_breach
parameter_as_function = refl

--   void f(int x) { int x = 1; }
--   void job(void) { }
local_as_parameter_text : ProgramText
local_as_parameter_text = function (at 1 6) None VoidTy (codes "f") (parameter (at 1 12) IntTy (codes "x") None ∷ [])
    (local (at 1 21) IntTy (codes "x") (int 1 25 1) ∷ []) no_statements None ∷ plain (at 2 6) (codes "job") no_statements ∷ []

local_as_parameter : first_breach local_as_parameter_text ≡ broken 1 21 (Twice (codes "x"))
unfolding local_as_parameter_text first_breach
local_as_parameter = refl

--   void g;
--   void job(void) { }
void_global_text : ProgramText
void_global_text = global (at 1 6) VoidTy (codes "g") None absent ∷ plain (at 2 6) (codes "job") no_statements ∷ []

void_global : first_breach void_global_text ≡ broken 1 6 (OfTypes Void)
unfolding void_global_text first_breach
void_global = refl

--   void f(int x, void y) { }
--   void job(void) { }
void_parameter_text : ProgramText
void_parameter_text = function (at 1 6) None VoidTy (codes "f")
    (parameter (at 1 12) IntTy (codes "x") None ∷ parameter (at 1 20) VoidTy (codes "y") None ∷ []) [] no_statements None ∷ plain (at 2 6)
    (codes "job") no_statements ∷ []

void_parameter : first_breach void_parameter_text ≡ broken 1 20 (OfTypes Void)
unfolding void_parameter_text first_breach
void_parameter = refl

--   void job(void) { void x = 1; }
void_local_text : ProgramText
void_local_text = function (at 1 6) None VoidTy (codes "job") [] (local (at 1 23) VoidTy (codes "x") (int 1 27 1) ∷ []) no_statements None ∷ []

void_local : first_breach void_local_text ≡ broken 1 23 (OfTypes Void)
unfolding void_local_text first_breach
void_local = refl

--   void f(short x) { }
--   void job(void) { }
narrow_parameter_text : ProgramText
narrow_parameter_text = function (at 1 6) None VoidTy (codes "f") (parameter (at 1 14) Short (codes "x") None ∷ []) [] no_statements None ∷ plain (at 2 6) (codes "job") no_statements ∷ []

narrow_parameter : first_breach narrow_parameter_text ≡ broken 1 14 (OfTypes Narrow)
unfolding narrow_parameter_text first_breach
narrow_parameter = refl

--   void job(void) { unsigned char x = 1; }
narrow_local_text : ProgramText
narrow_local_text = function (at 1 6) None VoidTy (codes "job") [] (local (at 1 32) Uchar (codes "x") (int 1 36 1) ∷ []) no_statements None ∷ []

narrow_local : first_breach narrow_local_text ≡ broken 1 32 (OfTypes Narrow)
unfolding narrow_local_text first_breach
narrow_local = refl

--   short f(void) { return 1; }
--   void job(void) { }
narrow_result_text : ProgramText
narrow_result_text = function (at 1 7) None Short (codes "f") [] [] no_statements (Some (int 1 24 1)) ∷ plain (at 2 6) (codes "job") no_statements ∷ []

narrow_result : first_breach narrow_result_text ≡ broken 1 7 (OfTypes Narrow)
unfolding narrow_result_text first_breach
narrow_result = refl

--   int a[2];
--   void job(void) { out(a); }
array_without_index_text : ProgramText
array_without_index_text = global (at 1 5) IntTy (codes "a") (Some 2) absent ∷ plain (at 2 6) (codes "job") (statements ((output (at 2 18) (variable (at 2 22) (codes "a"))) ∷ [])) ∷ []

array_without_index : first_breach array_without_index_text ≡ broken 2 22 (OfTypes Scalar)
unfolding array_without_index_text first_breach
array_without_index = refl

--   int a[2];
--   void job(void) { a = 1; }
array_assigned_text : ProgramText
array_assigned_text = global (at 1 5) IntTy (codes "a") (Some 2) absent ∷ plain (at 2 6) (codes "job") (statements ((assign (at 2 18) (codes "a") None (int 2 22 1)) ∷ [])) ∷ []

array_assigned : first_breach array_assigned_text ≡ broken 2 18 (OfTypes Scalar)
unfolding array_assigned_text first_breach
array_assigned = refl

--   int g;
--   void job(void) { out(g[0]); }
index_on_scalar_text : ProgramText
index_on_scalar_text = global (at 1 5) IntTy (codes "g") None absent ∷ plain (at 2 6) (codes "job") (statements ((output (at 2 18) (element (at 2 22) (codes "g") (int 2 24 0))) ∷ [])) ∷ []

index_on_scalar : first_breach index_on_scalar_text ≡ broken 2 22 (OfTypes Scalar)
unfolding index_on_scalar_text first_breach
index_on_scalar = refl

--   void job(void) { int x = 1; x[0] = 2; }
index_on_local_text : ProgramText
index_on_local_text = function (at 1 6) None VoidTy (codes "job") [] (local (at 1 22) IntTy (codes "x") (int 1 26 1) ∷ [])
    (statements ((assign (at 1 29) (codes "x") (Some (int 1 31 0)) (int 1 36 2)) ∷ [])) None ∷ []

index_on_local : first_breach index_on_local_text ≡ broken 1 29 (OfTypes Scalar)
unfolding index_on_local_text first_breach
index_on_local = refl

--   void job(void) { out(job); }
function_as_value_text : ProgramText
function_as_value_text = plain (at 1 6) (codes "job") (statements ((output (at 1 18) (variable (at 1 22) (codes "job"))) ∷ [])) ∷ []

function_as_value : first_breach function_as_value_text ≡ broken 1 22 (OfTypes Scalar)
unfolding function_as_value_text first_breach
function_as_value = refl

--   void job(void) { job = 1; }
function_assigned_text : ProgramText
function_assigned_text = plain (at 1 6) (codes "job") (statements ((assign (at 1 18) (codes "job") None (int 1 24 1)) ∷ [])) ∷ []

function_assigned : first_breach function_assigned_text ≡ broken 1 18 (OfTypes Scalar)
unfolding function_assigned_text first_breach
function_assigned = refl

--   int a[2] = {1, 2, 3};
--   void job(void) { }
too_many_constants_text : ProgramText
too_many_constants_text = global (at 1 5) IntTy (codes "a") (Some 2) (many ((pos 1) ∷ (pos 2) ∷ (pos 3) ∷ [])) ∷ plain (at 2 6) (codes "job") no_statements ∷ []

too_many_constants : first_breach too_many_constants_text ≡ broken 1 5 (OfTypes Initial)
unfolding too_many_constants_text first_breach
too_many_constants = refl

--   int g = {1};
--   void job(void) { }
list_for_scalar_text : ProgramText
list_for_scalar_text = global (at 1 5) IntTy (codes "g") None (many ((pos 1) ∷ [])) ∷ plain (at 2 6) (codes "job") no_statements ∷ []

list_for_scalar : first_breach list_for_scalar_text ≡ broken 1 5 (OfTypes Initial)
unfolding list_for_scalar_text first_breach
list_for_scalar = refl

--   int a[2] = 1;
--   void job(void) { }
constant_for_array_text : ProgramText
constant_for_array_text = global (at 1 5) IntTy (codes "a") (Some 2) (one (pos 1)) ∷ plain (at 2 6) (codes "job") no_statements ∷ []

constant_for_array : first_breach constant_for_array_text ≡ broken 1 5 (OfTypes Initial)
unfolding constant_for_array_text first_breach
constant_for_array = refl

--   void f(int x) { }
--   void job(void) {
--     f(); }
argument_missing_text : ProgramText
argument_missing_text = function (at 1 6) None VoidTy (codes "f") (parameter (at 1 12) IntTy (codes "x") None ∷ []) [] no_statements None ∷ plain
    (at 2 6) (codes "job") (statements ((call (at 3 3) None (codes "f") []) ∷ [])) ∷ []

argument_missing : first_breach argument_missing_text ≡ broken 3 3 (OfTypes CountRule)
unfolding argument_missing_text first_breach
argument_missing = refl

--   int g;
--   int f(void) { return 1; }
--   void job(void) {
--     g = f(); }
target_is_global_text : ProgramText
target_is_global_text = global (at 1 5) IntTy (codes "g") None absent ∷ function (at 2 5) None IntTy (codes "f") [] [] no_statements
    (Some (int 2 22 1)) ∷ plain (at 3 6) (codes "job") (statements ((call (at 4 3) (Some (codes "g")) (codes "f") []) ∷ [])) ∷ []

target_is_global : first_breach target_is_global_text ≡ broken 4 3 (OfTypes Target)
unfolding target_is_global_text first_breach
target_is_global = refl

--   int g;
--   void job(void) {
--     g = in(); }
input_to_global_text : ProgramText
input_to_global_text = global (at 1 5) IntTy (codes "g") None absent ∷ plain (at 2 6) (codes "job") (statements ((input (at 3 3) (codes "g")) ∷ [])) ∷ []

input_to_global : first_breach input_to_global_text ≡ broken 3 3 (OfTypes Target)
unfolding input_to_global_text first_breach
input_to_global = refl

-- Target judges it, and not Scalar
--   int a[2];
--   void job(void) {
--     a = in(); }
input_to_array_text : ProgramText
input_to_array_text = global (at 1 5) IntTy (codes "a") (Some 2) absent ∷ plain (at 2 6) (codes "job") (statements ((input (at 3 3) (codes "a")) ∷ [])) ∷ []

input_to_array : first_breach input_to_array_text ≡ broken 3 3 (OfTypes Target)
unfolding input_to_array_text first_breach
input_to_array = refl

--   void f(void) { }
--   void job(void) { int x = 1;
--     x = f(); }
target_of_void_text : ProgramText
target_of_void_text = plain (at 1 6) (codes "f") no_statements ∷ function (at 2 6) None VoidTy (codes "job") []
    (local (at 2 22) IntTy (codes "x") (int 2 26 1) ∷ []) (statements ((call (at 3 3) (Some (codes "x")) (codes "f") []) ∷ [])) None ∷ []

target_of_void : first_breach target_of_void_text ≡ broken 3 3 (OfTypes Target)
unfolding target_of_void_text first_breach
target_of_void = refl

--   int f(void) { return 1; }
--   void job(void) { f(); }
result_dropped_text : ProgramText
result_dropped_text = function (at 1 5) None IntTy (codes "f") [] [] no_statements (Some (int 1 22 1)) ∷ plain (at 2 6) (codes "job") (statements ((call (at 2 18) None (codes "f") []) ∷ [])) ∷ []

result_dropped : first_breach result_dropped_text ≡ None
unfolding result_dropped_text first_breach
result_dropped = refl

--   void f(void) { return 1; }
--   void job(void) { }
result_in_void_text : ProgramText
result_in_void_text = function (at 1 6) None VoidTy (codes "f") [] [] no_statements (Some (int 1 23 1)) ∷ plain (at 2 6) (codes "job") no_statements ∷ []

result_in_void : first_breach result_in_void_text ≡ broken 1 6 (OfTypes Return)
unfolding result_in_void_text first_breach
result_in_void = refl

--   int f(void) { }
--   void job(void) { }
result_missing_text : ProgramText
result_missing_text = function (at 1 5) None IntTy (codes "f") [] [] no_statements None ∷ plain (at 2 6) (codes "job") no_statements ∷ []

result_missing : first_breach result_missing_text ≡ broken 1 5 (OfTypes Return)
unfolding result_missing_text first_breach
result_missing = refl

--   PREDICTABLE(9) int f(void) { return 1; }
--   void job(void) { }
marked_result_text : ProgramText
marked_result_text = function (at 1 20) (Some (record { stated = 9; regions = [] })) IntTy (codes "f") [] [] no_statements (Some (int 1 37 1)) ∷ plain (at 2 6) (codes "job") no_statements ∷ []

marked_result : first_breach marked_result_text ≡ broken 1 20 (OfTypes Marked)
unfolding marked_result_text first_breach
marked_result = refl

--   PREDICTABLE(9) void job(void) { }
marked_job_text : ProgramText
marked_job_text = function (at 1 21) (Some (record { stated = 9; regions = [] })) VoidTy (codes "job") [] [] no_statements None ∷ []

marked_job : first_breach marked_job_text ≡ broken 1 21 (OfTypes Marked)
unfolding marked_job_text first_breach
marked_job = refl

--   int a[4];
--   PREDICTABLE(9) REGION(a, 2, 1) void f(void) { }
--   void job(void) { }
region_reversed_text : ProgramText
region_reversed_text = global (at 1 5) IntTy (codes "a") (Some 4) absent ∷ function (at 2 37)
    (Some (record { stated = 9; regions = (region (at 2 23) (codes "a") 2 1 ∷ []) })) VoidTy (codes "f") [] [] no_statements None ∷ plain (at 3 6)
    (codes "job") no_statements ∷ []

region_reversed : first_breach region_reversed_text ≡ broken 2 23 (OfTypes Region)
unfolding region_reversed_text first_breach
region_reversed = refl

--   int a[4];
--   PREDICTABLE(9) REGION(a, 0, 4) void f(void) { }
--   void job(void) { }
region_past_text : ProgramText
region_past_text = global (at 1 5) IntTy (codes "a") (Some 4) absent ∷ function (at 2 37)
    (Some (record { stated = 9; regions = (region (at 2 23) (codes "a") 0 4 ∷ []) })) VoidTy (codes "f") [] [] no_statements None ∷ plain (at 3 6)
    (codes "job") no_statements ∷ []

region_past : first_breach region_past_text ≡ broken 2 23 (OfTypes Region)
unfolding region_past_text first_breach
region_past = refl

--   int g;
--   PREDICTABLE(9) REGION(g, 0, 1) void f(void) { }
--   void job(void) { }
region_of_scalar_text : ProgramText
region_of_scalar_text = global (at 1 5) IntTy (codes "g") None absent ∷ function (at 2 37)
    (Some (record { stated = 9; regions = (region (at 2 23) (codes "g") 0 1 ∷ []) })) VoidTy (codes "f") [] [] no_statements None ∷ plain (at 3 6)
    (codes "job") no_statements ∷ []

region_of_scalar : first_breach region_of_scalar_text ≡ broken 2 23 (OfTypes Region)
unfolding region_of_scalar_text first_breach
region_of_scalar = refl

--   void f(int x RANGE(1, 0)) { }
--   void job(void) { }
range_reversed_text : ProgramText
range_reversed_text = function (at 1 6) None VoidTy (codes "f") (parameter (at 1 12) IntTy (codes "x") (Some (pos 1, pos 0)) ∷ [])
    [] no_statements None ∷ plain (at 2 6) (codes "job") no_statements ∷ []

range_reversed : first_breach range_reversed_text ≡ broken 1 12 (OfTypes Range)
unfolding range_reversed_text first_breach
range_reversed = refl

--   void f(int x RANGE(0, 2147483648u)) { }
--   void job(void) { }
range_of_int_text : ProgramText
range_of_int_text = function (at 1 6) None VoidTy (codes "f") (parameter (at 1 12) IntTy (codes "x") (Some (pos 0, pos 2147483648)) ∷ [])
    [] no_statements None ∷ plain (at 2 6) (codes "job") no_statements ∷ []

range_of_int : first_breach range_of_int_text ≡ broken 1 12 (OfTypes Range)
unfolding range_of_int_text first_breach
range_of_int = refl

--   void f(unsigned x RANGE(-1, 0)) { }
--   void job(void) { }
range_of_unsigned_text : ProgramText
range_of_unsigned_text = function (at 1 6) None VoidTy (codes "f") (parameter (at 1 17) UnsignedTy (codes "x") (Some (negsuc 0, pos 0)) ∷ [])
    [] no_statements None ∷ plain (at 2 6) (codes "job") no_statements ∷ []

range_of_unsigned : first_breach range_of_unsigned_text ≡ broken 1 17 (OfTypes Range)
unfolding range_of_unsigned_text first_breach
range_of_unsigned = refl

--   void f(int x RANGE(-2147483648u, 2147483647), unsigned y RANGE(0, 0xffffffff)) { }
--   void job(void) { }
range_fits_text : ProgramText
range_fits_text = function (at 1 6) None VoidTy (codes "f")
    (parameter (at 1 12) IntTy (codes "x") (Some (negsuc 2147483647, pos 2147483647)) ∷ parameter (at 1 56) UnsignedTy (codes "y")
    (Some (pos 0, pos 4294967295)) ∷ []) [] no_statements None ∷ plain (at 2 6) (codes "job") no_statements ∷ []

range_fits : first_breach range_fits_text ≡ None
unfolding range_fits_text first_breach
range_fits = refl

--   int job(void) { return 1; }
job_with_result_text : ProgramText
job_with_result_text = function (at 1 5) None IntTy (codes "job") [] [] no_statements (Some (int 1 24 1)) ∷ []

job_with_result : first_breach job_with_result_text ≡ broken 1 5 (OfTypes Job)
unfolding job_with_result_text first_breach
job_with_result = refl

--   void job(int x) { }
job_with_parameter_text : ProgramText
job_with_parameter_text = function (at 1 6) None VoidTy (codes "job") (parameter (at 1 14) IntTy (codes "x") None ∷ []) [] no_statements None ∷ []

job_with_parameter : first_breach job_with_parameter_text ≡ broken 1 6 (OfTypes Job)
unfolding job_with_parameter_text first_breach
job_with_parameter = refl

--   void job(void) {
--     f(); }
--   void f(void) { }
callee_behind_text : ProgramText
callee_behind_text = plain (at 1 6) (codes "job") (statements ((call (at 2 3) None (codes "f") []) ∷ [])) ∷ plain (at 3 6) (codes "f") no_statements ∷ []

callee_behind : first_breach callee_behind_text ≡ broken 2 3 CallOrder
unfolding callee_behind_text first_breach
callee_behind = refl

--   void f(void) {
--     f(); }
--   void job(void) { }
recursion_text : ProgramText
recursion_text = plain (at 1 6) (codes "f") (statements ((call (at 2 3) None (codes "f") []) ∷ [])) ∷ plain (at 3 6) (codes "job") no_statements ∷ []

recursion : first_breach recursion_text ≡ broken 2 3 CallOrder
unfolding recursion_text first_breach
recursion = refl

--   int g;
--   PREDICTABLE(491) REGION(g, 0, 0) void set(int x RANGE(0, 9)) { g = x; }
--   void h(void) { set(7); }
--   void job(void) { h(); out(g); }
marked_call_text : ProgramText
marked_call_text = global (at 1 5) IntTy (codes "g") None absent ∷ function (at 2 39)
    (Some (record { stated = 491; regions = (region (at 2 25) (codes "g") 0 0 ∷ []) })) VoidTy (codes "set")
    (parameter (at 2 47) IntTy (codes "x") (Some (pos 0, pos 9)) ∷ []) []
    (statements ((assign (at 2 64) (codes "g") None (variable (at 2 68) (codes "x"))) ∷ [])) None ∷ plain (at 3 6) (codes "h")
    (statements ((call (at 3 16) None (codes "set") ((int 3 20 7) ∷ [])) ∷ [])) ∷ plain (at 4 6) (codes "job")
    (statements ((call (at 4 18) None (codes "h") []) ∷ (output (at 4 23) (variable (at 4 27) (codes "g"))) ∷ [])) ∷ []

marked_call : first_breach marked_call_text ≡ broken 3 16 MarkedCall
unfolding marked_call_text first_breach
marked_call = refl

-- reached from a marked function
--   void h(void) { out(1); }
--   PREDICTABLE(900) void f(void) { h(); }
--   void job(void) { f(); }
system_call_text : ProgramText
system_call_text = plain (at 1 6) (codes "h") (statements ((output (at 1 16) (int 1 20 1)) ∷ [])) ∷ function (at 2 23)
    (Some (record { stated = 900; regions = [] })) VoidTy (codes "f") [] [] (statements ((call (at 2 33) None (codes "h") []) ∷ [])) None ∷ plain
    (at 3 6) (codes "job") (statements ((call (at 3 18) None (codes "f") []) ∷ [])) ∷ []

system_call : first_breach system_call_text ≡ broken 1 16 SystemCall
unfolding system_call_text first_breach
system_call = refl

--   PREDICTABLE(900) void f(void) { int x = 1;
--     x = in(); }
--   void job(void) { }
system_input_text : ProgramText
system_input_text = function (at 1 23) (Some (record { stated = 900; regions = [] })) VoidTy (codes "f") []
    (local (at 1 37) IntTy (codes "x") (int 1 41 1) ∷ []) (statements ((input (at 2 3) (codes "x")) ∷ [])) None ∷ plain (at 3 6) (codes "job")
    no_statements ∷ []

system_input : first_breach system_input_text ≡ broken 2 3 SystemCall
unfolding system_input_text first_breach
system_input = refl

-- reached by calls in any order
--   void h(void) { out(1); }
--   PREDICTABLE(900) void f(void) { k(); }
--   void k(void) { h(); }
--   void job(void) { }
system_call_backwards_text : ProgramText
system_call_backwards_text = plain (at 1 6) (codes "h") (statements ((output (at 1 16) (int 1 20 1)) ∷ [])) ∷ function (at 2 23)
    (Some (record { stated = 900; regions = [] })) VoidTy (codes "f") [] [] (statements ((call (at 2 33) None (codes "k") []) ∷ [])) None ∷ plain
    (at 3 6) (codes "k") (statements ((call (at 3 16) None (codes "h") []) ∷ [])) ∷ plain (at 4 6) (codes "job") no_statements ∷ []

system_call_backwards : first_breach system_call_backwards_text ≡ broken 1 16 SystemCall
unfolding system_call_backwards_text first_breach
system_call_backwards = refl

--   void h(void) { out(1); }
--   PREDICTABLE(900) void f(void) { }
--   void job(void) { f(); h(); }
system_call_not_reached_text : ProgramText
system_call_not_reached_text =
    plain (at 1 6) (codes "h") (statements ((output (at 1 16) (int 1 20 1)) ∷ [])) ∷ function (at 2 23) (Some (record { stated = 900; regions = [] }))
    VoidTy (codes "f") [] [] no_statements None ∷ plain (at 3 6) (codes "job")
    (statements ((call (at 3 18) None (codes "f") []) ∷ (call (at 3 23) None (codes "h") []) ∷ [])) ∷ []

system_call_not_reached : first_breach system_call_not_reached_text ≡ None
unfolding system_call_not_reached_text first_breach
system_call_not_reached = refl

--   void job(void) { int i = 0; int j = 0;
--     for (i = 0; i < 3; j++) { } }
loop_of_two_names_text : ProgramText
loop_of_two_names_text = function (at 1 6) None VoidTy (codes "job") []
    (local (at 1 22) IntTy (codes "i") (int 1 26 0) ∷ local (at 1 33) IntTy (codes "j") (int 1 37 0) ∷ [])
    (statements ((counting_for (at 2 3) (record { first = codes "i"; second = codes "i"; third = codes "j"; fourth = codes "j" }) (int 2 12 0) false
    (int 2 19 3) 1 (block (at 2 27) no_statements)) ∷ [])) None ∷ []

loop_of_two_names : first_breach loop_of_two_names_text ≡ broken 2 3 LoopForm
unfolding loop_of_two_names_text first_breach
loop_of_two_names = refl

--   int i;
--   void job(void) {
--     for (i = 0; i < 3; i++) { } }
loop_over_global_text : ProgramText
loop_over_global_text = global (at 1 5) IntTy (codes "i") None absent ∷ plain (at 2 6) (codes "job")
    (statements ((counting_for (at 3 3) (one_name (codes "i")) (int 3 12 0) false (int 3 19 3) 1 (block (at 3 27) no_statements)) ∷ [])) ∷ []

loop_over_global : first_breach loop_over_global_text ≡ broken 3 3 LoopForm
unfolding loop_over_global_text first_breach
loop_over_global = refl

--   void job(void) { unsigned i = 0;
--     for (i = 0; i < 3; i++) { } }
loop_over_unsigned_text : ProgramText
loop_over_unsigned_text = function (at 1 6) None VoidTy (codes "job") [] (local (at 1 27) UnsignedTy (codes "i") (int 1 31 0) ∷ [])
    (statements ((counting_for (at 2 3) (one_name (codes "i")) (int 2 12 0) false (int 2 19 3) 1 (block (at 2 27) no_statements)) ∷ [])) None ∷ []

loop_over_unsigned : first_breach loop_over_unsigned_text ≡ broken 2 3 LoopForm
unfolding loop_over_unsigned_text first_breach
loop_over_unsigned = refl

--   void job(void) { int i = 0;
--     for (i = 0; i < 3; i++) { if (i) i = 1; } }
loop_body_assigns_text : ProgramText
loop_body_assigns_text = function (at 1 6) None VoidTy (codes "job") [] (local (at 1 22) IntTy (codes "i") (int 1 26 0) ∷ [])
    (statements ((counting_for (at 2 3) (one_name (codes "i")) (int 2 12 0) false (int 2 19 3) 1
    (block (at 2 27) (statements ((if_then (at 2 29) (variable (at 2 33) (codes "i")) (assign (at 2 36) (codes "i") None (int 2 40 1))) ∷ []))))
    ∷ [])) None ∷ []

loop_body_assigns : first_breach loop_body_assigns_text ≡ broken 2 3 LoopForm
unfolding loop_body_assigns_text first_breach
loop_body_assigns = refl

--   void job(void) { int i = 0;
--     for (i = 0; i < 3; i++) { { i = in(); } } }
loop_body_reads_text : ProgramText
loop_body_reads_text = function (at 1 6) None VoidTy (codes "job") [] (local (at 1 22) IntTy (codes "i") (int 1 26 0) ∷ [])
    (statements ((counting_for (at 2 3) (one_name (codes "i")) (int 2 12 0) false (int 2 19 3) 1
    (block (at 2 27) (statements ((block (at 2 29) (statements ((input (at 2 31) (codes "i")) ∷ []))) ∷ [])))) ∷ [])) None ∷ []

loop_body_reads : first_breach loop_body_reads_text ≡ broken 2 3 LoopForm
unfolding loop_body_reads_text first_breach
loop_body_reads = refl

--   int f(void) { return 1; }
--   void job(void) { int i = 0;
--     for (i = 0; i < 3; i++) { i = f(); } }
loop_body_calls_text : ProgramText
loop_body_calls_text = function (at 1 5) None IntTy (codes "f") [] [] no_statements (Some (int 1 22 1)) ∷ function (at 2 6) None VoidTy (codes "job")
    [] (local (at 2 22) IntTy (codes "i") (int 2 26 0) ∷ [])
    (statements ((counting_for (at 3 3) (one_name (codes "i")) (int 3 12 0) false (int 3 19 3) 1
    (block (at 3 27) (statements ((call (at 3 29) (Some (codes "i")) (codes "f") []) ∷ [])))) ∷ [])) None ∷ []

loop_body_calls : first_breach loop_body_calls_text ≡ broken 3 3 LoopForm
unfolding loop_body_calls_text first_breach
loop_body_calls = refl

--   void job(void) { int i = 0;
--     for (i = 0; i < 3; i++)
--       for (i = 0; i < 3; i++) { } }
loop_in_itself_text : ProgramText
loop_in_itself_text = function (at 1 6) None VoidTy (codes "job") [] (local (at 1 22) IntTy (codes "i") (int 1 26 0) ∷ [])
    (statements ((counting_for (at 2 3) (one_name (codes "i")) (int 2 12 0) false (int 2 19 3) 1
    (counting_for (at 3 5) (one_name (codes "i")) (int 3 14 0) false (int 3 21 3) 1 (block (at 3 29) no_statements))) ∷ [])) None ∷ []

loop_in_itself : first_breach loop_in_itself_text ≡ broken 2 3 LoopForm
unfolding loop_in_itself_text first_breach
loop_in_itself = refl

--   void job(void) { int i = 0;
--     for (i = 0u; i < 3; i++) { } }
loop_low_unsigned_text : ProgramText
loop_low_unsigned_text = function (at 1 6) None VoidTy (codes "job") [] (local (at 1 22) IntTy (codes "i") (int 1 26 0) ∷ [])
    (statements ((counting_for (at 2 3) (one_name (codes "i")) (uint 2 12 0) false (int 2 20 3) 1 (block (at 2 28) no_statements)) ∷ [])) None ∷ []

loop_low_unsigned : first_breach loop_low_unsigned_text ≡ broken 2 3 LoopForm
unfolding loop_low_unsigned_text first_breach
loop_low_unsigned = refl

--   unsigned n;
--   void job(void) { int i = 0;
--     for (i = 0; i < n + 1; i++) { } }
loop_high_unsigned_text : ProgramText
loop_high_unsigned_text = global (at 1 10) UnsignedTy (codes "n") None absent ∷ function (at 2 6) None VoidTy (codes "job") []
    (local (at 2 22) IntTy (codes "i") (int 2 26 0) ∷ [])
    (statements ((counting_for (at 3 3) (one_name (codes "i")) (int 3 12 0) false (binary (at 3 21) Add (variable (at 3 19) (codes "n")) (int 3 23 1))
    1 (block (at 3 31) no_statements)) ∷ [])) None ∷ []

loop_high_unsigned : first_breach loop_high_unsigned_text ≡ broken 3 3 LoopForm
unfolding loop_high_unsigned_text first_breach
loop_high_unsigned = refl

--   void job(void) { int i = 0;
--     for (i = 0; i < 3; i += 0) { } }
loop_step_zero_text : ProgramText
loop_step_zero_text = function (at 1 6) None VoidTy (codes "job") [] (local (at 1 22) IntTy (codes "i") (int 1 26 0) ∷ [])
    (statements ((counting_for (at 2 3) (one_name (codes "i")) (int 2 12 0) false (int 2 19 3) 0 (block (at 2 30) no_statements)) ∷ [])) None ∷ []

loop_step_zero : first_breach loop_step_zero_text ≡ broken 2 3 LoopForm
unfolding loop_step_zero_text first_breach
loop_step_zero = refl

--   void job(void) { int i = 0;
--     for (i = 0; i < 3; i += 2048) { } }
loop_step_past_text : ProgramText
loop_step_past_text = function (at 1 6) None VoidTy (codes "job") [] (local (at 1 22) IntTy (codes "i") (int 1 26 0) ∷ [])
    (statements ((counting_for (at 2 3) (one_name (codes "i")) (int 2 12 0) false (int 2 19 3) 2048 (block (at 2 33) no_statements)) ∷ [])) None ∷ []

loop_step_past : first_breach loop_step_past_text ≡ broken 2 3 LoopForm
unfolding loop_step_past_text first_breach
loop_step_past = refl

--   void job(void) { int i = 0;
--     for (i = 0; i < 3; i += 2047) { } }
loop_step_greatest_text : ProgramText
loop_step_greatest_text = function (at 1 6) None VoidTy (codes "job") [] (local (at 1 22) IntTy (codes "i") (int 1 26 0) ∷ [])
    (statements ((counting_for (at 2 3) (one_name (codes "i")) (int 2 12 0) false (int 2 19 3) 2047 (block (at 2 33) no_statements)) ∷ [])) None ∷ []

loop_step_greatest : first_breach loop_step_greatest_text ≡ None
unfolding loop_step_greatest_text first_breach
loop_step_greatest = refl

--   void job(void) {
--     BOUNDED(0) while (1) { } }
bounded_zero_text : ProgramText
bounded_zero_text = plain (at 1 6) (codes "job") (statements ((bounded_while (at 2 3) 0 (int 2 21 1) (block (at 2 24) no_statements)) ∷ [])) ∷ []

bounded_zero : first_breach bounded_zero_text ≡ broken 2 3 LoopForm
unfolding bounded_zero_text first_breach
bounded_zero = refl

--   void job(void) {
--     BOUNDED(1048577) while (1) { } }
bounded_past_text : ProgramText
bounded_past_text = plain (at 1 6) (codes "job") (statements ((bounded_while (at 2 3) 1048577 (int 2 27 1) (block (at 2 30) no_statements)) ∷ [])) ∷ []

bounded_past : first_breach bounded_past_text ≡ broken 2 3 LoopForm
unfolding bounded_past_text first_breach
bounded_past = refl

-- in a bound of a loop
--   void job(void) { int i = 0;
--     for (i = u; i < 3; i++) { } }
unknown_counts_as_int_text : ProgramText
unknown_counts_as_int_text = function (at 1 6) None VoidTy (codes "job") [] (local (at 1 22) IntTy (codes "i") (int 1 26 0) ∷ [])
    (statements ((counting_for (at 2 3) (one_name (codes "i")) (variable (at 2 12) (codes "u")) false (int 2 19 3) 1 (block (at 2 27) no_statements))
    ∷ [])) None ∷ []

unknown_counts_as_int : first_breach unknown_counts_as_int_text ≡ broken 2 12 (Unknown (codes "u"))
unfolding unknown_counts_as_int_text first_breach
unknown_counts_as_int = refl

--   unsigned a[2];
--   void job(void) { int i = 0;
--     for (i = 0; i < a; i++) { } }
array_counts_as_int_text : ProgramText
array_counts_as_int_text = global (at 1 10) UnsignedTy (codes "a") (Some 2) absent ∷ function (at 2 6) None VoidTy (codes "job") []
    (local (at 2 22) IntTy (codes "i") (int 2 26 0) ∷ [])
    (statements ((counting_for (at 3 3) (one_name (codes "i")) (int 3 12 0) false (variable (at 3 19) (codes "a")) 1 (block (at 3 27) no_statements))
    ∷ [])) None ∷ []

array_counts_as_int : first_breach array_counts_as_int_text ≡ broken 3 19 (OfTypes Scalar)
unfolding array_counts_as_int_text first_breach
array_counts_as_int = refl

-- an element of the name is no assignment of the local
--   void job(void) { int i = 0;
--     for (i = 0; i < 3; i++) { i[0] = 1; } }
element_is_not_assigned_text : ProgramText
element_is_not_assigned_text =
    function (at 1 6) None VoidTy (codes "job") [] (local (at 1 22) IntTy (codes "i") (int 1 26 0) ∷ [])
    (statements ((counting_for (at 2 3) (one_name (codes "i")) (int 2 12 0) false (int 2 19 3) 1
    (block (at 2 27) (statements ((assign (at 2 29) (codes "i") (Some (int 2 31 0)) (int 2 36 1)) ∷ [])))) ∷ [])) None ∷ []

element_is_not_assigned : first_breach element_is_not_assigned_text ≡ broken 2 29 (OfTypes Scalar)
unfolding element_is_not_assigned_text first_breach
element_is_not_assigned = refl

-- the place decides before the rule
--   void job(void) {
--     BOUNDED(0) while (u) { } }
earlier_place_first_text : ProgramText
earlier_place_first_text = plain (at 1 6) (codes "job") (statements ((bounded_while (at 2 3) 0 (variable (at 2 21) (codes "u")) (block (at 2 24) no_statements)) ∷ [])) ∷ []

earlier_place_first : first_breach earlier_place_first_text ≡ broken 2 3 LoopForm
unfolding earlier_place_first_text first_breach
earlier_place_first = refl

-- at one place the rules have their order
--   void f(int x) { }
--   PREDICTABLE(9) void m(void) { }
--   void h(void) {
--     f();
--     m(1); }
--   void k(void) {
--     m(); }
--   void job(void) { }
rule_at_one_place_text : ProgramText
rule_at_one_place_text = function (at 1 6) None VoidTy (codes "f") (parameter (at 1 12) IntTy (codes "x") None ∷ []) [] no_statements None ∷ function
    (at 2 21) (Some (record { stated = 9; regions = [] })) VoidTy (codes "m") [] [] no_statements None ∷ plain (at 3 6) (codes "h")
    (statements ((call (at 4 3) None (codes "f") []) ∷ (call (at 5 3) None (codes "m") ((int 5 5 1) ∷ [])) ∷ [])) ∷ plain (at 6 6) (codes "k")
    (statements ((call (at 7 3) None (codes "m") []) ∷ [])) ∷ plain (at 8 6) (codes "job") no_statements ∷ []

rule_at_one_place : first_breach rule_at_one_place_text ≡ broken 4 3 (OfTypes CountRule)
unfolding rule_at_one_place_text first_breach
rule_at_one_place = refl

--   void job(void) {
--     f(); }
--   void f(int x) { }
types_before_order_text : ProgramText
types_before_order_text = plain (at 1 6) (codes "job") (statements ((call (at 2 3) None (codes "f") []) ∷ [])) ∷ function (at 3 6) None VoidTy
    (codes "f") (parameter (at 3 12) IntTy (codes "x") None ∷ []) [] no_statements None ∷ []

types_before_order : first_breach types_before_order_text ≡ broken 2 3 (OfTypes CountRule)
unfolding types_before_order_text first_breach
types_before_order = refl

-- the rules on types have their order: PREDICTABLE(9) short job(int x) { }
all_of_types_text : ProgramText
all_of_types_text = function (at 1 22) (Some (record { stated = 9; regions = [] })) Short (codes "job") (parameter (at 1 30) IntTy (codes "x") None ∷ []) [] no_statements None ∷ []

all_of_types : first_breach all_of_types_text ≡ broken 1 22 (OfTypes Narrow)
unfolding all_of_types_text first_breach
all_of_types = refl
