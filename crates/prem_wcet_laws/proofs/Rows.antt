-- Worked programs: what their jobs take at most, computed.
use Rattle.std.proofs.Common.{map, ◌≡◌, refl, ℕ, List, [], ◌∷◌, None, Some}
use Rattle.prem_wcet_laws.proofs.Prelude.{turned, Plant, wcet_of, longest_wcet_of, Add as AddOp, codes}
use Rattle.prem_layout.proofs.Samples.{m_text, m_turns, fir_text, fir_turns, calls_text, calls_turns}
use Rattle.prem_layout.proofs.Tasks.{coded, placed}
use Rattle.prem_layout.specs.Facts.{job_fact}
use Rattle.prem_layout.specs.Placed.{Coded}
use Rattle.prem_plant.specs.Ranges.{default_plant as plant}
use Rattle.prem_syntax.proofs.Samples.{at, int, statements, one_name, parameter, local, global, function}
use Rattle.prem_syntax.specs.Syntax.{ProgramText, variable, element, binary, block, counting_for, output, call, absent}
use Rattle.prem_syntax.specs.declared.tree.Ty.TheVariants.{Void, Int as IntTy}
use Rattle.std.specs.Prelude.{false}

abbrev rules : Plant → List Coded → List ℕ
rules p tasks = map (λ t. (job_fact p t).bound) (placed p tasks)

abbrev wcets : Plant → List Coded → List ℕ
wcets p tasks = map (λ t. wcet_of p t.plans t.task.program t.at) (placed p tasks)

abbrev longest : Plant → List Coded → List ℕ
longest p tasks = map (λ t. longest_wcet_of p t.plans t.task.program t.at) (placed p tasks)

abbrev small_cache : Plant
small_cache = record plant { sets = 4; «ways» = 1 }

-- void job(void) { out(2 + 3); }
abbrev sum_text : ProgramText
sum_text = function (at 1 6) None Void (codes "job") [] [] (statements (output (at 1 18) (binary (at 1 24) AddOp (int 1 22 2) (int 1 26 3)) ∷ [])) None ∷ []

abbrev sum_task : List Coded
sum_task = coded (codes "sum") 1000 1 sum_text [] ∷ []

sum_rule : rules plant sum_task ≡ 295 ∷ []
sum_rule = refl

sum_wcet : wcets plant sum_task ≡ 115 ∷ []
sum_wcet = refl

-- int a[64];
-- void job(void) { int i = 0; for (i = 0; i < 64; i++) { out(a[i]); } }
abbrev loop_text : ProgramText
loop_text =
    global (at 1 5) IntTy (codes "a") (Some 64) absent
    ∷ function (at 2 6) None Void (codes "job") [] (local (at 2 22) IntTy (codes "i") (int 2 26 0) ∷ [])
    (statements (counting_for (at 2 29) (one_name (codes "i")) (int 2 38 0) false (int 2 45 64) 1
    (block (at 2 54) (statements (output (at 2 56) (element (at 2 60) (codes "a") (variable (at 2 62) (codes "i"))) ∷ []))) ∷ []))
    None
    ∷ []

abbrev loop_task : List Coded
loop_task = coded (codes "loop") 100000 1 loop_text (64 ∷ []) ∷ []

loop_rule : rules plant loop_task ≡ 26108 ∷ []
loop_rule = refl

loop_wcet : wcets plant loop_task ≡ 1868 ∷ []
loop_wcet = refl

loop_crowded : wcets small_cache loop_task ≡ 26108 ∷ []
loop_crowded = refl

-- int twice(int x) { return x + x; }
-- void job(void) { int y = 0; y = twice(7); out(y); }
abbrev call_text : ProgramText
call_text =
    function (at 1 5) None IntTy (codes "twice") (parameter (at 1 15) IntTy (codes "x") None ∷ []) [] (statements [])
    (Some (binary (at 1 29) AddOp (variable (at 1 27) (codes "x")) (variable (at 1 31) (codes "x"))))
    ∷ function (at 2 6) None Void (codes "job") [] (local (at 2 22) IntTy (codes "y") (int 2 26 0) ∷ [])
    (statements (call (at 2 29) (Some (codes "y")) (codes "twice") (int 2 39 7 ∷ []) ∷ output (at 2 43) (variable (at 2 47) (codes "y")) ∷ []))
    None
    ∷ []

abbrev call_task : List Coded
call_task = coded (codes "call") 1000 1 call_text [] ∷ []

call_rule : rules plant call_task ≡ 717 ∷ []
call_rule = refl

call_wcet : wcets plant call_task ≡ 217 ∷ []
call_wcet = refl

-- with marked calls
abbrev marked_task : List Coded
marked_task = coded (codes "m") 1000 1 m_text m_turns ∷ []

marked_rule : rules plant marked_task ≡ 975 ∷ []
marked_rule = refl

marked_wcet : wcets plant marked_task ≡ 835 ∷ []
marked_wcet = refl

marked_longest : longest plant marked_task ≡ 511 ∷ []
marked_longest = refl

abbrev calls_task : List Coded
calls_task = coded (codes "calls") 100000 1 calls_text calls_turns ∷ []

calls_rule : rules plant calls_task ≡ 19756 ∷ []
calls_rule = refl

calls_wcet : wcets plant calls_task ≡ 16676 ∷ []
calls_wcet = refl

calls_longest : longest plant calls_task ≡ 3020 ∷ []
unfolding turned
calls_longest = refl

abbrev fir_task : List Coded
fir_task = coded (codes "fir") 1000000 1 fir_text fir_turns ∷ []

fir_rule : rules plant fir_task ≡ 565246 ∷ []
fir_rule = refl

fir_wcet : wcets plant fir_task ≡ 504386 ∷ []
fir_wcet = refl

fir_longest : longest plant fir_task ≡ 500020 ∷ []
fir_longest = refl
