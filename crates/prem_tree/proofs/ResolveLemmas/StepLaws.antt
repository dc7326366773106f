-- What steps that are made of others stand for.
use Rattle.std.specs.Option.{option_map}
use Rattle.std.proofs.Common.{◌≡◌, ℕ, ◌+◌, List, [], ◌∷◌, ◌++◌, ap, ◌∙◌, arith, sym, length, take, get_or, ◌<◌, Bor, Option, map}
use Rattle.std.proofs.lemmas.List.{take_more}
use Rattle.prem_list.specs.declared.Sequence.{Sequence}
use Rattle.prem_list.specs.Sequence.{items_of}
use Rattle.prem_syntax.specs.declared.tree.Function.{Function}
use Rattle.prem_syntax.specs.declared.tree.Stmt.{Stmt}
use Rattle.prem_syntax.specs.Syntax.{GlobalVariable, FunctionText}
use Rattle.prem_syntax.specs.SyntaxOf.{function_of, statement_of, statements_of}
use Rattle.prem_syntax.specs.Resolved.{Steps, Done}
use Rattle.prem_syntax.specs.Resolve.{scope_at, scope_in, resolve_locals, resolve_term, Scope, loops_in, loops_within, resolve_statement, resolve_statements}
use Rattle.prem_tree.specs.declared.resolve.resolved.Term.{Term as TermTree}
use Rattle.prem_tree.specs.declared.resolve.resolved.Step.{Step, Block}
use Rattle.prem_tree.specs.Resolve.ResolvedOf.{term_of, loops_of, list_loops, step_before, list_before, IsStep, AreSteps, IsRoutine}
use Rattle.prem_tree.proofs.ResolveLemmas.StepRows.{step_before-Block, loops_of-Block}

pub IsStep_block : (body : Sequence Step) (f : (ℕ → ℕ) → ℕ → Steps → Steps) (k : ℕ) → AreSteps (items_of body) f k → IsStep (Block body) f k
IsStep_block body f k h = record {
  same = λ turns n rest. step_before-Block turns n body rest ∙ h.same turns n rest;
  counted = loops_of-Block body ∙ h.counted;
}

AreSteps_none : (ss : List Step) → ss ≡ [] → AreSteps ss (λ turns n rest. rest) 0
AreSteps_none ss e = record { same = λ turns n rest. ap (λ xs. list_before turns n xs rest) e; counted = ap list_loops e }

pub IsStep_none : (body : Sequence Step) → items_of body ≡ [] → IsStep (Block body) (λ turns n rest. rest) 0
IsStep_none body e = IsStep_block body (λ turns n rest. rest) 0 (AreSteps_none (items_of body) e)

list_before-append : (turns : ℕ → ℕ) (n : ℕ) (xs ys : List Step) (rest : Steps) → list_before turns n (xs ++ ys) rest ≡ list_before turns n xs (list_before turns (n + list_loops xs) ys rest)
list_before-append turns n [] ys rest = ap (λ k. list_before turns k ys rest) (omega arith)
list_before-append turns n (x ∷ xs) ys rest =
    ap (step_before turns n x) (list_before-append turns (n + loops_of x) xs ys rest ∙ ap (λ k. list_before turns (n + loops_of x) xs (list_before turns k ys rest)) (omega arith))

list_loops-append : (xs ys : List Step) → list_loops (xs ++ ys) ≡ list_loops xs + list_loops ys
list_loops-append [] ys = omega arith
list_loops-append (x ∷ xs) ys = ap (λ k. loops_of x + k) (list_loops-append xs ys) ∙ omega arith

-- one more step behind a list
AreSteps_push : (ss : List Step) (s : Step) (f g : (ℕ → ℕ) → ℕ → Steps → Steps) (j k : ℕ) → AreSteps ss f j → IsStep s g k →
    AreSteps (ss ++ s ∷ []) (λ turns n rest. f turns n (g turns (n + j) rest)) (j + k)
AreSteps_push ss s f g j k hs h = record {
  same = λ turns n rest. list_before-append turns n ss (s ∷ []) rest ∙ rw (hs.same turns n (step_before turns (n + list_loops ss) s rest), h.same turns (n + list_loops ss) rest, hs.counted);
  counted = list_loops-append ss (s ∷ []) ∙ rw (hs.counted, h.counted) (omega arith);
}

resolve_statements-push : (scope : Scope) (turns : ℕ → ℕ) (n : ℕ) (xs : List Stmt) (x : Stmt) (rest : Steps) →
    resolve_statements scope turns n (statements_of (xs ++ x ∷ [])) rest
    ≡ resolve_statements scope turns n (statements_of xs) (resolve_statement scope turns (n + loops_within (statements_of xs)) (statement_of x) rest)
resolve_statements-push scope turns n [] x rest = ap (λ k. resolve_statement scope turns k (statement_of x) rest) (omega arith)
resolve_statements-push scope turns n (y ∷ ys) x rest =
    ap (resolve_statement scope turns n (statement_of y))
    (resolve_statements-push scope turns (n + loops_in (statement_of y)) ys x rest
    ∙ ap (λ k. resolve_statements scope turns (n + loops_in (statement_of y)) (statements_of ys) (resolve_statement scope turns k (statement_of x) rest)) (omega arith))

loops_within-push : (xs : List Stmt) (x : Stmt) → loops_within (statements_of (xs ++ x ∷ [])) ≡ loops_within (statements_of xs) + loops_in (statement_of x)
loops_within-push [] x = omega arith
loops_within-push (y ∷ ys) x = ap (λ k. loops_in (statement_of y) + k) (loops_within-push ys x) ∙ omega arith

-- the steps of the first statements, and of one more
pub AreSteps_more : (scope : Scope) (stmts : List Stmt) (i : ℕ) (stmt : Stmt) (ss : List Step) (s : Step) → i < length stmts → stmt ≡ get_or stmts i stmt →
    AreSteps ss (λ turns n. resolve_statements scope turns n (statements_of (take i stmts))) (loops_within (statements_of (take i stmts))) →
    IsStep s (λ turns n. resolve_statement scope turns n (statement_of stmt)) (loops_in (statement_of stmt)) →
    AreSteps (ss ++ s ∷ []) (λ turns n. resolve_statements scope turns n (statements_of (take (i + 1) stmts))) (loops_within (statements_of (take (i + 1) stmts)))
AreSteps_more scope stmts i stmt ss s inside is hs h =
    let front = take i stmts in
    let more : take (i + 1) stmts ≡ front ++ stmt ∷ [] = take_more stmts i stmt inside ∙ ap (λ x. front ++ x ∷ []) (sym is) in
    let pushed = AreSteps_push ss s (λ turns n. resolve_statements scope turns n (statements_of front)) (λ turns n. resolve_statement scope turns n (statement_of stmt))
    (loops_within (statements_of front)) (loops_in (statement_of stmt)) hs h in
    record {
      same = λ turns n rest. pushed.same turns n rest ∙ sym (resolve_statements-push scope turns n front stmt rest) ∙ ap (λ xs. resolve_statements scope turns n (statements_of xs) rest) (sym more);
      counted = pushed.counted ∙ sym (loops_within-push front stmt) ∙ ap (λ xs. loops_within (statements_of xs)) (sym more);
    }

-- a function in memory whose parts are resolved
pub IsRoutine_made : (text : Bor Function) (locals : Sequence TermTree) (body : Sequence Step) (result : Option TermTree)
    (functions : List FunctionText) (globals : List GlobalVariable) (first inner : Scope) →
    first ≡ scope_at functions globals (function_of text.now) → inner ≡ scope_in functions globals (function_of text.now) →
    map term_of (items_of locals) ≡ resolve_locals first (function_of text.now).locals →
    AreSteps (items_of body) (λ turns n. resolve_statements inner turns n (function_of text.now).body) (loops_within (function_of text.now).body) →
    option_map term_of result ≡ option_map (resolve_term inner) (function_of text.now).result →
    IsRoutine (record { text = text; locals = locals; body = Block body; result = result }) functions globals (function_of text.now)
IsRoutine_made text locals body result functions globals first inner at_first at_inner terms steps value =
    let f = function_of text.now in
    let block = IsStep_block body (λ turns n. resolve_statements inner turns n f.body) (loops_within f.body) steps in
    record {
      same = λ turns n. rw (terms, block.same turns n Done, value, at_first, at_inner);
      counted = block.counted;
    }
