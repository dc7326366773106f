-- What programs that only put out sums of literals do.
use Rattle.std.proofs.Common.{◌≡◌, refl, ap, sym, ◌∙◌, ℕ, List, [], ◌∷◌, ◌++◌, Ok, Err, append_assoc, append-nil, ◌+◌, ◌^◌}
use Rattle.prem_word.specs.declared.kind.BinOp.TheVariants.{Add, Sub}
use Rattle.prem_syntax.specs.declared.tree.Place.{Place}
use Rattle.prem_syntax.specs.Syntax.{Expression, literal, variable, element, unary, binary}
use Rattle.prem_syntax.specs.Resolved.{Done}
use Rattle.prem_syntax.specs.Resolve.{Scope, kind_of, resolve_term, resolve_statements}
use Rattle.prem_syntax.specs.Expressions.{Access, eval}
use Rattle.prem_syntax.specs.Statements.{ProgramState, Calls, run}
use Rattle.prem_syntax.specs.Source.{source, everywhere}
use Rattle.prem_syntax.specs.Sums.{job_function, job_program, outputs, IsSum, sum_kind, sum_word, AreSums, sum_words}

sum_kind-is : (scope : Scope) (e : Expression) → IsSum e → kind_of (resolve_term scope e) ≡ sum_kind e
sum_kind-is scope (literal at value kind) h = refl
sum_kind-is scope (binary at Add left right) h = rw (sum_kind-is scope left h.0, sum_kind-is scope right h.1)
sum_kind-is scope (binary at Sub left right) h = rw (sum_kind-is scope left h.0, sum_kind-is scope right h.1)
sum_kind-is scope (binary at _ left right) h = absurd h
sum_kind-is scope (variable at name) h = absurd h
sum_kind-is scope (element at name index) h = absurd h
sum_kind-is scope (unary at op operand) h = absurd h

-- a sum has its word whatever the names stand for
eval-sum : (may : Access) (globals : List (List ℕ)) (locals : List ℕ) (scope : Scope) (e : Expression) → IsSum e →
    eval may globals locals (resolve_term scope e) ≡ Ok (sum_word e)
eval-sum may gs ls scope (literal at value kind) h = refl
eval-sum may gs ls scope (binary at Add left right) h =
    rw (sum_kind-is scope left h.0, sum_kind-is scope right h.1, eval-sum may gs ls scope left h.0, eval-sum may gs ls scope right h.1)
eval-sum may gs ls scope (binary at Sub left right) h =
    rw (sum_kind-is scope left h.0, sum_kind-is scope right h.1, eval-sum may gs ls scope left h.0, eval-sum may gs ls scope right h.1)
eval-sum may gs ls scope (binary at _ left right) h = absurd h
eval-sum may gs ls scope (variable at name) h = absurd h
eval-sum may gs ls scope (element at name index) h = absurd h
eval-sum may gs ls scope (unary at op operand) h = absurd h

abbrev with_outputs : ProgramState → List ℕ → ProgramState
with_outputs s ws = record s { outputs = ws }

run-sums : (may : Access) (calls : Calls) (scope : Scope) (turns : ℕ → ℕ) (n : ℕ) (os : List (Place × Expression)) (s : ProgramState) → AreSums os →
    run may calls (resolve_statements scope turns n (outputs os) Done) s ≡ Ok (with_outputs s (s.outputs ++ sum_words os))
run-sums may calls scope turns n [] s h = ap (λ ws. Ok (with_outputs s ws)) (sym (append-nil s.outputs))
run-sums may calls scope turns n (o ∷ os) s h =
    rw (eval-sum may s.globals s.locals scope o.1 h.0)
    (run-sums may calls scope turns (n + 0) os (with_outputs s (s.outputs ++ sum_word o.1 ∷ [])) h.1
    ∙ ap (λ ws. Ok (with_outputs s ws)) (append_assoc s.outputs (sum_word o.1 ∷ []) (sum_words os)))

-- one job puts out the words of the sums
source-sums : (at : Place) (os : List (Place × Expression)) → AreSums os →
    source (job_program at (outputs os)) [] 1 ≡ Ok (record { globals = []; locals = []; inputs = []; used = 0; outputs = sum_words os; marks = [] })
source-sums at os h =
    let scope : Scope = record { locals = []; globals = []; functions = job_function at (outputs os) ∷ [] } in
    rw (run-sums everywhere (λ may f ws s. Err 0) scope (λ n. 2 ^ 32) 0 os (record { globals = []; locals = []; inputs = []; used = 0; outputs = []; marks = [] }) h) refl
