-- What steps are resolved to doesn't depend on the functions of a program, but for calls.
use Rattle.std.proofs.Common.{◌≡◌, ℕ, ◌+◌, false, List, [], ◌∷◌, map, refl, ap, sym, ◌∙◌, Option, None, Some, true≢false}
use Rattle.prem_tiling.proofs.Prelude.{Scope, find_local, find_global, find_function, first_meaning, meaning_of, variable_term, element_term, binary_term, resolve_term, loops_in, set_steps}
use Rattle.prem_tiling.proofs.Prelude.{input_steps, loop_local, local_number, target_of, resolve_statement, resolve_statements, declared, resolve_locals, Term, Steps, Done, Unary, If, For}
use Rattle.prem_tiling.proofs.Prelude.{While, Output, Text, Expression, literal, variable, element, unary, binary, Statement, block, if_then, if_else, bounded_while, counting_for, assign}
use Rattle.prem_tiling.proofs.Prelude.{output, input, call, Statements, no_statements, next_statement, LocalVariable, GlobalVariable, FunctionText, Meaning, Nothing}
use Rattle.prem_tiling.proofs.Prelude.{Function as FunctionName, Place, Ty, has_call, have_call}
use Rattle.prem_tiling.proofs.LawsLemmas.Tied.{neither_left, neither_right}
use Rattle.std.specs.Option.{option_map}

-- the same names, but other functions
abbrev pub with_functions : List FunctionText → Scope → Scope
with_functions fs scope = record scope { functions = fs }

abbrev Found : Type 0 → Type 0
Found A = Option (ℕ × A)

-- what doesn't tell a function from nothing
any_functions : {A : Type 0} (F : Meaning → A) → ((n : ℕ) → F (FunctionName n) ≡ F Nothing) →
    (l : Found (Text × Ty)) (g : Found GlobalVariable) (f f' : Found FunctionText) → F (first_meaning l g f) ≡ F (first_meaning l g f')
any_functions F same (Some l) g f f' = refl
any_functions F same None (Some g) f f' = refl
any_functions F same None None None None = refl
any_functions F same None None None (Some f) = sym (same f.0)
any_functions F same None None (Some f) None = same f.0
any_functions F same None None (Some f) (Some f') = same f.0 ∙ sym (same f'.0)

module _ (fs : List FunctionText) where
  pub same_meaning : {A : Type 0} (F : Meaning → A) → ((n : ℕ) → F (FunctionName n) ≡ F Nothing) → (scope : Scope) (name : Text) →
      F (meaning_of (with_functions fs scope) name) ≡ F (meaning_of scope name)
  same_meaning F same scope name = any_functions F same (find_local scope name) (find_global scope name) (find_function fs name) (find_function scope.functions name)

  pub same_term : (scope : Scope) (e : Expression) → resolve_term (with_functions fs scope) e ≡ resolve_term scope e
  same_term scope (literal at value kind) = refl
  same_term scope (variable at name) = same_meaning (variable_term at) (λ n. refl) scope name
  same_term scope (element at name index) =
      same_meaning (λ m. element_term at m (resolve_term (with_functions fs scope) index)) (λ n. refl) scope name
      ∙ ap (element_term at (meaning_of scope name)) (same_term scope index)
  same_term scope (unary at op operand) = ap (Unary at op) (same_term scope operand)
  same_term scope (binary at op left right) = λ i. binary_term at op (same_term scope left i) (same_term scope right i)

  pub same_terms : (scope : Scope) (es : List Expression) → map (resolve_term (with_functions fs scope)) es ≡ map (resolve_term scope) es
  same_terms scope es = ap (λ (f : Expression → Term). map f es) (λ i e. same_term scope e i)

  pub same_option : (scope : Scope) (e : Option Expression) → option_map (resolve_term (with_functions fs scope)) e ≡ option_map (resolve_term scope) e
  same_option scope e = ap (λ (f : Expression → Term). option_map f e) (λ i e. same_term scope e i)

  pub same_locals : (scope : Scope) (ls : List LocalVariable) → resolve_locals (with_functions fs scope) ls ≡ resolve_locals scope ls
  same_locals scope [] = refl
  same_locals scope (l ∷ ls) = λ i. same_term scope l.value i ∷ same_locals (declared scope l) ls i

  pub same_set : (scope : Scope) (at : Place) (name : Text) (index : Option Expression) (value : Expression) (rest : Steps) →
      set_steps at (meaning_of (with_functions fs scope) name) (option_map (resolve_term (with_functions fs scope)) index) (resolve_term (with_functions fs scope) value) rest
      ≡ set_steps at (meaning_of scope name) (option_map (resolve_term scope) index) (resolve_term scope value) rest
  same_set scope at name index value rest =
      same_meaning (λ m. set_steps at m (option_map (resolve_term (with_functions fs scope)) index) (resolve_term (with_functions fs scope) value)
      rest) (λ n. set_nothing n (resolve_term (with_functions fs scope) value) (option_map (resolve_term (with_functions fs scope)) index)) scope name
      ∙ (λ i. set_steps at (meaning_of scope name) (same_option scope index i) (same_term scope value i) rest)
    where
      set_nothing : (n : ℕ) (e : Term) (index : Option Term) → set_steps at (FunctionName n) index e rest ≡ set_steps at Nothing index e rest
      set_nothing n e None = refl
      set_nothing n e (Some index) = refl

  pub same_input : (scope : Scope) (at : Place) (name : Text) (rest : Steps) → input_steps at (meaning_of (with_functions fs scope) name) rest ≡ input_steps at (meaning_of scope name) rest
  same_input scope at name rest = same_meaning (λ m. input_steps at m rest) (λ n. refl) scope name

  pub same_variable : (scope : Scope) (name : Text) → loop_local (meaning_of (with_functions fs scope) name) ≡ loop_local (meaning_of scope name)
  same_variable scope name = same_meaning loop_local (λ n. refl) scope name

  pub same_number : (scope : Scope) (name : Text) → local_number (meaning_of (with_functions fs scope) name) ≡ local_number (meaning_of scope name)
  same_number scope name = same_meaning local_number (λ n. refl) scope name

  pub same_target : (scope : Scope) (target : Option Text) → target_of (with_functions fs scope) target ≡ target_of scope target
  same_target scope None = refl
  same_target scope (Some name) = same_number scope name

  -- a statement without calls, where all loops have as many turns
  mutual
    pub same_statement : (scope : Scope) (turns : ℕ) (s : Statement) (n n' : ℕ) (rest rest' : Steps) → has_call s ≡ false → rest ≡ rest' →
        resolve_statement (with_functions fs scope) (λ k. turns) n s rest ≡ resolve_statement scope (λ k. turns) n' s rest'
    same_statement scope turns (block at body) n n' rest rest' none e = same_statements scope turns body n n' rest rest' none e
    same_statement scope turns (if_then at condition taken) n n' rest rest' none e =
        λ i. If at (same_term scope condition i) (same_statement scope turns taken n n' Done Done none refl i) Done (e i)
    same_statement scope turns (if_else at condition taken other) n n' rest rest' none e =
        λ i. If at (same_term scope condition i) (same_statement scope turns taken n n' Done Done (neither_left (has_call taken) (has_call other) none) refl i)
        (same_statement scope turns other (n + loops_in taken) (n' + loops_in taken) Done Done (neither_right (has_call taken) (has_call other) none) refl i) (e i)
    same_statement scope turns (bounded_while at most condition body) n n' rest rest' none e =
        λ i. While at most (same_term scope condition i) (same_statement scope turns body n n' Done Done none refl i) (e i)
    same_statement scope turns (counting_for at names low closed high step body) n n' rest rest' none e =
        λ i. For at (same_variable scope names.first i) (same_term scope low i) closed (same_term scope high i) step turns
        (same_statement scope turns body (n + 1) (n' + 1) Done Done none refl i) (e i)
    same_statement scope turns (assign at name index value) n n' rest rest' none e =
        same_set scope at name index value rest ∙ ap (set_steps at (meaning_of scope name) (option_map (resolve_term scope) index) (resolve_term scope value)) e
    same_statement scope turns (output at value) n n' rest rest' none e = λ i. Output at (same_term scope value i) (e i)
    same_statement scope turns (input at name) n n' rest rest' none e = same_input scope at name rest ∙ ap (input_steps at (meaning_of scope name)) e
    same_statement scope turns (call at target callee arguments) n n' rest rest' none e = absurd (true≢false none)

    same_statements : (scope : Scope) (turns : ℕ) (ss : Statements) (n n' : ℕ) (rest rest' : Steps) → have_call ss ≡ false → rest ≡ rest' →
        resolve_statements (with_functions fs scope) (λ k. turns) n ss rest ≡ resolve_statements scope (λ k. turns) n' ss rest'
    same_statements scope turns no_statements n n' rest rest' none e = e
    same_statements scope turns (next_statement first others) n n' rest rest' none e =
        same_statement scope turns first n n' _ _ (neither_left (has_call first) (have_call others) none)
        (same_statements scope turns others (n + loops_in first) (n' + loops_in first) rest rest' (neither_right (has_call first) (have_call others) none) e)
