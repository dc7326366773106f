-- Programs in parts: the items before a function and those behind it.
use Rattle.std.proofs.Common.{◌≡◌, ℕ, suc, ◌+◌, Bool, true, false, cond, ◌||◌, List, [], ◌∷◌, ◌++◌, length, map, refl, ap, sym, ◌∙◌, arith, Option, None, Some, option_map, true≢false}
use Rattle.std.proofs.Common.{append_assoc, is_some}
use Rattle.prem_tiling.proofs.Prelude.{number_of, has_name, in_global, in_function, in_items, item_names, is_in_set, Scope, find_named, number_named, meaning_of, resolve_term, loops_in}
use Rattle.prem_tiling.proofs.Prelude.{loops_within, loop_local, set_steps, input_steps, call_steps, target_of, resolve_statement, resolve_statements, scope_in, resolve_function}
use Rattle.prem_tiling.proofs.Prelude.{resolve_items, globals_of, functions_of, Steps, Done, Output, If, For, While, Text, Statement, block, if_then, if_else, bounded_while, counting_for}
use Rattle.prem_tiling.proofs.Prelude.{assign, output, input, call, Statements, no_statements, next_statement, GlobalVariable, FunctionText, global_item, function_item, ProgramText}
use Rattle.prem_tiling.proofs.Prelude.{is_marked_as, marked_named, and_parts, append-nil, bytes_eq-Decides, bytes_eq}

-- ---- numbers of names

abbrev pub names_of_functions : List FunctionText → List Text
names_of_functions fs = map (λ (f : FunctionText). f.name) fs

abbrev pub or_behind : Option ℕ → ℕ → Option ℕ → Option ℕ
or_behind (Some k) n o = Some k
or_behind None n o = option_map (λ k. n + k) o

pub number_append : (xs ys : List Text) (w : Text) → number_of (xs ++ ys) w ≡ or_behind (number_of xs w) (length xs) (number_of ys w)
number_append [] ys w = by (number_of ys w)
  where
    by : (o : Option ℕ) → o ≡ option_map (λ k. 0 + k) o
    by None = refl
    by (Some k) = ap Some (omega arith)
number_append (x ∷ xs) ys w = by (bytes_eq x w) (number_of xs w) (number_of ys w) (number_of (xs ++ ys) w) (number_append xs ys w)
  where
    by : (b : Bool) (o p all : Option ℕ) → all ≡ or_behind o (length xs) p → cond b (Some 0) (option_map suc all) ≡ or_behind (cond b (Some 0) (option_map suc o)) (suc (length xs)) p
    by true o p all e = refl
    by false (Some k) p all e = ap (option_map suc) e
    by false None None all e = ap (option_map suc) e
    by false None (Some k) all e = ap (option_map suc) e ∙ ap Some (omega arith)

-- the number of a function, counted from n on
number_from : (n : ℕ) (fs : List FunctionText) (w : Text) →
    option_map (λ (f : ℕ × FunctionText). f.0) (find_named (λ (f : FunctionText). f.name) w n fs)
    ≡ option_map (λ k. n + k) (number_of (names_of_functions fs) w)
number_from n [] w = refl
number_from n (f ∷ fs) w = by (bytes_eq f.name w) (number_of (names_of_functions fs) w) (find_named (λ (f : FunctionText). f.name) w (n + 1) fs) (number_from (n + 1) fs w)
  where
    by : (b : Bool) (o : Option ℕ) (r : Option (ℕ × FunctionText)) → option_map (λ (f : ℕ × FunctionText). f.0) r ≡ option_map (λ k. n + 1 + k) o →
        option_map (λ (f : ℕ × FunctionText). f.0) (cond b (Some (n, f)) r) ≡ option_map (λ k. n + k) (cond b (Some 0) (option_map suc o))
    by true o r e = ap Some (omega arith)
    by false None r e = e
    by false (Some k) r e = e ∙ ap Some (omega arith)

pub number_is : (fs : List FunctionText) (w : Text) → number_named fs w ≡ number_of (names_of_functions fs) w
number_is fs w = number_from 0 fs w ∙ by (number_of (names_of_functions fs) w)
  where
    by : (o : Option ℕ) → option_map (λ k. 0 + k) o ≡ o
    by None = refl
    by (Some k) = ap Some (omega arith)

pub number_none : (xs : List Text) (w : Text) → has_name xs w ≡ false → number_of xs w ≡ None
number_none [] w e = refl
number_none (x ∷ xs) w e = by (bytes_eq x w) e (number_none xs w)
  where
    by : (b : Bool) → (b || has_name xs w) ≡ false → (has_name xs w ≡ false → number_of xs w ≡ None) → cond b (Some 0) (option_map suc (number_of xs w)) ≡ None
    by true h next = absurd (true≢false h)
    by false h next = ap (option_map suc) (next h)

-- ---- resolving in parts

abbrev pub loops_of : ProgramText → ℕ
loops_of [] = 0
loops_of (global_item g ∷ items) = loops_of items
loops_of (function_item f ∷ items) = loops_within f.body + loops_of items

pub globals_append : (xs ys : ProgramText) → globals_of (xs ++ ys) ≡ globals_of xs ++ globals_of ys
globals_append [] ys = refl
globals_append (global_item g ∷ xs) ys = ap (λ gs. g ∷ gs) (globals_append xs ys)
globals_append (function_item f ∷ xs) ys = globals_append xs ys

pub functions_append : (xs ys : ProgramText) → functions_of (xs ++ ys) ≡ functions_of xs ++ functions_of ys
functions_append [] ys = refl
functions_append (global_item g ∷ xs) ys = functions_append xs ys
functions_append (function_item f ∷ xs) ys = ap (λ fs. f ∷ fs) (functions_append xs ys)

pub items_append : (fs : List FunctionText) (turns : ℕ → ℕ) (n : ℕ) (gs : List GlobalVariable) (xs ys : ProgramText) →
    resolve_items fs turns n gs (xs ++ ys) ≡ resolve_items fs turns n gs xs ++ resolve_items fs turns (n + loops_of xs) (gs ++ globals_of xs) ys
items_append fs turns n gs [] ys = let e : n + 0 ≡ n = omega arith in λ i. resolve_items fs turns (sym e i) (sym (append-nil gs) i) ys
items_append fs turns n gs (global_item g ∷ xs) ys =
    items_append fs turns n (gs ++ g ∷ []) xs ys ∙ (λ i. resolve_items fs turns n (gs ++ g ∷ []) xs ++ resolve_items fs turns (n + loops_of xs) (append_assoc gs (g ∷ []) (globals_of xs) i) ys)
items_append fs turns n gs (function_item f ∷ xs) ys =
    ap (λ rs. resolve_function fs turns n gs f ∷ rs) (items_append fs turns (n + loops_within f.body) gs xs ys
    ∙ (let e : n + loops_within f.body + loops_of xs ≡ n + (loops_within f.body + loops_of xs) =
    omega arith in λ i. resolve_items fs turns (n + loops_within f.body) gs xs ++ resolve_items fs turns (e i) (gs ++ globals_of xs) ys))

pub routines_count : (fs : List FunctionText) (turns : ℕ → ℕ) (n : ℕ) (gs : List GlobalVariable) (xs : ProgramText) → length (resolve_items fs turns n gs xs) ≡ length (functions_of xs)
routines_count fs turns n gs [] = refl
routines_count fs turns n gs (global_item g ∷ xs) = routines_count fs turns n (gs ++ g ∷ []) xs
routines_count fs turns n gs (function_item f ∷ xs) = ap suc (routines_count fs turns (n + loops_within f.body) gs xs)

-- where all loops have as many turns, their numbers don't matter
mutual
  pub any_number : (scope : Scope) (turns : ℕ) (s : Statement) (n m : ℕ) (rest rest' : Steps) → rest ≡ rest' →
      resolve_statement scope (λ k. turns) n s rest ≡ resolve_statement scope (λ k. turns) m s rest'
  any_number scope turns (block at body) n m rest rest' e = any_numbers scope turns body n m rest rest' e
  any_number scope turns (if_then at condition taken) n m rest rest' e = λ i. If at (resolve_term scope condition) (any_number scope turns taken n m Done Done refl i) Done (e i)
  any_number scope turns (if_else at condition taken other) n m rest rest' e =
      λ i. If at (resolve_term scope condition) (any_number scope turns taken n m Done Done refl i) (any_number scope turns other (n + loops_in taken) (m + loops_in taken) Done Done refl i) (e i)
  any_number scope turns (bounded_while at most condition body) n m rest rest' e = λ i. While at most (resolve_term scope condition) (any_number scope turns body n m Done Done refl i) (e i)
  any_number scope turns (counting_for at names low closed high step body) n m rest rest' e =
      λ i. For at (loop_local (meaning_of scope names.first)) (resolve_term scope low) closed (resolve_term scope high) step turns (any_number scope turns body (n + 1) (m + 1) Done Done refl i) (e i)
  any_number scope turns (assign at name index value) n m rest rest' e = ap (set_steps at (meaning_of scope name) (option_map (resolve_term scope) index) (resolve_term scope value)) e
  any_number scope turns (output at value) n m rest rest' e = ap (Output at (resolve_term scope value)) e
  any_number scope turns (input at name) n m rest rest' e = ap (input_steps at (meaning_of scope name)) e
  any_number scope turns (call at target callee arguments) n m rest rest' e = ap (call_steps at (target_of scope target) (number_named scope.functions callee) (map (resolve_term scope) arguments)) e

  any_numbers : (scope : Scope) (turns : ℕ) (ss : Statements) (n m : ℕ) (rest rest' : Steps) → rest ≡ rest' →
      resolve_statements scope (λ k. turns) n ss rest ≡ resolve_statements scope (λ k. turns) m ss rest'
  any_numbers scope turns no_statements n m rest rest' e = e
  any_numbers scope turns (next_statement s ss) n m rest rest' e = any_number scope turns s n m _ _ (any_numbers scope turns ss (n + loops_in s) (m + loops_in s) rest rest' e)

pub function_any : (fs : List FunctionText) (turns n m : ℕ) (gs : List GlobalVariable) (f : FunctionText) → resolve_function fs (λ k. turns) n gs f ≡ resolve_function fs (λ k. turns) m gs f
function_any fs turns n m gs f = λ i. record {
  text = f;
  locals = (resolve_function fs (λ k. turns) n gs f).locals;
  body = any_numbers (scope_in fs gs f) turns f.body n m Done Done refl i;
  result = (resolve_function fs (λ k. turns) n gs f).result;
}

-- ---- rules in parts

pub in_items_append : (fs : List FunctionText) (taken : List Text) (within : List Bool) (n : ℕ) (gs : List GlobalVariable) (earlier : List Text) (xs ys : ProgramText) →
    in_items fs taken within n gs earlier (xs ++ ys) ≡ in_items fs taken within n gs earlier xs
    ++ in_items fs taken within (n + length (functions_of xs)) (gs ++ globals_of xs) (earlier ++ item_names xs) ys
in_items_append fs taken within n gs earlier [] ys = let e : n + 0 ≡ n = omega arith in λ i. in_items fs taken within (sym e i) (sym (append-nil gs) i) (sym (append-nil earlier) i) ys
in_items_append fs taken within n gs earlier (global_item g ∷ xs) ys =
    ap (λ bs. in_global earlier g ++ bs) (in_items_append fs taken within n (gs ++ g ∷ []) (earlier ++ g.name ∷ []) xs ys
    ∙ (λ i. in_items fs taken within n (gs ++ g ∷ []) (earlier ++ g.name ∷ []) xs
    ++ in_items fs taken within (n + length (functions_of xs)) (append_assoc gs (g ∷ []) (globals_of xs) i)
    (append_assoc earlier (g.name ∷ []) (item_names xs) i) ys))
    ∙ sym (append_assoc (in_global earlier g) (in_items fs taken within n (gs ++ g ∷ []) (earlier ++ g.name ∷ []) xs) _)
in_items_append fs taken within n gs earlier (function_item f ∷ xs) ys =
    ap (λ bs. in_function fs taken n (is_in_set within n) gs earlier f ++ bs) (in_items_append fs taken within (n + 1) gs (earlier ++ f.name ∷ []) xs ys
    ∙ (let e : n + 1 + length (functions_of xs) ≡ n + suc (length (functions_of xs)) =
    omega arith in λ i. in_items fs taken within (n + 1) gs (earlier ++ f.name ∷ []) xs
    ++ in_items fs taken within (e i) (gs ++ globals_of xs) (append_assoc earlier (f.name ∷ []) (item_names xs) i) ys))
    ∙ sym (append_assoc (in_function fs taken n (is_in_set within n) gs earlier f) (in_items fs taken within (n + 1) gs (earlier ++ f.name ∷ []) xs) _)

-- ---- where the function stands

pub record Split (p : ProgramText) (f : FunctionText) : Type 0 where
  pub front : ProgramText
  pub back : ProgramText
  pub is : p ≡ front ++ function_item f ∷ back

pub split_at : (p : ProgramText) (name : Text) (f : FunctionText) → marked_named (functions_of p) name ≡ Some f → Split p f
split_at [] name f e = cc
split_at (global_item g ∷ p) name f e = let s = split_at p name f e in record { front = global_item g ∷ s.front; back = s.back; is = ap (λ q. global_item g ∷ q) s.is }
split_at (function_item h ∷ p) name f e = by (is_marked_as name h) e (λ e. split_at p name f e)
  where
    by : (b : Bool) → cond b (Some h) (marked_named (functions_of p) name) ≡ Some f → (marked_named (functions_of p) name ≡ Some f → Split p f) → Split (function_item h ∷ p) f
    by true found next = record { front = []; back = p; is = (let same : h ≡ f = cc in ap (λ x. function_item x ∷ p) same) }
    by false found next = let s = next found in record { front = function_item h ∷ s.front; back = s.back; is = ap (λ q. function_item h ∷ q) s.is }

pub named_so : (fs : List FunctionText) (name : Text) (f : FunctionText) → marked_named fs name ≡ Some f → f.name ≡ name
named_so [] name f e = cc
named_so (h ∷ fs) name f e = by (is_marked_as name h) refl e (λ found. named_so fs name f found)
  where
    by : (b : Bool) → is_marked_as name h ≡ b → cond b (Some h) (marked_named fs name) ≡ Some f → (marked_named fs name ≡ Some f → f.name ≡ name) → f.name ≡ name
    by true is found next = let same : h ≡ f = cc in ap (λ (x : FunctionText). x.name) (sym same) ∙ (bytes_eq-Decides h.name name).0 (and_parts (bytes_eq h.name name) (is_some h.mark) is).0
    by false is found next = next found
