-- What is seen of expressions, and of steps one behind the other.
use Rattle.std.proofs.Common.{◌≡◌, ℕ, ◌+◌, ◌<◌, ◌≤◌, Bool, true, false, List, [], ◌∷◌, ◌++◌, length, map, drop, get_or, refl, ap, sym, ◌∙◌, subst, None, Some}
use Rattle.prem_annotate.proofs.Prelude.{after-step, plain_before, plain_row, plain, plain_list, argument, Sight, touched, both, arguments_from, passed, behind, looked, touch, touched_by}
use Rattle.prem_annotate.proofs.Prelude.{touched_by_all, touched_in, KnownCall, known_call, calls_in, GlobalAccess, loop_end, in_counting, in_body, behind_loop, in_while, behind_call, after}
use Rattle.prem_annotate.proofs.Prelude.{Environment, at_local, any_again, assigned, joined, range_of, refined, Term, operator, Steps, Done, SetLocal, SetScalar, SetElement, Output, Input}
use Rattle.prem_annotate.proofs.Prelude.{If, For, While, Call, Place, term_of, Step, Row_of-Step, end_of-Step, more_of-Step, exactly, BinOp, Kind, append-nil, append_assoc, drop_more}
use Rattle.prem_annotate.proofs.Prelude.{drop_all, pos}
use Rattle.prem_analysis.specs.Ranging.Shortcut.{shortcut_of}
use Rattle.prem_annotate.specs.Seeing.Sight.{Argument}
use Rattle.prem_annotate.specs.Seeing.Walk.{called}
use Rattle.prem_ranges.specs.Sequence.{followed}
use Rattle.prem_tree.specs.declared.resolve.resolved.Step.TheVariants.{Block', SetLocal as SetLocalTree, SetScalar as SetScalarTree, SetElement as SetElementTree, Output as OutputTree}
use Rattle.prem_tree.specs.declared.resolve.resolved.Step.TheVariants.{Input as InputTree, If', For', While', Call as CallTree}
use Rattle.prem_tree.specs.declared.resolve.resolved.Term.{Term as TermTree}
use Rattle.prem_word.specs.declared.kind.BinOp.TheVariants.{AndAlso as AndAlsoOp, OrElse as OrElseOp}

abbrev pub sight : List GlobalAccess → List Argument → Sight
sight ts as_ = record { touches = ts; arguments = as_ }

pub same_sight : (ts us : List GlobalAccess) (as_ bs : List Argument) → ts ≡ us → as_ ≡ bs → sight ts as_ ≡ sight us bs
same_sight ts us as_ bs one two = ap (λ x. sight x as_) one ∙ ap (sight us) two

-- ---- expressions

pub touched_none : (s : Sight) → s ≡ touched [] s
touched_none s = same_sight _ _ _ _ (sym (append-nil s.touches)) refl

pub touched_more : (xs ys : List GlobalAccess) (s : Sight) → touched ys (touched xs s) ≡ touched (xs ++ ys) s
touched_more xs ys s = same_sight _ _ _ _ (append_assoc s.touches xs ys) refl

pub touched_some : (env : Environment) (at : Place) (op : BinOp) (k : Kind) (l r : Term) (b : Bool) → shortcut_of op ≡ Some b →
    touched_by env (operator at op k l r) ≡ touched_by env l ++ touched_by (refined b env l) r
touched_some env at AndAlsoOp k l r true is = refl
touched_some env at OrElseOp k l r false is = refl
touched_some env at AndAlsoOp k l r false is = cc
touched_some env at OrElseOp k l r true is = cc
touched_some env at op k l r b is = cc

pub touched_operator : (env : Environment) (at : Place) (op : BinOp) (k : Kind) (l r : Term) → shortcut_of op ≡ None → touched_by env (operator at op k l r) ≡ touched_by env l ++ touched_by env r
touched_operator env at AndAlsoOp k l r is = cc
touched_operator env at OrElseOp k l r is = cc
touched_operator env at op k l r is = refl

-- ---- steps without steps in them

pub looked_one : (a : List GlobalAccess) (s : Sight) → touched a s ≡ looked a s
looked_one a s = same_sight _ _ _ _ (ap (λ l. s.touches ++ l) (sym (append-nil a))) (sym (append-nil s.arguments))

pub looked_two : (t : GlobalAccess) (a : List GlobalAccess) (s : Sight) → touched a (touched (t ∷ []) s) ≡ looked (t ∷ a) s
looked_two t a s = touched_more (t ∷ []) a s ∙ looked_one (t ∷ a) s

pub looked_three : (t : GlobalAccess) (a b : List GlobalAccess) (s : Sight) → touched b (touched a (touched (t ∷ []) s)) ≡ looked (t ∷ a ++ b) s
looked_three t a b s = ap (touched b) (touched_more (t ∷ []) a s) ∙ touched_more (t ∷ a) b s ∙ looked_one (t ∷ a ++ b) s

pub called_is : (ts : List GlobalAccess) (as_ : List Argument) (s : Sight) → both ts as_ s ≡ called ts as_ s
called_is ts as_ s = same_sight _ _ _ _ (ap (λ l. s.touches ++ l) (sym (append-nil ts))) (ap (λ l. s.arguments ++ l) (sym (append-nil as_)))

-- ---- arguments: what is left gives the whole

pub record Passing (f k : ℕ) (es left : List Term) (env env0 : Environment) (s s0 : Sight) : Type 0 where
  pub known : env ≡ env0
  pub sight_is : both (touched_by_all env0 left) (arguments_from f k env0 left) s ≡ both (touched_by_all env0 es) (arguments_from f 0 env0 es) s0

pub passed_one : (f k : ℕ) (es : List Term) (e : Term) (left : List Term) (env env' env0 : Environment) (s s' s0 : Sight) →
    Passing f k es (e ∷ left) env env0 s s0 → env' ≡ env → s' ≡ both (touched_by env e) (argument f k (range_of env e) ∷ []) s → Passing f (k + 1) es left env' env0 s' s0
passed_one f k es e left env env' env0 s s' s0 p new_env new_sight =
    let ts = touched_by_all env0 left in let as_ = arguments_from f (k + 1) env0 left in
    record {
      known = new_env ∙ p.known;
      sight_is = ap (both ts as_) (new_sight ∙ ap (λ v. both (touched_by v e) (argument f k (range_of v e) ∷ []) s) p.known)
          ∙ same_sight _ _ _ _ (append_assoc s.touches (touched_by env0 e) ts) (append_assoc s.arguments (argument f k (range_of env0 e) ∷ []) as_) ∙ p.sight_is;
    }

pub passed_next : (f : ℕ) (es : List TermTree) (k : ℕ) (e : TermTree) (env env' env0 : Environment) (s s' s0 : Sight) → k < length es → e ≡ get_or es k e →
    Passing f k (map term_of es) (map term_of (drop k es)) env env0 s s0 → env' ≡ env → s' ≡ both (touched_by env (term_of e)) (argument f k (range_of env (term_of e)) ∷ []) s →
    Passing f (k + 1) (map term_of es) (map term_of (drop (k + 1) es)) env' env0 s' s0
passed_next f es k e env env' env0 s s' s0 inside is p new_env new_sight =
    let all : drop k es ≡ e ∷ drop (k + 1) es = drop_more es k e inside ∙ ap (λ x. x ∷ drop (k + 1) es) (sym is) in
    let here = subst (λ (l : List TermTree). Passing f k (map term_of es) (map term_of l) env env0 s s0) all p in
    passed_one f k (map term_of es) (term_of e) (map term_of (drop (k + 1) es)) env env' env0 s s' s0 here new_env new_sight

both_none : (s : Sight) → s ≡ both [] [] s
both_none s = same_sight _ _ _ _ (sym (append-nil s.touches)) (sym (append-nil s.arguments))

pub passed_all : (f : ℕ) (es : List TermTree) (k : ℕ) (env env0 : Environment) (s s0 : Sight) → length es ≤ k → Passing f k (map term_of es) (map term_of (drop k es)) env env0 s s0 →
    s ≡ both (touched_by_all env0 (map term_of es)) (arguments_from f 0 env0 (map term_of es)) s0
passed_all f es k env env0 s s0 past p =
    let here = subst (λ (l : List TermTree). Passing f k (map term_of es) (map term_of l) env env0 s s0) (drop_all k es past) p in
    both_none s ∙ here.sight_is

-- ---- steps, one behind the other

mutual
  plain-followed : (s : Step) (a b : Steps) → plain_before s (followed a b) ≡ followed (plain_before s a) b
  plain-followed (Block' shape body) a b = row-followed body a b
  plain-followed (SetLocalTree at number value) a b = refl
  plain-followed (SetScalarTree at g ty value) a b = refl
  plain-followed (SetElementTree at g ty index value) a b = refl
  plain-followed (OutputTree at value) a b = refl
  plain-followed (InputTree at number) a b = refl
  plain-followed (If' at condition p taken q other) a b = refl
  plain-followed (For' at number low closed high step p body) a b = refl
  plain-followed (While' at most condition p body) a b = refl
  plain-followed (CallTree at target callee arguments) a b = refl

  row-followed : {m : _} (row : Row_of-Step m) (a b : Steps) → plain_row row (followed a b) ≡ followed (plain_row row a) b
  row-followed end_of-Step a b = refl
  row-followed (more_of-Step first others) a b = ap (plain_before first) (row-followed others a b) ∙ plain-followed first (plain_row others a) b

one_by_one : (s : Step) (rest : Steps) → plain_before s rest ≡ followed (plain s) rest
one_by_one s rest = plain-followed s Done rest

-- the rest of a list in front of which others stand
append_behind : {A : Type 0} (xs all ys zs : List A) → all ≡ ys ++ zs → xs ++ all ≡ xs ++ ys ++ zs
append_behind xs all ys zs e = ap (λ l. xs ++ l) e ∙ sym (append_assoc xs ys zs)

pub touched-followed : (env : Environment) (a b : Steps) → touched_in env (followed a b) ≡ touched_in env a ++ touched_in (after env a) b
touched-followed env Done b = refl
touched-followed env (SetLocal at k e rest) b = append_behind (touched_by env e) _ _ _ (touched-followed (at_local k (assigned (range_of env e)) env) rest b)
touched-followed env (SetScalar at g ty e rest) b = append_behind (touch at g (exactly (pos 0)) ∷ touched_by env e) _ _ _ (touched-followed env rest b)
touched-followed env (SetElement at g ty index e rest) b = append_behind (touch at g (range_of env index) ∷ touched_by env index ++ touched_by env e) _ _ _ (touched-followed env rest b)
touched-followed env (Output at e rest) b = append_behind (touched_by env e) _ _ _ (touched-followed env rest b)
touched-followed env (Input at k rest) b = touched-followed (at_local k any_again env) rest b
touched-followed env (If at c taken other rest) b =
    append_behind (touched_by env c ++ touched_in (refined true env c) taken ++ touched_in (refined false env c) other) _ _ _
    (touched-followed (joined (after (refined true env c) taken) (after (refined false env c) other)) rest b)
touched-followed env (For at k low closed high step turns body rest) b =
    let end = loop_end env k closed high body in
    append_behind (touched_by env low ++ touched_by (in_counting k body env) high ++ touched_in (in_body env k low end body) body) _ _ _ (touched-followed (behind_loop env k low end step body) rest b)
touched-followed env (While at turns c body rest) b =
    append_behind (touched_by (in_while body env) c ++ touched_in (refined true (in_while body env) c) body) _ _ _ (touched-followed (in_while body env) rest b)
touched-followed env (Call at target f arguments rest) b = append_behind (touched_by_all env arguments) _ _ _ (touched-followed (behind_call target env) rest b)

pub calls-followed : (env : Environment) (a b : Steps) → calls_in env (followed a b) ≡ calls_in env a ++ calls_in (after env a) b
calls-followed env Done b = refl
calls-followed env (SetLocal at k e rest) b = calls-followed (at_local k (assigned (range_of env e)) env) rest b
calls-followed env (SetScalar at g ty e rest) b = calls-followed env rest b
calls-followed env (SetElement at g ty index e rest) b = calls-followed env rest b
calls-followed env (Output at e rest) b = calls-followed env rest b
calls-followed env (Input at k rest) b = calls-followed (at_local k any_again env) rest b
calls-followed env (If at c taken other rest) b =
    append_behind (calls_in (refined true env c) taken ++ calls_in (refined false env c) other) _ _ _
    (calls-followed (joined (after (refined true env c) taken) (after (refined false env c) other)) rest b)
calls-followed env (For at k low closed high step turns body rest) b =
    let end = loop_end env k closed high body in append_behind (calls_in (in_body env k low end body) body) _ _ _ (calls-followed (behind_loop env k low end step body) rest b)
calls-followed env (While at turns c body rest) b = append_behind (calls_in (refined true (in_while body env) c) body) _ _ _ (calls-followed (in_while body env) rest b)
calls-followed env (Call at target f arguments rest) b = ap (λ l. known_call at f env arguments ∷ l) (calls-followed (behind_call target env) rest b)

pub passed-append : (xs ys : List KnownCall) → passed (xs ++ ys) ≡ passed xs ++ passed ys
passed-append [] ys = refl
passed-append (c ∷ cs) ys = append_behind (arguments_from c.callee 0 c.known c.arguments) _ _ _ (passed-append cs ys)

pub behind_step : (env : Environment) (step : Step) (rest : Steps) (s : Sight) → behind (after env (plain step)) rest (behind env (plain step) s) ≡ behind env (plain_before step rest) s
behind_step env step rest s =
    let touches : touched_in env (plain_before step rest) ≡ touched_in env (plain step) ++ touched_in (after env (plain step)) rest =
    ap (touched_in env) (one_by_one step rest) ∙ touched-followed env (plain step) rest in
    let calls : passed (calls_in env (plain_before step rest)) ≡ passed (calls_in env (plain step)) ++ passed (calls_in (after env (plain step)) rest) =
    ap (λ l. passed (calls_in env l)) (one_by_one step rest) ∙ ap passed (calls-followed env (plain step) rest) ∙ passed-append (calls_in env (plain step)) (calls_in (after env (plain step)) rest) in
    same_sight _ _ _ _ (append_assoc s.touches _ _ ∙ ap (λ l. s.touches ++ l) (sym touches)) (append_assoc s.arguments _ _ ∙ ap (λ l. s.arguments ++ l) (sym calls))

-- ---- steps of a list: what is left leads where all led

pub record Walking (steps left : List Step) (env env0 : Environment) (s s0 : Sight) : Type 0 where
  pub known : after env (plain_list left) ≡ after env0 (plain_list steps)
  pub sight_is : behind env (plain_list left) s ≡ behind env0 (plain_list steps) s0

pub walked_on : (steps : List Step) (i : ℕ) (step : Step) (env env' env0 : Environment) (s s' s0 : Sight) → i < length steps → step ≡ get_or steps i step →
    Walking steps (drop i steps) env env0 s s0 → env' ≡ after env (plain step) → s' ≡ behind env (plain step) s → Walking steps (drop (i + 1) steps) env' env0 s' s0
walked_on steps i step env env' env0 s s' s0 inside is w new_env new_sight =
    let all : drop i steps ≡ step ∷ drop (i + 1) steps = drop_more steps i step inside ∙ ap (λ x. x ∷ drop (i + 1) steps) (sym is) in
    let rest = plain_list (drop (i + 1) steps) in
    record {
      known = ap (λ e. after e rest) new_env ∙ sym (after-step env step rest) ∙ ap (λ (l : List Step). after env (plain_list l)) (sym all) ∙ w.known;
      sight_is = ap (λ e. behind e rest s') new_env ∙ ap (behind (after env (plain step)) rest) new_sight ∙ behind_step env step rest s
          ∙ ap (λ (l : List Step). behind env (plain_list l) s) (sym all) ∙ w.sight_is;
    }
