-- Steps in memory, one behind the other.
use Rattle.std.proofs.Common.{◌≡◌, ℕ, zero, suc, ◌+◌, ◌<◌, Bool, true, false, cond, eqb, ◌||◌, List, [], ◌∷◌, ◌++◌, length, get_or, drop, refl, ap, sym, ◌∙◌, arith}
use Rattle.prem_analysis.proofs.Prelude.{plain_before, plain_row, plain, plain_list, targets, row_targets, list_targets, items_of, Sequence, first_of_append, suc_suc, assigns, after, bounds}
use Rattle.prem_analysis.proofs.Prelude.{Environment, any_again, at_local, loosened, Site, in_steps, first, first_of, Steps, Done, Step, Block, Row_of-Step, end_of-Step, more_of-Step}
use Rattle.prem_analysis.proofs.Prelude.{items-the_row-Step, items_hidden-the_row-Step-0, hidden-the_row-Step-0, Block', SetLocal as SetLocalTree, SetScalar as SetScalarTree}
use Rattle.prem_analysis.proofs.Prelude.{SetElement as SetElementTree, Output as OutputTree, Input as InputTree, If', For', While', Call as CallTree, nat_tests, drop_more}
use Rattle.prem_ranges.proofs.Followed.{after-followed, bounds-followed, in_steps-followed, assigns-followed}
use Rattle.prem_ranges.specs.Environment.{Known}
use Rattle.prem_ranges.specs.Sequence.{followed}

mutual
  plain-followed : (s : Step) (a b : Steps) → plain_before s (followed a b) ≡ followed (plain_before s a) b
  plain-followed (Block' shape body) a b = row-followed body a b
  plain-followed (SetLocalTree at number value) a b = refl
  plain-followed (SetScalarTree at g ty value) a b = refl
  plain-followed (SetElementTree at g ty index value) a b = refl
  plain-followed (OutputTree at value) a b = refl
  plain-followed (InputTree at number) a b = refl
  plain-followed (If' at condition p taken q other) a b = refl
  plain-followed (For' at number low closed high step p body) a b = refl
  plain-followed (While' at most condition p body) a b = refl
  plain-followed (CallTree at target callee arguments) a b = refl

  row-followed : {m : _} (row : Row_of-Step m) (a b : Steps) → plain_row row (followed a b) ≡ followed (plain_row row a) b
  row-followed end_of-Step a b = refl
  row-followed (more_of-Step first others) a b = ap (plain_before first) (row-followed others a b) ∙ plain-followed first (plain_row others a) b

one_by_one : (s : Step) (rest : Steps) → plain_before s rest ≡ followed (plain s) rest
one_by_one s rest = plain-followed s Done rest

pub after-step : (env : Environment) (s : Step) (rest : Steps) → after env (plain_before s rest) ≡ after (after env (plain s)) rest
after-step env s rest = ap (after env) (one_by_one s rest) ∙ after-followed env (plain s) rest

pub bounds-step : (env : Environment) (s : Step) (rest : Steps) → bounds env (plain_before s rest) ≡ bounds env (plain s) ++ bounds (after env (plain s)) rest
bounds-step env s rest = ap (bounds env) (one_by_one s rest) ∙ bounds-followed env (plain s) rest

pub first-step : (site : Site) (around : ℕ) (env : Environment) (s : Step) (rest : Steps) →
    first_of (in_steps site around env (plain_before s rest)) ≡ first (first_of (in_steps site around env (plain s))) (first_of (in_steps site around (after env (plain s)) rest))
first-step site around env s rest =
    ap (λ steps. first_of (in_steps site around env steps)) (one_by_one s rest) ∙ ap first_of (in_steps-followed site around env (plain s) rest)
    ∙ first_of_append (in_steps site around env (plain s)) (in_steps site around (after env (plain s)) rest)

-- a block is the steps of its list
row_listed : {m : _} (row : Row_of-Step m) → plain_row row Done ≡ plain_list (items-the_row-Step m row)
row_listed end_of-Step = refl
row_listed (more_of-Step first rest) = ap (plain_before first) (row_listed rest)

pub block_is : (body : Sequence Step) → plain (Block body) ≡ plain_list (items_of body)
block_is body = row_listed (hidden-the_row-Step-0 body.all) ∙ ap plain_list (items_hidden-the_row-Step-0 body.all)

-- ---- what is assigned

row_targeted : {m : _} (row : Row_of-Step m) → row_targets row ≡ list_targets (items-the_row-Step m row)
row_targeted end_of-Step = refl
row_targeted (more_of-Step first rest) = ap (λ ks. targets first ++ ks) (row_targeted rest)

pub block_targets : (body : Sequence Step) → targets (Block body) ≡ list_targets (items_of body)
block_targets body = row_targeted (hidden-the_row-Step-0 body.all) ∙ ap list_targets (items_hidden-the_row-Step-0 body.all)

pub loosened-none : (env : Environment) → loosened (λ j. false) env ≡ env
loosened-none [] = refl
loosened-none (l ∷ ls) = ap (λ e. l ∷ e) (loosened-none ls)

again : (a b : Bool) (l : Known) → cond (a || b) (any_again l) l ≡ cond b (any_again (cond a (any_again l) l)) (cond a (any_again l) l)
again true true l = refl
again true false l = refl
again false b l = refl

pub loosened-both : (p q : ℕ → Bool) (env : Environment) → loosened (λ j. p j || q j) env ≡ loosened q (loosened p env)
loosened-both p q [] = refl
loosened-both p q (l ∷ ls) = ap (λ x. x ∷ loosened (λ k. p (suc k) || q (suc k)) ls) (again (p 0) (q 0) l)
    ∙ ap (λ e. cond (q 0) (any_again (cond (p 0) (any_again l) l)) (cond (p 0) (any_again l) l) ∷ e) (loosened-both (λ k. p (suc k)) (λ k. q (suc k)) ls)

zero_suc : (k : ℕ) → eqb 0 (suc k) ≡ false
zero_suc k = grind (arith, nat_tests)

pub loosened-one : (k : ℕ) (env : Environment) → loosened (λ j. eqb k j) env ≡ at_local k any_again env
loosened-one k [] = refl
loosened-one zero (l ∷ ls) = ap (λ e. any_again l ∷ e) (ap (λ (p : ℕ → Bool). loosened p ls) (λ i k. zero_suc k i) ∙ loosened-none ls)
loosened-one (suc k) (l ∷ ls) =
    ap (λ e. cond (eqb (suc k) 0) (any_again l) l ∷ e) (ap (λ (p : ℕ → Bool). loosened p ls) (λ i j. suc_suc k j i) ∙ loosened-one k ls)
    ∙ (let no : eqb (suc k) 0 ≡ false = grind (arith, nat_tests) in rw no)

-- the locals that a step, and the steps behind it, assign
loosened-step : (s : Step) (rest : Steps) (env : Environment) → loosened (λ j. assigns j (plain_before s rest)) env ≡ loosened (λ j. assigns j rest) (loosened (λ j. assigns j (plain s)) env)
loosened-step s rest env =
    ap (λ (steps : Steps). loosened (λ j. assigns j steps) env) (one_by_one s rest)
    ∙ ap (λ (p : ℕ → Bool). loosened p env) (λ i j. assigns-followed j (plain s) rest i)
    ∙ loosened-both (λ j. assigns j (plain s)) (λ j. assigns j rest) env

-- ---- an arm of the walk over what is assigned

pub or_end : (b : Bool) → (b || false) ≡ b
or_end true = refl
or_end false = refl

pub arm : {s' : Step} (s : Step) (p : ℕ → Bool) (env : Environment) → s ≡ s' → ((j : ℕ) → assigns j (plain s') ≡ p j) → loosened (λ j. assigns j (plain s)) env ≡ loosened p env
arm s p env is same = ap (λ (x : Step). loosened (λ j. assigns j (plain x)) env) is ∙ ap (λ (q : ℕ → Bool). loosened q env) (λ i j. same j i)

pub local_arm : {s' : Step} (s : Step) (k : ℕ) (env : Environment) → s ≡ s' → ((j : ℕ) → assigns j (plain s') ≡ (eqb k j || false)) → at_local k any_again env ≡ loosened (λ j. assigns j (plain s)) env
local_arm s k env is same = sym (arm s (λ j. eqb k j) env is (λ j. same j ∙ or_end (eqb k j)) ∙ loosened-one k env)

pub no_arm : {s' : Step} (s : Step) (env : Environment) → s ≡ s' → ((j : ℕ) → assigns j (plain s') ≡ false) → env ≡ loosened (λ j. assigns j (plain s)) env
no_arm s env is same = sym (arm s (λ j. false) env is same ∙ loosened-none env)

-- two tests, one after the other
pub both_arm : {s' : Step} (s : Step) (p q : ℕ → Bool) (env : Environment) → s ≡ s' → ((j : ℕ) → assigns j (plain s') ≡ (p j || q j || false)) →
    loosened q (loosened p env) ≡ loosened (λ j. assigns j (plain s)) env
both_arm s p q env is same = sym (arm s (λ j. p j || q j) env is (λ j. same j ∙ or_end (p j || q j)) ∙ loosened-both p q env)

pub moved : (s s' : Step) (e e' : Environment) → s ≡ s' → e ≡ e' → loosened (λ j. assigns j (plain s)) e ≡ loosened (λ j. assigns j (plain s')) e'
moved s s' e e' one two = ap (λ (x : Step). loosened (λ j. assigns j (plain x)) e) one ∙ ap (λ v. loosened (λ j. assigns j (plain s')) v) two

-- a list's first step, then the others
pub more_loosened : (steps : List Step) (i : ℕ) (s : Step) (env env' : Environment) → i < length steps → s ≡ get_or steps i s → env' ≡ loosened (λ j. assigns j (plain s)) env →
    loosened (λ j. assigns j (plain_list (drop (i + 1) steps))) env' ≡ loosened (λ j. assigns j (plain_list (drop i steps))) env
more_loosened steps i s env env' inside is new =
    let all : drop i steps ≡ s ∷ drop (i + 1) steps = drop_more steps i s inside ∙ ap (λ x. x ∷ drop (i + 1) steps) (sym is) in
    ap (λ v. loosened (λ j. assigns j (plain_list (drop (i + 1) steps))) v) new ∙ sym (loosened-step s (plain_list (drop (i + 1) steps)) env)
    ∙ ap (λ (l : List Step). loosened (λ j. assigns j (plain_list l)) env) (sym all)
