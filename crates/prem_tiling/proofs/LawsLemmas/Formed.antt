-- What unbroken rules say of statements.
use Rattle.std.proofs.Common.{◌≡◌, ℕ, Bool, true, false, cond, not, ◌&&◌, List, [], ◌∷◌, ◌++◌, refl, Option, None, Some}
use Rattle.prem_tiling.proofs.Prelude.{if_at, same_name, is_int_local, is_int, is_between, is_loop, Scope, meaning_of, resolve_term, kind_of, loop_local, local_number, Rule, Breach, first}
use Rattle.prem_tiling.proofs.Prelude.{first_of, Expression, LoopNames, Statement, Meaning, Nothing, Local as LocalName, Scalar as ScalarName, Array as ArrayName, Function as FunctionName}
use Rattle.prem_tiling.proofs.Prelude.{Place, and_parts, not-true}
use Rattle.prem_syntax.specs.Breaches.{assigns}

pub none_left : {A : Type 0} (xs ys : List A) → xs ++ ys ≡ [] → xs ≡ []
none_left [] ys e = refl
none_left (x ∷ xs) ys e = cc

pub none_right : {A : Type 0} (xs ys : List A) → xs ++ ys ≡ [] → ys ≡ []
none_right [] ys e = e
none_right (x ∷ xs) ys e = cc

pub none_both : {A : Type 0} {xs ys : List A} → xs ≡ [] → ys ≡ [] → xs ++ ys ≡ []
none_both {xs = xs} {ys = ys} e f = cc

pub kept_rule : (b : Bool) (at : Place) (rule : Rule) → if_at b at rule ≡ [] → b ≡ false
kept_rule true at rule e = cc
kept_rule false at rule e = refl

pub kept_rule_not : (b : Bool) (at : Place) (rule : Rule) → if_at (not b) at rule ≡ [] → b ≡ true
kept_rule_not true at rule e = refl
kept_rule_not false at rule e = cc

pub none_broken : (bs : List Breach) → first_of bs ≡ None → bs ≡ []
none_broken [] e = refl
none_broken (b ∷ bs) e = some_first b (first_of bs) e
  where
    some_first : (a : Breach) (o : Option Breach) → first (Some a) o ≡ None → b ∷ bs ≡ []
    some_first a None h = cc
    some_first a (Some c) h = by _ h
      where
        by : (t : Bool) → cond t (Some c) (Some a) ≡ None → b ∷ bs ≡ []
        by true k = cc
        by false k = cc

-- ---- counting loops

pub int_local_numbered : (m : Meaning) → is_int_local m ≡ true → local_number m ≡ Some (loop_local m)
int_local_numbered (LocalName k ty) e = refl
int_local_numbered (ScalarName g ty) e = cc
int_local_numbered (ArrayName g ty n) e = cc
int_local_numbered (FunctionName f) e = cc
int_local_numbered Nothing e = cc

-- what the form of a loop says
pub record IsLoop (scope : Scope) (names : LoopNames) (low high : Expression) (step : ℕ) (body : Statement) : Type 0 where
  pub variable : is_int_local (meaning_of scope names.first) ≡ true
  pub alone : assigns names.first body ≡ false
  pub step_is : is_between 1 2047 step ≡ true
  pub low_is : is_int (kind_of (resolve_term scope low)) ≡ true
  pub high_is : is_int (kind_of (resolve_term scope high)) ≡ true

pub loop_parts : (scope : Scope) (names : LoopNames) (low high : Expression) (step : ℕ) (body : Statement) → is_loop scope names low high step body ≡ true → IsLoop scope names low high step body
loop_parts scope names low high step body e =
    let a = same_name names in
    let b = is_int_local (meaning_of scope names.first) in
    let c = not (assigns names.first body) in
    let d = is_int (kind_of (resolve_term scope low)) in
    let f = is_int (kind_of (resolve_term scope high)) in
    let g = is_between 1 2047 step in
    let one = and_parts ((((a && b) && c) && d) && f) g e in
    let two = and_parts (((a && b) && c) && d) f one.0 in
    let three = and_parts ((a && b) && c) d two.0 in
    let four = and_parts (a && b) c three.0 in
    let five = and_parts a b four.0 in
    record { variable = five.1; alone = not-true (assigns names.first body) four.1; step_is = one.1; low_is = three.1; high_is = two.1 }
