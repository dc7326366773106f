-- Marked functions and their plans.
use Rattle.std.specs.Prelude.{is_some}
use Rattle.std.specs.List.{AllByRecursion}
use Rattle.std.proofs.Common.{◌≡◌, ℕ, suc, ◌+◌, ◌<◌, Bool, cond, List, [], ◌∷◌, Option, None, Some, refl, ap, ◌∙◌, subst, arith, length, map, option_map}
use Rattle.prem_syntax.specs.SyntaxOf.{mark_of}
use Rattle.prem_syntax.specs.declared.tree.Mark.{Mark}
use Rattle.prem_syntax.specs.Syntax.{MarkText}
use Rattle.prem_syntax.specs.Resolved.{Routine, Resolved}
use Rattle.prem_syntax.specs.Statements.{is_marked}
use Rattle.prem_tree.specs.declared.resolve.resolved.Routine.{Routine as RoutineTree}
use Rattle.prem_tree.specs.Resolve.ResolvedOf.{loops_of, routines_of as plain_routines}
use Rattle.prem_layout.specs.Plans.{Plan, plan_before, plans_from}
use Rattle.prem_bounds.specs.Facts.Large.{is_marked_tree}

abbrev pub mark_count : List Bool → ℕ
mark_count [] = 0
mark_count (b ∷ bs) = cond b 1 0 + mark_count bs

-- as many plans as marked functions
pub plans_counted : (p : Resolved) (n : ℕ) (fs : List Routine) → length (plans_from p n fs) ≡ mark_count (map is_marked fs)
plans_counted p n [] = refl
plans_counted p n (f ∷ fs) = by f.text.mark (plans_from p (n + 1) fs) (mark_count (map is_marked fs)) (plans_counted p (n + 1) fs)
  where
    by : (mark : Option MarkText) (rest : List Plan) (count : ℕ) → length rest ≡ count → length (plan_before p n mark rest) ≡ cond (is_some mark) 1 0 + count
    by None rest count e = omega (arith, e)
    by (Some mark) rest count e = omega (arith, e)

abbrev Below : ℕ → Plan → Type 0
Below n plan = plan.function < n

more_below : (n m : ℕ) (plans : List Plan) → n ≡ m → AllByRecursion (Below n) plans → AllByRecursion (Below m) plans
more_below n m plans e h = let P : ℕ → Type 0 = λ k. AllByRecursion (Below k) plans in subst P e h

-- the functions of plans are among those of the program
pub plans_below : (p : Resolved) (n : ℕ) (fs : List Routine) → AllByRecursion (Below (n + length fs)) (plans_from p n fs)
plans_below p n [] = tt
plans_below p n (f ∷ fs) =
    by f.text.mark (plans_from p (n + 1) fs)
    (let e : n + 1 + length fs ≡ n + suc (length fs) = omega arith in
    more_below (n + 1 + length fs) (n + suc (length fs)) (plans_from p (n + 1) fs) e (plans_below p (n + 1) fs))
  where
    by : (mark : Option MarkText) (rest : List Plan) → AllByRecursion (Below (n + suc (length fs))) rest → AllByRecursion (Below (n + suc (length fs))) (plan_before p n mark rest)
    by None rest h = h
    by (Some mark) rest h = (omega arith, h)

is_some_map : (mark : Option Mark) → is_some mark ≡ is_some (option_map mark_of mark)
is_some_map None = refl
is_some_map (Some mark) = refl

-- marks in memory are those of the program
pub marks_are : (turns : ℕ → ℕ) (m : ℕ) (rs : List RoutineTree) → map is_marked_tree rs ≡ map is_marked (plain_routines turns m rs)
marks_are turns m [] = refl
marks_are turns m (r ∷ rs) =
    ap (λ b. b ∷ map is_marked_tree rs) (is_some_map r.text.now.mark)
    ∙ ap (λ bs. is_some (option_map mark_of r.text.now.mark) ∷ bs) (marks_are turns (m + loops_of r.body) rs)
