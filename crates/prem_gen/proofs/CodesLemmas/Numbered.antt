-- A function in memory by its number stands for that of the program.
use Rattle.std.specs.Prelude.{slice_get}
use Rattle.std.proofs.Common.{◌≡◌, ◌<◌, ◌≤◌, ℕ, zero, suc, ◌+◌, List, [], ◌∷◌, length, take, get_or, Some, ap, ◌∙◌, sym, arith, refl}
use Rattle.prem_tree.specs.declared.resolve.resolved.Routine.{Routine}
use Rattle.prem_tree.specs.Resolve.ResolvedOf.{loops_of, routine_of, routines_of, all_loops}

pub routine_at : (turns : ℕ → ℕ) (m : ℕ) (rs : List Routine) (f : ℕ) (r : Routine) → f < length rs → r ≡ get_or rs f r →
    slice_get (routines_of turns m rs) f ≡ Some (routine_of turns (m + all_loops (take f rs)) r)
routine_at turns m [] f r h is = absurd (omega arith)
routine_at turns m (x ∷ rs) zero r h is =
    let e : m ≡ m + 0 = omega arith in
    ap (λ q. Some (routine_of turns m q)) (sym is) ∙ ap (λ k. Some (routine_of turns k r)) e
routine_at turns m (x ∷ rs) (suc f) r h is =
    let e : m + loops_of x.body + all_loops (take f rs) ≡ m + (loops_of x.body + all_loops (take f rs)) = omega arith in
    routine_at turns (m + loops_of x.body) rs f r (omega arith) is ∙ ap (λ k. Some (routine_of turns k r)) e

-- loops before it and in it are among all
pub loops_at : (rs : List Routine) (f : ℕ) (r : Routine) → f < length rs → r ≡ get_or rs f r → all_loops (take f rs) + loops_of r.body ≤ all_loops rs
loops_at [] f r h is = absurd (omega arith)
loops_at (x ∷ rs) zero r h is = let e : loops_of r.body ≡ loops_of x.body = ap (λ (q : Routine). loops_of q.body) is in omega (arith, e)
loops_at (x ∷ rs) (suc f) r h is = let e = loops_at rs f r (omega arith) is in omega (arith, e)

pub loops_before : (rs : List Routine) (f : ℕ) → all_loops (take f rs) ≤ all_loops rs
loops_before rs zero = omega arith
loops_before [] (suc f) = omega arith
loops_before (x ∷ xs) (suc f) = let e = loops_before xs f in omega (arith, e)

pub length_taken : {A : Type 0} (xs : List A) (n : ℕ) → n ≤ length xs → length (take n xs) ≡ n
length_taken xs zero h = refl
length_taken [] (suc n) h = absurd (omega arith)
length_taken (x ∷ xs) (suc n) h = ap suc (length_taken xs n (omega arith))
