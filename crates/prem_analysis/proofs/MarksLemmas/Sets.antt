-- Sets of functions, step by step.
use Rattle.prem_syntax.specs.Reach.{with_all, with_all_if, is_in, with_callees_below}
use Rattle.std.proofs.Common.{◌≡◌, ℕ, zero, suc, ◌-◌, ◌<◌, Bool, true, List, [], ◌∷◌, ap, sym, ◌∙◌, arith, length, map, get_or, slice_index_or}

pub item_at : {A B : Type 0} (f : A → B) (xs : List A) (k : ℕ) (x : A) (d : B) → k < length xs → x ≡ get_or xs k x → get_or (map f xs) k d ≡ f x
item_at f [] k x d lt is = absurd (omega arith)
item_at f (y ∷ ys) zero x d lt is = ap f (sym is)
item_at f (y ∷ ys) (suc k) x d lt is = item_at f ys k x d (omega arith) is

pub below_step : (table : List (List ℕ)) (n : ℕ) (set new : List Bool) (row : List ℕ) → 0 < n → is_in set (n - 1) ≡ true → slice_index_or table (n - 1) [] ≡ row → new ≡ with_all row set →
    with_callees_below table (n - 1) new ≡ with_callees_below table n set
below_step table zero set new row pos is same e = absurd (omega arith)
below_step table (suc n) set new row pos is same e =
    let k : suc n - 1 ≡ n = omega arith in
    ap (λ j. with_callees_below table j new) k ∙ ap (with_callees_below table n) (e ∙ ap (λ cs. with_all cs set) (sym same ∙ ap (λ j. slice_index_or table j []) k))
    ∙ ap (λ b. with_callees_below table n (with_all_if b (slice_index_or table n []) set)) (sym (ap (is_in set) (sym k) ∙ is))
