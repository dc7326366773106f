-- One more busy period of those of all tasks.
use Rattle.std.proofs.Common.{◌≡◌, ℕ, suc, ◌+◌, ◌-◌, ◌<◌, List, [], ◌∷◌, ◌++◌, ap, ◌∙◌, sym, arith, append_assoc}
use Rattle.prem_resp.specs.declared.busy.load.Load.{Load}
use Rattle.prem_resp.specs.declared.busy.length.Busy.{Busy}
use Rattle.prem_resp.specs.Busy.Found.{IsFound, busy_of}
use Rattle.prem_resp.proofs.BusyLemmas.First.{busy_found, found_once}
use Rattle.prem_resp.specs.Fits.{found_from, found_in}

pub found_more : (loads : List Load) (i n : ℕ) (front : List Busy) (b : Busy) → i < n → IsFound loads i b → front ++ found_from loads i (n - i) ≡ found_in loads →
    (front ++ b ∷ []) ++ found_from loads (i + 1) (n - (i + 1)) ≡ found_in loads
found_more loads i n front b lt is so =
    let left : n - i ≡ suc (n - (i + 1)) = omega (arith, lt) in
    append_assoc front (b ∷ []) (found_from loads (i + 1) (n - (i + 1)))
    ∙ ap (λ x. front ++ x ∷ found_from loads (i + 1) (n - (i + 1))) (found_once loads i b (busy_of loads i) is (busy_found loads i))
    ∙ ap (λ m. front ++ found_from loads i m) (sym left)
    ∙ so
