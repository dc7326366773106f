-- More cycles have more to do.
use Rattle.std.specs.Prelude.{All}
use Rattle.std.proofs.Common.{ℕ, suc, ◌+◌, ◌-◌, ◌*◌, ◌/◌, ◌≤◌, ◌<◌, arith, List, [], ◌∷◌, take}
use Rattle.std.proofs.lemmas.Nat.{mul-le, le-div}
use Rattle.std.proofs.Math.Nat.{div-mul-le_self}
use Rattle.std.proofs.lemmas.List.Elements.{All-take}
use Rattle.prem_resp.specs.declared.busy.load.Load.{Load}
use Rattle.prem_resp.specs.Busy.Busy.{IsLoad, releases_in, interference, demand, no_load, IsBalanced}

div_grows : (a b k : ℕ) → 0 < k → a ≤ b → a / k ≤ b / k
div_grows a b k pos le = le-div (a / k) b k pos (let x : a / k * k ≤ a = div-mul-le_self a k in omega (arith, x, le))

pub releases_grow : (period a b : ℕ) → 1 ≤ period → a ≤ b → releases_in period a ≤ releases_in period b
releases_grow period a b some le = div_grows (a + period - 1) (b + period - 1) period (omega (arith, some)) (omega (arith, le))

interference_grows : (xs : List Load) (a b : ℕ) → All IsLoad xs → a ≤ b → interference a xs ≤ interference b xs
interference_grows [] a b all le = omega arith
interference_grows (x ∷ xs) a b all le =
    let some : 1 ≤ x.period = (all 0 no_load (omega arith)).period in
    let here : releases_in x.period a * x.cost ≤ releases_in x.period b * x.cost =
    mul-le (releases_in x.period a) x.cost (releases_in x.period b) x.cost (releases_grow x.period a b some le) (omega arith) in
    let more : interference a xs ≤ interference b xs = interference_grows xs a b (λ k d lt. all (suc k) d (omega (arith, lt))) le in
    omega (arith, here, more)

pub demand_grows : (loads : List Load) (i a b : ℕ) → All IsLoad loads → a ≤ b → demand loads i a ≤ demand loads i b
demand_grows loads i a b all le =
    let more : interference a (take i loads) ≤ interference b (take i loads) = interference_grows (take i loads) a b (All-take IsLoad i loads all) le in
    omega (arith, more)

-- what is no longer than a busy period has no more to do
pub balanced_above : (loads : List Load) (i a other : ℕ) → All IsLoad loads → IsBalanced loads i other → a ≤ other → demand loads i a ≤ other
balanced_above loads i a other all balanced le = let x : demand loads i a ≤ demand loads i other = demand_grows loads i a other all le in omega (arith, x, balanced.1)
