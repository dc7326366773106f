-- Places lie on the line of time.
use Rattle.std.proofs.Common.{◌≤◌, ◌<◌, ℕ, ◌+◌, ◌-◌, ◌*◌, ◌/◌, arith}
use Rattle.std.proofs.Math.Nat.{div-le_of_le-mul}
use Rattle.prem_chart.specs.declared.view.View.{View}
use Rattle.prem_chart.specs.Places.{IsView, held, place}

scaled_within : (a span : ℕ) → a ≤ span → a * 10300 / span ≤ 10300
scaled_within a span h =
    let less : a * 10300 ≤ span * 10300 = omega arith in
    div-le_of_le-mul span less

pub place_within : (v : View) (cycle : ℕ) → IsView v → place v cycle ≤ 11700
place_within v cycle h =
    let some : v.first < v.behind = h.some in
    let up : held v cycle - v.first ≤ v.behind - v.first = omega arith in
    let less = scaled_within (held v cycle - v.first) (v.behind - v.first) up in
    add 1400 _ 10300 less
  where
    add : (a b c : ℕ) → b ≤ c → a + b ≤ a + c
    add a b c h = omega arith
