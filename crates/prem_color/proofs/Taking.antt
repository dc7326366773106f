-- The rooms of wants, one after another.
use Rattle.std.specs.Prelude.{filter, is_some, option_map, unwrap_or}
use Rattle.std.proofs.Common.{◌≡◌, ℕ, suc, ◌+◌, ◌-◌, ◌<◌, max, Bool, true, false, cond, List, [], ◌∷◌, Option, Some, ap, sym, ◌∙◌, arith, length}
use Rattle.prem_layout.specs.Footprint.{is_touched, numbers_from}
use Rattle.prem_color.specs.Offsets.{PartRange, least_from}
use Rattle.prem_color.specs.Rooms.{Room, room_behind, with_lines, lines_behind, with_ranges, fits_one, room_after}

-- ---- no range

nothing_behind : (line at : ℕ) → lines_behind line [] at ≡ []
nothing_behind line at = let z : 0 - at ≡ 0 = omega arith in ap (λ k. filter (is_touched line []) (numbers_from at k)) z

with_nothing : (line sets «ways» : ℕ) (r : Room) → with_ranges line sets «ways» [] r ≡ Some r
with_nothing line sets «ways» r =
    let e : max r.at 0 ≡ r.at = omega arith in
    ap (λ ns. option_map (room_behind (max r.at 0)) (with_lines sets «ways» ns r.counts)) (nothing_behind line r.at) ∙ ap (λ k. Some (room_behind k r.counts)) e

pub fits_nothing : (line sets «ways» address : ℕ) (r : Room) (own : List PartRange) → length own ≡ 0 → true ≡ fits_one line sets «ways» address r own
fits_nothing line sets «ways» address r [] e = sym (ap (λ (o : Option Room). is_some o) (with_nothing line sets «ways» r))
fits_nothing line sets «ways» address r (x ∷ xs) e = absurd (omega (arith, e))

pub takes_nothing : (line sets «ways» address : ℕ) (r : Room) (own : List PartRange) → length own ≡ 0 → r ≡ room_after line sets «ways» address r own
takes_nothing line sets «ways» address r [] e = sym (ap (λ (o : Option Room). unwrap_or o r) (with_nothing line sets «ways» r))
takes_nothing line sets «ways» address r (x ∷ xs) e = absurd (omega (arith, e))

-- ---- offsets one after another

pub least_next : (test : ℕ → Bool) (n end : ℕ) → n < end → test n ≡ false → least_from test n (end - n) ≡ least_from test (n + 1) (end - (n + 1))
least_next test n end lt e =
    let z : end - n ≡ suc (end - (n + 1)) = omega (arith, lt) in
    ap (least_from test n) z ∙ ap (λ b. cond b (Some n) (least_from test (n + 1) (end - (n + 1)))) e
