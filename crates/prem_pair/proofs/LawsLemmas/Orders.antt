-- The requests of a run of two cores that find room are some of those that were asked, in order.
use Rattle.std.proofs.Common.{◌≡◌, ℕ, zero, suc, ◌+◌, refl, sym, subst, arith, cond, true, false, Bool, List, [], ◌++◌}
use Rattle.prem_pair.proofs.Prelude.{memory_of, Request, PairState, is_pair_over, pair_cycles, pair_run, pair_start, pair_coming, pair_queued, PairRoomIsFoundInOrder, found_room, AreAmong}
use Rattle.prem_pair.proofs.Prelude.{asked_before}
use Rattle.prem_pair.proofs.CyclesLemmas.PairTime.{pair_run-now}
use Rattle.prem_sound.proofs.ServeLemmas.Orders.{among_append, none_among, asked_at, room_among, before_next}

coming_among : (n : ℕ) (requests : List Request) (s : PairState) → (is_pair_over s ≡ false → s.first.now ≡ n) → AreAmong (pair_coming requests s) (asked_at n requests)
coming_among n requests s now = by (is_pair_over s) refl where
  by : (b : Bool) → is_pair_over s ≡ b → AreAmong (cond b [] (found_room s.first.now requests s.first.gates)) (asked_at n requests)
  by true e = none_among (asked_at n requests)
  by false e = subst (λ m. AreAmong (found_room s.first.now requests s.first.gates) (asked_at m requests)) (now e) (room_among s.first.now requests s.first.gates)

pub found_in_order : PairRoomIsFoundInOrder
unfolding pair_cycles pair_queued
found_in_order rule other p q content behind inputs others requests zero sorted = none_among (asked_before 0 requests)
found_in_order rule other p q content behind inputs others requests (suc n) sorted =
    let s : PairState = pair_run rule other p q content behind inputs others requests n in
    let before : List Request = pair_queued rule other p q requests n (pair_start p q inputs others (memory_of p content) (memory_of q behind)) in
    let e : n + 1 ≡ suc n = omega arith in
    subst (λ m. AreAmong (before ++ pair_coming requests s) (asked_before m requests)) e
    (subst (AreAmong (before ++ pair_coming requests s)) (sym (before_next n requests sorted))
    (among_append before (asked_before n requests) (pair_coming requests s) (asked_at n requests) (found_in_order rule other p q content behind inputs others requests n sorted)
    (coming_among n requests s (λ go. pair_run-now rule other p q content behind inputs others requests n go))))
