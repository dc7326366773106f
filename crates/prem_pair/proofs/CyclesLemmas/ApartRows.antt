-- Two cores that don't touch each other, computed.
use Rattle.std.proofs.Common.{◌≡◌, ℕ, true, false, [], refl, sym, ◌∙◌, arith}
use Rattle.prem_pair.proofs.Prelude.{marked, want_of, MachineState, rule_in, Mode, Point, Running, CoreWant, No, Held, AreApart, own_cycle, PairState, pair_cycle, pair_cycles, holder_after}
use Rattle.prem_pair.proofs.Prelude.{Holder, First}
use Rattle.prem_pair.proofs.CyclesLemmas.Apart.{own_cycles}
use Rattle.prem_pair.proofs.CyclesLemmas.Rows.{pair, same_set}

-- a fill of core 0 goes on, and core 1 waits for the token
abbrev pub behind : ℕ → PairState
behind n = pair same_set same_set marked marked [] n

abbrev wants_told : PairState → Mode × CoreWant × Mode × CoreWant × Holder
wants_told s = (s.first.core.mode, want_of s.first.core.debt, s.second.core.mode, want_of s.second.core.debt, s.holder)

row_wants : wants_told (behind 25) ≡ (Running 0, Held, Point, No, First)
unfolding pair_cycles
row_wants = refl

are_apart : AreApart [] (behind 25)
unfolding pair_cycles
are_apart =
    record {
      arrivals = λ k d lt is. absurd (omega (arith, lt));
      token = refl;
      gates = λ e. cc;
      free = refl;
      begins = λ e. cc;
      one = refl;
    }

abbrev first_next : MachineState
first_next = own_cycle (rule_in same_set) same_set true (behind 25).first

abbrev second_next : MachineState
second_next = own_cycle (rule_in same_set) same_set false (behind 25).second

-- the cycle is each core's own
row_own : pair_cycle (rule_in same_set) (rule_in same_set) same_set same_set [] (behind 25) ≡ record { first = first_next; second = second_next; holder = First }
unfolding pair_cycles
row_own =
    let before : (behind 25).holder ≡ First = refl in
    let after : holder_after First first_next.core second_next.core false ≡ First = refl in
    own_cycles (rule_in same_set) (rule_in same_set) same_set same_set [] (behind 25) are_apart refl refl (after ∙ sym before)
