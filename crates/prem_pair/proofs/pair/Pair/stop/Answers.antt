use Rattle.std.proofs.Common.{◌≡◌, ◌∙◌, sym, None, true, false}
use Rattle.prem_pair.proofs.Prelude.{not_ended, is_finished, is_full, full_told, state_of, pair_of, both_finished}
use Rattle.prem_pair.proofs.Going.{one_rests, stop_full, stop_other, stop_else}
use Rattle.prem_pair.proofs.pair.Pair.stop.Goals.{else-is_finished-via-then-is_finished+else-is_finished-2, else-is_finished-via-else-is_finished}
use Rattle.prem_pair.proofs.pair.Pair.stop.Goals as goal

pub returns-then-are_full : goal.returns-then-are_full
returns-then-are_full g c =
    let x = c.self.inside.both.first in
    let y = c.self.inside.both.second in
    let s = pair_of c.self.inside.both in
    let fin : both_finished s ≡ false = elim c.else-is_finished.branch [
      | else-is_finished-via-then-is_finished+else-is_finished-2 w ↦ not_ended (is_finished s.first) (is_finished s.second) (sym w.is_finished-then-is_finished.ensures ∙ w.if-is_finished-2.false)
      | else-is_finished-via-else-is_finished w ↦ one_rests (is_finished s.first) (is_finished s.second) (sym c.is_finished.ensures ∙ w.if-is_finished.false)
    ] in
    let none : x.trapped ≡ None = c.in_default.is in
    let none2 : y.trapped ≡ None = c.in_default-trapped.is in
    let full : is_full (state_of x) ≡ true = sym (full_told _ _ x c.self.invariant.stands.first) ∙ sym c.are_full.ensures ∙ c.if-are_full.true in
    rw (← c.self.view_is) (stop_full c.args.limit s fin none none2 full)

pub returns-then-are_full-2 : goal.returns-then-are_full-2
returns-then-are_full-2 g c =
    let x = c.self.inside.both.first in
    let y = c.self.inside.both.second in
    let s = pair_of c.self.inside.both in
    let fin : both_finished s ≡ false = elim c.else-is_finished.branch [
      | else-is_finished-via-then-is_finished+else-is_finished-2 w ↦ not_ended (is_finished s.first) (is_finished s.second) (sym w.is_finished-then-is_finished.ensures ∙ w.if-is_finished-2.false)
      | else-is_finished-via-else-is_finished w ↦ one_rests (is_finished s.first) (is_finished s.second) (sym c.is_finished.ensures ∙ w.if-is_finished.false)
    ] in
    let none : x.trapped ≡ None = c.in_default.is in
    let none2 : y.trapped ≡ None = c.in_default-trapped.is in
    let full : is_full (state_of x) ≡ false = sym (full_told _ _ x c.self.invariant.stands.first) ∙ sym c.are_full.ensures ∙ c.if-are_full.false in
    let full2 : is_full (state_of y) ≡ true = sym (full_told _ _ y c.self.invariant.stands.second) ∙ sym c.are_full-2.ensures ∙ c.if-are_full-2.true in
    rw (← c.self.view_is) (stop_other c.args.limit s fin none none2 full full2)

pub returns : goal.returns
returns g c =
    let x = c.self.inside.both.first in
    let y = c.self.inside.both.second in
    let s = pair_of c.self.inside.both in
    let fin : both_finished s ≡ false = elim c.else-is_finished.branch [
      | else-is_finished-via-then-is_finished+else-is_finished-2 w ↦ not_ended (is_finished s.first) (is_finished s.second) (sym w.is_finished-then-is_finished.ensures ∙ w.if-is_finished-2.false)
      | else-is_finished-via-else-is_finished w ↦ one_rests (is_finished s.first) (is_finished s.second) (sym c.is_finished.ensures ∙ w.if-is_finished.false)
    ] in
    let none : x.trapped ≡ None = c.in_default.is in
    let none2 : y.trapped ≡ None = c.in_default-trapped.is in
    let full : is_full (state_of x) ≡ false = sym (full_told _ _ x c.self.invariant.stands.first) ∙ sym c.are_full.ensures ∙ c.if-are_full.false in
    let full2 : is_full (state_of y) ≡ false = sym (full_told _ _ y c.self.invariant.stands.second) ∙ sym c.are_full-2.ensures ∙ c.if-are_full-2.false in
    rw (← c.self.view_is) (c.then_some.ensures ∙ stop_else c.args.limit s fin none none2 full full2)
