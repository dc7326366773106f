use Rattle.std.proofs.Common.{◌≤◌, ap, ◌∙◌, arith}
use Rattle.prem_layout.proofs.StretchLemmas.Algebra.{same_sums}
use Rattle.prem_bounds.specs.ToldSums.{clipped_sums, sums_of}
use Rattle.prem_bounds.proofs.Turns.{no_turns, turns_at}
use Rattle.prem_bounds.proofs.stretches.turned.Goals as goal

pub returns-then-turns-eq0 : goal.returns-then-turns-eq0
returns-then-turns-eq0 c = ap clipped_sums (no_turns c.args.turns (sums_of c.args.turn) (sums_of c.args.out) (omega (arith, c.if-turns-eq0.true)))

pub returns : goal.returns
returns c =
    let some : 1 ≤ c.args.turns = omega (arith, c.if-turns-eq0.false) in
    same_sums _ _ c.repeated-whole.ensures c.before_turns-before.ensures c.between_turns-between.ensures c.behind_turns-behind.ensures
    ∙ ap clipped_sums (turns_at c.args.turns (sums_of c.args.turn) (sums_of c.args.out) some)
