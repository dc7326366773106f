-- The numbers of a cut are small, and the body of a loop without calls stays as it is.
use Rattle.std.proofs.Common.{◌≡◌, ℕ, ◌+◌, ◌*◌, ◌/◌, ◌<◌, ◌≤◌, false, List, refl, ap, arith, true≢false}
use Rattle.prem_tiling.proofs.Prelude.{Text, Statement, block, if_then, if_else, bounded_while, counting_for, assign, output, input, call, Statements, no_statements, next_statement}
use Rattle.prem_tiling.proofs.Prelude.{with_calls, all_with_calls, IsReady, has_call, have_call, turns_of, Cut, first_turn, closed_of, high_of}
use Rattle.prem_tiling.proofs.LawsLemmas.Cutting.{IsCut}
use Rattle.prem_tiling.proofs.LawsLemmas.Law.{is_cut}
use Rattle.prem_tiling.proofs.LawsLemmas.Shapes.{shape_parts}
use Rattle.prem_tiling.proofs.LawsLemmas.Tied.{neither_left, neither_right}

numbers : (c : Cut) → IsReady c → IsCut c.loop.step c.loop.low.value c.loop.high.value c.loop.closed c.tiles (turns_of c.loop) 2147483648 (first_turn c) (closed_of c) (high_of c)
numbers c ready =
    let shape = shape_parts c.function c.loop ready.shape in
    is_cut c 2147483648 ready.step shape.low_small shape.high_small ready.several ready.enough (omega arith)

-- the first value of a tile
pub low_small : (c : Cut) → IsReady c → (t k : ℕ) → t < c.tiles → k ≡ t * turns_of c.loop / c.tiles → c.loop.low.value + c.loop.step * k ≤ 2147483647
low_small c ready t k lt is =
    let a = (numbers c ready).lows_small t lt in
    let same : c.loop.step * k ≡ c.loop.step * first_turn c t = ap (λ n. c.loop.step * n) is in
    omega arith

pub ready_uncalled : (c : Cut) → IsReady c → has_call c.loop.body ≡ false
ready_uncalled c ready = (shape_parts c.function c.loop ready.shape).uncalled

mutual
  pub uncalled_same : (name : Text) (tiles : List Text) (s : Statement) → has_call s ≡ false → with_calls name tiles s ≡ s
  uncalled_same name tiles (block at body) e = ap (block at) (all_uncalled_same name tiles body e)
  uncalled_same name tiles (if_then at condition taken) e = ap (if_then at condition) (uncalled_same name tiles taken e)
  uncalled_same name tiles (if_else at condition taken other) e =
      λ i. if_else at condition (uncalled_same name tiles taken (neither_left (has_call taken) (has_call other) e) i)
      (uncalled_same name tiles other (neither_right (has_call taken) (has_call other) e) i)
  uncalled_same name tiles (bounded_while at turns condition body) e = ap (bounded_while at turns condition) (uncalled_same name tiles body e)
  uncalled_same name tiles (counting_for at names low closed high step body) e = ap (counting_for at names low closed high step) (uncalled_same name tiles body e)
  uncalled_same name tiles (assign at x index value) e = refl
  uncalled_same name tiles (output at value) e = refl
  uncalled_same name tiles (input at x) e = refl
  uncalled_same name tiles (call at target callee arguments) e = absurd (true≢false e)

  all_uncalled_same : (name : Text) (tiles : List Text) (ss : Statements) → have_call ss ≡ false → all_with_calls name tiles ss ≡ ss
  all_uncalled_same name tiles no_statements e = refl
  all_uncalled_same name tiles (next_statement s ss) e =
      λ i. next_statement (uncalled_same name tiles s (neither_left (has_call s) (have_call ss) e) i) (all_uncalled_same name tiles ss (neither_right (has_call s) (have_call ss) e) i)
