use Rattle.std.proofs.Common.{ℕ, List, map, ap, sym, subst, ◌+◌, ◌<◌, ◌∙◌, ◌≡◌, arith, length, get_or, slice_set}
use Rattle.prem_asm.specs.Pieces.{no_pieces}
use Rattle.prem_asm.specs.PiecesOf.{pieces_of}
use Rattle.prem_layout.specs.Stretch.Sums.{sums_at}
use Rattle.prem_split.specs.PlanOf.{plan_of}
use Rattle.prem_bounds.specs.declared.stretches.Sums.{Sums as SumsInMemory}
use Rattle.prem_bounds.specs.TableOf.{listed}
use Rattle.prem_bounds.specs.ToldSums.{TellsSums}
use Rattle.prem_bounds.proofs.Steps.{listed_long, listed_item}
use Rattle.prem_bounds.proofs.Told.{plans_long}
use Rattle.prem_bounds.proofs.Reaches.{none_told, job_known, job_step, job_all}
use Rattle.prem_bounds.proofs.intervals.reach_of.Goals as goal

pub loop-n-init : goal.loop-n-init
loop-n-init c = none_told 256 c.taking-none.result c.taking-none.ensures

pub loop-n-preserved : goal.loop-n-preserved
loop-n-preserved c =
    let code = c.items-code.result.now in
    let n = c.loop-n.n in
    let plans = map plan_of c.args.plans.now in
    let s = c.outer_scale-scale.result in
    let item : get_or (listed code) n no_pieces ≡ pieces_of c.items.result.now = listed_item code n c.index-code-n.result (omega arith) c.index-code-n.is ∙ ap pieces_of (sym c.items.ensures) in
    let P : (array : List SumsInMemory) → ℕ → ℕ → Type 0 = λ array m functions. TellsSums 256 array (sums_at (job_known c.args.p.now plans (listed code) functions m)) in
    let long : length (listed code) ≡ length code = listed_long code in
    let count : length (listed code) ≡ s.count = omega (arith, long, c.outer_scale-scale.ensures.count) in
    let small : n < 256 = omega (arith, ap length c.items-code.ensures, c.requires.table.code) in
    subst (P (slice_set c.loop-n.functions n c.sums_through.result) (n + 1)) (sym count)
    (job_step c.args.p.now plans (listed code) s.access s.other s.count (length c.args.plans.now) n c.loop-n.functions c.marked_sums-marked.result c.sums_through.result (pieces_of c.items.result.now)
    c.outer_scale-scale.ensures.access c.outer_scale-scale.ensures.other (sym (plans_long c.args.plans.now)) c.marked_sums-marked.ensures (omega (arith, long)) small
    (subst (P c.loop-n.functions n) count c.loop-n.invariant) c.sums_through.ensures item)

pub returns-clause-functions : goal.returns-clause-functions
returns-clause-functions c = job_all c.args.p.now (map plan_of c.args.plans.now)
    c.args.table.now c.items-code.result.now c.loop-n.functions c.loop-n.n c.items-code.ensures (omega arith) c.loop-n.invariant
