use Rattle.std.proofs.Common.{ℕ, List, map, ap, sym, subst, ◌+◌, ◌<◌, ◌∙◌, ◌≡◌, arith, length, get_or, slice_set}
use Rattle.prem_asm.specs.Pieces.{no_pieces}
use Rattle.prem_asm.specs.PiecesOf.{pieces_of}
use Rattle.prem_layout.specs.Bounds.{weight_at}
use Rattle.prem_split.specs.PlanOf.{plan_of}
use Rattle.prem_bounds.specs.TableOf.{listed}
use Rattle.prem_bounds.specs.Told.{Tells}
use Rattle.prem_bounds.proofs.Calls.{none_told}
use Rattle.prem_bounds.proofs.Steps.{listed_long, listed_item}
use Rattle.prem_bounds.proofs.Told.{job_known, job_step, job_all}
use Rattle.prem_bounds.proofs.bounds.job_scale.Goals as goal

pub loop-n-init : goal.loop-n-init
loop-n-init c = none_told 256

pub loop-n-preserved : goal.loop-n-preserved
loop-n-preserved c =
    let code = c.items-code.result.now in
    let n = c.loop-n.n in
    let plans = map plan_of c.args.plans.now in
    let item : get_or (listed code) n no_pieces ≡ pieces_of c.items.result.now = listed_item code n c.index-code-n.result (omega arith) c.index-code-n.is ∙ ap pieces_of (sym c.items.ensures) in
    let P : (array : List ℕ) → ℕ → ℕ → Type 0 = λ array m functions. Tells 256 array (weight_at (job_known c.args.p.now plans (listed code) functions m)) in
    let long : length (listed code) ≡ length code = listed_long code in
    let small : n < 256 = omega (arith, ap length c.items-code.ensures, c.requires.table.code) in
    subst (P (slice_set c.loop-n.functions n c.weight_in.result) (n + 1)) (sym long)
    (job_step c.args.p.now plans (listed code) c.loop-n.functions c.marked_weights-stubs.result n c.weight_in.result (length code) c.from-miss.result
    (pieces_of c.items.result.now) c.from-miss.ensures (omega arith) small
    (subst (P c.loop-n.functions n) long c.loop-n.invariant) c.marked_weights-stubs.ensures c.weight_in.ensures item)

pub returns-clause-functions : goal.returns-clause-functions
returns-clause-functions c = job_all c.args.p.now (map plan_of c.args.plans.now)
    c.args.table.now c.items-code.result.now c.loop-n.functions c.loop-n.n c.items-code.ensures (omega arith) c.loop-n.invariant
