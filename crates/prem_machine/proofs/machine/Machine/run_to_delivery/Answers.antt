use Rattle.std.proofs.Common.{◌≡◌, ◌<◌, None, sym, ◌∙◌, subst, arith}
use Rattle.prem_machine.proofs.Prelude.{goes_untrapped, stop_of, RunsSilently, ended_so_far, Running, nat_tests}
use Rattle.prem_machine.proofs.Delivering.{runs_gliding, runs_none, runs_one, runs_then, within_limit}
use Rattle.prem_machine.proofs.Going.{cycles_left, goes_less, goes_on}
use Rattle.prem_machine.proofs.machine.Machine.run_to_delivery.Goals as goal

pub cycles-init : goal.cycles-init
cycles-init g c = runs_none c.args.limit c.args.transfers c.args.self.now c.requires.now

pub glide-requires-clause-now : goal.glide-requires-clause-now
glide-requires-clause-now g c =
    let m = c.cycles.self in
    within_limit c.args.limit c.args.transfers c.args.self.now m c.cycles.invariant (sym c.stop.ensures ∙ c.in_default.is)

pub cycles-preserved-then-glide : goal.cycles-preserved-then-glide
cycles-preserved-then-glide g c =
    let m = c.cycles.self in
    let e = c.glide.ensures in
    let none : stop_of c.args.limit m.state ≡ None = sym c.stop.ensures ∙ c.in_default.is in
    let few : ended_so_far m.state < c.args.transfers = grind (arith, nat_tests) in
    runs_then c.args.limit c.args.transfers c.args.self.now m c.glide.new.self c.cycles.invariant (goes_untrapped m.state (goes_on c.args.limit m.state none).0)
    (runs_gliding c.args.limit c.args.transfers m c.glide.new.self e.new e.silent e.from e.within few)

pub cycles-preserved : goal.cycles-preserved
cycles-preserved g c =
    let m = c.cycles.self in
    let old = c.glide.new.self in
    let e = c.one_cycle.ensures in
    let kept : m ≡ old = sym (c.glide.ensures.kept c.if-glide.false) in
    let N : Running → Type 0 = λ r. stop_of c.args.limit r.state ≡ None in
    let R : Running → Type 0 = λ r. RunsSilently c.args.limit c.args.transfers c.args.self.now r in
    let E : Running → Type 0 = λ r. ended_so_far r.state < c.args.transfers in
    let none : N old = subst N kept (sym c.stop.ensures ∙ c.in_default.is) in
    let few : E m = grind (arith, nat_tests) in
    let runs : R old = subst R kept c.cycles.invariant in
    let on = goes_on c.args.limit old.state none in
    runs_then c.args.limit c.args.transfers c.args.self.now old c.one_cycle.new.self runs (goes_untrapped old.state on.0)
    (runs_one c.args.limit c.args.transfers old c.one_cycle.new.self e.new on.0 (within_limit c.args.limit c.args.transfers c.args.self.now old runs none) e.goes_on e.stops
    (sym c.lacking.ensures ∙ c.in_default-lacking.is) (subst E kept few))

pub cycles-smaller : goal.cycles-smaller
cycles-smaller g c =
    let m = c.cycles.self in
    let old = c.glide.new.self in
    let kept : m ≡ old = sym (c.glide.ensures.kept c.if-glide.false) in
    let N : Running → Type 0 = λ r. stop_of c.args.limit r.state ≡ None in
    let R : Running → Type 0 = λ r. RunsSilently c.args.limit c.args.transfers c.args.self.now r in
    let L : Running → Type 0 = λ r. cycles_left c.args.limit c.one_cycle.new.self.state < cycles_left c.args.limit r.state in
    let none : N old = subst N kept (sym c.stop.ensures ∙ c.in_default.is) in
    let runs : R old = subst R kept c.cycles.invariant in
    subst L (sym kept) (goes_less c.args.limit old.state c.one_cycle.new.self.state none (omega (arith, runs.passed, runs.within)) c.one_cycle.ensures.goes_on c.one_cycle.ensures.stops)
