use Rattle.std.proofs.Common.{◌<◌, ◌*◌, ◌^◌, List, ap, sym, subst, arith}
use Rattle.prem_machine.proofs.Prelude.{cycle_holds, WindowsHold, rule_in, Request, Runs, Stands, state_of, Running, setup_in}
use Rattle.prem_machine.proofs.Going.{within_next}
use Rattle.prem_machine.proofs.machine.Machine.one_cycle.Goals as goal

pub invariant_of-self : goal.invariant_of-self
invariant_of-self g c =
    let m = c.self.inside in
    let new = c.cycle.new.self in
    let e = c.cycle.ensures in
    let now : m.parts.now < 2 ^ 61 = omega (arith, c.requires.now, ap (λ (r : Running). r.state.now) c.self.view_is) in
    let S : List Request → Type 0 = λ rs. Stands m.setting rs new in
    let R : List Request → Type 0 = λ rs. Runs new.now (4 * new.now) rs new in
    record {
      setting = c.self.invariant.setting;
      stands = subst S c.deref.ensures.value e.stands;
      runs = λ none. subst R c.deref.ensures.value (e.runs none);
      windows = subst WindowsHold (sym e.state) (cycle_holds (rule_in (setup_in m.setting)) (setup_in m.setting) c.deref.result.now (state_of m.parts) c.self.invariant.windows);
      time = within_next (2 ^ 61) m.parts.now new.now new.trapped now e.goes_on e.stops;
    }
