-- A cycle in which an instruction issues alone.
use Rattle.std.proofs.Common.{◌≡◌, ℕ, zero, suc, Bool, true, false, List, [], ◌∷◌, refl, ap, ◌∙◌, arith}
use Rattle.std.specs.Prelude.{◌&&◌, ◌==◌}
use Rattle.prem_cycle.proofs.Prelude.{is_empty, want_of, CoreMove, Issues, move_running, move_in, move_of, core_turn, Arrivals, arrivals_at, bus_at, with_memory, with_clash, move_at}
use Rattle.prem_cycle.proofs.Prelude.{core_at, joined, ticked, cycle_of, Setup, Transaction, Work, CoreState, MachineState, Turned, bus_turn, wants, No, Request, Change, Stay, Memory, Execute, End, Job}
use Rattle.prem_cycle.proofs.Prelude.{ReplacementRule, TaskJobs, nat_tests}
use Rattle.prem_cycle.proofs.RunsLemmas.DullLemmas.Stretch.{none_arrives}
use Rattle.prem_cycle.specs.Runs.Dull.Issuing.{continues, idle_turn, IssuesAlone, issue_joined, issue_cycle}

both_true : (a b : Bool) → (a && b) ≡ true → (a ≡ true) × (b ≡ true)
both_true true true e = (refl, refl)
both_true true false e = absurd (cc)
both_true false b e = absurd (cc)

wants_none : (begun : Bool) (ns : List Transaction) (cost : ℕ) → is_empty ns ≡ true → want_of (record { transactions = ns; begun = begun; cost = cost }) ≡ No
wants_none begun [] cost e = refl
wants_none begun (n ∷ ns) cost e = absurd (cc)

running_issues : (c : CoreState) (k cost : ℕ) (mark : Change) → cost ≡ 0 → continues mark ≡ true → move_running c k cost mark ≡ Issues k c.interval
running_issues c k zero Stay z e = refl
running_issues c k zero (Execute stated) z e = refl
running_issues c k zero Memory z e = absurd (cc)
running_issues c k zero End z e = absurd (cc)
running_issues c k zero Job z e = absurd (cc)
running_issues c k (suc cost) mark z e = absurd (omega (arith, z))

abbrev made : ReplacementRule → Setup → MachineState → Arrivals → Turned → CoreMove → MachineState
made rule p s a b m = joined a b (core_turn rule p s.now m (with_memory b.memory s.work) s.core (with_clash b.turn.clash s.log.counts)) s

move_free : (p : Setup) (t : ℕ) (sched : List TaskJobs) (w : Work) (c : CoreState) → wants (want_of c.debt) ≡ false → move_of p t false sched w c ≡ move_in p t sched w c c.mode
move_free p t sched w c is = rw is refl

-- the same before the cycle is counted
pub joined_alone : (rule : ReplacementRule) (p : Setup) (requests : List Request) (task : ℕ) (s : MachineState) → IssuesAlone task requests s →
    joined (arrivals_at requests s) (bus_at (arrivals_at requests s).gates s) (core_at rule p (bus_at (arrivals_at requests s).gates s) s) s ≡ issue_joined rule p task s
joined_alone rule p requests task s h =
    let a : Arrivals = record { gates = s.gates; dropped = s.log.dropped } in
    let b = idle_turn s.gates s.work.memory in
    let paid = both_true (is_empty s.core.debt.transactions) (s.core.debt.cost == 0) h.paid in
    let want : want_of s.core.debt ≡ No = wants_none s.core.debt.begun s.core.debt.transactions s.core.debt.cost paid.0 in
    let zero_cost : s.core.debt.cost ≡ 0 = (let test : (s.core.debt.cost == 0) ≡ true = paid.1 in grind (arith, nat_tests)) in
    let free : wants (want_of s.core.debt) ≡ false = ap wants want in
    let arrive : arrivals_at requests s ≡ a = none_arrives s.now requests a h.none in
    let bus : bus_at s.gates s ≡ b = ap (λ k. bus_turn s.now s.core.window k s.gates s.work.memory) want ∙ h.idle s.work.memory in
    let in_mode : move_at p b s ≡ move_in p s.now s.sched s.work s.core s.core.mode = move_free p s.now s.sched s.work s.core free in
    let move : move_at p b s ≡ Issues task s.core.interval =
    in_mode ∙ ap (move_in p s.now s.sched s.work s.core) h.mode ∙ running_issues s.core task s.core.debt.cost s.core.mark zero_cost h.mark in
    ap (λ (x : Arrivals). made rule p s x (bus_at x.gates s) (move_at p (bus_at x.gates s) s)) arrive
    ∙ ap (λ (x : Turned). made rule p s a x (move_at p x s)) bus
    ∙ ap (made rule p s a b) move

pub issues_alone : (rule : ReplacementRule) (p : Setup) (requests : List Request) (task : ℕ) (s : MachineState) → IssuesAlone task requests s → cycle_of rule p requests s ≡ issue_cycle rule p task s
issues_alone rule p requests task s h = ap ticked (joined_alone rule p requests task s h)
