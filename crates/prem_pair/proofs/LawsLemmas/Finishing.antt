-- Two cores whose tasks keep to their scripts have finished by their limit.
use Rattle.std.proofs.Common.{◌≡◌, ℕ, zero, suc, ◌+◌, ◌<◌, ◌≤◌, refl, ap, ◌∙◌, arith, true, false, Bool, List, [], ◌∷◌, length, map, get_or, ⊎_elim}
use Rattle.std.specs.Prelude.{is_some, ◌&&◌, ◌||◌, sum_by}
use Rattle.prem_pair.proofs.Prelude.{AreGates, is_finished, is_full, no_device, memory_of, Setup, GateState, gate_at, gate_of, gates_of, Request, TaskRun, ReplacementRule, PairState}
use Rattle.prem_pair.proofs.Prelude.{pair_cycle, both_finished, one_trapped, one_full, is_pair_over, pair_step, pair_cycles, pair_start, pair_run, pair_limit, HasTotals, total_of}
use Rattle.prem_pair.proofs.Prelude.{PairsFinish, PairsFinishByTotals, OrderRule, start_lasts, start_faultless, start_needs, first_no, start_timed, core_most, core_before, core_room}
use Rattle.prem_pair.proofs.Prelude.{IsPolicy, Script, last_release, AreScripts, IsRun, cases_Bool, cond_both, sum_by-cons}
use Rattle.prem_cycle.proofs.RunsLemmas.PositionLemmas.Runs.{runs_of}
use Rattle.prem_cycle.proofs.RunsLemmas.PositionLemmas.Starts.{start_all}
use Rattle.prem_cycle.proofs.RunsLemmas.WindowLemmas.Cycles.{start_closes}
use Rattle.prem_cycle.specs.State.{start_of}
use Rattle.prem_image.specs.declared.image.DeviceRecord.{DeviceRecord}
use Rattle.prem_pair.proofs.CyclesLemmas.PairTime.{pair_run-now}
use Rattle.prem_pair.proofs.LawsLemmas.Facts.{HostsDevices}
use Rattle.prem_pair.proofs.LawsLemmas.Gating.{Gated, load, asked_most}
use Rattle.prem_pair.proofs.LawsLemmas.Holds.{PairHolds, cycle_holds}
use Rattle.prem_pair.proofs.LawsLemmas.Hosted.{Hosted, CoreHolds}
use Rattle.prem_sound.proofs.ScopesLemmas.Alone.{all_same, alone_is_scoped}
use Rattle.prem_sound.specs.Scopes.Charged.{each_alone}

-- ---- a core with its scripts

-- what is due is charged where each instruction is a scope by itself
abbrev pub due_totals : (passes : ℕ → ℕ) (p : Setup) (content : List ℕ) (inputs : List (List ℕ)) (own : ℕ → ℕ → Bool) (runs : ℕ → TaskRun)
    (scripts : ℕ → Script) → AreScripts p passes content inputs own runs scripts → HasTotals p runs scripts
due_totals passes p content inputs own runs scripts are = record {
  scopings = λ k. each_alone p.plant (runs k);
  scoped = λ k lt. alone_is_scoped p.plant (runs k);
  total = λ k. (scripts k).due;
  totals = λ k lt. omega (arith, all_same p.plant (runs k) (scripts k) (scripts k).count, (are.each k lt).dues);
}

abbrev pub host_of : (rule : ReplacementRule) (order : OrderRule) (passes : ℕ → ℕ) (p : Setup) (content : List ℕ) (inputs : List (List ℕ))
    (requests : List Request) (own : ℕ → ℕ → Bool) (runs : ℕ → TaskRun) (scripts : ℕ → Script) → IsPolicy rule order passes →
    IsRun p content requests → AreScripts p passes content inputs own runs scripts → HasTotals p runs scripts → Hosted
host_of rule order passes p content inputs requests own runs scripts policy run are t = record {
  rule = rule;
  order = order;
  passes = passes;
  setup = p;
  own = own;
  runs = runs;
  scripts = scripts;
  policy = policy;
  keep = are.each;
  are_runs = runs_of rule p content inputs requests own runs policy.keeps run.runnable are.own_runs;
  jobs_are = λ k lt. (are.own_runs.runs_are k lt).jobs;
  periods = run.periods;
  charged = t;
}

host_starts : (rule : ReplacementRule) (order : OrderRule) (passes : ℕ → ℕ) (p : Setup) (content : List ℕ) (inputs : List (List ℕ))
    (requests : List Request) (own : ℕ → ℕ → Bool) (runs : ℕ → TaskRun) (scripts : ℕ → Script) (policy : IsPolicy rule order passes)
    (run : IsRun p content requests) (are : AreScripts p passes content inputs own runs scripts) → (t : HasTotals p runs scripts) →
    CoreHolds (host_of rule order passes p content inputs requests own runs scripts policy run are t) 0 (λ k. 0) (start_of p inputs (memory_of p content))
host_starts rule order passes p content inputs requests own runs scripts policy run are t = record {
  known = record {
    position = (start_all p content inputs requests own runs run.runnable are.own_runs).position;
    closes = start_closes p inputs (memory_of p content);
  };
  keeps = start_faultless rule order passes p own runs scripts policy are.each inputs (memory_of p content);
  lasts = start_lasts rule order passes p own runs scripts policy are.each inputs (memory_of p content);
  timed = start_timed rule order passes p own runs scripts policy are.each (λ k lt. (are.own_runs.runs_are k lt).jobs) run.periods t.scopings t.scoped t.total t.totals inputs (memory_of p content);
  needs = start_needs p inputs (memory_of p content);
}

-- ---- the gates at the start

start_cost : (ds : List DeviceRecord) (d : ℕ) → d < length ds →
    (gate_at (gates_of (map (λ (x : DeviceRecord). x.device) ds) (map (λ (x : DeviceRecord). x.area) ds)) d).cost ≡ (get_or ds d no_device).device.cost
start_cost [] d lt = absurd (omega (arith, lt))
start_cost (x ∷ ds) zero lt = refl
start_cost (x ∷ ds) (suc d) lt = start_cost ds d (omega (arith, lt))

none_waits : (ds : List DeviceRecord) →
    sum_by (λ (g : GateState). sum_by (λ (r : Request). g.cost) g.queue)
    (gates_of (map (λ (x : DeviceRecord). x.device) ds) (map (λ (x : DeviceRecord). x.area) ds)) ≡ 0
none_waits [] = refl
none_waits (x ∷ ds) =
    sum_by-cons (λ (g : GateState). sum_by (λ (r : Request). g.cost) g.queue) (gate_of x.device x.area) (gates_of (map (λ (x : DeviceRecord). x.device) ds) (map (λ (x : DeviceRecord). x.area) ds))
    ∙ (let e : sum_by (λ (g : GateState). sum_by (λ (r : Request). g.cost) g.queue)
    (gates_of (map (λ (x : DeviceRecord). x.device) ds) (map (λ (x : DeviceRecord). x.area) ds)) ≡ 0 = none_waits ds in omega (arith, e))

start_gated : (p : Setup) (inputs : List (List ℕ)) (memory : List ℕ) → AreGates p (start_of p inputs memory).gates → Gated p (start_of p inputs memory).gates
start_gated p inputs memory g = record { count = g.count; costs = λ d lt. start_cost p.devices d lt; some = tt }

start_load : (p : Setup) (inputs : List (List ℕ)) (memory : List ℕ) → load (start_of p inputs memory).gates ≡ 0
start_load p inputs memory = let e = none_waits p.devices in omega (arith, e)

-- ---- small facts

over_not : (a b c : Bool) → (a || b || c) ≡ true → a ≡ false → b ≡ false → c ≡ false → ⊥
over_not true b c h x y z = let v : true ≡ false = x in cc
over_not false true c h x y z = let v : true ≡ false = y in cc
over_not false false true h x y z = let v : true ≡ false = z in cc
over_not false false false h x y z = let v : false ≡ true = h in cc

neither : (a b : Bool) → a ≡ false → b ≡ false → (a || b) ≡ false
neither true b e f = e
neither false b e f = f

one_not : (a b : Bool) → (a && b) ≡ false → a ≡ true → b ≡ false
one_not true b h e = h
one_not false b h e = absurd (let x : false ≡ true = e in cc)

-- ---- runs

module _ (rule other : ReplacementRule) (order order' : OrderRule) (passes passes' : ℕ → ℕ) (p q : Setup) (content behind : List ℕ)
    (inputs others : List (List ℕ)) (requests : List Request) (own own' : ℕ → ℕ → Bool) (runs runs' : ℕ → TaskRun) (scripts scripts' : ℕ → Script)
    (policy : IsPolicy rule order passes) (policy' : IsPolicy other order' passes') (run : IsRun p content requests) (run' : IsRun q behind [])
    (are : AreScripts p passes content inputs own runs scripts) (are' : AreScripts q passes' behind others own' runs' scripts')
    (t : HasTotals p runs scripts) (t' : HasTotals q runs' scripts') where
  abbrev pub host : Hosted
  host = host_of rule order passes p content inputs requests own runs scripts policy run are t

  abbrev pub guest : Hosted
  guest = host_of other order' passes' q behind others [] own' runs' scripts' policy' run' are' t'

  abbrev pub after : ℕ → PairState
  after n = pair_run rule other p q content behind inputs others requests n

  pub devices : HostsDevices host requests
  devices = record {
    placed = run.runnable.devices;
    asked = run.runnable.asked;
    free = are.own_runs.free;
    costs = record {
      least = λ d lt. (run.runnable.devices d no_device lt).device.cost.0;
      most = λ d lt. (run.runnable.devices d no_device lt).device.cost.1;
    };
  }

  pub start_holds : (More : (ℕ → ℕ) → (ℕ → ℕ) → PairState → Type 0) →
      More (λ k. 0) (λ k. 0) (pair_start p q inputs others (memory_of p content) (memory_of q behind)) →
      PairHolds host guest requests More (pair_start p q inputs others (memory_of p content) (memory_of q behind))
  start_holds More more =
      let gates : AreGates p (start_of p inputs (memory_of p content)).gates = (start_all p content inputs requests own runs run.runnable are.own_runs).gates in
      record {
        off = 0;
        off' = 0;
        at = λ k. 0;
        at' = λ k. 0;
        first = host_starts rule order passes p content inputs requests own runs scripts policy run are t;
        second = host_starts other order' passes' q behind others [] own' runs' scripts' policy' run' are' t';
        same_now = refl;
        gates = gates;
        gated = start_gated p inputs (memory_of p content) gates;
        tokened = record { first = refl; second = refl; gates = refl };
        gone = 0;
        served = omega (arith, start_load p inputs (memory_of p content));
        spans = record { idle = 0; low = omega arith; high = omega arith; time = omega arith };
        more = more;
      }

  abbrev Nothing : (ℕ → ℕ) → (ℕ → ℕ) → PairState → Type 0
  Nothing at at' s = Unit {0}

  step_holds : (s : PairState) → PairHolds host guest requests Nothing s → PairHolds host guest requests Nothing (pair_step rule other p q requests s)
  step_holds s x =
      cond_both (is_pair_over s) s (pair_cycle rule other p q requests s) (PairHolds host guest requests Nothing) (λ _. x)
      (λ on. cycle_holds host guest requests devices Nothing s x Nothing (first_no (both_finished s) (one_trapped s) (one_full s) on) tt)

  -- all that is known holds after n cycles
  pub run_holds : (n : ℕ) → PairHolds host guest requests Nothing (after n)
  unfolding pair_cycles
  run_holds zero = start_holds Nothing tt
  run_holds (suc n) = step_holds (after n) (run_holds n)

  abbrev limit : ℕ
  limit = pair_limit p q (total_of p t.total) (total_of q t'.total) requests

  before_by : (n : ℕ) → both_finished (after n) ≡ false → (after n).first.now + 1 ≤ limit
  before_by n go =
      let x : PairHolds host guest requests Nothing (after n) = run_holds n in
      let most : (after n).first.now ≤ x.off + total_of p t.total =
      core_most rule order passes p own runs scripts policy are.each (λ k lt. (are.own_runs.runs_are k lt).jobs)
      run.periods t.scopings t.scoped t.total t.totals x.off x.at (after n).first x.first.known x.first.keeps x.first.lasts x.first.timed in
      let most' : (after n).second.now ≤ x.off' + total_of q t'.total =
      core_most other order' passes' q own' runs' scripts' policy' are'.each (λ k lt. (are'.own_runs.runs_are k lt).jobs)
      run'.periods t'.scopings t'.scoped t'.total t'.totals x.off' x.at' (after n).second x.second.known x.second.keeps x.second.lasts x.second.timed in
      ⊎_elim (λ (f : is_finished (after n).first ≡ true).
      ⊎_elim (λ (y : (after n).second.now + 1 ≤ x.off' + total_of q t'.total).
      omega (arith, most, y, x.same_now, x.spans.time, x.spans.high, x.served, asked_most (after n).first.now p requests))
      (λ (y : (after n).second.now < last_release q.tasks). omega (arith, y, x.same_now))
      (core_before other order' passes' q own' runs' scripts' policy' are'.each (λ k lt. (are'.own_runs.runs_are k lt).jobs)
      run'.periods t'.scopings t'.scoped t'.total t'.totals x.off' x.at' (after n).second x.second.known x.second.keeps x.second.lasts x.second.timed
      (one_not (is_finished (after n).first) (is_finished (after n).second) go f)))
      (λ (f : is_finished (after n).first ≡ false).
      ⊎_elim (λ (y : (after n).first.now + 1 ≤ x.off + total_of p t.total).
      omega (arith, most', y, x.same_now, x.spans.time, x.spans.high, x.served, asked_most (after n).first.now p requests))
      (λ (y : (after n).first.now < last_release p.tasks). omega (arith, y))
      (core_before rule order passes p own runs scripts policy are.each (λ k lt. (are.own_runs.runs_are k lt).jobs)
      run.periods t.scopings t.scoped t.total t.totals x.off x.at (after n).first x.first.known x.first.keeps x.first.lasts x.first.timed f))
      (cases_Bool (is_finished (after n).first))

  none_trapped : (n : ℕ) → one_trapped (after n) ≡ false
  none_trapped n =
      let x : PairHolds host guest requests Nothing (after n) = run_holds n in
      neither (is_some (after n).first.trapped) (is_some (after n).second.trapped) (ap (λ o. is_some o) x.first.known.position.untrapped) (ap (λ o. is_some o) x.second.known.position.untrapped)

  none_full : (n : ℕ) → one_full (after n) ≡ false
  none_full n =
      let x : PairHolds host guest requests Nothing (after n) = run_holds n in
      neither (is_full (after n).first) (is_full (after n).second)
      (core_room rule order passes p own runs scripts policy are.each (λ k lt. (are.own_runs.runs_are k lt).jobs)
      run.periods t.scopings t.scoped t.total t.totals x.off x.at
      (after n).first x.first.known x.first.keeps x.first.lasts x.first.timed are.outputs are.intervals)
      (core_room other order' passes' q own' runs' scripts' policy' are'.each (λ k lt. (are'.own_runs.runs_are k lt).jobs)
      run'.periods t'.scopings t'.scoped t'.total t'.totals x.off' x.at'
      (after n).second x.second.known x.second.keeps x.second.lasts x.second.timed are'.outputs are'.intervals)

  pub finishes : (n : ℕ) → limit ≤ n → both_finished (after n) ≡ true
  finishes n le =
      ⊎_elim (λ (yes : both_finished (after n) ≡ true). yes)
      (λ (go : both_finished (after n) ≡ false).
      ⊎_elim (λ (over : is_pair_over (after n) ≡ true). absurd (over_not (both_finished (after n)) (one_trapped (after n)) (one_full (after n)) over go (none_trapped n) (none_full n)))
      (λ (on : is_pair_over (after n) ≡ false). absurd (omega (arith, pair_run-now rule other p q content behind inputs others requests n on, before_by n go, le)))
      (cases_Bool (is_pair_over (after n))))
      (cases_Bool (both_finished (after n)))

pub pairs_finish_by_totals : PairsFinishByTotals
pairs_finish_by_totals rule other order order' passes passes' p q content behind inputs others requests own own' runs runs' scripts scripts' n policy policy' run run' none are are' t t' le =
    finishes rule other order order' passes passes' p q content behind inputs others requests own own' runs runs' scripts scripts' policy policy' run run' are are' t t' n le

pub pairs_finish : PairsFinish
pairs_finish rule other order order' passes passes' p q content behind inputs others requests own own' runs runs' scripts scripts' n policy policy' run run' none are are' le =
    pairs_finish_by_totals rule other order order' passes passes' p q content behind inputs others requests own own' runs runs' scripts scripts' n policy policy' run run' none are are'
    (due_totals passes p content inputs own runs scripts are) (due_totals passes' q behind others own' runs' scripts' are') le
