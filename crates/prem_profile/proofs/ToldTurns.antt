-- Instructions that the machine tells of are turns of its run.
use Rattle.std.specs.Prelude.{is_some, nat_lt, ◌||◌, ◌==◌}
use Rattle.std.proofs.Common.{◌≡◌, ℕ, zero, suc, ◌+◌, ◌-◌, ◌≤◌, ◌<◌, Bool, true, false, cond, List, [], ◌∷◌, drop, length, get_or, Option, Some, None, refl, ap, ap₂, sym, ◌∙◌, subst, arith, ⊎_elim}
use Rattle.std.proofs.lemmas.Bool.{cases_lt}
use Rattle.std.proofs.lemmas.Bool.Decides.{nat_tests}
use Rattle.prem_list.specs.Sequence.{items_of}
use Rattle.prem_lru.specs.Entries.{ReplacementRule}
use Rattle.prem_gate.specs.declared.request.Request.{Request}
use Rattle.prem_gate.specs.declared.request.RunInput.{RunInput}
use Rattle.prem_image.specs.declared.image.Image.{Image}
use Rattle.prem_cycle.specs.declared.state.Mode.{Mode}
use Rattle.prem_cycle.specs.declared.state.Stop.{Stop}
use Rattle.prem_cycle.specs.declared.state.Stop.TheVariants.{Finished, LogFull, Limit}
use Rattle.prem_cycle.specs.declared.state.Trap.{Trap as Trapped}
use Rattle.prem_cycle.specs.State.{Setup, MachineState, rule_in}
use Rattle.prem_cycle.specs.Cycle.{is_finished, is_full, is_over, log_size, step_of}
use Rattle.prem_cycle.specs.FactsOf.{stop_of, stop_trapped}
use Rattle.prem_cycle.specs.Inputs.{image_run, setup_of}
use Rattle.prem_cycle.specs.Run.{coming_step, cycles_of}
use Rattle.prem_cycle.proofs.RunLaws.{cycles_of-add, step_of-stays}
use Rattle.prem_machine.specs.Execution.{AreExecutions, IsOneExecution, IsExecution, ToldBehind, cycles_in}
use Rattle.prem_machine.specs.States.{Running, requests_in, setup_in, state_of}
use Rattle.prem_machine.specs.declared.execution.Execution.{Execution}
use Rattle.prem_profile.specs.declared.ahead.Ahead.{Ahead}
use Rattle.prem_profile.specs.declared.cost.Cost.{Cost}
use Rattle.prem_profile.specs.declared.home.Home.{Home}
use Rattle.prem_profile.specs.declared.home.Home.TheVariants.{At}
use Rattle.prem_profile.specs.Spent.{cost_with, cycle_cost, home_after, home_of, home_with, plus, spent, waiting_home, where_so}
use Rattle.prem_profile.specs.Issuer.{coming_pc, issuer_in, pc_at}
use Rattle.prem_profile.specs.Turn.{AreSeen, IsTurn, has_executed, seen_cost, seen_home, seen_of}
use Rattle.prem_profile.specs.Ahead.{IsAhead, IsAheadBy, execution_cost, run_after}
use Rattle.prem_profile.proofs.Executes.{both_counted, step_told, touches_of}
use Rattle.prem_profile.proofs.Profiled.{IsProfiled}
use Rattle.prem_profile.proofs.Turns.{none_by, one_seen, same_cost, where_plus}

-- ---- a cycle in which a task only waits for its instruction

-- no instruction is executed where no line is touched
waits_none : (rule : ReplacementRule) (p : Setup) (requests : List Request) (u : MachineState) → (step_of rule p requests u).log.counts.hits ≡ u.log.counts.hits →
    (step_of rule p requests u).log.counts.misses ≡ u.log.counts.misses → coming_step rule p requests u ≡ None
waits_none rule p requests u hits misses =
    let o = coming_step rule p requests u in
    let told = step_told rule p requests u in
    let all = both_counted (touches_of o) in
    let counted_hits = told.counted.hits in
    let counted_misses = told.counted.misses in
    none_by (issuer_in u.now u.sched u.core.mode) u.work o told.next (omega (arith, hits, misses, counted_hits, counted_misses, all))

cycles_first : (rule : ReplacementRule) (p : Setup) (requests : List Request) (s : MachineState) → cycles_of rule p requests 0 s ≡ s
unfolding cycles_of
cycles_first rule p requests s = refl

cycles_next : (rule : ReplacementRule) (p : Setup) (requests : List Request) (m : ℕ) (s : MachineState) → cycles_of rule p requests (suc m) s ≡ step_of rule p requests (cycles_of rule p requests m s)
unfolding cycles_of
cycles_next rule p requests m s = refl

home_next : (rule : ReplacementRule) (p : Setup) (requests : List Request) (before : Home) (m : ℕ) (s : MachineState) →
    home_after rule p requests before (suc m) s ≡ home_of rule p requests (cycles_of rule p requests m s) (home_after rule p requests before m s)
unfolding home_after
home_next rule p requests before m s = refl

spent_next : (is_so : Home → Bool) (rule : ReplacementRule) (p : Setup) (requests : List Request) (before : Home) (m : ℕ) (s : MachineState) →
    spent is_so rule p requests before (suc m) s
    ≡ plus (spent is_so rule p requests before m s) (where_so (is_so (home_after rule p requests before (suc m) s)) (cycle_cost rule p requests (cycles_of rule p requests m s)))
unfolding spent
spent_next is_so rule p requests before m s = refl

-- what is seen behind two states with the same counts
seen_same : (before : Home) (s t u : MachineState) → u.log.counts.hits ≡ t.log.counts.hits → u.log.counts.misses ≡ t.log.counts.misses →
    seen_home (seen_of before s) u ≡ seen_home (seen_of before s) t
seen_same before s t u hits misses =
    ap₂ (λ h m. cond (nat_lt s.log.counts.hits h || nat_lt s.log.counts.misses m) (At (coming_pc s)) (waiting_home s.now s.sched s.core.mode before)) hits misses

module _ (rule : ReplacementRule) (p : Setup) (requests : List Request) (task n : ℕ) (s : MachineState) (one : IsOneExecution rule p requests task n s) (before : Home) where
  seen_at : ℕ → Home
  seen_at m = seen_home (seen_of before s) (cycles_of rule p requests m s)

  cost_at : ℕ → Cost
  cost_at m = seen_cost (seen_of before s) (cycles_of rule p requests m s)

  abbrev TurnTo : ℕ → Type 0
  TurnTo m = IsTurn rule p requests before m s (seen_home (seen_of before s) (cycles_of rule p requests m s)) (seen_cost (seen_of before s) (cycles_of rule p requests m s))

  -- another cycle of it
  waits_on : (m : ℕ) → 1 ≤ m → m < n → TurnTo m → TurnTo (suc m)
  waits_on m from lt t =
      let u = cycles_of rule p requests m s in
      let v = cycles_of rule p requests (suc m) s in
      let next = cycles_next rule p requests m s in
      let first = one.waits m from (omega (arith, lt)) in
      let then_ = one.waits (suc m) (omega arith) (omega (arith, lt)) in
      let hits : v.log.counts.hits ≡ u.log.counts.hits = then_.hits ∙ sym first.hits in
      let misses : v.log.counts.misses ≡ u.log.counts.misses = then_.misses ∙ sym first.misses in
      let backs : v.log.counts.writebacks ≡ u.log.counts.writebacks = then_.backs ∙ sym first.backs in
      let none = waits_none rule p requests u (ap (λ (x : MachineState). x.log.counts.hits) (sym next) ∙ hits) (ap (λ (x : MachineState). x.log.counts.misses) (sym next) ∙ misses) in
      let passed = one.passes m (omega (arith, lt)) in
      let passes = one.passes (suc m) (omega (arith, lt)) in
      let h = seen_home (seen_of before s) u in
      let same : h ≡ seen_home (seen_of before s) v = sym (seen_same before s u v hits misses) in
      let home : home_after rule p requests before (suc m) s ≡ h =
      home_next rule p requests before m s
      ∙ ap (λ o. home_with o (waiting_home u.now u.sched u.core.mode (home_after rule p requests before m s))) none
      ∙ ap (λ (k : Mode). waiting_home u.now u.sched k (home_after rule p requests before m s)) (one.runs m lt)
      ∙ t.home_is in
      let executed : has_executed (seen_of before s) u ≡ has_executed (seen_of before s) v = ap₂ (λ a b. nat_lt s.log.counts.hits a || nat_lt s.log.counts.misses b) (sym hits) (sym misses) in
      let c = seen_cost (seen_of before s) u in
      let d = cost_with None ((step_of rule p requests u).now - u.now) in
      let later : (step_of rule p requests u).now ≡ s.now + suc m = ap (λ (x : MachineState). x.now) (sym next) ∙ passes in
      let sum : plus c d ≡ seen_cost (seen_of before s) v =
      same_cost (plus c d) (seen_cost (seen_of before s) v) (ones executed) (omega (arith, passed, passes, later)) (omega (arith, misses)) (omega (arith, backs)) in
      record {
        homes = λ k less. ⊎_elim (λ (early : k < m). t.homes k early ∙ same)
            (λ (last : m ≤ k). let e : suc k ≡ suc m = omega (arith, last, less) in ap (λ i. home_after rule p requests before i s) e ∙ home ∙ same) (cases_lt k m);
        home_is = home ∙ same;
        spent_is = λ is_so.
            spent_next is_so rule p requests before m s
            ∙ ap₂ (λ (a : Cost) (b : Home). plus a (where_so (is_so b) (cycle_cost rule p requests u))) (t.spent_is is_so) home
            ∙ ap (λ o. plus (where_so (is_so h) c) (where_so (is_so h) (cost_with o ((step_of rule p requests u).now - u.now)))) none
            ∙ where_plus (is_so h) c d
            ∙ ap (λ x. where_so (is_so h) x) sum
            ∙ ap (λ k. where_so (is_so k) (seen_cost (seen_of before s) v)) same;
      }
    where
      ones : {a b : Bool} → a ≡ b → cond a 1 0 + 0 ≡ cond b 1 0
      ones {a} {b} e = let z : cond a 1 0 ≡ cond b 1 0 = ap {B = ℕ} (λ k. cond k 1 0) e in omega (arith, z)

  turn_to : (m : ℕ) → 1 ≤ m → m ≤ n → TurnTo m
  turn_to zero from le = absurd (omega (arith, from))
  turn_to (suc zero) from le = one_seen rule p requests s before
  turn_to (suc (suc m)) from le = waits_on (suc m) (omega arith) (omega (arith, le)) (turn_to (suc m) (omega arith) (omega (arith, le)))

-- the cycles of an instruction are a turn
pub one_turn : (rule : ReplacementRule) (p : Setup) (requests : List Request) (task n : ℕ) (s : MachineState) → IsOneExecution rule p requests task n s → AreSeen rule p requests n s
one_turn rule p requests task n s one before = turn_to rule p requests task n s one before n one.some (omega arith)

-- ---- what is told of it is seen

less_or : (a b c d : ℕ) → a + c < b + d → a ≤ b → c ≤ d → (nat_lt a b || nat_lt c d) ≡ true
less_or a b c d more le le' = by (nat_lt a b) refl (nat_lt c d) refl
  where
    by : (x : Bool) → nat_lt a b ≡ x → (y : Bool) → nat_lt c d ≡ y → (x || y) ≡ true
    by true ex y ey = refl
    by false ex true ey = refl
    by false ex false ey =
        let p : b ≤ a = grind (arith, nat_tests) in
        let q : d ≤ c = grind (arith, nat_tests) in
        absurd (omega (arith, p, q, more))

pub record IsSeenAs (x : Execution) (before : Home) (s t : MachineState) : Type 0 where
  pub home_is : At x.pc ≡ seen_home (seen_of before s) t
  pub cost_is : execution_cost x ≡ seen_cost (seen_of before s) t

-- hits never become fewer in a cycle
hits_more : (rule : ReplacementRule) (p : Setup) (requests : List Request) (s : MachineState) → s.log.counts.hits ≤ (cycles_of rule p requests 1 s).log.counts.hits
hits_more rule p requests s =
    let told = (step_told rule p requests s).counted.hits in
    let first = cycles_first rule p requests s in
    let next = ap (λ (x : MachineState). x.log.counts.hits) (cycles_next rule p requests 0 s ∙ ap (step_of rule p requests) first) in
    omega (arith, told, next)

pub told_seen : (rule : ReplacementRule) (p : Setup) (requests : List Request) (x : Execution) (before : Home) (s : MachineState) → IsExecution rule p requests x s →
    IsSeenAs x before s (cycles_of rule p requests x.cycles s)
told_seen rule p requests x before s h =
    let t = cycles_of rule p requests x.cycles s in
    let one = h.one in
    let same = one.waits x.cycles one.some (omega arith) in
    let first = ap (λ (u : MachineState). u.core.mode) (sym (cycles_first rule p requests s)) ∙ one.runs 0 one.some in
    let executed : has_executed (seen_of before s) t ≡ true =
    less_or s.log.counts.hits t.log.counts.hits s.log.counts.misses t.log.counts.misses (omega (arith, one.touches, same.hits, same.misses))
    (omega (arith, hits_more rule p requests s, same.hits)) (omega (arith, one.misses, same.misses)) in
    let pc : coming_pc s ≡ x.pc = ap (λ (m : Mode). pc_at s (issuer_in s.now s.sched m)) first ∙ sym h.stands in
    let passed = one.passes x.cycles (omega arith) in
    record {
      home_is = sym (ap (λ b. cond b (At (coming_pc s)) (waiting_home s.now s.sched s.core.mode before)) executed ∙ ap At pc);
      cost_is = same_cost (execution_cost x) (seen_cost (seen_of before s) t) (sym (ap (λ b. cond b 1 0) executed)) (omega (arith, passed)) (omega (arith, h.misses)) (omega (arith, h.backs));
    }

-- ---- the run goes on before each of them

over_stays : (rule : ReplacementRule) (p : Setup) (requests : List Request) (task n : ℕ) (s : MachineState) → IsOneExecution rule p requests task n s → (b : Bool) → is_over s ≡ b → b ≡ false
over_stays rule p requests task n s one true over =
    let first = cycles_first rule p requests s in
    let next = ap (λ (x : MachineState). x.now) (cycles_next rule p requests 0 s ∙ ap (step_of rule p requests) first ∙ step_of-stays rule p requests s over) in
    let some = one.some in
    let passed = one.passes 1 some in
    absurd (omega (arith, next, passed))
over_stays rule p requests task n s one false over = refl

pub one_goes : (rule : ReplacementRule) (p : Setup) (requests : List Request) (task n : ℕ) (s : MachineState) → IsOneExecution rule p requests task n s → is_over s ≡ false
one_goes rule p requests task n s one = over_stays rule p requests task n s one (is_over s) refl

-- ---- a machine that is ahead

pub at_rest : (image : Image) (input : RunInput) (at n : ℕ) → cycles_of (rule_in (setup_of image)) (setup_of image) (items_of input.requests) n (run_after image input at) ≡ run_after image input (at + n)
at_rest image input at n = sym (cycles_of-add (rule_in (setup_of image)) (setup_of image) (items_of input.requests) at n (image_run (rule_in (setup_of image)) image input 0))

pub dropped : (told : List Execution) (booked : ℕ) (x : Execution) → booked < length told → get_or told booked x ≡ x → drop booked told ≡ x ∷ drop (booked + 1) told
dropped [] booked x lt at = absurd (omega (arith, lt))
dropped (y ∷ told) zero x lt at = ap (λ z. z ∷ told) at
dropped (y ∷ told) (suc booked) x lt at =
    let e : suc (booked + 1) ≡ suc booked + 1 = omega arith in dropped told booked x (omega (arith, lt)) at ∙ ap (λ k. x ∷ drop k (y ∷ told)) e

-- an item that is there, whatever stands for none
pub there : (told : List Execution) (booked : ℕ) (d e : Execution) → booked < length told → get_or told booked d ≡ get_or told booked e
there [] booked d e lt = absurd (omega (arith, lt))
there (x ∷ told) zero d e lt = refl
there (x ∷ told) (suc booked) d e lt = there told booked d e (omega (arith, lt))

-- all that was told is booked
drop_past : (told : List Execution) (booked : ℕ) → length told ≤ booked → drop booked told ≡ []
drop_past [] zero le = refl
drop_past [] (suc booked) le = refl
drop_past (x ∷ told) zero le = absurd (omega (arith, le))
drop_past (x ∷ told) (suc booked) le = drop_past told booked (omega (arith, le))

module _ (image : Image) (input : RunInput) (at limit : ℕ) (m : Running) (a : Ahead) (h : IsAhead image input at limit m a) where
  abbrev Rule : ReplacementRule
  Rule = rule_in (setup_of image)

  abbrev Asked : List Request
  Asked = items_of input.requests

  -- where the machine is at the cycle
  pub all_booked : length a.told.items ≤ a.booked → IsAheadBy image input at limit m []
  all_booked le = subst (IsAheadBy image input at limit m) (drop_past a.told.items a.booked le) h.rest

  pub stands_at : length a.told.items ≤ a.booked → state_of m ≡ run_after image input at
  stands_at le = (all_booked le).state ∙ (let e : at + 0 ≡ at = omega arith in ap (run_after image input) e)

  -- the next instruction
  next_ahead : (x : Execution) → a.booked < length a.told.items → get_or a.told.items a.booked x ≡ x → IsAheadBy image input at limit m (x ∷ drop (a.booked + 1) a.told.items)
  next_ahead x lt is = subst (IsAheadBy image input at limit m) (dropped a.told.items a.booked x lt is) h.rest

  pub next_told : (x : Execution) → a.booked < length a.told.items → get_or a.told.items a.booked x ≡ x → IsExecution Rule (setup_of image) Asked x (run_after image input at)
  next_told x lt is = (next_ahead x lt is).told.0

  pub next_within : (x : Execution) → a.booked < length a.told.items → get_or a.told.items a.booked x ≡ x → at + x.cycles ≤ limit
  next_within x lt is = let le = (next_ahead x lt is).within in omega (arith, le)

  pub behind_next : (x : Execution) (b : Ahead) → a.booked < length a.told.items → get_or a.told.items a.booked x ≡ x → b.told.items ≡ a.told.items → b.booked ≡ a.booked + 1 →
      IsAhead image input (at + x.cycles) limit m b
  behind_next x b lt is told booked =
      let rest = drop (a.booked + 1) a.told.items in
      let n = next_ahead x lt is in
      let e : at + (x.cycles + cycles_in rest) ≡ at + x.cycles + cycles_in rest = omega arith in
      let le = n.within in
      let same : rest ≡ drop b.booked b.told.items = (λ i. drop (sym booked i) (sym told i)) in
      record {
        some = omega (arith, booked, ap length told, lt);
        rest = subst (IsAheadBy image input (at + x.cycles) limit m) same
            (record {
              setup = n.setup;
              requests = n.requests;
              state = n.state ∙ ap (run_after image input) e;
              within = omega (arith, le);
              told = subst (AreExecutions Rule (setup_of image) Asked rest) (at_rest image input at x.cycles) n.told.1;
            });
      }

-- why the run stops where another one is told
limit_by : (finished : Bool) (trapped : Option Trapped) (full last : Bool) → (finished || is_some trapped || full) ≡ false → last ≡ true →
    Some Limit ≡ cond finished (Some Finished) (stop_trapped trapped (cond full (Some (LogFull log_size)) (cond last (Some Limit) None)))
limit_by true trapped full last e is = absurd (cc)
limit_by false (Some t) full last e is = absurd (cc)
limit_by false None true last e is = absurd (cc)
limit_by false None false false e is = absurd (cc)
limit_by false None false true e is = refl

pub goes_limit : (at : ℕ) (s : MachineState) → is_over s ≡ false → s.now ≡ at → Some Limit ≡ stop_of at s
goes_limit at s goes now =
    let last : (s.now == at) ≡ true = grind (arith, nat_tests) in
    limit_by (is_finished s) s.trapped (is_full s) (s.now == at) goes last

-- where nothing was told, the machine goes on from the cycle
pub goes_ahead : (image : Image) (input : RunInput) (at limit : ℕ) (m m' : Running) (a b : Ahead) → IsAhead image input at limit m a → length a.told.items ≤ a.booked → b.booked ≡ 0 →
    setup_in m' ≡ setup_in m → requests_in m' ≡ requests_in m → (run_after image input at).now ≡ at →
    state_of m' ≡ cycles_of (rule_in (setup_in m)) (setup_in m) (requests_in m) ((state_of m').now - (state_of m).now) (state_of m) → (state_of m).now ≤ (state_of m').now →
    (state_of m').now ≤ limit → ToldBehind (rule_in (setup_in m)) (setup_in m) (requests_in m) ((state_of m').now - (state_of m).now) (state_of m) [] b.told.items → IsAhead image input at limit m' b
goes_ahead image input at limit m m' a b h le none setup requests now state from within tells =
    let p = setup_of image in
    let q = items_of input.requests in
    let rest = all_booked image input at limit m a h le in
    let here = stands_at image input at limit m a h le in
    let n = (state_of m').now - (state_of m).now in
    let there : (state_of m).now ≡ at = ap (λ (x : MachineState). x.now) here ∙ now in
    let T : Setup → List Request → MachineState → Type 0 = λ x y z. ToldBehind (rule_in x) x y n z [] b.told.items in
    let t : T p q (run_after image input at) = subst (λ z. T p q z) here (subst (λ y. T p y (state_of m)) rest.requests (subst (λ x. T x (requests_in m) (state_of m)) rest.setup tells)) in
    let S : Setup → List Request → MachineState → Type 0 = λ x y z. state_of m' ≡ cycles_of (rule_in x) x y n z in
    let s : S p q (run_after image input at) = subst (λ z. S p q z) here (subst (λ y. S p y (state_of m)) rest.requests (subst (λ x. S x (requests_in m) (state_of m)) rest.setup state)) in
    let take = t.take in
    let sum = ap cycles_in t.added in
    let all : n ≡ cycles_in b.told.items = omega (arith, take, sum) in
    let whole : drop b.booked b.told.items ≡ b.told.items = ap (λ k. drop k b.told.items) none in
    record {
      some = omega (arith, none);
      rest = subst (IsAheadBy image input at limit m') (sym whole)
          (record {
            setup = setup ∙ rest.setup;
            requests = requests ∙ rest.requests;
            state = s ∙ at_rest image input at n ∙ ap (λ k. run_after image input (at + k)) all;
            within = omega (arith, all, there, from, within);
            told = subst (λ xs. AreExecutions (rule_in p) p q xs (run_after image input at)) (sym t.added) t.are;
          });
    }

-- a machine that has gone up to a cycle, with all booked
pub went_on : (image : Image) (input : RunInput) (at to limit : ℕ) (m m' : Running) (a : Ahead) → IsAhead image input at limit m a → length a.told.items ≤ a.booked → at ≤ to → to ≤ limit →
    setup_in m' ≡ setup_in m → requests_in m' ≡ requests_in m → (run_after image input at).now ≡ at →
    state_of m' ≡ cycles_of (rule_in (setup_in m)) (setup_in m) (requests_in m) (to - (state_of m).now) (state_of m) → IsAhead image input to limit m' a
went_on image input at to limit m m' a h le later within setup requests now state =
    let p = setup_of image in
    let q = items_of input.requests in
    let rest = all_booked image input at limit m a h le in
    let here = stands_at image input at limit m a h le in
    let there : (state_of m).now ≡ at = ap (λ (x : MachineState). x.now) here ∙ now in
    let S : Setup → List Request → ℕ → MachineState → Type 0 = λ x y k z. state_of m' ≡ cycles_of (rule_in x) x y (to - k) z in
    let s : S p q at (run_after image input at) =
    subst (λ z. S p q at z) here (subst (λ k. S p q k (state_of m)) there (subst (λ y. S p y (state_of m).now (state_of m)) rest.requests
    (subst (λ x. S x (requests_in m) (state_of m).now (state_of m)) rest.setup state))) in
    let whole : at + (to - at) ≡ to + 0 = omega (arith, later) in
    record {
      some = h.some;
      rest = subst (IsAheadBy image input to limit m') (sym (drop_past a.told.items a.booked le))
          (record {
            setup = setup ∙ rest.setup;
            requests = requests ∙ rest.requests;
            state = s ∙ at_rest image input at (to - at) ∙ ap (run_after image input) whole;
            within = omega (arith, within);
            told = tt;
          });
    }

-- ---- the run behind a cycle, as a machine that stands there

abbrev pub standing : Image → RunInput → ℕ → Running
standing image input at = record { setup = setup_of image; requests = items_of input.requests; state = run_after image input at }

pub standing_later : (image : Image) (input : RunInput) (at to : ℕ) → (run_after image input at).now ≡ at → at < to →
    run_after image input to ≡ cycles_of (rule_in (setup_of image)) (setup_of image) (items_of input.requests) (to - (run_after image input at).now) (run_after image input at)
standing_later image input at to now lt =
    let whole : at + (to - (run_after image input at).now) ≡ to = omega (arith, now, lt) in
    sym (at_rest image input at (to - (run_after image input at).now) ∙ ap (run_after image input) whole)

pub as_standing : (image : Image) (input : RunInput) (tasks : ℕ) (words : List ℕ) (rows limit at : ℕ) (stop : Stop) (m : Running) (home : Home) (total : Cost) (costs : List Cost) →
    IsProfiled image input tasks words rows limit at stop m home total costs → IsProfiled image input tasks words rows limit at stop (standing image input at) home total costs
as_standing image input tasks words rows limit at stop m home total costs w = record {
  within = w.within;
  setup = refl;
  requests = refl;
  state = refl;
  stopped = subst (λ s. Some stop ≡ stop_of at s) w.state w.stopped;
  home_is = w.home_is;
  total_is = w.total_is;
  costs_are = w.costs_are;
}

-- where nothing was told
pub first_ahead : (image : Image) (input : RunInput) (limit : ℕ) (m : Running) (a : Ahead) → a.told.items ≡ [] → a.booked ≡ 0 → setup_in m ≡ setup_of image → requests_in m ≡ items_of input.requests →
    state_of m ≡ run_after image input 0 → IsAhead image input 0 limit m a
first_ahead image input limit m a told booked setup requests state =
    let none : drop a.booked a.told.items ≡ [] = (λ i. drop (booked i) (told i)) in
    record {
      some = omega (arith, booked);
      rest = subst (IsAheadBy image input 0 limit m) (sym none) (record { setup = setup; requests = requests; state = state; within = omega arith; told = tt });
    }
