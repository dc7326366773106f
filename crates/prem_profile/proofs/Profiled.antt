-- A run that is booked turn by turn.
use Rattle.std.specs.Prelude.{nat_lt, is_some, ◌||◌, ◌&&◌, ◌==◌}
use Rattle.std.proofs.Common.{◌≡◌, ℕ, ◌+◌, ◌-◌, ◌<◌, ◌≤◌, ◌^◌, Bool, true, false, cond, List, Option, Some, None, get_or, replicate, refl, ap, sym, ◌∙◌, subst, arith}
use Rattle.std.proofs.lemmas.Bool.Decides.{nat_tests}
use Rattle.prem_list.specs.Sequence.{items_of}
use Rattle.prem_gate.specs.declared.request.RunInput.{RunInput}
use Rattle.prem_image.specs.declared.image.Image.{Image}
use Rattle.prem_cycle.specs.declared.state.Stop.{Stop}
use Rattle.prem_cycle.specs.declared.state.Stop.TheVariants.{Finished, Trap, LogFull, Limit}
use Rattle.prem_cycle.specs.declared.state.Trap.{Trap as Trapped}
use Rattle.prem_cycle.specs.State.{MachineState, rule_in}
use Rattle.prem_cycle.specs.Cycle.{is_finished, is_full, is_over, log_size}
use Rattle.prem_cycle.specs.FactsOf.{stop_of, stop_trapped}
use Rattle.prem_cycle.specs.Inputs.{image_run, setup_of}
use Rattle.prem_cycle.specs.Run.{cycles_of}
use Rattle.prem_cycle.proofs.RunLaws.{cycles_of-add}
use Rattle.prem_machine.specs.States.{Running, requests_in, setup_in, state_of}
use Rattle.prem_profile.specs.declared.cost.Cost.{Cost}
use Rattle.prem_profile.specs.declared.home.Home.{Home}
use Rattle.prem_profile.specs.declared.home.Home.TheVariants.{Rest}
use Rattle.prem_profile.specs.Spent.{home_after, no_cost, plus, spent, spent_in_all, where_so}
use Rattle.prem_profile.specs.Turn.{AreSeen, IsTurn, seen_cost, seen_home, seen_of}
use Rattle.prem_profile.specs.Account.{Fits, HasRoom, each_row, goes_on, is_in_row, row_cost, row_of, with_cost}
use Rattle.prem_profile.proofs.Turns.{Booked, IsSmall, booked, cycles_within, over_spent, plus_none, spent-add, spent_small}
use Rattle.prem_profile.proofs.Booking.{at_row, none_rows, none_small, rows_same, small_fits, small_within, with_row}

-- ---- where a run comes to its limit

pub record AtLimit (at : ℕ) (s : MachineState) : Type 0 where
  pub going : is_over s ≡ false
  pub now : s.now ≡ at

limit_by : (finished : Bool) (trapped : Option Trapped) (full last : Bool) →
    Some Limit ≡ cond finished (Some Finished) (stop_trapped trapped (cond full (Some (LogFull log_size)) (cond last (Some Limit) None))) →
    ((finished || is_some trapped || full) ≡ false) × (last ≡ true)
limit_by true trapped full last e = absurd (cc)
limit_by false (Some t) full last e = absurd (cc)
limit_by false None true last e = absurd (cc)
limit_by false None false true e = (refl, refl)
limit_by false None false false e = absurd (cc)

at_limit : (at : ℕ) (s : MachineState) → Some Limit ≡ stop_of at s → AtLimit at s
at_limit at s e =
    let h = limit_by (is_finished s) s.trapped (is_full s) (s.now == at) e in
    let last : (s.now == at) ≡ true = h.1 in
    record { going = h.0; now = grind (arith, nat_tests) }

limit_is : (stop : Stop) → goes_on stop ≡ true → stop ≡ Limit
limit_is Finished e = absurd (cc)
limit_is (Trap task pc cause) e = absurd (cc)
limit_is (LogFull n) e = absurd (cc)
limit_is Limit e = refl

over_by : (finished : Bool) (trapped : Option Trapped) (full last : Bool) (stop : Stop) → goes_on stop ≡ false →
    Some stop ≡ cond finished (Some Finished) (stop_trapped trapped (cond full (Some (LogFull log_size)) (cond last (Some Limit) None))) → (finished || is_some trapped || full) ≡ true
over_by true trapped full last stop e h = refl
over_by false (Some t) full last stop e h = refl
over_by false None true last stop e h = refl
over_by false None false true stop e h = let is : stop ≡ Limit = cc in absurd (cc)
over_by false None false false stop e h = absurd (cc)

pub over_is : (at : ℕ) (s : MachineState) (stop : Stop) → goes_on stop ≡ false → Some stop ≡ stop_of at s → is_over s ≡ true
over_is at s stop e h = over_by (is_finished s) s.trapped (is_full s) (s.now == at) stop e h

-- ---- the run

abbrev pub start : Image → RunInput → MachineState
start image input = image_run (rule_in (setup_of image)) image input 0

abbrev pub after : Image → RunInput → ℕ → MachineState
after image input n = cycles_of (rule_in (setup_of image)) (setup_of image) (items_of input.requests) n (start image input)

abbrev pub home_at : Image → RunInput → ℕ → Home
home_at image input n = home_after (rule_in (setup_of image)) (setup_of image) (items_of input.requests) Rest n (start image input)

abbrev pub all_at : Image → RunInput → ℕ → Cost
all_at image input n = spent_in_all (rule_in (setup_of image)) (setup_of image) (items_of input.requests) Rest n (start image input)

abbrev pub row_at : (tasks : ℕ) → List ℕ → Image → RunInput → ℕ → ℕ → Cost
row_at tasks words image input n = row_cost tasks words (rule_in (setup_of image)) (setup_of image) (items_of input.requests) n (start image input)

pub first_now : (image : Image) (input : RunInput) → (start image input).now ≡ 0
unfolding cycles_of
first_now image input = refl

-- of a run of no more than 2^61 cycles
pub after_small : (image : Image) (input : RunInput) (n : ℕ) → n ≤ 2 ^ 61 → (after image input n).now ≤ 2 ^ 61
after_small image input n le =
    let first = first_now image input in
    let end = cycles_within (rule_in (setup_of image)) (setup_of image) (items_of input.requests) n (start image input) in
    omega (arith, first, end, le)

-- what holds of the machine and the account behind each turn
pub record IsProfiled (image : Image) (input : RunInput) (tasks : ℕ) (words : List ℕ) (rows limit at : ℕ) (stop : Stop) (m : Running) (home : Home) (total : Cost) (costs : List Cost) : Type 0 where
  pub within : at ≤ limit
  pub setup : setup_in m ≡ setup_of image
  pub requests : requests_in m ≡ items_of input.requests
  pub state : state_of m ≡ after image input at
  pub stopped : Some stop ≡ stop_of at (state_of m)
  pub home_is : home ≡ home_at image input at
  pub total_is : total ≡ all_at image input at
  pub costs_are : costs ≡ each_row (row_at tasks words image input at) 0 rows

nothing_first : (tasks : ℕ) (words : List ℕ) (image : Image) (input : RunInput) (row : ℕ) → row_at tasks words image input 0 row ≡ no_cost
unfolding spent
nothing_first tasks words image input row = refl

pub first_profiled : (image : Image) (input : RunInput) (tasks : ℕ) (words : List ℕ) (rows limit : ℕ) (stop : Stop) (m m' : Running) (home : Home) (total : Cost) (costs : List Cost) →
    setup_in m ≡ setup_of image → requests_in m ≡ items_of input.requests → state_of m ≡ start image input →
    state_of m' ≡ cycles_of (rule_in (setup_in m)) (setup_in m) (requests_in m) (0 - (state_of m).now) (state_of m) → setup_in m' ≡ setup_in m → requests_in m' ≡ requests_in m →
    Some stop ≡ stop_of 0 (state_of m') → home ≡ Rest → total ≡ no_cost → costs ≡ replicate rows no_cost → IsProfiled image input tasks words rows limit 0 stop m' home total costs
unfolding cycles_of home_after spent
first_profiled image input tasks words rows limit stop m m' home total costs setup requests state goes setup' requests' stopped home_is total_is costs_are =
    let none : 0 - (state_of m).now ≡ 0 = omega arith in
    record {
      within = omega arith;
      setup = setup' ∙ setup;
      requests = requests' ∙ requests;
      state = goes ∙ ap (λ n. cycles_of (rule_in (setup_in m)) (setup_in m) (requests_in m) n (state_of m)) none ∙ state;
      stopped = stopped;
      home_is = home_is;
      total_is = total_is;
      costs_are = costs_are ∙ none_rows (row_at tasks words image input 0) 0 rows (nothing_first tasks words image input);
    }

-- ---- a turn

second : (a b : Bool) → (a && b) ≡ true → b ≡ true
second true b e = e
second false b e = absurd (cc)

pub turn_goes : (at limit : ℕ) (stop : Stop) (has : Bool) → has ≡ (nat_lt at limit && goes_on stop) → has ≡ true → goes_on stop ≡ true
turn_goes at limit stop has is there = second (nat_lt at limit) (goes_on stop) (sym is ∙ there)

module _ (image : Image) (input : RunInput) (tasks : ℕ) (words : List ℕ) (rows limit at : ℕ) (stop : Stop) (m : Running) (home : Home) (total : Cost) (costs : List Cost)
    (w : IsProfiled image input tasks words rows limit at stop m home total costs) where
  pub here : goes_on stop ≡ true → AtLimit at (state_of m)
  here goes = at_limit at (state_of m) (subst (λ s. Some s ≡ stop_of at (state_of m)) (limit_is stop goes) w.stopped)

  -- what is booked so far, and another turn of a run of no more than 2^61 cycles
  pub turn_fits : (n : ℕ) (c : Cost) → (after image input at).now ≤ 2 ^ 61 → IsSmall (2 ^ 61) c → HasRoom total costs c
  turn_fits n c le small =
      let p = setup_of image in
      let q = items_of input.requests in
      let rule = rule_in p in
      let s = start image input in
      let less : (after image input at).now - s.now ≤ 2 ^ 61 = omega (arith, le) in
      let each : (is_so : Home → Bool) → IsSmall (2 ^ 61) (spent is_so rule p q Rest at s) =
      λ is_so. small_within ((after image input at).now - s.now) (2 ^ 61) (spent is_so rule p q Rest at s) less (spent_small is_so rule p q Rest at s) in
      let F : Cost → Type 0 = λ x. Fits x c in
      record {
        total_fits = subst F (sym w.total_is) (small_fits (all_at image input at) c (each (λ h. true)) small);
        each_fits = λ row.
            subst (λ (xs : List Cost). Fits (get_or xs row no_cost) c) (sym w.costs_are)
            (at_row F (row_at tasks words image input at) row 0 rows (λ i. small_fits (row_at tasks words image input at i) c (each (is_in_row tasks words i)) small)
            (small_fits no_cost c (none_small (2 ^ 61)) small));
      }

  -- where the next turn leads
  pub went_there : (m' : Running) (to : ℕ) → goes_on stop ≡ true → at < to →
      state_of m' ≡ cycles_of (rule_in (setup_in m)) (setup_in m) (requests_in m) (to - (state_of m).now) (state_of m) →
      state_of m' ≡ cycles_of (rule_in (setup_of image)) (setup_of image) (items_of input.requests) (to - at) (after image input at)
  went_there m' to goes lower state =
      let p = setup_of image in
      let q = items_of input.requests in
      let rule = rule_in p in
      let now = (here goes).now in
      state ∙ ap (λ k. cycles_of (rule_in (setup_in m)) (setup_in m) (requests_in m) (to - k) (state_of m)) now
      ∙ ap (λ x. cycles_of (rule_in x) x (requests_in m) (to - at) (state_of m)) w.setup
      ∙ ap (λ x. cycles_of rule p x (to - at) (state_of m)) w.requests ∙ ap (λ x. cycles_of rule p q (to - at) x) w.state

  -- the turn that is seen is one of the run
  pub is_turn : (m' : Running) (to : ℕ) → goes_on stop ≡ true → at < to → AreSeen (rule_in (setup_in m)) (setup_in m) (requests_in m) (to - at) (state_of m) →
      state_of m' ≡ cycles_of (rule_in (setup_in m)) (setup_in m) (requests_in m) (to - (state_of m).now) (state_of m) →
      IsTurn (rule_in (setup_of image)) (setup_of image) (items_of input.requests) (home_at image input at) (to - at) (after image input at)
      (seen_home (seen_of home (state_of m)) (state_of m')) (seen_cost (seen_of home (state_of m)) (state_of m'))
  is_turn m' to goes lower seen state =
      let p = setup_of image in
      let q = items_of input.requests in
      let rule = rule_in p in
      let s = after image input at in
      let seen' : AreSeen rule p q (to - at) s =
      subst (AreSeen rule p q (to - at)) w.state
      (subst (λ x. AreSeen rule p x (to - at) (state_of m)) w.requests
      (subst (λ x. AreSeen (rule_in x) x (requests_in m) (to - at) (state_of m)) w.setup seen)) in
      let T : Home → MachineState → MachineState → Type 0 = λ h x y. IsTurn rule p q (home_at image input at) (to - at) s (seen_home (seen_of h x) y) (seen_cost (seen_of h x) y) in
      subst (λ h. T h (state_of m) (state_of m')) (sym w.home_is)
      (subst (λ x. T (home_at image input at) x (state_of m')) (sym w.state)
      (subst (λ y. T (home_at image input at) s y) (sym (went_there m' to goes lower state)) (seen' (home_at image input at))))

  -- it is of no more than 2^61 cycles
  pub turn_cost : (m' : Running) (to : ℕ) (c : Cost) → goes_on stop ≡ true → at < to → to ≤ 2 ^ 61 → AreSeen (rule_in (setup_in m)) (setup_in m) (requests_in m) (to - at) (state_of m) →
      state_of m' ≡ cycles_of (rule_in (setup_in m)) (setup_in m) (requests_in m) (to - (state_of m).now) (state_of m) → c ≡ seen_cost (seen_of home (state_of m)) (state_of m') →
      IsSmall (2 ^ 61) c
  turn_cost m' to c goes lower most seen state is =
      let p = setup_of image in
      let q = items_of input.requests in
      let rule = rule_in p in
      let s = after image input at in
      let t = cycles_of rule p q (to - at) s in
      let turn = is_turn m' to goes lower seen state in
      let now : s.now ≡ at = sym (ap (λ (x : MachineState). x.now) w.state) ∙ (here goes).now in
      let end = cycles_within rule p q (to - at) s in
      let whole : IsSmall (t.now - s.now) (seen_cost (seen_of home (state_of m)) (state_of m')) =
      subst (IsSmall (t.now - s.now)) (turn.spent_is (λ h. true)) (spent_small (λ h. true) rule p q (home_at image input at) (to - at) s) in
      let less : t.now - s.now ≤ 2 ^ 61 = omega (arith, end, now, lower, most) in
      subst (IsSmall (2 ^ 61)) (sym is) (small_within (t.now - s.now) (2 ^ 61) (seen_cost (seen_of home (state_of m)) (state_of m')) less whole)

  pub turn_small : (m' : Running) (to : ℕ) (c : Cost) → goes_on stop ≡ true → at < to → to ≤ 2 ^ 61 → AreSeen (rule_in (setup_in m)) (setup_in m) (requests_in m) (to - at) (state_of m) →
      state_of m' ≡ cycles_of (rule_in (setup_in m)) (setup_in m) (requests_in m) (to - (state_of m).now) (state_of m) → c ≡ seen_cost (seen_of home (state_of m)) (state_of m') →
      HasRoom total costs c
  turn_small m' to c goes lower most seen state is =
      turn_fits at c (after_small image input at (omega (arith, lower, most))) (turn_cost m' to c goes lower most seen state is)

  pub next_profiled : (stop' : Stop) (m' : Running) (home' : Home) (total' : Cost) (costs' : List Cost) (to : ℕ) → goes_on stop ≡ true → at < to → to ≤ limit →
      AreSeen (rule_in (setup_in m)) (setup_in m) (requests_in m) (to - at) (state_of m) →
      state_of m' ≡ cycles_of (rule_in (setup_in m)) (setup_in m) (requests_in m) (to - (state_of m).now) (state_of m) →
      setup_in m' ≡ setup_in m → requests_in m' ≡ requests_in m → Some stop' ≡ stop_of to (state_of m') →
      home' ≡ seen_home (seen_of home (state_of m)) (state_of m') →
      total' ≡ plus total (seen_cost (seen_of home (state_of m)) (state_of m')) →
      costs' ≡ with_cost costs (row_of tasks words (seen_home (seen_of home (state_of m)) (state_of m'))) (seen_cost (seen_of home (state_of m)) (state_of m')) →
      IsProfiled image input tasks words rows limit to stop' m' home' total' costs'
  next_profiled stop' m' home' total' costs' to goes lower upper seen state setup requests stopped home_is total_is costs_are =
      let p = setup_of image in
      let q = items_of input.requests in
      let rule = rule_in p in
      let s = start image input in
      let h = seen_home (seen_of home (state_of m)) (state_of m') in
      let c = seen_cost (seen_of home (state_of m)) (state_of m') in
      let n = to - at in
      let whole : at + n ≡ to = omega (arith, lower) in
      let turn = is_turn m' to goes lower seen state in
      let b : (is_so : Home → Bool) → Booked is_so rule p q Rest at n s h c = λ is_so. booked is_so rule p q Rest at n s h c turn in
      let r = row_of tasks words h in
      let f : ℕ → Cost = row_at tasks words image input at in
      let g : ℕ → Cost = row_at tasks words image input to in
      let rows_are : (i : ℕ) → g i ≡ plus (f i) (where_so (r == i) c) =
      λ i. ap (λ k. row_at tasks words image input k i) (sym whole) ∙ (b (is_in_row tasks words i)).spent_is in
      record {
        within = upper;
        setup = setup ∙ w.setup;
        requests = requests ∙ w.requests;
        state = went_there m' to goes lower state ∙ sym (cycles_of-add rule p q at n s) ∙ ap (λ k. after image input k) whole;
        stopped = stopped;
        home_is = home_is ∙ sym ((b (λ x. true)).home_is) ∙ ap (home_at image input) whole;
        total_is = total_is ∙ ap (λ x. plus x c) w.total_is ∙ sym ((b (λ x. true)).spent_is) ∙ ap (all_at image input) whole;
        costs_are = costs_are ∙ ap (λ xs. with_cost xs r c) w.costs_are ∙ with_row f g r rows c rows_are;
      }

-- ---- the end

pub record Ended (image : Image) (input : RunInput) (tasks : ℕ) (words : List ℕ) (rows limit : ℕ) (total : Cost) (costs : List Cost) : Type 0 where
  pub total_is : total ≡ all_at image input limit
  pub costs_are : costs ≡ each_row (row_at tasks words image input limit) 0 rows

over_same : (is_so : Home → Bool) (image : Image) (input : RunInput) (at limit : ℕ) → at ≤ limit → is_over (after image input at) ≡ true →
    spent is_so (rule_in (setup_of image)) (setup_of image) (items_of input.requests) Rest at (start image input)
    ≡ spent is_so (rule_in (setup_of image)) (setup_of image) (items_of input.requests) Rest limit (start image input)
over_same is_so image input at limit le over =
    let p = setup_of image in
    let q = items_of input.requests in
    let rule = rule_in p in
    let s = start image input in
    let whole : at + (limit - at) ≡ limit = omega (arith, le) in
    sym (ap (λ n. spent is_so rule p q Rest n s) (sym whole) ∙ spent-add is_so rule p q Rest at (limit - at) s
    ∙ ap (plus (spent is_so rule p q Rest at s)) (over_spent is_so rule p q (home_at image input at) (limit - at) (after image input at) over) ∙ plus_none (spent is_so rule p q Rest at s))

ends_by : (image : Image) (input : RunInput) (tasks : ℕ) (words : List ℕ) (rows limit at : ℕ) (stop : Stop) (m : Running) (home : Home) (total : Cost) (costs : List Cost) →
    IsProfiled image input tasks words rows limit at stop m home total costs → (less goes : Bool) → nat_lt at limit ≡ less → goes_on stop ≡ goes → (less && goes) ≡ false →
    Ended image input tasks words rows limit total costs
ends_by image input tasks words rows limit at stop m home total costs w true true l g e = absurd (cc)
ends_by image input tasks words rows limit at stop m home total costs w true false l g e =
    let over : is_over (after image input at) ≡ true = ap is_over (sym w.state) ∙ over_is at (state_of m) stop g w.stopped in
    record {
      total_is = w.total_is ∙ over_same (λ h. true) image input at limit w.within over;
      costs_are = w.costs_are
          ∙ rows_same (row_at tasks words image input at) (row_at tasks words image input limit) 0 rows (λ i le. over_same (is_in_row tasks words i) image input at limit w.within over);
    }
ends_by image input tasks words rows limit at stop m home total costs w false goes l g e =
    let up = w.within in
    let same : at ≡ limit = grind (arith, nat_tests) in
    record { total_is = w.total_is ∙ ap (all_at image input) same; costs_are = w.costs_are ∙ ap (λ n. each_row (row_at tasks words image input n) 0 rows) same }

pub ended : (image : Image) (input : RunInput) (tasks : ℕ) (words : List ℕ) (rows limit at : ℕ) (stop : Stop) (m : Running) (home : Home) (total : Cost) (costs : List Cost) →
    IsProfiled image input tasks words rows limit at stop m home total costs → (nat_lt at limit && goes_on stop) ≡ false → Ended image input tasks words rows limit total costs
ended image input tasks words rows limit at stop m home total costs w e = ends_by image input tasks words rows limit at stop m home total costs w (nat_lt at limit) (goes_on stop) refl refl e
