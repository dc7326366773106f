-- A run whose calls are booked turn by turn.
use Rattle.std.specs.Prelude.{nat_lt, not, ◌&&◌, ◌==◌}
use Rattle.std.proofs.Common.{◌≡◌, ℕ, zero, suc, ◌+◌, ◌-◌, ◌<◌, ◌≤◌, ◌^◌, Bool, true, false, cond, List, Some, get_or, replicate, refl, ap, sym, ◌∙◌, subst, arith}
use Rattle.std.proofs.lemmas.Bool.Decides.{nat_tests}
use Rattle.prem_list.specs.Sequence.{items_of}
use Rattle.prem_sched.specs.declared.sched.TaskJobs.{TaskJobs}
use Rattle.prem_sched.specs.declared.sched.Choice.{Choice}
use Rattle.prem_sched.specs.declared.sched.Choice.TheVariants.{Run, Idle as Idles, Finished as Ended}
use Rattle.prem_sched.specs.Schedule.{choice}
use Rattle.prem_lru.specs.Entries.{ReplacementRule}
use Rattle.prem_gate.specs.declared.request.Request.{Request}
use Rattle.prem_gate.specs.declared.request.RunInput.{RunInput}
use Rattle.prem_image.specs.declared.image.Image.{Image}
use Rattle.prem_cycle.specs.declared.state.Mode.{Mode}
use Rattle.prem_cycle.specs.declared.state.Mode.TheVariants.{Point, Switching, Running as Runs, Idle}
use Rattle.prem_cycle.specs.declared.state.Stop.{Stop}
use Rattle.prem_cycle.specs.State.{Setup, MachineState, rule_in}
use Rattle.prem_cycle.specs.Cycle.{is_over}
use Rattle.prem_cycle.specs.FactsOf.{stop_of}
use Rattle.prem_cycle.specs.Inputs.{setup_of}
use Rattle.prem_cycle.specs.Run.{cycles_of}
use Rattle.prem_cycle.proofs.RunLaws.{cycles_of-over}
use Rattle.prem_machine.specs.States.{Running, state_of}
use Rattle.prem_profile.specs.declared.cost.Cost.{Cost}
use Rattle.prem_profile.specs.declared.home.Home.{Home}
use Rattle.prem_profile.specs.declared.home.Home.TheVariants.{Rest, Switch}
use Rattle.prem_profile.specs.Spent.{chosen, home_after, home_with, no_cost, plus, spent, waiting_home}
use Rattle.prem_profile.specs.Turn.{IsTurn}
use Rattle.prem_profile.specs.Account.{Fits, each_row, goes_on, row_of, switch_row}
use Rattle.prem_profile.specs.Calls.{AreOfCode, FitsWide, HasWideRoom, LastCalls, calls_after, calls_of, costs_with, function_at, no_calls, noted, recent_with}
use Rattle.prem_profile.specs.Calls.{settled, spent_in, spent_within, times, with_call, with_calls}
use Rattle.prem_profile.proofs.Turns.{IsSmall, booked, over_none, plus_none, spent_small}
use Rattle.prem_profile.proofs.Booking.{at_row, none_rows, none_small, rows_same}
use Rattle.prem_profile.proofs.Called.{IsBelow, IsFew, calls_after-add, few_fit, few_part, few_small, noted_same, over_within, spent_within-add, turn_calls, turn_within, wide_fits, with_open, within_small}
use Rattle.prem_profile.proofs.Rooms.{calls_grow, earlier_next, earlier_with, nothing_settled, settled_next}
use Rattle.prem_profile.proofs.RowsAdd.{switch_below}
use Rattle.prem_profile.proofs.Profiled.{after, after_small, all_at, home_at, over_is, start}

abbrev pub known_at : (most tasks : ℕ) (words functions : List ℕ) (rows : ℕ) → Image → RunInput → ℕ → LastCalls
known_at most tasks words functions rows image input n =
    calls_after functions (row_of tasks words) (rule_in (setup_of image)) (setup_of image) (items_of input.requests) Rest (no_calls most rows) n (start image input)

abbrev pub within_at : (most tasks : ℕ) (words functions : List ℕ) (rows : ℕ) → Image → RunInput → ℕ → ℕ → Cost
within_at most tasks words functions rows image input n call =
    spent_within most functions (row_of tasks words) call (rule_in (setup_of image)) (setup_of image) (items_of input.requests) Rest (no_calls most rows) n (start image input)

-- what holds of the calls behind each turn
pub record IsCalled (image : Image) (input : RunInput) (most tasks : ℕ) (words functions : List ℕ) (rows at row function : ℕ) (recent : Cost) (calls : LastCalls) (costs : List Cost) : Type 0 where
  pub row_is : row ≡ row_of tasks words (home_at image input at)
  pub function_is : function ≡ function_at functions row
  pub calls_are : calls ≡ known_at most tasks words functions rows image input at
  pub earlier : Cost
  pub recent_is : plus earlier recent ≡ all_at image input at
  pub costs_are : settled most functions calls.callers row recent costs ≡ each_row (within_at most tasks words functions rows image input at) 0 rows

nothing_within : (most tasks : ℕ) (words functions : List ℕ) (rows : ℕ) (image : Image) (input : RunInput) (call : ℕ) → within_at most tasks words functions rows image input 0 call ≡ no_cost
unfolding spent_within
nothing_within most tasks words functions rows image input call = refl

nothing_spent : (image : Image) (input : RunInput) → no_cost ≡ all_at image input 0
unfolding spent
nothing_spent image input = refl

pub first_called : (image : Image) (input : RunInput) (most tasks : ℕ) (words functions : List ℕ) (rows row function : ℕ) (recent : Cost) (calls : LastCalls) (costs : List Cost) →
    row ≡ row_of tasks words Rest → function ≡ function_at functions row → recent ≡ no_cost → calls ≡ no_calls most rows → costs ≡ replicate rows no_cost →
    IsCalled image input most tasks words functions rows 0 row function recent calls costs
unfolding home_after calls_after
first_called image input most tasks words functions rows row function recent calls costs row_is function_is recent_is calls_are costs_are = record {
  row_is = row_is;
  function_is = function_is;
  calls_are = calls_are;
  earlier = no_cost;
  recent_is = ap (plus no_cost) recent_is ∙ plus_none no_cost ∙ nothing_spent image input;
  costs_are = ap (λ c. settled most functions calls.callers row c costs) recent_is ∙ nothing_settled costs (calls_of most functions calls.callers row) ∙ costs_are
      ∙ none_rows (within_at most tasks words functions rows image input 0) 0 rows (nothing_within most tasks words functions rows image input);
}

-- ---- room in a run of no more than 2^61 cycles

all_few : (image : Image) (input : RunInput) (n : ℕ) → n ≤ 2 ^ 61 → IsFew (all_at image input n)
all_few image input n le =
    let p = setup_of image in
    let q = items_of input.requests in
    let rule = rule_in p in
    let s = start image input in
    let t = after image input n in
    let most = after_small image input n le in
    let whole = spent_small (λ h. true) rule p q Rest n s in
    let w = whole.within in
    few_small (all_at image input n) (record { instructions = whole.instructions; misses = whole.misses; backs = whole.backs; within = omega (arith, w, most) })

module _ (image : Image) (input : RunInput) (most tasks : ℕ) (words functions : List ℕ) (rows at row function : ℕ) (recent : Cost) (calls : LastCalls) (costs : List Cost)
    (w : IsCalled image input most tasks words functions rows at row function recent calls costs) where
  recent_few : at ≤ 2 ^ 61 → IsFew recent
  recent_few le = few_part w.earlier recent (all_at image input at) w.recent_is (all_few image input at le)

  -- the cost of another turn
  pub recent_fits : (cost : Cost) → at ≤ 2 ^ 61 → IsSmall (2 ^ 61) cost → Fits recent cost
  recent_fits cost le small = few_fit recent cost (recent_few le) (few_small cost small)

  -- what was spent of late
  pub room_called : most < 2 ^ 64 → at ≤ 2 ^ 61 → HasWideRoom most costs recent
  room_called few le place =
      let p = setup_of image in
      let q = items_of input.requests in
      let rule = rule_in p in
      let s = start image input in
      let cycles = (after image input at).now - s.now in
      let now = after_small image input at le in
      let less : (after image input at).now - s.now ≤ 2 ^ 61 = omega (arith, now) in
      let f : ℕ → Cost = within_at most tasks words functions rows image input at in
      let small = recent_few le in
      let F : Cost → Type 0 = λ x. (a : Cost) → IsBelow a x → FitsWide a (record { instructions = times most recent.instructions; cycles = times most recent.cycles; misses = times most recent.misses; backs = times most recent.backs }) in
      let each : F (get_or (each_row f 0 rows) place no_cost) =
      at_row F f place 0 rows (λ i a below. wide_fits most cycles a (f i) recent few less below (within_small most functions (row_of tasks words) i rule p q Rest (no_calls most rows) at s) small)
      (λ a below. wide_fits most 0 a no_cost recent few (omega arith) below (none_small (times most 0)) small) in
      subst (λ (xs : List Cost). F (get_or xs place no_cost)) (sym w.costs_are) each (get_or costs place no_cost)
      (calls_grow costs (calls_of most functions calls.callers row) recent place)

  -- behind another turn
  pub next_called : (to : ℕ) (home : Home) (cost : Cost) (row' function' : ℕ) (recent' : Cost) (calls' : LastCalls) (costs' : List Cost) → at < to →
      IsTurn (rule_in (setup_of image)) (setup_of image) (items_of input.requests) (home_at image input at) (to - at) (after image input at) home cost →
      row' ≡ row_of tasks words home → function' ≡ function_at functions row' → calls' ≡ noted functions row row' calls → recent' ≡ recent_with functions row row' recent cost →
      costs' ≡ costs_with most functions calls.callers row row' recent costs → IsCalled image input most tasks words functions rows to row' function' recent' calls' costs'
  next_called to home cost row' function' recent' calls' costs' lower turn row_is function_is calls_are recent_is costs_are =
      let p = setup_of image in
      let q = items_of input.requests in
      let rule = rule_in p in
      let s = start image input in
      let t = after image input at in
      let h = home_at image input at in
      let k = known_at most tasks words functions rows image input at in
      let n = to - at in
      let rows_of = row_of tasks words in
      let whole : at + n ≡ to = omega (arith, lower) in
      let some : suc (n - 1) ≡ n = omega (arith, lower) in
      let known : calls' ≡ noted functions (row_of tasks words h) (row_of tasks words home) k =
      calls_are ∙ (λ i. noted functions (w.row_is i) (row_is i) (w.calls_are i)) in
      let f : ℕ → Cost = within_at most tasks words functions rows image input at in
      let g : ℕ → Cost = within_at most tasks words functions rows image input to in
      let open_calls = calls_of most functions calls'.callers row' in
      let each : (i : ℕ) → g i ≡ plus (f i) (spent_in open_calls i cost) =
      λ i. ap (λ m. within_at most tasks words functions rows image input m i) (sym whole)
      ∙ spent_within-add most functions rows_of rule p q i Rest (no_calls most rows) at n s
      ∙ ap (plus (f i)) (turn_within most functions rows_of rule p q h k n t home cost turn i ∙ (λ j. spent_in (calls_of most functions (sym known j).callers (sym row_is j)) i cost)) in
      let b = booked (λ x. true) rule p q Rest at n s home cost turn in
      let all : all_at image input to ≡ plus (all_at image input at) cost = ap (all_at image input) (sym whole) ∙ b.spent_is in
      record {
        row_is = row_is ∙ ap rows_of (sym b.home_is ∙ ap (home_at image input) whole);
        function_is = function_is;
        calls_are = known ∙ sym (turn_calls most functions rows_of rule p q h k n t home cost turn (n - 1) some)
            ∙ sym (calls_after-add most functions rows_of rule p q Rest (no_calls most rows) at n s) ∙ ap (known_at most tasks words functions rows image input) whole;
        earlier = earlier_with functions row row' w.earlier (all_at image input at);
        recent_is = ap (plus (earlier_with functions row row' w.earlier (all_at image input at))) recent_is
            ∙ earlier_next functions row row' w.earlier recent (all_at image input at) cost w.recent_is ∙ sym all;
        costs_are = (λ i. settled most functions (calls_are i).callers row' (recent_is i) (costs_are i)) ∙ settled_next most functions calls row row' recent cost costs
            ∙ ap (λ xs. with_calls xs (calls_of most functions (noted functions row row' calls).callers row') cost) w.costs_are
            ∙ ap (λ (c : LastCalls). with_calls (each_row f 0 rows) (calls_of most functions c.callers row') cost) (sym calls_are) ∙ with_open f g open_calls rows cost each;
      }

-- ---- where a run is over

quiet : (functions : List ℕ) (before row : ℕ) (calls : LastCalls) → function_at functions row ≡ 0 → noted functions before row calls ≡ calls
quiet functions before row calls none =
    ap (λ f. cond ((nat_lt 0 f && not (function_at functions (row - 1) == f)) && not (function_at functions before == f)) (with_call f before calls) calls) none

module _ (functions : List ℕ) (rows : Home → ℕ) (rest : function_at functions (rows Rest) ≡ 0) (switch : (k : ℕ) → function_at functions (rows (Switch k)) ≡ 0) where
  chosen_quiet : (c : Choice) (before : Home) (calls : LastCalls) → noted functions (rows before) (rows (chosen c)) calls ≡ calls
  chosen_quiet (Run k) before calls = quiet functions (rows before) (rows (Switch k)) calls (switch k)
  chosen_quiet (Idles until) before calls = quiet functions (rows before) (rows Rest) calls rest
  chosen_quiet Ended before calls = quiet functions (rows before) (rows Rest) calls rest

  -- what executes nothing calls nothing
  waiting_quiet : (now : ℕ) (sched : List TaskJobs) (m : Mode) (before : Home) (calls : LastCalls) → noted functions (rows before) (rows (waiting_home now sched m before)) calls ≡ calls
  waiting_quiet now sched Point before calls = chosen_quiet (choice now sched) before calls
  waiting_quiet now sched (Switching k left) before calls = quiet functions (rows before) (rows (Switch k)) calls (switch k)
  waiting_quiet now sched (Runs k) before calls = noted_same functions (rows before) calls
  waiting_quiet now sched (Idle until) before calls = quiet functions (rows before) (rows Rest) calls rest

  over_quiet : (rule : ReplacementRule) (p : Setup) (requests : List Request) (before : Home) (calls : LastCalls) (n : ℕ) (s : MachineState) → is_over s ≡ true →
      calls_after functions rows rule p requests before calls n s ≡ calls
  unfolding calls_after home_after
  over_quiet rule p requests before calls zero s over = refl
  over_quiet rule p requests before calls (suc n) s over =
      let u = cycles_of rule p requests n s in
      let h = home_after rule p requests before n s in
      let none = over_none rule p requests u (ap is_over (cycles_of-over rule p requests n s over) ∙ over) in
      let home = ap (λ o. home_with o (waiting_home u.now u.sched u.core.mode h)) none in
      let first = over_quiet rule p requests before calls n s over in
      (λ i. noted functions (rows h) (rows (home i)) (first i)) ∙ waiting_quiet u.now u.sched u.core.mode h calls

-- ---- the end

pub record EndedCalls (image : Image) (input : RunInput) (most tasks : ℕ) (words functions : List ℕ) (rows limit row : ℕ) (recent : Cost) (calls : LastCalls) (costs : List Cost) : Type 0 where
  pub calls_are : calls ≡ known_at most tasks words functions rows image input limit
  pub costs_are : settled most functions calls.callers row recent costs ≡ each_row (within_at most tasks words functions rows image input limit) 0 rows

module _ (image : Image) (input : RunInput) (most tasks : ℕ) (words functions : List ℕ) (rows limit at : ℕ) (code : AreOfCode functions tasks) (le : at ≤ limit)
    (over : is_over (after image input at) ≡ true) where
  over_known : known_at most tasks words functions rows image input at ≡ known_at most tasks words functions rows image input limit
  over_known =
      let p = setup_of image in
      let q = items_of input.requests in
      let rule = rule_in p in
      let s = start image input in
      let rows_of = row_of tasks words in
      let whole : at + (limit - at) ≡ limit = omega (arith, le) in
      sym (ap (λ n. known_at most tasks words functions rows image input n) (sym whole) ∙ calls_after-add most functions rows_of rule p q Rest (no_calls most rows) at (limit - at) s
      ∙ over_quiet functions rows_of (code 1 (omega arith)) (λ k. code (switch_row tasks k) (switch_below tasks k (2 + tasks) (omega arith))) rule p q (home_at image input at)
      (known_at most tasks words functions rows image input at) (limit - at) (after image input at) over)

  over_spent_within : (call : ℕ) → within_at most tasks words functions rows image input at call ≡ within_at most tasks words functions rows image input limit call
  over_spent_within call =
      let p = setup_of image in
      let q = items_of input.requests in
      let rule = rule_in p in
      let s = start image input in
      let rows_of = row_of tasks words in
      let f = within_at most tasks words functions rows image input at call in
      let whole : at + (limit - at) ≡ limit = omega (arith, le) in
      sym (ap (λ n. within_at most tasks words functions rows image input n call) (sym whole)
      ∙ spent_within-add most functions rows_of rule p q call Rest (no_calls most rows) at (limit - at) s
      ∙ ap (plus f) (over_within most functions rows_of call rule p q (home_at image input at) (known_at most tasks words functions rows image input at) (limit - at) (after image input at) over)
      ∙ plus_none f)

called_by : (image : Image) (input : RunInput) (most tasks : ℕ) (words functions : List ℕ) (rows limit at row function : ℕ) (recent : Cost) (calls : LastCalls) (costs : List Cost) →
    IsCalled image input most tasks words functions rows at row function recent calls costs → AreOfCode functions tasks → (less goes : Bool) → nat_lt at limit ≡ less → at ≤ limit →
    (goes ≡ false → is_over (after image input at) ≡ true) → (less && goes) ≡ false → EndedCalls image input most tasks words functions rows limit row recent calls costs
called_by image input most tasks words functions rows limit at row function recent calls costs w code true true l le over e = absurd (cc)
called_by image input most tasks words functions rows limit at row function recent calls costs w code true false l le over e = record {
  calls_are = w.calls_are ∙ over_known image input most tasks words functions rows limit at code le (over refl);
  costs_are = w.costs_are
      ∙ rows_same (within_at most tasks words functions rows image input at) (within_at most tasks words functions rows image input limit) 0 rows
      (λ i from. over_spent_within image input most tasks words functions rows limit at code le (over refl) i);
}
called_by image input most tasks words functions rows limit at row function recent calls costs w code false goes l le over e =
    let same : at ≡ limit = grind (arith, nat_tests) in
    record {
      calls_are = w.calls_are ∙ ap (known_at most tasks words functions rows image input) same;
      costs_are = w.costs_are ∙ ap (λ n. each_row (within_at most tasks words functions rows image input n) 0 rows) same;
    }

pub ended_called : (image : Image) (input : RunInput) (most tasks : ℕ) (words functions : List ℕ) (rows limit at row function : ℕ) (recent : Cost) (calls : LastCalls) (costs : List Cost)
    (stop : Stop) (m : Running) → IsCalled image input most tasks words functions rows at row function recent calls costs → AreOfCode functions tasks → at ≤ limit →
    state_of m ≡ after image input at → Some stop ≡ stop_of at (state_of m) → (nat_lt at limit && goes_on stop) ≡ false →
    EndedCalls image input most tasks words functions rows limit row recent calls costs
ended_called image input most tasks words functions rows limit at row function recent calls costs stop m w code le state stopped e =
    called_by image input most tasks words functions rows limit at row function recent calls costs w code (nat_lt at limit) (goes_on stop) refl le
    (λ no. ap is_over (sym state) ∙ over_is at (state_of m) stop no stopped) e
