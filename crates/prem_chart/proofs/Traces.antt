-- A run that is noted turn by turn.
use Rattle.std.specs.Prelude.{nat_lt, is_some, ◌||◌, ◌&&◌, ◌==◌}
use Rattle.std.proofs.Common.{◌≡◌, ℕ, ◌+◌, ◌-◌, ◌<◌, ◌≤◌, Bool, true, false, cond, List, [], ◌++◌, Option, Some, None, refl, ap, sym, ◌∙◌, subst, arith, append-nil}
use Rattle.std.proofs.lemmas.Bool.Decides.{nat_tests}
use Rattle.prem_list.specs.Sequence.{items_of}
use Rattle.prem_gate.specs.declared.request.RunInput.{RunInput}
use Rattle.prem_image.specs.declared.image.Image.{Image}
use Rattle.prem_cycle.specs.declared.state.Stop.{Stop}
use Rattle.prem_cycle.specs.declared.state.Stop.TheVariants.{Finished, LogFull, Limit}
use Rattle.prem_cycle.specs.declared.state.Trap.{Trap as Trapped}
use Rattle.prem_cycle.specs.State.{MachineState, rule_in}
use Rattle.prem_cycle.specs.Cycle.{is_finished, is_full, is_over, log_size}
use Rattle.prem_cycle.specs.FactsOf.{stop_of, stop_trapped}
use Rattle.prem_cycle.specs.Inputs.{image_run, setup_of}
use Rattle.prem_cycle.specs.Run.{cycles_of}
use Rattle.prem_cycle.proofs.RunLaws.{cycles_of-add, cycles_of-over}
use Rattle.prem_machine.specs.States.{Running, requests_in, setup_in, state_of}
use Rattle.prem_chart.specs.declared.note.Note.{Note}
use Rattle.prem_chart.proofs.Steps.{rest_some}
use Rattle.prem_chart.specs.Notes.{goes_on, noted, notes_of}
use Rattle.prem_chart.proofs.Noted.{AtLimit, at_limit, limit_is, notes_of-add, notes_of-over}

-- the state at the start of the run of an image
abbrev pub start : Image → RunInput → MachineState
start image input = image_run (rule_in (setup_of image)) image input 0

abbrev pub after : Image → RunInput → ℕ → MachineState
after image input n = cycles_of (rule_in (setup_of image)) (setup_of image) (items_of input.requests) n (start image input)

abbrev pub told : Image → RunInput → ℕ → List Note
told image input n = notes_of (rule_in (setup_of image)) (setup_of image) (items_of input.requests) n (start image input)

-- what holds of the machine and the notes behind each turn
pub record IsTraced (image : Image) (input : RunInput) (limit at : ℕ) (stop : Stop) (m : Running) (notes : List Note) : Type 0 where
  pub within : at ≤ limit
  pub setup : setup_in m ≡ setup_of image
  pub requests : requests_in m ≡ items_of input.requests
  pub state : state_of m ≡ after image input at
  pub stopped : Some stop ≡ stop_of at (state_of m)
  pub noted_is : notes ≡ told image input at

-- ---- the first turn

pub first_now : (image : Image) (input : RunInput) → (start image input).now ≡ 0
unfolding cycles_of
first_now image input = refl

-- behind a run up to cycle 0 from the start
pub first_traced : (image : Image) (input : RunInput) (limit : ℕ) (stop : Stop) (m m' : Running) →
    setup_in m ≡ setup_of image → requests_in m ≡ items_of input.requests → state_of m ≡ start image input →
    state_of m' ≡ cycles_of (rule_in (setup_in m)) (setup_in m) (requests_in m) (0 - (state_of m).now) (state_of m) → setup_in m' ≡ setup_in m → requests_in m' ≡ requests_in m →
    Some stop ≡ stop_of 0 (state_of m') → IsTraced image input limit 0 stop m' []
unfolding cycles_of notes_of
first_traced image input limit stop m m' setup requests state goes setup' requests' stopped =
    let none : 0 - (state_of m).now ≡ 0 = omega arith in
    record {
      within = omega arith;
      setup = setup' ∙ setup;
      requests = requests' ∙ requests;
      state = goes ∙ ap (λ n. cycles_of (rule_in (setup_in m)) (setup_in m) (requests_in m) n (state_of m)) none ∙ state;
      stopped = stopped;
      noted_is = refl;
    }

-- ---- a turn

-- where there is another turn the run goes on
pub turn_goes : (at limit : ℕ) (stop : Stop) (has : Bool) → has ≡ (nat_lt at limit && goes_on stop) → has ≡ true → goes_on stop ≡ true
turn_goes at limit stop has is there = rest_some (nat_lt at limit) (goes_on stop) (sym is ∙ there)

module _ (image : Image) (input : RunInput) (limit at : ℕ) (stop : Stop) (m : Running) (notes : List Note) (t : IsTraced image input limit at stop m notes) where
  -- the run has come to its limit of this turn, and goes on
  pub here : goes_on stop ≡ true → AtLimit at (state_of m)
  here goes = at_limit at (state_of m) (subst (λ s. Some s ≡ stop_of at (state_of m)) (limit_is stop goes) t.stopped)

  pub next_traced : (stop' : Stop) (m' : Running) (notes' : List Note) (to : ℕ) → goes_on stop ≡ true → at < to → to ≤ limit →
      notes_of (rule_in (setup_in m)) (setup_in m) (requests_in m) (to - at) (state_of m)
      ≡ noted (state_of m) (cycles_of (rule_in (setup_in m)) (setup_in m) (requests_in m) (to - at) (state_of m)) →
      state_of m' ≡ cycles_of (rule_in (setup_in m)) (setup_in m) (requests_in m) (to - (state_of m).now) (state_of m) →
      setup_in m' ≡ setup_in m → requests_in m' ≡ requests_in m → Some stop' ≡ stop_of to (state_of m') → notes' ≡ notes ++ noted (state_of m) (state_of m') →
      IsTraced image input limit to stop' m' notes'
  next_traced stop' m' notes' to goes from up turn state setup requests stopped noted' =
      let p = setup_of image in
      let q = items_of input.requests in
      let rule = rule_in p in
      let whole : at + (to - at) ≡ to = omega arith in
      let now = (here goes).now in
      let went : state_of m' ≡ cycles_of (rule_in (setup_in m)) (setup_in m) (requests_in m) (to - at) (state_of m) =
      state ∙ ap (λ n. cycles_of (rule_in (setup_in m)) (setup_in m) (requests_in m) (to - n) (state_of m)) now in
      let there : cycles_of (rule_in (setup_in m)) (setup_in m) (requests_in m) (to - at) (state_of m) ≡ after image input to =
      ap (λ x. cycles_of (rule_in x) x (requests_in m) (to - at) (state_of m)) t.setup
      ∙ ap (λ x. cycles_of rule p x (to - at) (state_of m)) t.requests
      ∙ ap (λ s. cycles_of rule p q (to - at) s) t.state
      ∙ sym (cycles_of-add rule p q at (to - at) (start image input))
      ∙ ap (λ n. cycles_of rule p q n (start image input)) whole in
      let more : noted (state_of m) (state_of m') ≡ notes_of rule p q (to - at) (after image input at) =
      ap (noted (state_of m)) went ∙ sym turn
      ∙ ap (λ x. notes_of (rule_in x) x (requests_in m) (to - at) (state_of m)) t.setup
      ∙ ap (λ x. notes_of rule p x (to - at) (state_of m)) t.requests
      ∙ ap (λ s. notes_of rule p q (to - at) s) t.state in
      record {
        within = up;
        setup = setup ∙ t.setup;
        requests = requests ∙ t.requests;
        state = went ∙ there;
        stopped = stopped;
        noted_is = noted' ∙ ap (λ xs. xs ++ noted (state_of m) (state_of m')) t.noted_is ∙ ap (λ xs. told image input at ++ xs) more
            ∙ sym (notes_of-add rule p q at (to - at) (start image input)) ∙ ap (λ n. notes_of rule p q n (start image input)) whole;
      }

-- ---- the end

pub record Ended (image : Image) (input : RunInput) (limit : ℕ) (stop : Stop) (m : Running) (notes : List Note) : Type 0 where
  pub state : state_of m ≡ image_run (rule_in (setup_of image)) image input limit
  pub stopped : Some stop ≡ stop_of limit (state_of m)
  pub noted_is : notes ≡ told image input limit

over_by : (finished : Bool) (trapped : Option Trapped) (full last : Bool) (stop : Stop) → goes_on stop ≡ false →
    Some stop ≡ cond finished (Some Finished) (stop_trapped trapped (cond full (Some (LogFull log_size)) (cond last (Some Limit) None))) → (finished || is_some trapped || full) ≡ true
over_by true trapped full last stop e h = refl
over_by false (Some t) full last stop e h = refl
over_by false None true last stop e h = refl
over_by false None false true stop e h = let is : stop ≡ Limit = cc in absurd (cc)
over_by false None false false stop e h = absurd (cc)

over_is : (at : ℕ) (s : MachineState) (stop : Stop) → goes_on stop ≡ false → Some stop ≡ stop_of at s → is_over s ≡ true
over_is at s stop e h = over_by (is_finished s) s.trapped (is_full s) (s.now == at) stop e h

same_by : (finished : Bool) (trapped : Option Trapped) (full last last' : Bool) → (finished || is_some trapped || full) ≡ true →
    cond finished (Some Finished) (stop_trapped trapped (cond full (Some (LogFull log_size)) (cond last (Some Limit) None)))
    ≡ cond finished (Some Finished) (stop_trapped trapped (cond full (Some (LogFull log_size)) (cond last' (Some Limit) None)))
same_by true trapped full last last' e = refl
same_by false (Some t) full last last' e = refl
same_by false None true last last' e = refl
same_by false None false last last' e = absurd (cc)

same_stop : (at limit : ℕ) (s : MachineState) → is_over s ≡ true → stop_of at s ≡ stop_of limit s
same_stop at limit s over = same_by (is_finished s) s.trapped (is_full s) (s.now == at) (s.now == limit) over

whole_run : (image : Image) (input : RunInput) (n : ℕ) → after image input n ≡ image_run (rule_in (setup_of image)) image input n
unfolding cycles_of
whole_run image input n = refl

ends_by : (image : Image) (input : RunInput) (limit at : ℕ) (stop : Stop) (m : Running) (notes : List Note) → IsTraced image input limit at stop m notes →
    (less goes : Bool) → nat_lt at limit ≡ less → goes_on stop ≡ goes → (less && goes) ≡ false → Ended image input limit stop m notes
ends_by image input limit at stop m notes t true true l g e = absurd (cc)
ends_by image input limit at stop m notes t true false l g e =
    let p = setup_of image in
    let q = items_of input.requests in
    let rule = rule_in p in
    let up = t.within in
    let whole : at + (limit - at) ≡ limit = omega arith in
    let over = over_is at (state_of m) stop g t.stopped in
    let over' : is_over (after image input at) ≡ true = ap is_over (sym t.state) ∙ over in
    record {
      state = t.state ∙ sym (cycles_of-over rule p q (limit - at) (after image input at) over') ∙ sym (cycles_of-add rule p q at (limit - at) (start image input))
          ∙ ap (λ n. cycles_of rule p q n (start image input)) whole ∙ whole_run image input limit;
      stopped = t.stopped ∙ same_stop at limit (state_of m) over;
      noted_is = t.noted_is ∙ sym (append-nil (told image input at)) ∙ ap (λ xs. told image input at ++ xs) (sym (notes_of-over rule p q (limit - at) (after image input at) over'))
          ∙ sym (notes_of-add rule p q at (limit - at) (start image input)) ∙ ap (λ n. notes_of rule p q n (start image input)) whole;
    }
ends_by image input limit at stop m notes t false goes l g e =
    let up = t.within in
    let same : at ≡ limit = grind (arith, nat_tests) in
    record {
      state = t.state ∙ ap (after image input) same ∙ whole_run image input limit;
      stopped = t.stopped ∙ ap (λ n. stop_of n (state_of m)) same;
      noted_is = t.noted_is ∙ ap (told image input) same;
    }

pub ends_traced : (image : Image) (input : RunInput) (limit at : ℕ) (stop : Stop) (m : Running) (notes : List Note) → IsTraced image input limit at stop m notes →
    (nat_lt at limit && goes_on stop) ≡ false → Ended image input limit stop m notes
ends_traced image input limit at stop m notes t e = ends_by image input limit at stop m notes t (nat_lt at limit) (goes_on stop) refl refl e
