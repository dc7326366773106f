-- Runs of two images.
use Rattle.std.specs.Prelude.{Bool, unwrap_or}
use Rattle.std.proofs.Common.{◌≡◌, ◌-◌, ℕ, List, [], ◌∷◌, length, Some, refl, ap, ◌∙◌, arith}
use Rattle.prem_list.specs.Sequence.{items_of}
use Rattle.prem_gate.specs.declared.request.Request.{Request}
use Rattle.prem_gate.specs.declared.request.RunInput.{RunInput}
use Rattle.prem_image.specs.declared.image.TaskRecord.{TaskRecord}
use Rattle.prem_image.specs.declared.image.DeviceRecord.{DeviceRecord}
use Rattle.prem_image.specs.declared.image.Image.{Image}
use Rattle.prem_image.specs.Text.{ImageText, image_text}
use Rattle.prem_cycle.specs.State.{Setup, rule_in}
use Rattle.prem_cycle.specs.FactsOf.{Report, report_of}
use Rattle.prem_cycle.specs.Inputs.{IsTrace, setup_of, words_of}
use Rattle.prem_pair.specs.declared.cycles.state.PairStop.{PairStop}
use Rattle.prem_pair.specs.declared.cycles.state.PairStop.TheVariants.{Limit}
use Rattle.prem_pair.specs.Cycles.Pair.{PairState, pair_cycles, pair_run, pair_stop_of}
use Rattle.prem_pair.specs.States.{PairRunning}
use Rattle.prem_exec.specs.Sources.Sources.{input_of}
use Rattle.prem_pair_top.specs.Report.{pair_text}
use Rattle.prem_pair_top.specs.Running.{pair_at, pair_stop_at, told_text}

abbrev run_from : (image behind : Image) (run other : RunInput) → ℕ → PairState
run_from image behind run other n =
    pair_run (rule_in (setup_of image)) (rule_in (setup_of behind)) (setup_of image) (setup_of behind) (items_of image.content)
    (items_of behind.content) (words_of run) (words_of other) (items_of run.requests) n

pub starts_at : (image behind : Image) (run other : RunInput) → (run_from image behind run other 0).first.now ≡ 0
unfolding pair_cycles
starts_at image behind run other = refl

goes_from_start : (image behind : Image) (run other : RunInput) (n : ℕ) →
    pair_cycles (rule_in (setup_of image)) (rule_in (setup_of behind)) (setup_of image) (setup_of behind) (items_of run.requests) n (run_from image behind run other 0)
    ≡ pair_at (image_text image) (image_text behind) (input_of run) (input_of other) n
unfolding pair_cycles
goes_from_start image behind run other n = refl

pub whole_run : (image behind : Image) (run other : RunInput) (limit : ℕ) (m : PairRunning) (final : PairState) → m.first ≡ setup_of image → m.second ≡ setup_of behind →
    m.requests ≡ items_of run.requests → m.state ≡ run_from image behind run other 0 →
    final ≡ pair_cycles (rule_in m.first) (rule_in m.second) m.first m.second m.requests (limit - m.state.first.now) m.state →
    final ≡ pair_at (image_text image) (image_text behind) (input_of run) (input_of other) limit
whole_run image behind run other limit m final first second requests state is =
    let p = setup_of image in
    let q = setup_of behind in
    let start = run_from image behind run other 0 in
    let whole : limit - 0 ≡ limit = omega arith in
    is
    ∙ ap (λ (p : Setup). pair_cycles (rule_in p) (rule_in m.second) p m.second m.requests (limit - m.state.first.now) m.state) first
    ∙ ap (λ (q : Setup). pair_cycles (rule_in p) (rule_in q) p q m.requests (limit - m.state.first.now) m.state) second
    ∙ ap (λ rs. pair_cycles (rule_in p) (rule_in q) p q rs (limit - m.state.first.now) m.state) requests
    ∙ ap (λ (s : PairState). pair_cycles (rule_in p) (rule_in q) p q (items_of run.requests) (limit - s.first.now) s) state
    ∙ ap (λ n. pair_cycles (rule_in p) (rule_in q) p q (items_of run.requests) (limit - n) start) (starts_at image behind run other)
    ∙ ap (λ n. pair_cycles (rule_in p) (rule_in q) p q (items_of run.requests) n start) whole
    ∙ goes_from_start image behind run other limit

pub stop_is : (stop : PairStop) (limit : ℕ) (s : PairState) → Some stop ≡ pair_stop_of limit s → stop ≡ pair_stop_at limit s
stop_is stop limit s is = ap (λ o. unwrap_or o Limit) is

-- where there is no device there is no request
pub no_requests : (devices : List DeviceRecord) (requests : List Request) → devices ≡ [] → IsTrace devices requests → requests ≡ []
no_requests devices [] none trace = refl
no_requests devices (r ∷ requests) none trace =
    let below = (trace.each 0 r (omega arith)).device in
    let size : length devices ≡ 0 = ap length none in
    absurd (omega (arith, below, size))

-- ---- what is told

pub told_is : (i j : ImageText) (times : Bool) (limit : ℕ) (s m : PairState) (tasks others : List TaskRecord) (devices : List DeviceRecord) (now : ℕ) (r q : Report) (stop : PairStop) → m ≡ s →
    tasks ≡ i.tasks → others ≡ j.tasks → devices ≡ i.devices → now ≡ m.first.now → r ≡ report_of m.first → q ≡ report_of m.second → stop ≡ pair_stop_at limit m →
    pair_text tasks others devices times now r q stop ≡ told_text i j times limit s
told_is i j times limit s m tasks others devices now r q stop same ts os ds at one two stops =
    ap (λ x. pair_text x others devices times now r q stop) ts
    ∙ ap (λ x. pair_text i.tasks x devices times now r q stop) os
    ∙ ap (λ x. pair_text i.tasks j.tasks x times now r q stop) ds
    ∙ ap (λ x. pair_text i.tasks j.tasks i.devices times x r q stop) at
    ∙ ap (λ x. pair_text i.tasks j.tasks i.devices times m.first.now x q stop) one
    ∙ ap (λ x. pair_text i.tasks j.tasks i.devices times m.first.now (report_of m.first) x stop) two
    ∙ ap (λ x. pair_text i.tasks j.tasks i.devices times m.first.now (report_of m.first) (report_of m.second) x) stops
    ∙ ap (told_text i j times limit) same
