-- The profile of the run of an image, and its sums.
use Rattle.std.specs.Prelude.{◌/◌}
use Rattle.std.proofs.Common.{◌≡◌, ℕ, ◌+◌, List, Option, length, replicate, refl, ap, sym, ◌∙◌, subst}
use Rattle.prem_list.specs.Sequence.{items_of}
use Rattle.prem_lru.specs.Rules.{rule_of}
use Rattle.prem_gate.specs.declared.request.RunInput.{RunInput}
use Rattle.prem_image.specs.Text.{ImageText, image_text}
use Rattle.prem_image.specs.declared.image.Image.{Image}
use Rattle.prem_cycle.specs.State.{MachineState, rule_in, start_of}
use Rattle.prem_cycle.specs.Run.{cycles_of, memory_of}
use Rattle.prem_cycle.specs.Inputs.{image_run, image_setup, setup_of}
use Rattle.prem_exec.specs.Forms.{RunText}
use Rattle.prem_exec.specs.Exec.{state_at}
use Rattle.prem_exec.specs.Sources.Sources.{input_of}
use Rattle.prem_profile.specs.declared.cost.Cost.{Cost}
use Rattle.prem_profile.specs.declared.callgrind.Source.{Source}
use Rattle.prem_profile.specs.declared.home.Home.TheVariants.{Rest}
use Rattle.prem_profile.specs.Spent.{no_cost, spent_in_all}
use Rattle.prem_profile.specs.Account.{each_row, row_cost}
use Rattle.prem_profile.specs.Totals.{IsTotal}
use Rattle.prem_profile.specs.Strips.{Strip, first_row, rows_of, strip_words}
use Rattle.prem_profile.specs.Calls.{call_cost, functions_of, run_calls}
use Rattle.prem_profile.specs.Callgrind.{CallsAt, calls_at, profile_text}
use Rattle.prem_profile.specs.Entries.{profile_entries}
use Rattle.prem_profile.specs.Answer.{ProfilesAddUp, image_profile}
use Rattle.prem_profile.proofs.Turns.{totals_are_reported}
use Rattle.prem_profile.proofs.Reading.{profiles_are_read}
use Rattle.prem_profile.proofs.Adding.{lines_add_up}
use Rattle.prem_profile.proofs.RowsAdd.{rows_add_up, rows_long}
use Rattle.prem_profile.proofs.Setting.{many_empty}

-- rows of which none costs anything
pub rows_empty : (costs : List Cost) (n : ℕ) → costs ≡ replicate n no_cost → costs ≡ replicate (length costs) no_cost
rows_empty costs n e = e ∙ ap (λ m. replicate m no_cost) (sym (many_empty costs n e))

-- what is booked of a run is told as its profile
pub image_told : (sources : List Source) (strips : List Strip) (image : Image) (input : RunInput) (limit tasks : ℕ) (words : List ℕ) (rows costs : List Cost) (total : Cost) (functions : List ℕ) (most : ℕ) (callees : List ℕ) (calls : List Cost) (text : List ℕ) →
    tasks ≡ length sources → words ≡ rows_of (length sources) (length (items_of image.content) / 4) strips → rows ≡ replicate (first_row (length sources) + strip_words strips) no_cost →
    total ≡ spent_in_all (rule_in (setup_of image)) (setup_of image) (items_of input.requests) Rest limit (image_run (rule_in (setup_of image)) image input 0) →
    costs ≡ each_row (row_cost tasks words (rule_in (setup_of image)) (setup_of image) (items_of input.requests) limit (image_run (rule_in (setup_of image)) image input 0)) 0 (length rows) →
    functions ≡ functions_of tasks strips → most ≡ length strips →
    callees ≡ (run_calls functions tasks words most (length rows) (rule_in (setup_of image)) (setup_of image) (items_of input.requests) limit (image_run (rule_in (setup_of image)) image input 0)).callees →
    calls
    ≡ each_row (call_cost functions tasks words most (length rows) (rule_in (setup_of image)) (setup_of image) (items_of input.requests) limit (image_run (rule_in (setup_of image)) image input 0)) 0
    (length rows) →
    text ≡ profile_text sources strips total costs (calls_at strips callees calls) → text ≡ image_profile sources strips (image_text image) (input_of input) limit
image_told sources strips image input limit tasks words rows costs total functions most callees calls text et ew er es ec ef em en ek e =
    let rule = rule_in (setup_of image) in
    let p = setup_of image in
    let requests = items_of input.requests in
    let s = image_run rule image input 0 in
    let many = many_empty rows (first_row (length sources) + strip_words strips) er in
    let costs_are = ec ∙ (λ i. each_row (row_cost (et i) (ew i) rule p requests limit s) 0 (many i)) in
    let functions_are = ef ∙ ap (λ n. functions_of n strips) et in
    let callees_are = en ∙ (λ i. (run_calls (functions_are i) (et i) (ew i) (em i) (many i) rule p requests limit s).callees) in
    let calls_are = ek ∙ (λ i. each_row (call_cost (functions_are i) (et i) (ew i) (em i) (many i) rule p requests limit s) 0 (many i)) in
    e ∙ (λ i. profile_text sources strips (es i) (costs_are i) (calls_at strips (callees_are i) (calls_are i)))

first_state : (i : ImageText) (input : RunText) → start_of (image_setup i) input.words (memory_of (image_setup i) i.content) ≡ state_at i input 0
unfolding cycles_of
first_state i input = refl

pub profiles_add_up : ProfilesAddUp
profiles_add_up sources strips i input limit =
    let rule = rule_of i.plant.policy in
    let p = image_setup i in
    let s = state_at i input 0 in
    let tasks = length sources in
    let size = length i.content / 4 in
    let cost : ℕ → Cost = row_cost tasks (rows_of tasks size strips) rule p input.requests limit s in
    let count = first_row tasks + strip_words strips in
    let total = spent_in_all rule p input.requests Rest limit s in
    let functions = functions_of tasks strips in
    let words = rows_of tasks size strips in
    let called : ℕ → Cost = call_cost functions tasks words (length strips) count rule p input.requests limit s in
    let calls : ℕ → Option CallsAt =
    calls_at strips (run_calls functions tasks words (length strips) count rule p input.requests limit s).callees (each_row called 0 count) in
    record {
      entries = profile_entries sources strips (each_row cost 0 count) calls;
      total = total;
      read = profiles_are_read sources strips total (each_row cost 0 count) calls;
      sum =
          lines_add_up sources strips (each_row cost 0 count) calls (rows_long cost 0 count)
          ∙ rows_add_up tasks size strips rule p input.requests limit s;
      reported =
          subst (λ (first : MachineState). IsTotal rule p i.content input.words input.requests limit (spent_in_all rule p input.requests Rest limit first)) (first_state i input)
          (totals_are_reported rule p i.content input.words input.requests limit);
    }
