use Rattle.std.proofs.Common.{ap, refl, ◌∙◌, ◌+◌, ◌++◌, length, map, replicate}
use Rattle.prem_list.specs.Sequence.{items_of}
use Rattle.prem_cycle.specs.State.{rule_in}
use Rattle.prem_cycle.specs.Inputs.{image_run, setup_of}
use Rattle.prem_profile.specs.Spent.{no_cost}
use Rattle.prem_profile.specs.Account.{row_cost}
use Rattle.prem_profile.specs.Strips.{first_row, rows_of, strip_of, strip_rows, strip_words}
use Rattle.prem_profile.specs.Calls.{function_at, functions_from, narrow}
use Rattle.prem_profile.specs.Callgrind.{calls_at, profile_text}
use Rattle.prem_profile.proofs.Callees.{none_first, strips_long}
use Rattle.prem_profile.proofs.RowsAdd.{rows_long}
use Rattle.prem_profile.proofs.Setting.{many_empty}
use Rattle.prem_profile.proofs.Summed.{image_told, rows_empty}
use Rattle.prem_profile.proofs.answer.image_profile.Goals as goal

pub profile-requires-clause-costs : goal.profile-requires-clause-costs
profile-requires-clause-costs g c =
    rows_empty c.in_ok-words.field-0.costs.items (c.first_row.result + strip_words (map strip_of c.args.strips.now)) c.in_ok-words.ensures.costs

pub profile-requires-clause-functions : goal.profile-requires-clause-functions
profile-requires-clause-functions g c =
    let tasks = length c.args.sources.now in
    let rest = functions_from 1 (map strip_of c.args.strips.now) in
    λ row lt.
    ap (λ functions. function_at functions row) (c.in_ok-functions.ensures.functions ∙ ap (λ n. replicate n 0 ++ rest) c.first_row-2.ensures) ∙ none_first (first_row tasks) rest row lt

pub profile_text-requires : goal.profile_text-requires
profile_text-requires g c =
    let rows = c.in_ok-words.field-0 in
    let strips = map strip_of c.args.strips.now in
    let first = c.first_row.ensures in
    let image = c.args.image.now in
    let input = c.args.input.now in
    ap length c.deref.ensures.value ∙ ap length c.in_ok-traced.ensures.costs
    ∙ rows_long (row_cost (length c.args.sources.now) rows.words.items (rule_in (setup_of image)) (setup_of image) (items_of input.requests) c.args.limit
    (image_run (rule_in (setup_of image)) image input 0)) 0 (length rows.costs.items)
    ∙ many_empty rows.costs.items (c.first_row.result + strip_words strips) c.in_ok-words.ensures.costs ∙ ap (λ n. n + strip_words strips) first

pub returns : goal.returns
returns g c =
    let rows = c.in_ok-words.field-0 in
    let functions = c.in_ok-functions.functions in
    let run = c.in_ok-traced.traced in
    let calls = run.calls in
    let sources = c.args.sources.now in
    let strips = map strip_of c.args.strips.now in
    let first = c.first_row.ensures in
    let size = c.word_count-size.result in
    image_told sources strips c.args.image.now c.args.input.now c.args.limit (length sources) rows.words.items rows.costs.items run.account.costs.items run.account.total functions.functions.items functions.most
    calls.callees.items (map narrow calls.costs.items) c.in_ok-text.text.items refl
    (c.in_ok-words.ensures.words ∙ ap (λ n. strip_rows (replicate size 0) n strips) first ∙ ap (λ n. rows_of (length sources) n strips) c.word_count-size.ensures)
    (c.in_ok-words.ensures.costs ∙ ap (λ n. replicate (n + strip_words strips) no_cost) first) c.in_ok-traced.ensures.total c.in_ok-traced.ensures.costs
    (c.in_ok-functions.ensures.functions ∙ ap (λ n. replicate n 0 ++ functions_from 1 strips) c.first_row-2.ensures) (c.in_ok-functions.ensures.most ∙ strips_long c.args.strips.now) c.in_ok-traced.ensures.callees c.in_ok-traced.ensures.calls
    (c.in_ok-text.ensures ∙ ap (λ costs. profile_text sources strips run.account.total costs (calls_at strips calls.callees.items (map narrow calls.costs.items))) c.deref.ensures.value)
