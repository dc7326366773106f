use Rattle.std.proofs.Common.{◌≡◌, ◌+◌, ◌<◌, length, map, replicate, ap, sym, subst, ◌∙◌}
use Rattle.std.proofs.lemmas.List.{length-replicate}
use Rattle.prem_profile.specs.declared.home.Home.{Home}
use Rattle.prem_profile.specs.Spent.{no_cost}
use Rattle.prem_profile.specs.Account.{each_row, row_of}
use Rattle.prem_profile.specs.Strips.{first_row, rows_of, strip_of, strip_words}
use Rattle.prem_profile.specs.Calls.{narrow}
use Rattle.prem_profile.specs.Callgrind.{calls_at, no_calls_at, profile_text}
use Rattle.prem_profile.specs.Bound.Bills.{total}
use Rattle.prem_profile.specs.Bound.Booked.{bill_row}
use Rattle.prem_profile.proofs.RowsAdd.{rows_long, rows_there}
use Rattle.prem_wcet.proofs.Outcomes.{if_more}
use Rattle.prem_profile.proofs.bound.text.bill_text.Goals as goal

pub booked-account-requires-clause-empty : goal.booked-account-requires-clause-empty
booked-account-requires-clause-empty c =
    let rows = c.in_ok-words.field-0 in
    let strips = map strip_of c.args.strips.now in
    let many = first_row (length c.args.sources.now) + strip_words strips in
    let long : length rows.costs.items ≡ many = ap length c.in_ok-words.ensures.costs ∙ length-replicate many no_cost in
    c.in_ok-words.ensures.costs ∙ ap (λ n. replicate n no_cost) (sym long)

pub booked-account-requires-clause-there : goal.booked-account-requires-clause-there
booked-account-requires-clause-there c =
    let rows = c.in_ok-words.field-0 in
    let strips = map strip_of c.args.strips.now in
    let tasks = length c.args.sources.now in
    let many = first_row tasks + strip_words strips in
    let long : length rows.costs.items ≡ many = ap length c.in_ok-words.ensures.costs ∙ length-replicate many no_cost in
    λ (h : Home). subst (λ n. row_of tasks rows.words.items h < n) (sym long)
    (subst (λ words. row_of tasks words h < many) (sym c.in_ok-words.ensures.words) (rows_there tasks c.args.size strips h))

pub profile_text-requires : goal.profile_text-requires
profile_text-requires c =
    let rows = c.in_ok-words.field-0 in
    let strips = map strip_of c.args.strips.now in
    let tasks = length c.args.sources.now in
    let many = first_row tasks + strip_words strips in
    let long : length rows.costs.items ≡ many = ap length c.in_ok-words.ensures.costs ∙ length-replicate many no_cost in
    ap length (c.deref.ensures.value ∙ c.booked-account.ensures.costs) ∙ rows_long (bill_row tasks rows.words.items c.args.bill.now) 0 (length rows.costs.items) ∙ long

pub returns : goal.returns
returns c =
    let rows = c.in_ok-words.field-0 in
    let sources = c.args.sources.now in
    let strips = map strip_of c.args.strips.now in
    let tasks = length sources in
    let many = first_row tasks + strip_words strips in
    let long : length rows.costs.items ≡ many = ap length c.in_ok-words.ensures.costs ∙ length-replicate many no_cost in
    let costs = c.deref.ensures.value ∙ c.booked-account.ensures.costs
    ∙ (λ i. each_row (bill_row tasks (c.in_ok-words.ensures.words i) c.args.bill.now) 0 (long i)) in
    let calls : calls_at strips c.no_calls-calls.result.callees.items (map narrow c.no_calls-calls.result.costs.items) ≡ no_calls_at =
    λ i. calls_at strips (c.no_calls-calls.ensures.callees i) (map narrow (c.no_calls-calls.ensures.costs i)) in
    if_more {Q = λ text. text.items ≡ profile_text sources strips (total c.args.bill.now) (each_row (bill_row tasks (rows_of tasks c.args.size strips) c.args.bill.now) 0 many) no_calls_at} c.profile_text.result (λ text told. told ∙ (λ i. profile_text sources strips (c.booked-account.ensures.total i) (costs i) (calls i))) c.profile_text.ensures
