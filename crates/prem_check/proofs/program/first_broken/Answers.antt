use Rattle.std.proofs.Common.{◌≡◌, map, ap, sym, ◌∙◌}
use Rattle.prem_syntax.specs.SyntaxOf.{item_of, global_of, function_of, program_of}
use Rattle.prem_syntax.specs.Resolve.{globals_of, functions_of}
use Rattle.prem_syntax.specs.Rules.{first_of}
use Rattle.prem_syntax.specs.Breaches.{in_limits}
use Rattle.prem_check.specs.FoundOf.{found_of}
use Rattle.prem_check.proofs.LimitsFirst.{without_job, among_items, past_limit, within_limits}
use Rattle.prem_check.proofs.program.first_broken.Goals as goal

pub returns-then-is_some : goal.returns-then-is_some
returns-then-is_some c =
    let p = program_of c.args.p.now in
    let gs : map (λ g. global_of g.now) c.deref.result.now ≡ globals_of p =
    ap (map (λ g. global_of g.now)) c.deref.ensures.value ∙ c.in_ok-globals.ensures ∙ ap (λ xs. globals_of (map item_of xs)) c.items-items.ensures in
    let fs : map (λ f. function_of f.now) c.deref-2.result.now ≡ functions_of p =
    ap (map (λ f. function_of f.now)) c.deref-2.ensures.value ∙ c.in_ok-functions.ensures ∙ ap (λ xs. functions_of (map item_of xs)) c.items-items.ensures in
    past_limit p c.in_limits-limit.result
    (c.in_limits-limit.ensures ∙ ap (λ x. first_of (in_limits x (map (λ f. function_of f.now) c.deref-2.result.now))) gs ∙ ap (λ x. first_of (in_limits (globals_of p) x)) fs)
    (sym c.is_some.ensures ∙ c.if-is_some.true)

pub returns : goal.returns
returns c =
    let p = program_of c.args.p.now in
    let gs : map (λ g. global_of g.now) c.deref.result.now ≡ globals_of p =
    ap (map (λ g. global_of g.now)) c.deref.ensures.value ∙ c.in_ok-globals.ensures ∙ ap (λ xs. globals_of (map item_of xs)) c.items-items.ensures in
    let fs : map (λ f. function_of f.now) c.deref-2.result.now ≡ functions_of p =
    ap (map (λ f. function_of f.now)) c.deref-2.ensures.value ∙ c.in_ok-functions.ensures ∙ ap (λ xs. functions_of (map item_of xs)) c.items-items.ensures in
    let all : map (λ f. function_of f.now) c.in_ok-functions.functions.items ≡ functions_of p = c.in_ok-functions.ensures ∙ ap (λ xs. functions_of (map item_of xs)) c.items-items.ensures in
    within_limits p c.in_limits-limit.result (found_of c.no_job-job.result) (found_of c.in_ok-in_items.field-0) (found_of c.earlier.result)
    (c.in_limits-limit.ensures ∙ ap (λ x. first_of (in_limits x (map (λ f. function_of f.now) c.deref-2.result.now))) gs ∙ ap (λ x. first_of (in_limits (globals_of p) x)) fs)
    (sym c.is_some.ensures ∙ c.if-is_some.false)
    (c.no_job-job.ensures ∙ ap (λ x. first_of (without_job x)) (ap (map (λ f. function_of f.now)) c.deref-3.ensures.value ∙ all))
    (c.in_ok-in_items.ensures ∙ ap (λ x. first_of (among_items x (map item_of c.items-items.result.now))) all
    ∙ ap (λ xs. first_of (among_items (functions_of p) (map item_of xs))) c.items-items.ensures)
    c.earlier.ensures
