use Rattle.std.specs.Option.{option_map}
use Rattle.std.proofs.Common.{◌≡◌, [], ◌++◌, map, ap, ◌∙◌, append-nil}
use Rattle.prem_syntax.specs.SyntaxOf.{function_of, parameter_of, local_of, statements_of, expression_of}
use Rattle.prem_syntax.specs.Resolve.{Scope, scope_at, scope_in, parameter_names, local_names}
use Rattle.prem_syntax.specs.Rules.{first_of}
use Rattle.prem_syntax.specs.Breaches.{around, in_regions, regions_of, in_heading, in_parameters, in_locals, in_statements, in_option, parameter_texts}
use Rattle.prem_names.specs.Scopes.{scope_of, with_locals}
use Rattle.prem_check.specs.FoundOf.{found_of}
use Rattle.prem_check.specs.Taken.{taken_of}
use Rattle.prem_check.proofs.Steps.{in_six}
use Rattle.prem_check.proofs.Taken.{parameters_taken}
use Rattle.prem_check.proofs.Around.{standing}
use Rattle.prem_check.proofs.function.in_function.Goals as goal

pub returns-clause-found : goal.returns-clause-found
returns-clause-found c =
    let old = scope_of c.args.names.now in
    let f = function_of c.args.f.now in
    let items = c.args.items.now in
    let n = c.args.number in
    let within = c.args.is_within_marked in
    let taken = items in
    let at_first = scope_at old.functions old.globals f in
    let inner = scope_in old.functions old.globals f in
    let none : Scope = record old { locals = [] } in
    let is_none : scope_of c.drop_locals.new.self ≡ none = c.drop_locals.ensures in
    let is_first : scope_of c.in_parameters.new.names ≡ at_first =
    c.in_ok-params.ensures.names ∙ ap (λ s. with_locals s (parameter_names (map parameter_of c.items.result.now))) is_none
    ∙ ap (λ ps. with_locals none (parameter_names (map parameter_of ps))) c.items.ensures in
    let is_inner : scope_of c.in_locals.new.names ≡ inner =
    c.in_ok-locals.ensures.names ∙ ap (λ s. with_locals s (local_names (map local_of c.items-2.result.now))) is_first
    ∙ ap (λ ls. with_locals at_first (local_names (map local_of ls))) c.items-2.ensures in
    let job = c.is_job.result in
    in_six (in_regions at_first (regions_of f.mark)) (in_heading (c.args.before.now) f) (in_parameters taken f.params) (in_locals (taken ++ parameter_texts f.params) at_first f.locals)
    (in_statements (around inner n within f) f.body) (in_option inner f.result)
    (found_of c.in_mark.result) (found_of c.in_heading.result) (found_of c.in_ok-params.params) (found_of c.in_ok-locals.locals) (found_of c.in_statements.result) (found_of c.in_option.result)
    (found_of c.earlier-head.result) (found_of c.earlier.result) (found_of c.earlier-declared.result) (found_of c.earlier-body.result) (found_of c.earlier-2.result)
    (c.in_mark.ensures ∙ ap (λ s. first_of (in_regions s (regions_of f.mark))) is_none) c.in_heading.ensures
    (c.in_ok-params.ensures.found ∙ ap (λ s. first_of (in_parameters (taken_of items s) (map parameter_of c.items.result.now))) is_none
    ∙ ap (λ ts. first_of (in_parameters ts (map parameter_of c.items.result.now))) (append-nil taken) ∙ ap (λ ps. first_of (in_parameters taken (map parameter_of ps))) c.items.ensures)
    (c.in_ok-locals.ensures.found ∙ ap (λ s. first_of (in_locals (taken_of items s) s (map local_of c.items-2.result.now))) is_first
    ∙ ap (λ ts. first_of (in_locals ts at_first (map local_of c.items-2.result.now))) (parameters_taken taken f.params)
    ∙ ap (λ ls. first_of (in_locals (taken ++ parameter_texts f.params) at_first (map local_of ls))) c.items-2.ensures)
    (c.in_statements.ensures ∙ ap (λ s. first_of (in_statements (standing s n job within) (statements_of c.items-3.result.now))) is_inner
    ∙ ap (λ b. first_of (in_statements (standing inner n b within) (statements_of c.items-3.result.now))) c.is_job.ensures
    ∙ ap (λ ss. first_of (in_statements (around inner n within f) (statements_of ss))) c.items-3.ensures)
    (c.in_option.ensures ∙ ap (λ s. first_of (in_option s (option_map expression_of c.args.f.now.result))) is_inner)
    c.earlier-head.ensures c.earlier.ensures c.earlier-declared.ensures c.earlier-body.ensures c.earlier-2.ensures
