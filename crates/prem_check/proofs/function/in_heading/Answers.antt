use Rattle.std.proofs.Common.{ap, ◌∙◌, not, ◌&&◌, ◌||◌, ◌==◌, length, is_some, is_none}
use Rattle.prem_syntax.specs.declared.rules.TypeRule.TheVariants.{Narrow, Return, Marked, Job}
use Rattle.prem_syntax.specs.SyntaxOf.{function_of}
use Rattle.prem_syntax.specs.Rules.{Twice, OfTypes, first_of}
use Rattle.prem_syntax.specs.Breaches.{if_at, has_name, is_narrow, is_void, is_marked_text, is_job_name}
use Rattle.prem_check.specs.FoundOf.{found_of}
use Rattle.prem_check.proofs.Steps.{in_five}
use Rattle.prem_check.proofs.function.in_heading.Goals as goal

pub returns : goal.returns
returns c =
    let f = function_of c.args.f.now in
    let at = f.at in
    in_five (if_at (has_name (c.args.before.now) f.name) at (Twice f.name)) (if_at (is_narrow f.ty) at (OfTypes Narrow))
    (if_at ((is_void f.ty && is_some f.result) || (not (is_void f.ty) && is_none f.result)) at (OfTypes Return))
    (if_at (is_marked_text f && (not (is_void f.ty) || is_job_name f.name)) at (OfTypes Marked)) (if_at (is_job_name f.name && not (is_void f.ty && length f.params == 0)) at (OfTypes Job))
    (found_of c.if_at-twice.result) (found_of c.if_type_at-narrow.result) (found_of c.if_type_at-result.result) (found_of c.if_type_at-marked.result) (found_of c.if_type_at-job.result)
    (found_of c.earlier.result) (found_of c.earlier-2.result) (found_of c.earlier-3.result) (found_of c.earlier-4.result)
    (c.if_at-twice.ensures ∙ ap (λ b. first_of (if_at b at (Twice f.name))) c.has_name.ensures)
    (c.if_type_at-narrow.ensures ∙ ap (λ b. first_of (if_at b at (OfTypes Narrow))) c.is_narrow.ensures)
    (c.if_type_at-result.ensures ∙ ap (λ b. first_of (if_at b at (OfTypes Return))) c.has_wrong_result.ensures)
    (c.if_type_at-marked.ensures ∙ ap (λ b. first_of (if_at b at (OfTypes Marked))) c.is_wrongly_marked.ensures)
    (c.if_type_at-job.ensures ∙ ap (λ b. first_of (if_at b at (OfTypes Job))) c.is_wrong_job.ensures)
    c.earlier.ensures c.earlier-2.ensures c.earlier-3.ensures c.earlier-4.ensures
