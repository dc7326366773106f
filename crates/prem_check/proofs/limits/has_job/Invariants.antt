use Rattle.std.specs.List.{list_any}
use Rattle.std.proofs.Common.{◌≡◌, map, drop}
use Rattle.prem_syntax.specs.Syntax.{FunctionText}
use Rattle.prem_syntax.specs.SyntaxOf.{function_of}
use Rattle.prem_syntax.specs.Breaches.{is_job_name}
use Rattle.prem_check.proofs.limits.has_job.Given as goal

abbrev pub invariant-loop-f : goal.invariant-loop-f
invariant-loop-f l =
    list_any (λ (f : FunctionText). is_job_name f.name) (map (λ f. function_of f.now) l.functions)
    ≡ list_any (λ (f : FunctionText). is_job_name f.name) (map (λ f. function_of f.now) (drop l.f-index l.functions))
