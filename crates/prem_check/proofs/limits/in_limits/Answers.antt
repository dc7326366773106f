use Rattle.std.specs.List.{list_any}
use Rattle.std.proofs.Common.{ap, sym, ◌∙◌, map, length, nat_lt, not, None}
use Rattle.std.proofs.lemmas.List.{length-map}
use Rattle.prem_syntax.specs.declared.rules.Count.TheVariants.{Functions, Globals, Parameters, Regions, Length, Stated}
use Rattle.prem_syntax.specs.Syntax.{FunctionText, GlobalVariable}
use Rattle.prem_syntax.specs.SyntaxOf.{function_of, global_of}
use Rattle.prem_syntax.specs.Rules.{Limit, first_of}
use Rattle.prem_syntax.specs.Breaches.{if_broken, is_stated, is_length, regions_of}
use Rattle.prem_check.specs.FoundOf.{found_of}
use Rattle.prem_check.proofs.Steps.{in_six}
use Rattle.prem_check.proofs.limits.in_limits.Goals as goal

pub returns : goal.returns
returns c =
    let fs = map (λ f. function_of f.now) c.args.functions.now in
    let gs = map (λ g. global_of g.now) c.args.globals.now in
    in_six (if_broken (nat_lt 256 (length fs)) None (Limit Functions)) (if_broken (nat_lt 256 (length gs)) None (Limit Globals))
    (if_broken (list_any (λ (f : FunctionText). nat_lt 8 (length f.params)) fs) None (Limit Parameters))
    (if_broken (list_any (λ (f : FunctionText). nat_lt 32 (length (regions_of f.mark))) fs) None (Limit Regions))
    (if_broken (list_any (λ (g : GlobalVariable). not (is_length g.len)) gs) None (Limit Length)) (if_broken (list_any (λ (f : FunctionText). not (is_stated f.mark)) fs) None (Limit Stated))
    (found_of c.limit.result) (found_of c.limit-2.result) (found_of c.limit-parameters.result) (found_of c.limit-regions.result) (found_of c.limit-length.result) (found_of c.limit-stated.result)
    (found_of c.earlier-items.result) (found_of c.earlier.result) (found_of c.earlier-2.result) (found_of c.earlier-3.result) (found_of c.earlier-4.result)
    (c.limit.ensures ∙ ap (λ n. first_of (if_broken (nat_lt 256 n) None (Limit Functions))) (sym (length-map c.args.functions.now (λ f. function_of f.now))))
    (c.limit-2.ensures ∙ ap (λ n. first_of (if_broken (nat_lt 256 n) None (Limit Globals))) (sym (length-map c.args.globals.now (λ g. global_of g.now))))
    (c.limit-parameters.ensures ∙ ap (λ b. first_of (if_broken b None (Limit Parameters))) c.has_many_parameters.ensures)
    (c.limit-regions.ensures ∙ ap (λ b. first_of (if_broken b None (Limit Regions))) c.has_many_regions.ensures)
    (c.limit-length.ensures ∙ ap (λ b. first_of (if_broken b None (Limit Length))) c.has_other_length.ensures)
    (c.limit-stated.ensures ∙ ap (λ b. first_of (if_broken b None (Limit Stated))) c.has_other_stated.ensures)
    c.earlier-items.ensures c.earlier.ensures c.earlier-2.ensures c.earlier-3.ensures c.earlier-4.ensures
