use Rattle.std.proofs.Common.{◌<◌, ap, ◌∙◌, arith, length}
use Rattle.std.proofs.lemmas.List.{length-map}
use Rattle.prem_syntax.specs.SyntaxOf.{global_of}
use Rattle.prem_syntax.specs.Name.{name_bytes}
use Rattle.prem_place.proofs.VerdictLemmas.Names.{name_then}
use Rattle.prem_tasks.specs.Broken.{global_name}
use Rattle.prem_prefetch.specs.Sizes.CodedOf.{coded_in}
use Rattle.prem_compile.proofs.TellingLemmas.Naming.{global_at}
use Rattle.prem_compile.proofs.telling.names.global_name.Goals as goal

pub returns : goal.returns
returns c =
    let t = c.args.task.now in
    let globals = t.program.globals.items in
    let long = length-map globals (λ g. global_of g.now) in
    let lt : c.from.result < length globals = omega (arith, long, c.requires, c.from.ensures) in
    let named = global_at globals c.from.result c.index-global.result.now lt in
    name_then c.copy_name.result _ _ c.copy_name.ensures (ap (λ g. name_bytes g.now.name) c.index-global.ensures ∙ named ∙ ap (λ k. global_name (coded_in t).program.globals k) c.from.ensures)
