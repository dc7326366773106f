use Rattle.std.proofs.Common.{◌≡◌, sym, ◌∙◌, ap}
use Rattle.prem_syntax.specs.declared.tree.Program.{Program}
use Rattle.prem_syntax.specs.SyntaxOf.{program_of}
use Rattle.prem_syntax.specs.Source.{source}
use Rattle.prem_tree.specs.Checked.{checked_program}
use Rattle.prem_tree.specs.SourceRun.{resolved_outcome}
use Rattle.prem_tree.proofs.RunLaws.{few_routines, source-resolved}
use Rattle.prem_tree.proofs.source.source_run.Goals as goal

pub run_resolved-requires : goal.run_resolved-requires
run_resolved-requires c = few_routines c.in_ok-resolved.resolved (program_of c.program.result.now) c.in_ok-resolved.ensures c.program.ensures.well_formed

pub returns-clause-ok : goal.returns-clause-ok
returns-clause-ok c =
    let same : source (program_of (checked_program c.args.p.now)) c.args.inputs.now c.args.jobs ≡ resolved_outcome c.in_ok-resolved.resolved c.args.inputs.now c.args.jobs =
    ap (λ (q : Program). source (program_of q) c.args.inputs.now c.args.jobs) (sym c.program.ensures.program)
    ∙ source-resolved c.in_ok-resolved.resolved (program_of c.program.result.now) c.args.inputs.now c.args.jobs c.in_ok-resolved.ensures in
    rw same c.run_resolved.ensures.ok

pub returns-clause-wrong : goal.returns-clause-wrong
returns-clause-wrong c =
    let same : source (program_of (checked_program c.args.p.now)) c.args.inputs.now c.args.jobs ≡ resolved_outcome c.in_ok-resolved.resolved c.args.inputs.now c.args.jobs =
    ap (λ (q : Program). source (program_of q) c.args.inputs.now c.args.jobs) (sym c.program.ensures.program)
    ∙ source-resolved c.in_ok-resolved.resolved (program_of c.program.result.now) c.args.inputs.now c.args.jobs c.in_ok-resolved.ensures in
    rw same c.run_resolved.ensures.wrong
