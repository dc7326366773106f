use Rattle.std.proofs.Common.{◌≡◌, List, [], map, refl, sym, ◌∙◌, ap}
use Rattle.std.proofs.lemmas.Result.{err_from_is_err_and}
use Rattle.prem_list.specs.Sequence.{items_of}
use Rattle.prem_syntax.specs.SyntaxOf.{global_of}
use Rattle.prem_syntax.specs.Source.{initial_words}
use Rattle.prem_tree.specs.declared.state.interpreter.Interpreter.{Interpreter}
use Rattle.prem_tree.specs.declared.state.fail.SourceFail.TheVariants.{Wrong}
use Rattle.prem_tree.specs.declared.resolve.resolved.Routine.{Routine}
use Rattle.prem_tree.specs.State.Interpreter.{state_of}
use Rattle.prem_tree.specs.StepMeaning.{noted_jobs}
use Rattle.prem_tree.specs.SourceRun.{resolved_outcome}
use Rattle.prem_tree.proofs.RunLaws.{starts, run_agrees, run_ends, run_goes_wrong}
use Rattle.prem_tree.proofs.source.run_resolved.Goals as goal

pub returns-in_err-run_jobs-clause-wrong : goal.returns-in_err-run_jobs-clause-wrong
returns-in_err-run_jobs-clause-wrong c = λ line is.
    let m : Interpreter = record { globals = c.in_ok-initial_globals.field-0; inputs = c.args.inputs; used = 0; outputs = c.new.result; marks = c.new-2.result } in
    let r = c.args.resolved.now in
    let globals : map (λ words. words.items) m.globals.items ≡ map initial_words (map (λ g. global_of g.now) r.globals.items) = rw (← c.deref.ensures.value) c.in_ok-initial_globals.ensures in
    let agrees = run_agrees m r c.args.inputs.now c.args.jobs (starts m r c.args.inputs.now globals refl refl c.new.ensures c.new-2.ensures) in
    let p = err_from_is_err_and c.from_residual-in_err-run_jobs.result c.from_residual-in_err-run_jobs.ensures.1 in
    let same : c.in_err-run_jobs.field-0.0 ≡ Wrong line = cc in
    run_goes_wrong (resolved_outcome r c.args.inputs.now c.args.jobs) line
    (agrees ∙ ap (λ (rs : List Routine). noted_jobs rs r.job c.args.jobs (state_of m [])) (sym c.items-routines.ensures) ∙ c.in_err-run_jobs.ensures.at_line line same)

pub returns-clause-ok : goal.returns-clause-ok
returns-clause-ok c =
    let m : Interpreter = record { globals = c.in_ok-initial_globals.field-0; inputs = c.args.inputs; used = 0; outputs = c.new.result; marks = c.new-2.result } in
    let r = c.args.resolved.now in
    let globals : map (λ words. words.items) m.globals.items ≡ map initial_words (map (λ g. global_of g.now) r.globals.items) = rw (← c.deref.ensures.value) c.in_ok-initial_globals.ensures in
    let agrees = run_agrees m r c.args.inputs.now c.args.jobs (starts m r c.args.inputs.now globals refl refl c.new.ensures c.new-2.ensures) in
    let listed : map items_of (items_of c.in_ok-globals.globals) ≡ map (λ words. words.items) c.run_jobs.new.interpreter.globals.items = rw (← c.deref-2.ensures.value) c.in_ok-globals.ensures in
    run_ends c.run_jobs.new.interpreter _ (resolved_outcome r c.args.inputs.now c.args.jobs)
    (agrees ∙ ap (λ (rs : List Routine). noted_jobs rs r.job c.args.jobs (state_of m [])) (sym c.items-routines.ensures) ∙ c.in_ok-run_jobs.ensures)
    refl refl listed refl
