use Rattle.std.specs.Prelude.{nat_lt}
use Rattle.std.proofs.Common.{◌≡◌, ap, sym, ◌∙◌, map, None}
use Rattle.prem_layout.specs.Bounds.{job_bound_of}
use Rattle.prem_layout.specs.Rules.{greatest_bound}
use Rattle.prem_split.specs.PlanOf.{plan_of}
use Rattle.prem_bounds.specs.TableOf.{table_of}
use Rattle.prem_bounds.specs.Facts.Large.{is_marked_tree, first_large}
use Rattle.prem_place.specs.Placed.PlacedOf.{placed_of}
use Rattle.prem_place.specs.Verdict.Told.{large_in}
use Rattle.prem_place.proofs.VerdictLemmas.BoundTurns.{large_found, err_is, never_err, ok_bound, job_is_small, bounds_are}
use Rattle.prem_place.proofs.verdict.bounds.task_bounds.Goals as goal

pub returns-in-Some : goal.returns-in-Some
returns-in-Some c =
    let p = c.args.p.now in
    let t = c.args.t.now in
    let bound = ap (λ plans. job_bound_of p (map plan_of plans) (table_of t.table)) c.items.ensures in
    let large = c.is_err.ensures.value ∙ err_is c.job_bound-job.result _ c.job_bound-job.ensures.small c.job_bound-job.ensures.large ∙ ap (nat_lt greatest_bound) bound in
    let found : c.first_large-first.result ≡ large_in p (placed_of t) =
    c.first_large-first.ensures ∙ ap (λ rs. first_large c.from.result c.is_err.result 0 c.deref.result.now (map is_marked_tree rs)) c.items-routines.ensures
    ∙ large_found p t c.from.result c.is_err.result c.deref.result.now c.from.ensures (c.deref.ensures.value ∙ c.in_ok-found.ensures.large) large in
    sym found ∙ c.in-Some.is

pub unreachable-requires : goal.unreachable-requires
unreachable-requires c =
    let p = c.args.p.now in
    let t = c.args.t.now in
    let bound = ap (λ plans. job_bound_of p (map plan_of plans) (table_of t.table)) c.items.ensures in
    let large = c.is_err.ensures.value ∙ err_is c.job_bound-job.result _ c.job_bound-job.ensures.small c.job_bound-job.ensures.large ∙ ap (nat_lt greatest_bound) bound in
    let found : c.first_large-first.result ≡ large_in p (placed_of t) =
    c.first_large-first.ensures ∙ ap (λ rs. first_large c.from.result c.is_err.result 0 c.deref.result.now (map is_marked_tree rs)) c.items-routines.ensures
    ∙ large_found p t c.from.result c.is_err.result c.deref.result.now c.from.ensures (c.deref.ensures.value ∙ c.in_ok-found.ensures.large) large in
    let none : large_in p (placed_of t) ≡ None = sym found ∙ c.in_default.is in
    never_err c.job_bound-job.result c.in-Err.field-0 _ c.in-Err.is c.job_bound-job.ensures.large (ap (nat_lt greatest_bound) bound ∙ job_is_small p t c.requires.task none)

pub returns : goal.returns
returns c =
    let p = c.args.p.now in
    let t = c.args.t.now in
    let bound = ap (λ plans. job_bound_of p (map plan_of plans) (table_of t.table)) c.items.ensures in
    let large = c.is_err.ensures.value ∙ err_is c.job_bound-job.result _ c.job_bound-job.ensures.small c.job_bound-job.ensures.large ∙ ap (nat_lt greatest_bound) bound in
    let found : c.first_large-first.result ≡ large_in p (placed_of t) =
    c.first_large-first.ensures ∙ ap (λ rs. first_large c.from.result c.is_err.result 0 c.deref.result.now (map is_marked_tree rs)) c.items-routines.ensures
    ∙ large_found p t c.from.result c.is_err.result c.deref.result.now c.from.ensures (c.deref.ensures.value ∙ c.in_ok-found.ensures.large) large in
    let none : large_in p (placed_of t) ≡ None = sym found ∙ c.in_default.is in (
      bounds_are p t c.args.task c.in_ok-found.found.facts.items c.in-Ok.job c.requires.task c.in_ok-found.ensures.facts
          (ok_bound c.job_bound-job.result c.in-Ok.job _ c.in-Ok.is c.job_bound-job.ensures.bound ∙ bound) none,
      none,
    )
