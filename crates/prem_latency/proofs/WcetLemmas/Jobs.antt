-- Jobs along weaves are charged one behind another.
use Rattle.std.proofs.Common.{◌≡◌, ℕ, ◌+◌, ◌≤◌, ap, ◌∙◌, sym, subst, arith, ◌∷◌, ◌++◌}
use Rattle.prem_cycle.specs.Runs.Position.Finish.{due_of}
use Rattle.prem_sets_sound.specs.Weave.Weave.{dids_of}
use Rattle.prem_sound.specs.Scopes.Scopes.{single}
use Rattle.prem_sound.specs.Scopes.Strands.{Strand, ends, runs, dids_along, joined, scope_due, begun_along, charges_along, ChargedFrom, StretchesWithin}
use Rattle.prem_sound.proofs.ScopesLemmas.StrandLaws.{strands_join, jobs_are_charged}
use Rattle.prem_sound.proofs.ScopesLemmas.Parting.{jobs_end_due}
use Rattle.prem_sound.proofs.ScopesLemmas.Alone.{singles_are_due}
use Rattle.prem_wcet_laws.specs.Divided as D
use Rattle.prem_latency.specs.Wcet.Jobs.{CourseJobsAreCharged}
use Rattle.prem_latency.proofs.WcetLemmas.Aligned.{courses_are_strands}

pub course_jobs_are_charged : CourseJobsAreCharged
course_jobs_are_charged p passes s counts cost most begun v w last others h k loose e has phase job paid enough u =
    let c = courses_are_strands p passes s counts begun v w h k loose e has in
    let over = jobs_end_due p s (begun_along begun c.strand) last phase job in
    let rest : Strand = runs (single p last) u.strand in
    let alone : Strand = runs (single p last) ends in
    let due : scope_due p s (begun_along begun c.strand) (single p last) ≡ due_of p last + p.switch = over.2 in
    let all : charges_along p s begun c.strand + scope_due p s (begun_along begun c.strand) (single p last) ≤ cost =
    fits (charges_along p s begun c.strand) (scope_due p s (begun_along begun c.strand) (single p last)) (D.charge_of p v)
    (due_of p last + p.switch) c.charged due paid in
    let stretches : StretchesWithin p most 0 (joined c.strand (runs (single p last) ends)) =
    c.stretches most 0 (due_of p last) (single p last) (let one = (singles_are_due p last).1 in omega (arith, one)) enough in
    let join = strands_join p c.strand (runs (single p last) u.strand) in
    record {
      strand = joined c.strand (runs (single p last) u.strand);
      dids_are = join.0 ∙ ap (λ ds. ds ++ last ∷ dids_along u.strand) (c.dids_are ∙ sym e) ∙ ap (λ ds. dids_of w ++ last ∷ ds) u.dids_are;
      is_strand = join.1 c.is_strand (over.0.0, over.0.1, u.is_strand);
      charged = jobs_are_charged p s cost most begun c.strand u.strand (single p last) c.no_job over.1 all stretches (subst (λ n. ChargedFrom p s cost most n 0 0 u.strand) (sym c.begun_is) u.charged);
    }
  where
    fits : (a b x y : ℕ) → a ≤ x → b ≡ y → x + y ≤ cost → a + b ≤ cost
    fits a b x y le f paid = omega (arith, le, f, paid)
