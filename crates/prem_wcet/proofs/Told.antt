-- What times tell of plans with shorter lengths.
use Rattle.std.proofs.Common.{◌≡◌, ℕ, ◌≤◌, ◌^◌, List, arith, ap, sym, ◌∙◌, subst, length, map}
use Rattle.std.proofs.lemmas.List.{length-map}
use Rattle.prem_plant.specs.declared.plant.Plant.{Plant}
use Rattle.prem_layout.specs.Plans.{Plan}
use Rattle.prem_layout.specs.Bounds.{job_bound_of}
use Rattle.prem_bounds.specs.TableOf.{table_of}
use Rattle.prem_place.specs.Placed.PlacedOf.{plans_of, placed_of}
use Rattle.prem_place.specs.declared.placed.PlacedTask.{PlacedTask}
use Rattle.prem_wcet_laws.specs.Wcet.{wcet_of}
use Rattle.prem_wcet_laws.specs.Opens.{opens_of, shortened}
use Rattle.prem_wcet.specs.Times.{closed_by}
use Rattle.prem_wcet.specs.Lengths.{with_lengths, lengths_within, stated_in, opens_in}
use Rattle.prem_wcet.proofs.Shorter.{with_stated, with_within, within_long, bound_less}

module _ (p : Plant) (t : PlacedTask) (stated opens : List ℕ) (top : ℕ) (lengths lent : List ℕ) (es : stated ≡ stated_in t)
    (eo : opens ≡ opens_in p t) (el : lengths ≡ lengths_within top opens stated) (ed : lent ≡ lengths) where
  lengths_are : lent ≡ lengths_within top (opens_in p t) (stated_in t)
  lengths_are = ed ∙ el ∙ ap (λ ns. lengths_within top ns stated) eo ∙ ap (λ ms. lengths_within top (opens_in p t) ms) es

  plans_are : with_lengths lent (plans_of t) ≡ map (shortened p t.places top) (plans_of t)
  plans_are = ap (λ ns. with_lengths ns (plans_of t)) lengths_are ∙ with_within p t.places top (plans_of t)

  pub lengths_counted : length lent ≡ length (plans_of t)
  lengths_counted =
      ap length lengths_are
      ∙ within_long top (opens_in p t) (stated_in t) (length-map (plans_of t) (opens_of p t.places) ∙ sym (length-map (plans_of t) (λ (plan : Plan). plan.stated)))
      ∙ length-map (plans_of t) (λ (plan : Plan). plan.stated)

  pub lengths_bounded : job_bound_of p (plans_of t) (table_of t.table) ≤ 2 ^ 40 → job_bound_of p (with_lengths lent (plans_of t)) (table_of t.table) ≤ 2 ^ 40
  lengths_bounded le =
      let less = bound_less p t.places top (plans_of t) (table_of t.table) in
      subst (λ (ps : List Plan). job_bound_of p ps (table_of t.table) ≤ 2 ^ 40) (sym plans_are) (omega (arith, less, le))

  pub closed_is : (n : ℕ) → n ≡ wcet_of p (with_lengths lent (plans_of t)) (placed_of t).task.program t.places → n ≡ closed_by p (placed_of t) top
  closed_is n e = e ∙ ap (λ ps. wcet_of p ps (placed_of t).task.program t.places) plans_are

-- the lengths that plans state are their own
pub stated_plans : (t : PlacedTask) (lent : List ℕ) → lent ≡ stated_in t → with_lengths lent (plans_of t) ≡ plans_of t
stated_plans t lent e = ap (λ ns. with_lengths ns (plans_of t)) e ∙ with_stated (plans_of t)
