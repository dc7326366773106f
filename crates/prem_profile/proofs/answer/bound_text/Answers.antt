use Rattle.std.proofs.Common.{◌≡◌, map, ap, sym, subst, ◌∙◌}
use Rattle.prem_tasks.specs.SetOf.{set_of}
use Rattle.prem_tasks.specs.Compiled.{placed_in}
use Rattle.prem_wcet.proofs.Outcomes.{if_more}
use Rattle.prem_profile.specs.Strips.{strip_of}
use Rattle.prem_profile.specs.Answer.{bound_text}
use Rattle.prem_profile.specs.Bound.Small.{IsSmall}
use Rattle.prem_profile.proofs.BillLemmas.Booked.{set_small}
use Rattle.prem_profile.proofs.BillLemmas.Told.{bound_told}
use Rattle.prem_profile.proofs.answer.bound_text.Goals as goal

pub bill_text-requires : goal.bill_text-requires
bill_text-requires c =
    let set = set_of c.args.set.now in
    let billed = c.requires in
    subst IsSmall (sym (c.deref-2.ensures.value ∙ billed.bill)) (set_small set.plant (placed_in set) billed.plant billed.short billed.few)

pub returns : goal.returns
returns c =
    if_more {Q = λ text. text.items ≡ bound_text c.args.sources.now (set_of c.args.set.now)} c.bill_text.result
    (λ text told. told
    ∙ bound_told c.args.sources.now (set_of c.args.set.now) c.args.billed.now c.deref-2.result.now _ c.word_count-size.result c.requires c.deref-2.ensures.value
    (ap (map strip_of) c.deref.ensures.value ∙ c.in_ok-strips.ensures) c.word_count-size.ensures)
    c.bill_text.ensures
