use Rattle.std.proofs.Common.{◌≡◌, Option, None, refl, ap, ◌∙◌, ◌<◌, ◌^◌, ℕ, sym, subst}
use Rattle.prem_analysis.proofs.Prelude.{breach_of, found_of, turns_are_words, first_range_breach, turn_bounds, StaysInRange, ProgramHasWords, IsWellFormed, program_of, All, IsTrue, is_none}
use Rattle.prem_analysis.proofs.Bounded.{all_below}
use Rattle.prem_analysis.proofs.Counts.{told_named}
use Rattle.prem_analysis.specs.declared.ranging.found.Broken.{Broken}
use Rattle.prem_tree.specs.Checked.{checked_program}
use Rattle.prem_analysis.proofs.analysing.bounds_of.Goals as goal

pub told-requires : goal.told-requires
told-requires c =
    let p = program_of c.program-program.result.now in
    told_named p (found_of c.in_ok-seen.seen.found) (breach_of c.in-Some.broken)
    c.program-program.ensures.well_formed c.have_words.ensures c.in_ok-seen.ensures.found (ap (λ (o : Option Broken). found_of o) c.in-Some.is)

pub returns-in-None : goal.returns-in-None
returns-in-None c =
    let p = program_of (checked_program c.args.c.now) in
    let text : program_of c.program-program.result.now ≡ p = ap program_of c.program-program.ensures.program in
    let formed = subst IsWellFormed text c.program-program.ensures.well_formed in
    let has_words = subst ProgramHasWords text c.have_words.ensures in
    let none : first_range_breach p ≡ None = ap first_range_breach (sym text) ∙ sym c.in_ok-seen.ensures.found ∙ ap (λ (o : Option Broken). found_of o) c.in-None.is in
    let stays : StaysInRange p = subst (λ o. IsTrue (is_none o)) (sym none) refl in
    let turns : c.in_ok-seen.seen.turns.items ≡ turn_bounds p = c.in_ok-seen.ensures.turns ∙ ap turn_bounds text in
    record {
      turns_are = turns;
      words = subst (All (λ (t : ℕ). t < 2 ^ 32)) (sym turns) (all_below (turn_bounds p) (turns_are_words p formed has_words stays));
      stays = stays;
    }
