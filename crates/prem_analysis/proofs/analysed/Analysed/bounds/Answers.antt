use Rattle.std.proofs.Common.{◌<◌, ◌^◌, ℕ, sym, ◌∙◌, subst}
use Rattle.prem_analysis.proofs.Prelude.{analysed_text, turns_are_words, turn_bounds, All}
use Rattle.prem_analysis.proofs.Bounded.{all_below}
use Rattle.prem_analysis.proofs.analysed.Analysed.bounds.Goals as goal

pub returns-clause-words : goal.returns-clause-words
returns-clause-words c =
    let a = c.args.self.now in
    let p = analysed_text a in
    subst (All (λ (t : ℕ). t < 2 ^ 32)) (sym (c.as_slice.ensures.value ∙ a.bounds)) (all_below (turn_bounds p) (turns_are_words p a.well_formed a.words a.stays))
