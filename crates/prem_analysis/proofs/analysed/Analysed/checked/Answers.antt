use Rattle.prem_analysis.proofs.Prelude.{analysed_text, analysis_sound}
use Rattle.prem_analysis.proofs.analysed.Analysed.checked.Goals as goal

pub returns-clause-sound : goal.returns-clause-sound
returns-clause-sound c = let a = c.args.self.now in analysis_sound (analysed_text a) a.well_formed a.words a.stays
