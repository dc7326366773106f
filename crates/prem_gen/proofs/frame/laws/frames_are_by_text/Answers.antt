use Rattle.prem_gen.proofs.FrameLemmas.Texts.{frames_are_by_text}
use Rattle.prem_gen.proofs.frame.laws.frames_are_by_text.Goals as goal

pub returns : goal.returns
returns c = frames_are_by_text
