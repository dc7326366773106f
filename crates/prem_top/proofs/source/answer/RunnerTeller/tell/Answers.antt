use Rattle.prem_top.proofs.source.answer.RunnerTeller.tell.Goals as goal

pub source_text-requires : goal.source_text-requires
source_text-requires g c = c.requires.compiled.lawful
