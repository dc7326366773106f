use Rattle.prem_sets_sound.proofs.WeaveLemmas.MeantCallsLemmas.Shape.{jobs_keep_shape}
use Rattle.prem_sets_sound.proofs.WeaveLemmas.MeantCallsLemmas.Told.{weaves_tell, marks_are_told, marks_are_read}
use Rattle.prem_sets_sound.proofs.weave.meant_calls.marks_are_told.Goals as goal

pub returns : goal.returns
returns c = record { tells = weaves_tell; marks = marks_are_told; reads = marks_are_read; shape = jobs_keep_shape }
