use Rattle.prem_text.proofs.Whole.{text_read, text_sound, text_refused, no_program_refused}
use Rattle.prem_text.proofs.laws.texts_are_exact.Goals as goal

pub returns : goal.returns
returns c = record { read = text_read; sound = text_sound; refused = text_refused; refuses = no_program_refused }
