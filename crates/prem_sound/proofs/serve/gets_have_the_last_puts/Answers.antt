use Rattle.prem_sound.proofs.ServeLemmas.WordRuns.{last_puts}
use Rattle.prem_sound.proofs.serve.gets_have_the_last_puts.Goals as goal

pub returns : goal.returns
returns c = last_puts
