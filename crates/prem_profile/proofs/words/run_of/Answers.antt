use Rattle.std.specs.Prelude.{string_bytes}
use Rattle.prem_profile.proofs.Few.{too_few}
use Rattle.prem_profile.proofs.words.run_of.Goals as goal

pub returns-in-empty : goal.returns-in-empty
returns-in-empty c = too_few string_bytes c.args.words.now c.in-empty.len_below
