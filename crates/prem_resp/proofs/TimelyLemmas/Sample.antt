-- The set of two tasks, computed: its loads, the busy periods of both levels, and by when each job has ended.
use Rattle.std.proofs.Common.{◌≡◌, [], ◌∷◌, refl}
use Rattle.prem_lru.specs.Rules.{rule_of}
use Rattle.prem_syntax.specs.ProgramRules.{first_breach}
use Rattle.prem_text.specs.Lexing.Tokens.{tokens_of, lex, step, start, first_token}
use Rattle.prem_text.specs.Lexing.Spelling.{reserved_word, used_word, is_unused, longest_mark}
use Rattle.prem_text.specs.Lexing.Literal.{literal_word}
use Rattle.prem_ranges.specs.RangesKept.{first_range_breach, turn_bounds}
use Rattle.prem_layout.specs.Stretch.Paths.{turning}
use Rattle.prem_tasks.specs.Compiled.{placed_in, compiled}
use Rattle.prem_sets_sound.specs.ImagePremises.Accepted.{setup_in}
use Rattle.prem_sets_sound.proofs.ImagePremisesLemmas.Sample.{sample, sample_values, sample_breaks_nothing}
use Rattle.prem_resp.specs.Deadline.Images.{MeetsDeadlines}
use Rattle.prem_resp.specs.Timely.Timely.{loads_of}
use Rattle.prem_resp.proofs.TimelyLemmas.Sets.{sets_meet_deadlines}

sample_meets : MeetsDeadlines (rule_of sample.plant.policy) (setup_in sample) (compiled sample).image.content (loads_of sample.plant (placed_in sample))
sample_meets = sets_meet_deadlines sample sample_values sample_breaks_nothing

pub sample_loads : loads_of sample.plant (placed_in sample) ≡ record { period = 20000; cost = 2610; longest = 2020 } ∷ record { period = 50000; cost = 295; longest = 295 } ∷ []
unfolding tokens_of lex step start first_token reserved_word used_word is_unused longest_mark literal_word first_breach first_range_breach turn_bounds turning
sample_loads = refl
