-- The set of two tasks, computed: what its jobs take at most, and what they keep closed. It goes by these.
use Rattle.std.specs.Prelude.{map}
use Rattle.std.proofs.Common.{◌≡◌, [], ◌∷◌, refl}
use Rattle.prem_plant.specs.Ranges.{default_plant}
use Rattle.prem_lru.specs.Rules.{rule_of}
use Rattle.prem_image.specs.declared.image.TaskRecord.{TaskRecord}
use Rattle.prem_cycle.specs.Inputs.{image_setup}
use Rattle.prem_sound.specs.Sound.{Sound}
use Rattle.prem_sound.specs.Limits.{jobs_limit}
use Rattle.prem_syntax.specs.ProgramRules.{first_breach}
use Rattle.prem_text.specs.Lexing.Tokens.{tokens_of, lex, step, start, first_token}
use Rattle.prem_text.specs.Lexing.Spelling.{reserved_word, used_word, is_unused, longest_mark}
use Rattle.prem_text.specs.Lexing.Literal.{literal_word}
use Rattle.prem_ranges.specs.RangesKept.{first_range_breach, turn_bounds}
use Rattle.prem_layout.specs.Placed.{Placed}
use Rattle.prem_tasks.specs.Compiled.{places_in}
use Rattle.prem_tasks.specs.At.{placed_by, compiled_at}
use Rattle.prem_sets_sound.specs.PlacesSound.At.{promises_at}
use Rattle.prem_sets_sound.proofs.ImagePremisesLemmas.Sample.{sample, sample_values, sample_breaks_nothing}
use Rattle.prem_sets_sound.proofs.ImagePremisesLemmas.Whole.{default_places_are_lawful}
use Rattle.prem_sets_sound.proofs.PlacesSoundLemmas.At.{default_is_at}
use Rattle.prem_wcet_laws.specs.Opens.{opens_of}
use Rattle.prem_latency.specs.Wcet.Tasks.{task_wcet, task_stretch, task_closed}
use Rattle.prem_latency.specs.Wcet.Sets.{wcet_at}
use Rattle.prem_latency.proofs.WcetLemmas.Sets.{sets_go_by_wcet}

-- no premise is left
sample_goes_by_wcet : Sound (rule_of sample.plant.policy) (image_setup (compiled_at sample (places_in sample)).image)
    (compiled_at sample (places_in sample)).image.content (promises_at sample (places_in sample))
    (jobs_limit (image_setup (compiled_at sample (places_in sample)).image) (wcet_at sample.plant (placed_by sample (places_in sample))))
sample_goes_by_wcet = sets_go_by_wcet sample (places_in sample) sample_values (default_places_are_lawful sample sample_values sample_breaks_nothing) (default_is_at sample sample_breaks_nothing)

pub sample_periods : map (λ (t : TaskRecord). t.period) (image_setup (compiled_at sample (places_in sample)).image).tasks ≡ 20000 ∷ 50000 ∷ []
unfolding tokens_of lex step start first_token reserved_word used_word is_unused longest_mark literal_word first_breach first_range_breach turn_bounds
sample_periods = refl

-- ---- numbers: by the rule a job of the first task takes 2610 cycles, and one of the second 295

pub sample_wcets : map (task_wcet default_plant) (placed_by sample (places_in sample)) ≡ 2370 ∷ 115 ∷ []
unfolding tokens_of lex step start first_token reserved_word used_word is_unused longest_mark literal_word first_breach first_range_breach turn_bounds
sample_wcets = refl

pub sample_stretches : map (task_stretch default_plant) (placed_by sample (places_in sample)) ≡ 2000 ∷ 95 ∷ []
unfolding tokens_of lex step start first_token reserved_word used_word is_unused longest_mark literal_word first_breach first_range_breach turn_bounds
sample_stretches = refl

-- its marked function opens the bus within 473 of the 2000 cycles that it states
pub sample_opens : map (λ (t : Placed). map (opens_of default_plant t.at) t.plans) (placed_by sample (places_in sample)) ≡ (473 ∷ []) ∷ [] ∷ []
unfolding tokens_of lex step start first_token reserved_word used_word is_unused longest_mark literal_word first_breach first_range_breach turn_bounds
sample_opens = refl

-- so a transfer of 60 cycles may start 533 cycles behind the interval's first one, where 903 is 2370 - 2000 + 533
pub sample_closed : map (task_closed default_plant 60) (placed_by sample (places_in sample)) ≡ 903 ∷ 115 ∷ []
unfolding tokens_of lex step start first_token reserved_word used_word is_unused longest_mark literal_word first_breach first_range_breach turn_bounds
sample_closed = refl
