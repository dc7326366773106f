-- The set of two tasks, computed: what its jobs take at most, and that it fits, so its jobs end in time; and that each request of its device is
-- transferred within 1198 cycles where it asks each 5000.
use Rattle.std.specs.Prelude.{All}
use Rattle.std.proofs.Common.{◌≡◌, refl, ap, ◌∙◌, ℕ, zero, suc, ◌<◌, arith, List, [], ◌∷◌, length}
use Rattle.prem_syntax.specs.ProgramRules.{first_breach}
use Rattle.prem_text.specs.Lexing.Tokens.{tokens_of, lex, step, start, first_token}
use Rattle.prem_text.specs.Lexing.Spelling.{reserved_word, used_word, is_unused, longest_mark}
use Rattle.prem_text.specs.Lexing.Literal.{literal_word}
use Rattle.prem_ranges.specs.RangesKept.{first_range_breach, turn_bounds}
use Rattle.prem_sets_sound.specs.ImagePremises.Accepted.{setup_in}
use Rattle.prem_sets_sound.proofs.ImagePremisesLemmas.Sample.{sample, sample_values, sample_breaks_nothing}
use Rattle.prem_resp.specs.declared.busy.load.Load.{Load}
use Rattle.prem_resp.specs.declared.busy.length.Busy.TheVariants.{Within}
use Rattle.prem_resp.specs.Busy.Busy.{IsLoad}
use Rattle.prem_resp.specs.Busy.Found.{busy_of}
use Rattle.prem_resp.specs.Lines.{all_within}
use Rattle.prem_resp.specs.Fits.{found_in}
use Rattle.prem_resp.proofs.BusyLemmas.First.{busy_found, found_once}
use Rattle.prem_resp.proofs.BusyLemmas.Steps.{found}
use Rattle.prem_time.specs.Times.{loads_in}
use Rattle.prem_time.specs.Fits.{EndsAsFound}
use Rattle.prem_time.proofs.Fits.{fitting_sets_end_in_time}

abbrev pub loads : List Load
loads = record { period = 20000; cost = 2370; longest = 2020 } ∷ record { period = 50000; cost = 115; longest = 115 } ∷ []

pub sample_loads : loads_in sample ≡ loads
unfolding tokens_of lex step start first_token reserved_word used_word is_unused longest_mark literal_word first_breach first_range_breach turn_bounds
sample_loads = refl

are_loads : All IsLoad loads
are_loads zero d lt = record { period = omega arith; cost = omega arith; small = omega arith; longest = omega arith }
are_loads (suc zero) d lt = record { period = omega arith; cost = omega arith; small = omega arith; longest = omega arith }
are_loads (suc (suc k)) d lt = absurd (omega (arith, lt))

first_found : busy_of loads 0 ≡ Within 2485
first_found = found_once loads 0 (busy_of loads 0) (Within 2485) (busy_found loads 0) (found loads 0 1 2485 are_loads refl refl (omega arith) (omega arith))

second_found : busy_of loads 1 ≡ Within 2485
second_found = found_once loads 1 (busy_of loads 1) (Within 2485) (busy_found loads 1) (found loads 1 2 2485 are_loads refl refl (omega arith) (omega arith))

pub sample_found : found_in (loads_in sample) ≡ Within 2485 ∷ Within 2485 ∷ []
sample_found = ap found_in sample_loads ∙ ap (λ b. b ∷ busy_of loads 1 ∷ []) first_found ∙ ap (λ b. Within 2485 ∷ b ∷ []) second_found

-- three jobs, 20000 cycles apart, and one job behind them: each ends 2485 cycles behind its release, where the rule's bounds give 2905
sample_fits : (i : ℕ) → i < length (setup_in sample).tasks → EndsAsFound sample i
sample_fits = fitting_sets_end_in_time sample sample_values sample_breaks_nothing (ap all_within sample_found)
