-- The stages joined.
use Rattle.std.proofs.Common.{ℕ, List, [], ◌∷◌, Option, None, Some, Result, Ok, Err, refl}
use Rattle.prem_plant.specs.declared.plant.Device.{Device}
use Rattle.prem_layout.specs.Rules.{Refusal}
use Rattle.prem_tasks.specs.Told.{Told}
use Rattle.prem_tasks.specs.Broken.{TaskSet, broken}
use Rattle.prem_set.specs.SetFile.{SetData, set_of as set_of_text}
use Rattle.prem_answer.specs.declared.answer.Telling.TheVariants.{Brief}
use Rattle.prem_answer.specs.Stages.{Reply, Reads, Stage, IsFine, and_then}
use Rattle.prem_answer.specs.Tool.{IsSettled}
use Rattle.prem_answer.proofs.Reading.{reading_fine_by}
use Rattle.prem_exec.specs.Forms.{RunText}
use Rattle.prem_exec.specs.Sources.Sources.{reading_run_by, reading_sources, set_limit, set_of_bytes_by}
use Rattle.prem_exec.proofs.SourcesLemmas.Fine.{run_fine_by, set_fine_by, sets_fine, sources_fine}
use Rattle.prem_pair_top.specs.Words.{PairAsked}
use Rattle.prem_pair_top.specs.Stages.{judged_reply, other_of_bytes, pair_stages, reading_other, sets_reply, without}

-- ---- joined

abbrev pub behind_other : PairAsked → TaskSet → TaskSet → RunText → RunText → Stage Reply
behind_other asked one two input other reads = Ok (sets_reply asked one two input other)

abbrev pub behind_input : PairAsked → TaskSet → TaskSet → RunText → Stage Reply
behind_input asked one two input = reading_run_by Brief two asked.other_run (behind_other asked one two input)

abbrev pub behind_two : PairAsked → TaskSet → TaskSet → Stage Reply
behind_two asked one two = reading_run_by Brief one asked.run (behind_input asked one two)

abbrev pub behind_one : PairAsked → TaskSet → Stage Reply
behind_one asked one = reading_other asked.other_set (behind_two asked one)

-- ---- every answer may be given

judged_fine : (asked : PairAsked) (one two : TaskSet) (input other : RunText) (a b : Option (Refusal Told)) → IsSettled (judged_reply asked one two input other a b)
judged_fine asked one two input other (Some r) b = refl
judged_fine asked one two input other None (Some r) = refl
judged_fine asked one two input other None None = refl

without_fine : (name : List ℕ) (s : SetData) (devices : List Device) → IsFine (λ x. Unit {0}) (without name s devices)
without_fine name s [] = tt
without_fine name s (d ∷ ds) = refl

other_file_fine : (name : List ℕ) (r : Result SetData Reply) → IsFine (λ x. Unit {0}) r → IsFine (λ x. Unit {0}) (and_then r (λ s. without name s s.devices))
other_file_fine name (Ok s) h = without_fine name s s.devices
other_file_fine name (Err reply) h = h

other_fine : (name : List ℕ) (next : TaskSet → Stage Reply) → ((set : TaskSet) (reads : Reads) → IsFine IsSettled (next set reads)) → (reads : Reads) → IsFine IsSettled (reading_other name next reads)
other_fine name next each reads =
    reading_fine_by IsSettled Brief set_limit name (other_of_bytes name) (λ s. reading_sources Brief s next)
    (λ bytes. other_file_fine name (set_of_bytes_by Brief name bytes) (sets_fine Brief name (set_of_text bytes)))
    (λ s rest. sources_fine IsSettled Brief s next each rest) reads

pub pair_is_fine : (asked : PairAsked) (reads : Reads) → IsFine IsSettled (pair_stages asked reads)
pair_is_fine asked reads =
    set_fine_by IsSettled Brief asked.set (behind_one asked)
    (λ one rest. other_fine asked.other_set (behind_two asked one)
    (λ two more. run_fine_by IsSettled Brief one asked.run (behind_input asked one two)
    (λ input further. run_fine_by IsSettled Brief two asked.other_run (behind_other asked one two input)
    (λ other last. judged_fine asked one two input other (broken one) (broken two)) further) more) rest) reads
