-- The second set without devices, and run files, are read, or an answer tells of a file.
use Rattle.std.specs.Prelude.{codes}
use Rattle.std.proofs.Common.{◌≡◌, ℕ, false, List, [], ◌∷◌, None, Result, Ok, Err, refl, ap, ◌∙◌, sym, subst}
use Rattle.prem_line.proofs.Chain.{same_Ok}
use Rattle.prem_plant.specs.declared.plant.Device.{Device}
use Rattle.prem_cycle.specs.Inputs.{FitsRun}
use Rattle.prem_tasks.specs.Broken.{TaskSet, broken}
use Rattle.prem_sets_sound.specs.ImagePremises.Accepted.{setup_in}
use Rattle.prem_set.specs.Run.Run.{Gathered, LineRefusal, run_of as lines_of_run}
use Rattle.prem_set.specs.declared.fault.SetFail.{SetFail}
use Rattle.prem_set.specs.SetFile.{SetData, set_of as set_of_text}
use Rattle.prem_set.proofs.Lawful.{set_is_lawful}
use Rattle.prem_set.proofs.RunLemmas.Lawful.{run_is_lawful}
use Rattle.prem_answer.specs.declared.answer.Telling.TheVariants.{Whole, Brief}
use Rattle.prem_answer.specs.Stages.{Reply, Reads, and_then, form_by, reading_by}
use Rattle.prem_exec.specs.Forms.{RunText, line_why, run_in_by}
use Rattle.prem_exec.specs.Sources.Sources.{names_of, reading_run_by, reading_sources, run_limit, run_of_bytes_by, set_in_by, set_limit}
use Rattle.prem_exec.proofs.SourcesLemmas.Reading.{is_judged, IsRight, IsRightFile, Outcome, chain, file_outcome, form_unjudged, set_formed, sources_outcome}
use Rattle.prem_exec.specs.Sources.There.{run_text_of}
use Rattle.prem_running.specs.RunSound.Runs.{SuitsRun}
use Rattle.prem_running.proofs.RunSoundLemmas.SetRuns.{inputs_are_lawful}
use Rattle.prem_running.proofs.SetLawsLemmas.Names.{lawful_runs_fit}
use Rattle.prem_pair_top.specs.Stages.{other_of_bytes, reading_other, without}

-- ---- the second set

abbrev pub none_there : List Device → Type 0
none_there devices = devices ≡ []

without_formed : (name : List ℕ) (s : SetData) (devices : List Device) (reply : Reply) → without name s devices ≡ Err reply → is_judged reply.0 ≡ false
without_formed name s [] reply is = absurd cc
without_formed name s (d ∷ ds) reply is =
    let same : form_by Whole name (codes "limit device") ≡ reply = cc in
    subst (λ (r : Reply). is_judged r.0 ≡ false) same refl

other_formed : (name : List ℕ) (r : Result SetData SetFail) (reply : Reply) → and_then (set_in_by Brief name r) (λ s. without name s s.devices) ≡ Err reply → is_judged reply.0 ≡ false
other_formed name (Ok s) reply is = without_formed name s s.devices reply is
other_formed name (Err fail) reply is = set_formed Brief name (Err fail) reply is

without_right : (name : List ℕ) (t : SetData) (devices : List Device) → t.devices ≡ devices → (s : SetData) → without name t devices ≡ Ok s → (t ≡ s) × (s.devices ≡ [])
without_right name t [] are s is = let same : t ≡ s = cc in (same, sym (ap (λ (x : SetData). x.devices) same) ∙ are)
without_right name t (d ∷ ds) are s is = absurd cc

other_right : (name bytes : List ℕ) (r : Result SetData SetFail) → set_of_text bytes ≡ r → (s : SetData) →
    and_then (set_in_by Brief name r) (λ s. without name s s.devices) ≡ Ok s → IsRightFile none_there s
other_right name bytes (Ok t) read s is =
    let right = without_right name t t.devices refl s is in
    (set_is_lawful bytes s (read ∙ ap Ok right.0), right.1)
other_right name bytes (Err fail) read s is = absurd cc

pub second_outcome : (name : List ℕ) (reads : Reads) → Outcome (reading_other name) reads (IsRight none_there)
second_outcome name reads =
    chain (reading_by Brief set_limit name (other_of_bytes name)) (λ s. reading_sources Brief s) reads (IsRightFile none_there) (IsRight none_there)
    (file_outcome Brief set_limit name (other_of_bytes name) (IsRightFile none_there) (λ bytes reply. other_formed name (set_of_text bytes) reply)
    (λ bytes s is. other_right name bytes (set_of_text bytes) refl s is) reads)
    (sources_outcome Brief none_there)

-- ---- run files

-- where the set breaks no rule, it suits runs of its image, and fits one
abbrev pub SuitsSet : TaskSet → RunText → Type 0
SuitsSet set input = broken set ≡ None → SuitsRun (setup_in set) input.words input.requests × FitsRun (setup_in set) input.words input.requests

run_formed : (name : List ℕ) (r : Result Gathered LineRefusal) (reply : Reply) → run_in_by Brief name r ≡ Err reply → is_judged reply.0 ≡ false
run_formed name (Ok g) reply is = absurd cc
run_formed name (Err refusal) reply is =
    let same : form_by Brief name (line_why refusal) ≡ reply = cc in
    subst (λ (r : Reply). is_judged r.0 ≡ false) same (form_unjudged Brief name (line_why refusal))

run_right : (set : TaskSet) (name bytes : List ℕ) (r : Result Gathered LineRefusal) → lines_of_run bytes (names_of set) ≡ r → (input : RunText) → run_in_by Brief name r ≡ Ok input → SuitsSet set input
run_right set name bytes (Ok g) read input is =
    λ none. subst (λ (i : RunText). SuitsRun (setup_in set) i.words i.requests × FitsRun (setup_in set) i.words i.requests) (same_Ok (run_text_of g) input is)
    (inputs_are_lawful set bytes g none read, lawful_runs_fit set g.words g.requests none (run_is_lawful bytes (names_of set) g read))
run_right set name bytes (Err refusal) read input is = absurd cc

pub run_outcome : (set : TaskSet) (name : List ℕ) (reads : Reads) → Outcome (reading_run_by Brief set name) reads (SuitsSet set)
run_outcome set name reads =
    file_outcome Brief run_limit name (run_of_bytes_by Brief set name) (SuitsSet set) (λ bytes reply. run_formed name (lines_of_run bytes (names_of set)) reply)
    (λ bytes input is. run_right set name bytes (lines_of_run bytes (names_of set)) refl input is) reads
