-- Runs of sets that break no rule, by a run file in form.
use Rattle.std.proofs.Common.{ap, ◌∙◌}
use Rattle.prem_lru.specs.Rules.{rule_of}
use Rattle.prem_cycle.specs.Inputs.{FitsRun}
use Rattle.prem_tasks.specs.Compiled.{compiled}
use Rattle.prem_sets_sound.specs.ImagePremises.Accepted.{setup_in}
use Rattle.prem_sets_sound.specs.Meant.{promises_in}
use Rattle.prem_sets_sound.specs.Sound.{IsSoundSet}
use Rattle.prem_sets_sound.proofs.Sound.{sets_are_sound}
use Rattle.prem_set.specs.Run.Run.{run_of as lines_of_run}
use Rattle.prem_set.proofs.RunLemmas.Lawful.{run_is_lawful}
use Rattle.prem_set.proofs.RunLemmas.GivenWords.{HasWords, run_has_words}
use Rattle.prem_report.specs.Fitting.Named.{names_for}
use Rattle.prem_report.proofs.FittingLemmas.Fits.{lawful_fits}
use Rattle.prem_running.specs.RunSound.Runs.{RunFilesSuit, InputsAreLawful, SetRunsAreGood, SetReportsEnd}
use Rattle.prem_running.proofs.SetLawsLemmas.Names.{names_are_kept}
use Rattle.prem_running.proofs.RunSoundLemmas.Reports.{sound_reports_end}

pub run_files_suit : RunFilesSuit
run_files_suit p bytes g is =
    let fits : FitsRun p g.words g.requests = lawful_fits p g.words g.requests (run_is_lawful bytes (names_for p.tasks p.devices) g is) in
    let has : HasWords g = run_has_words bytes (names_for p.tasks p.devices) g is in
    record {
      inputs_are = record { count = fits.tasks; words = has.words };
      trace = fits.short.trace;
      puts = has.puts;
    }

pub inputs_are_lawful : InputsAreLawful
inputs_are_lawful set bytes g none is = run_files_suit (setup_in set) bytes g (ap (lines_of_run bytes) (names_are_kept set none) ∙ is)

pub set_runs_are_good : SetRunsAreGood
set_runs_are_good set bytes g n values none is =
    let sound : IsSoundSet set = sets_are_sound set values none in
    let suits = inputs_are_lawful set bytes g none is in
    sound.good g.words g.requests n suits.inputs_are suits.trace suits.puts

pub set_reports_end : SetReportsEnd
set_reports_end set bytes g n values none is =
    sound_reports_end (rule_of set.plant.policy) (setup_in set) (compiled set).image.content (promises_in set)
    (compiled set).limit g.words g.requests n (sets_are_sound set values none) (inputs_are_lawful set bytes g none is)
