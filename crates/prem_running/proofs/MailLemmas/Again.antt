-- The lists that are delivered to the tasks of a set are read back from run files.
use Rattle.std.proofs.Common.{◌≡◌, ℕ, List, length, map, Ok, ap, sym, ◌∙◌}
use Rattle.std.proofs.lemmas.List.Elements.{All-map}
use Rattle.prem_plant.specs.Label.{IsName}
use Rattle.prem_lru.specs.Rules.{rule_of}
use Rattle.prem_cycle.specs.Inputs.{FitsRun}
use Rattle.prem_tasks.specs.Broken.{TaskText, TaskSet}
use Rattle.prem_tasks.specs.Compiled.{compiled}
use Rattle.prem_sets_sound.specs.ImagePremises.Accepted.{HasValues, setup_in}
use Rattle.prem_sets_sound.specs.Meant.{promises_in}
use Rattle.prem_sets_sound.proofs.Sound.{sets_are_sound}
use Rattle.prem_set.specs.Run.Run.{with_words}
use Rattle.prem_set.specs.Run.Lawful.{IsLawful}
use Rattle.prem_set.proofs.RunLemmas.Lawful.{run_is_lawful}
use Rattle.prem_set.specs.Run.ReadBack.{AreNames}
use Rattle.prem_set.proofs.RunLemmas.SetNames.{names_are}
use Rattle.prem_set.proofs.RunLemmas.ReadingBack.{runs_are_read_back}
use Rattle.prem_set.proofs.RunLemmas.Replaced.{lists_replace_words}
use Rattle.prem_set.proofs.RunLemmas.GivenWords.{run_has_words}
use Rattle.prem_mail.specs.Laws.{IsRun}
use Rattle.prem_mail.specs.Good.{IsGoodRun}
use Rattle.prem_mail.proofs.Runs.{mailed_runs_are_runs}
use Rattle.prem_mail.proofs.Words.{mailed_runs_are_good}
use Rattle.prem_exec.specs.Sources.Sources.{names_of}
use Rattle.prem_exec.specs.Sources.There.{run_text_of}
use Rattle.prem_running.specs.Mail.Mail.{delivered_at}
use Rattle.prem_running.proofs.RunSoundLemmas.SetRuns.{inputs_are_lawful}
use Rattle.prem_running.proofs.SetLawsLemmas.Names.{lawful_runs_fit}
use Rattle.prem_running.specs.Mail.Again.{DeliveriesAreReadBack}

names_of_set : (set : TaskSet) → HasValues set → AreNames (names_of set)
names_of_set set values =
    let name : TaskText → List ℕ = λ t. t.name in
    names_are (map name set.tasks) set.devices (All-map IsName name set.tasks (λ k d within. (values.each k d within).name)) values.names values.devices_are.each values.devices_are.names

pub deliveries_are_read_back : DeliveriesAreReadBack
deliveries_are_read_back set bytes g feeds n values none is =
    let names = names_of set in
    let rule = rule_of set.plant.policy in
    let content = (compiled set).image.content in
    let lists = (delivered_at (compiled set).image (run_text_of g) feeds n).lists in
    let lawful : IsLawful names g.words g.requests = run_is_lawful bytes names g is in
    let suits = inputs_are_lawful set bytes g none is in
    let fits : FitsRun (setup_in set) g.words g.requests = lawful_runs_fit set g.words g.requests none lawful in
    let run : IsRun rule (setup_in set) content g.words g.requests feeds n = mailed_runs_are_runs rule (setup_in set) content g.words g.requests feeds n fits in
    let good : IsGoodRun rule (setup_in set) content (promises_in set) (compiled set).limit lists g.requests n =
    mailed_runs_are_good rule (setup_in set) content (promises_in set) (compiled set).limit g.words g.requests feeds n (sets_are_sound set values none) suits.inputs_are fits suits.puts in
    let are = names_of_set set values in
    let count : length lists ≡ length names.tasks = run.fits.tasks ∙ sym suits.inputs_are.count ∙ lawful.tasks in
    let again : IsLawful names lists g.requests =
    record { tasks = count; each = run.fits.each; count = lawful.count; known = lawful.known; ordered = lawful.ordered } in
    record {
      anew = runs_are_read_back names lists g.requests are again good.inputs.words suits.puts
          ∙ ap (λ (last : ℕ). Ok (with_words (record g { last = last }) lists)) (sym (run_has_words bytes names g is).last);
      before_others = λ rest others. lists_replace_words names bytes rest g lists are count run.fits.each good.inputs.words is others;
    }
