-- The answers to commands keep what they promise.
use Rattle.std.specs.Prelude.{nat_lt}
use Rattle.std.proofs.Common.{◌≡◌, ℕ, Bool, true, false, cond, List, Option, None, Some, Result, Ok, Err, refl, ap, ◌∙◌, sym, subst}
use Rattle.std.proofs.lemmas.Bool.{ltb-true, ltb-false}
use Rattle.prem_line.proofs.Chain.{same_Ok}
use Rattle.prem_plant.specs.Places.{Extent, last_end}
use Rattle.prem_lru.specs.Rules.{rule_of}
use Rattle.prem_cycle.specs.Inputs.{FitsRun}
use Rattle.prem_layout.specs.Rules.{Refusal}
use Rattle.prem_tasks.specs.Told.{Told}
use Rattle.prem_tasks.specs.Broken.{TaskSet, broken}
use Rattle.prem_tasks.specs.Compiled.{CompiledText, compiled}
use Rattle.prem_tasks.specs.At.{broken_early, broken_at, compiled_at}
use Rattle.prem_sets_sound.specs.ImagePremises.Accepted.{setup_in}
use Rattle.prem_sets_sound.specs.Meant.{promises_in}
use Rattle.prem_sets_sound.proofs.Sound.{sets_are_sound}
use Rattle.prem_sets_sound.proofs.PlacesSoundLemmas.At.{sets_are_sound_at}
use Rattle.prem_compile.specs.Colors.{AreColored}
use Rattle.prem_compile.proofs.Colored.{colors_are_lawful, colors_leave_no_conflict}
use Rattle.prem_set.proofs.RunLemmas.Lawful.{run_is_lawful}
use Rattle.prem_imagefile.specs.Spelling.{image_bytes}
use Rattle.prem_command.specs.Words.{TileAsked, MailAsked}
use Rattle.prem_mail.specs.declared.feed.Feed.{Feed}
use Rattle.prem_mail.specs.Good.{IsGoodRun}
use Rattle.prem_mail.proofs.Words.{mailed_runs_are_good}
use Rattle.prem_answer.specs.declared.status.Status.{Status}
use Rattle.prem_answer.specs.declared.status.Status.TheVariants.{Done, Refused}
use Rattle.prem_answer.specs.Stages.{Reply, Reads, replied}
use Rattle.prem_answer.specs.Refusal.Texts.{refused_reply}
use Rattle.prem_exec.specs.Forms.{RunText}
use Rattle.prem_exec.specs.Sources.Sources.{reading_run, source_limit}
use Rattle.prem_build.specs.declared.sheet.Sheet.{Sheet}
use Rattle.prem_build.specs.declared.sheet.Sheet.TheVariants.{Bounds, Image, Listing}
use Rattle.prem_build.specs.Build.{compiled_reply as sheet_reply, judged_reply as sheet_judged, sheet_stages, sheet_text}
use Rattle.prem_build.specs.Colors.{stuck_reply, memory_refusal, judged_reply as color_judged, placed_reply, moved_reply, found_places, early_reply, color_reply, color_stages}
use Rattle.prem_running.specs.RunSound.Runs.{SuitsRun}
use Rattle.prem_running.specs.Tellings.{Tells, judged_reply, set_reply, told_stages}
use Rattle.prem_running.specs.Running.{run_limit, run_tells}
use Rattle.prem_running.specs.Mail.Files.{reading_mail}
use Rattle.prem_running.specs.Mail.Mail.{compiled_reply as mail_compiled, mail_stages, mail_tells}
use Rattle.prem_running.specs.Sample.Trace.{sample_run, sample_set}
use Rattle.prem_running.specs.Sample.Sample.{compiled_reply as sample_compiled, sample_tells}
use Rattle.prem_running.proofs.RunSoundLemmas.Reports.{sound_reports_end}
use Rattle.prem_running.proofs.RunSoundLemmas.SetRuns.{inputs_are_lawful}
use Rattle.prem_running.proofs.SetLawsLemmas.Names.{lawful_runs_fit}
use Rattle.prem_top.specs.One.Answer.{no_input, one_answer, one_set, one_stages, one_tells, run_text, state_of}
use Rattle.prem_top.specs.Tile.Reply.{tile_reply, tile_stages}
use Rattle.prem_top.specs.Tile.Promise.{KeepsTiles}
use Rattle.prem_top.proofs.TileLemmas.Keeping.{replies_keep}
use Rattle.prem_top.specs.Source.Answer.{source_tells}
use Rattle.prem_top.specs.Read.{IsRead, SetIsRead, RunIsRead, MailIsRead}
use Rattle.prem_top.specs.Again.{IsToldAgain}
use Rattle.prem_top.specs.Promises.{IsAccepted, IsSoundTelling, IsSoundColor, Keeps, TellsFirstBroken, IsFirstBroken, TellsWhyUncolored, early, stuck, full, at_places, IsWhyUncolored, delivered_to}
use Rattle.prem_top.specs.PromiseLaws.{BuildsKeep, ChecksKeep, ListsKeep, OnesKeep, RunsKeep, SamplesKeep, SourcesKeep, TilesKeep, ColorsKeep, MailKeeps}
use Rattle.prem_top.proofs.Again.{told_again}
use Rattle.prem_top.proofs.Readings.{goes_on, run_goes, set_goes, is_judged, run_goes_on, mail_goes}
use Rattle.prem_top.proofs.Values.{sample_has_values, sets_read_have_values}
use Rattle.prem_top.proofs.Alone.{gives, sound, text_told}

-- ---- by the first broken rule

-- where an answer is Done no rule is broken and this is told; where it is Refused the first broken rule is
record Judged (set : TaskSet) (text : List ℕ) (given : Reply) : Type 0 where
  on_done : given.0 ≡ Done → (broken set ≡ None) × (given.1 ≡ text)
  on_refused : given.0 ≡ Refused → TellsFirstBroken set given.1

judged_by : (set : TaskSet) (judge : Option (Refusal Told) → Reply) (text : List ℕ) (given : Reply) → judge None ≡ (Done, text) →
    ((r : Refusal Told) → judge (Some r) ≡ refused_reply set.tasks r) → (first : Option (Refusal Told)) → broken set ≡ first → judge first ≡ given → Judged set text given
judged_by set judge text given kept refused None is gives =
    let same : given ≡ (Done, text) = sym gives ∙ kept in
    record {
      on_done = λ done. (is, ap (λ (r : Reply). r.1) same);
      on_refused = λ other. let other_is : Done ≡ Refused = sym (ap (λ (r : Reply). r.0) same) ∙ other in absurd cc;
    }
judged_by set judge text given kept refused (Some r) is gives =
    let same : given ≡ refused_reply set.tasks r = sym gives ∙ refused r in
    record {
      on_done = λ other. let other_is : Refused ≡ Done = sym (ap (λ (r : Reply). r.0) same) ∙ other in absurd cc;
      on_refused = λ it. record { refusal = r; is_first = is; text_is = ap (λ (r : Reply). r.1) same };
    }

done_is_judged : (status : Status) → status ≡ Done → is_judged status ≡ true
done_is_judged status is = ap is_judged is

refused_is_judged : (status : Status) → status ≡ Refused → is_judged status ≡ true
refused_is_judged status is = ap is_judged is

accepted : (reads : Reads) (name : List ℕ) (set : TaskSet) → SetIsRead reads name set → broken set ≡ None → IsAccepted reads name set
accepted reads name set read none =
    let values = sets_read_have_values reads name set read in
    record { read = read; values = values; unbroken = none; sound = sets_are_sound set values none }

-- ---- `check`, `build` and `list`

sheets_keep : (sheet : Sheet) (reads : Reads) (name : List ℕ) (given : Reply) → replied (sheet_stages sheet name reads) ≡ given →
    Keeps (IsSoundTelling (sheet_text sheet) reads name) (IsFirstBroken reads name) given
sheets_keep sheet reads name given is = record {
  on_done = λ done.
      let g = set_goes reads name (λ set reads. Ok (sheet_reply sheet set)) given (done_is_judged given.0 done) is in
      let judged = judged_by g.set (sheet_judged sheet g.set) (sheet_text sheet (compiled g.set)) given refl (λ r. refl) (broken g.set) refl g.goes in
      let told = judged.on_done done in
      record { set = g.set; accepted = accepted reads name g.set g.read told.0; text_is = told.1 };
  on_refused = λ refused.
      let g = set_goes reads name (λ set reads. Ok (sheet_reply sheet set)) given (refused_is_judged given.0 refused) is in
      let judged = judged_by g.set (sheet_judged sheet g.set) (sheet_text sheet (compiled g.set)) given refl (λ r. refl) (broken g.set) refl g.goes in
      record { set = g.set; read = g.read; first = judged.on_refused refused };
}

pub checks_keep : ChecksKeep
checks_keep = sheets_keep Bounds

pub builds_keep : BuildsKeep
builds_keep = sheets_keep Image

pub lists_keep : ListsKeep
lists_keep = sheets_keep Listing

-- ---- `run` and `source`

-- a set and its run file are read, and the set is judged and told
record Ran (reads : Reads) (name run : List ℕ) (tells : Tells) (given : Reply) : Type 0 where
  set : TaskSet
  read : SetIsRead reads name set
  input : RunText
  run_read : RunIsRead reads set run input
  judged : Judged set (tells set input (compiled set)).1 given

ran : (reads : Reads) (name run : List ℕ) (tells : Tells) → ((set : TaskSet) (input : RunText) (c : CompiledText) → tells set input c ≡ (Done, (tells set input c).1)) → (given : Reply) →
    is_judged given.0 ≡ true → replied (told_stages tells name run reads) ≡ given → Ran reads name run tells given
ran reads name run tells done given answered is =
    let g = set_goes reads name (λ set. reading_run set run (λ input reads. Ok (set_reply tells set input))) given answered is in
    let r = run_goes reads g.set run (set_reply tells g.set) given answered g.goes in
    let text = (tells g.set r.input (compiled g.set)).1 in
    record {
      set = g.set;
      read = g.read;
      input = r.input;
      run_read = r.read;
      judged = judged_by g.set (judged_reply tells g.set r.input) text given (done g.set r.input (compiled g.set)) (λ r. refl) (broken g.set) refl r.goes;
    }

pub runs_keep : RunsKeep
runs_keep reads asked given is = record {
  on_done = λ done.
      let g = ran reads asked.of asked.run (run_tells asked) (λ set input c. refl) given (done_is_judged given.0 done) is in
      let told = g.judged.on_done done in
      let accepted_is = accepted reads asked.of g.set g.read told.0 in
      let r = g.run_read in
      let suits = subst (λ (i : RunText). SuitsRun (setup_in g.set) i.words i.requests) (sym r.input_is) (inputs_are_lawful g.set r.bytes r.lines told.0 r.formed) in
      record {
        set = g.set;
        accepted = accepted_is;
        input = g.input;
        run_read = r;
        suits = suits;
        ends = sound_reports_end (rule_of g.set.plant.policy) (setup_in g.set) (compiled g.set).image.content (promises_in g.set)
            (compiled g.set).limit g.input.words g.input.requests (run_limit asked.cycles (compiled g.set).limit) accepted_is.sound suits;
        text_is = told.1;
      };
  on_refused = λ refused.
      let g = ran reads asked.of asked.run (run_tells asked) (λ set input c. refl) given (refused_is_judged given.0 refused) is in
      record { set = g.set; read = g.read; input = g.input; run_read = g.run_read; first = g.judged.on_refused refused };
}

pub sources_keep : SourcesKeep
sources_keep reads name run given is = record {
  on_done = λ done.
      let g = ran reads name run source_tells (λ set input c. refl) given (done_is_judged given.0 done) is in
      let told = g.judged.on_done done in
      record { set = g.set; accepted = accepted reads name g.set g.read told.0; input = g.input; run_read = g.run_read; text_is = told.1 };
  on_refused = λ refused.
      let g = ran reads name run source_tells (λ set input c. refl) given (refused_is_judged given.0 refused) is in
      record { set = g.set; read = g.read; input = g.input; run_read = g.run_read; first = g.judged.on_refused refused };
}

-- ---- `one`

-- a source is read and judged
record One (reads : Reads) (file : List ℕ) (given : Reply) : Type 0 where
  bytes : List ℕ
  read : IsRead reads 0 source_limit file bytes
  judged : Judged (one_set bytes) (run_text (state_of (compiled (one_set bytes)))) given

one_goes : (reads : Reads) (file : List ℕ) (given : Reply) → is_judged given.0 ≡ true → replied (one_stages file reads) ≡ given → One reads file given
one_goes reads file given answered is =
    let g = goes_on reads source_limit file Ok (λ bytes reads. Ok (one_answer bytes)) given (λ bytes reply is. cc) answered is in
    let goes : one_answer g.bytes ≡ given = subst (λ bytes. one_answer bytes ≡ given) (sym (same_Ok g.bytes g.made g.made_is)) g.goes in
    record {
      bytes = g.bytes;
      read = g.read;
      judged = judged_by (one_set g.bytes) (judged_reply one_tells (one_set g.bytes) no_input) (run_text (state_of (compiled (one_set g.bytes))))
          given refl (λ r. refl) (broken (one_set g.bytes)) refl goes;
    }

pub ones_keep : OnesKeep
ones_keep reads file given is = record {
  on_done = λ done.
      let g = one_goes reads file given (done_is_judged given.0 done) is in
      let told = g.judged.on_done done in
      record {
        bytes = g.bytes;
        read = g.read;
        unbroken = told.0;
        sound = sound g.bytes told.0;
        gives = gives g.bytes told.0;
        text_is = told.1 ∙ text_told g.bytes told.0;
      };
  on_refused = λ refused.
      let g = one_goes reads file given (refused_is_judged given.0 refused) is in
      record { bytes = g.bytes; read = g.read; first = g.judged.on_refused refused };
}

-- ---- `sample`

pub samples_keep : SamplesKeep
samples_keep reads seed given is =
    let judged = judged_by (sample_set seed) (judged_reply (sample_tells seed) (sample_set seed) (sample_run seed))
    (sample_compiled seed (compiled (sample_set seed))).1 given refl (λ r. refl) (broken (sample_set seed)) refl is in
    record {
      on_done = λ done.
          let told = judged.on_done done in
          record { unbroken = told.0; sound = sets_are_sound (sample_set seed) (sample_has_values seed) told.0; text_is = told.1 };
      on_refused = judged.on_refused;
    }

-- ---- `tile`

-- a source is read and answered
record Tiled (reads : Reads) (asked : TileAsked) (given : Reply) : Type 0 where
  bytes : List ℕ
  read : IsRead reads 0 source_limit asked.file bytes
  answer_is : tile_reply asked bytes ≡ given

tile_goes : (reads : Reads) (asked : TileAsked) (given : Reply) → is_judged given.0 ≡ true → replied (tile_stages asked reads) ≡ given → Tiled reads asked given
tile_goes reads asked given answered is =
    let g = goes_on reads source_limit asked.file Ok (λ bytes reads. Ok (tile_reply asked bytes)) given (λ bytes reply is. cc) answered is in
    record { bytes = g.bytes; read = g.read; answer_is = subst (λ bytes. tile_reply asked bytes ≡ given) (sym (same_Ok g.bytes g.made g.made_is)) g.goes }

pub tiles_keep : TilesKeep
tiles_keep reads asked given range is = record {
  on_done = λ done.
      let g = tile_goes reads asked given (done_is_judged given.0 done) is in
      record { bytes = g.bytes; read = g.read; tells = (subst (λ (r : Reply). KeepsTiles asked g.bytes r) g.answer_is (replies_keep asked g.bytes range)).on_done done };
  on_refused = λ refused.
      let g = tile_goes reads asked given (refused_is_judged given.0 refused) is in
      record { bytes = g.bytes; read = g.read; tells = (subst (λ (r : Reply). KeepsTiles asked g.bytes r) g.answer_is (replies_keep asked g.bytes range)).on_refused refused };
}

-- ---- `mail`

-- a set, its run file and its mail file are read, and the set is judged
record Mailed (reads : Reads) (asked : MailAsked) (given : Reply) : Type 0 where
  set : TaskSet
  read : SetIsRead reads asked.of set
  input : RunText
  run_read : RunIsRead reads set asked.run input
  feeds : List Feed
  mail_read : MailIsRead reads set asked.mail feeds
  goes : judged_reply (mail_tells asked.cycles feeds) set input (broken set) ≡ given

mailed : (reads : Reads) (asked : MailAsked) (given : Reply) → is_judged given.0 ≡ true → replied (mail_stages asked reads) ≡ given → Mailed reads asked given
mailed reads asked given judged is =
    let s = set_goes reads asked.of
    (λ set. reading_run set asked.run
    (λ input. reading_mail set asked.mail (λ feeds reads. Ok (set_reply (mail_tells asked.cycles feeds) set input)))) given judged is in
    let r = run_goes_on reads s.set asked.run (λ input. reading_mail s.set asked.mail (λ feeds reads. Ok (set_reply (mail_tells asked.cycles feeds) s.set input))) given judged s.goes in
    let m = mail_goes reads s.set asked.mail (λ feeds. judged_reply (mail_tells asked.cycles feeds) s.set r.input (broken s.set)) given judged r.goes in
    record { set = s.set; read = s.read; input = r.input; run_read = r.read; feeds = m.feeds; mail_read = m.read; goes = m.goes }

pub mail_keeps : MailKeeps
mail_keeps reads asked given is = record {
  on_done = λ done.
      let g = mailed reads asked given (done_is_judged given.0 done) is in
      let set = g.set in
      let c = compiled set in
      let n = run_limit asked.cycles c.limit in
      let judged = judged_by set (judged_reply (mail_tells asked.cycles g.feeds) set g.input) (mail_compiled asked.cycles g.input g.feeds c).1 given refl (λ r. refl) (broken set) refl g.goes in
      let told = judged.on_done done in
      let accepted_is = accepted reads asked.of set g.read told.0 in
      let r = g.run_read in
      let text_of : RunText → Type 0 = λ i. given.1 ≡ (mail_compiled asked.cycles i g.feeds c).1 in
      let suits = subst (λ (i : RunText). SuitsRun (setup_in set) i.words i.requests) (sym r.input_is) (inputs_are_lawful set r.bytes r.lines told.0 r.formed) in
      let fits : FitsRun (setup_in set) g.input.words g.input.requests =
      subst (λ (i : RunText). FitsRun (setup_in set) i.words i.requests) (sym r.input_is) (lawful_runs_fit set r.lines.words r.lines.requests told.0 (run_is_lawful r.bytes _ r.lines r.formed)) in
      let good : IsGoodRun (rule_of set.plant.policy) (setup_in set) c.image.content (promises_in set) c.limit (delivered_to asked c g.input g.feeds).lists g.input.requests n =
      mailed_runs_are_good (rule_of set.plant.policy) (setup_in set) c.image.content (promises_in set)
      c.limit g.input.words g.input.requests g.feeds n accepted_is.sound suits.inputs_are fits suits.puts in
      record {
        set = set;
        accepted = accepted_is;
        input = g.input;
        run_read = r;
        feeds = g.feeds;
        mail_read = g.mail_read;
        good = good;
        ends = sound_reports_end (rule_of set.plant.policy) (setup_in set) c.image.content (promises_in set) c.limit (delivered_to asked c g.input g.feeds).lists g.input.requests n accepted_is.sound
            (record { inputs_are = good.inputs; trace = suits.trace; puts = suits.puts });
        text_is = told.1;
        again = subst (λ (i : RunText). text_of i → IsToldAgain asked set r.bytes r.lines (delivered_to asked c i g.feeds) given.1) (sym r.input_is)
            (told_again asked set r.bytes r.lines g.feeds given.1 accepted_is.values told.0 r.formed) told.1;
      };
  on_refused = λ refused.
      let g = mailed reads asked given (refused_is_judged given.0 refused) is in
      let judged = judged_by g.set (judged_reply (mail_tells asked.cycles g.feeds) g.set g.input)
      (mail_compiled asked.cycles g.input g.feeds (compiled g.set)).1 given refl (λ r. refl) (broken g.set) refl g.goes in
      record { set = g.set; read = g.read; input = g.input; run_read = g.run_read; feeds = g.feeds; mail_read = g.mail_read; first = judged.on_refused refused };
}

-- ---- `color`

module _ (reads : Reads) (name : List ℕ) (set : TaskSet) (read : SetIsRead reads name set) (given : Reply) where
  abbrev Kept : Type 0
  Kept = Keeps (IsSoundColor reads name) (IsWhyUncolored reads name) given

  not_colored : (text : List ℕ) → given ≡ (Refused, text) → TellsWhyUncolored set text → Kept
  not_colored text same tells = record {
    on_done = λ other. let other_is : Refused ≡ Done = sym (ap (λ (r : Reply). r.0) same) ∙ other in absurd cc;
    on_refused = λ it. record { set = set; read = read; tells = subst (TellsWhyUncolored set) (sym (ap (λ (r : Reply). r.1) same)) tells };
  }

  is_colored : (places : List Extent) → broken_early set ≡ None → AreColored set places → broken_at set places ≡ None → given ≡ (Done, image_bytes (compiled_at set places).image) → Kept
  is_colored places none are unbroken same =
      let values = sets_read_have_values reads name set read in
      let lawful = colors_are_lawful set places are in
      record {
        on_done = λ it. record {
          set = set;
          read = read;
          values = values;
          places = places;
          colored = are;
          lawful = lawful;
          no_conflict = colors_leave_no_conflict set places none are;
          unbroken = unbroken;
          sound = sets_are_sound_at set places values lawful unbroken;
          text_is = ap (λ (r : Reply). r.1) same;
        };
        on_refused = λ other. let other_is : Done ≡ Refused = sym (ap (λ (r : Reply). r.0) same) ∙ other in absurd cc;
      }

  by_places : (places : List Extent) → broken_early set ≡ None → AreColored set places → (first : Option (Refusal Told)) → broken_at set places ≡ first → color_judged set places first ≡ given → Kept
  by_places places none are None is goes = is_colored places none are is (sym goes)
  by_places places none are (Some r) is goes = not_colored (refused_reply set.tasks r).1 (sym goes) (at_places places r are.moved are.within is refl)

  by_size : (places : List Extent) → broken_early set ≡ None → found_places set ≡ Ok places → (b : Bool) → nat_lt set.plant.memory (last_end places) ≡ b →
      cond b (refused_reply set.tasks (memory_refusal (last_end places) set.plant.memory)) (placed_reply set places) ≡ given → Kept
  by_size places none found true is goes =
      not_colored (refused_reply set.tasks (memory_refusal (last_end places) set.plant.memory)).1 (sym goes) (full places none found (ltb-true set.plant.memory (last_end places) is) refl)
  by_size places none found false is goes =
      by_places places none (record {
        plant = (sets_read_have_values reads name set read).plant_is;
        moved = found;
        within =
            ltb-false set.plant.memory (last_end places) is;
      }) (broken_at set places) refl goes

  by_found : broken_early set ≡ None → (found : Result (List Extent) ℕ) → found_places set ≡ found → moved_reply set found ≡ given → Kept
  by_found none (Err n) is goes = not_colored (stuck_reply set n).1 (sym goes) (stuck n none is refl)
  by_found none (Ok places) is goes = by_size places none is (nat_lt set.plant.memory (last_end places)) refl goes

  by_early : (first : Option (Refusal Told)) → broken_early set ≡ first → early_reply set first ≡ given → Kept
  by_early (Some r) is goes = not_colored (refused_reply set.tasks r).1 (sym goes) (early r is refl)
  by_early None is goes = by_found is (found_places set) refl goes

color_keeps : (reads : Reads) (name : List ℕ) (given : Reply) → is_judged given.0 ≡ true → replied (color_stages name reads) ≡ given → Keeps (IsSoundColor reads name) (IsWhyUncolored reads name) given
color_keeps reads name given judged is =
    let g = set_goes reads name (λ set reads. Ok (color_reply set)) given judged is in
    by_early reads name g.set g.read given (broken_early g.set) refl g.goes

pub colors_keep : ColorsKeep
colors_keep reads name given is = record {
  on_done = λ done. (color_keeps reads name given (done_is_judged given.0 done) is).on_done done;
  on_refused = λ refused. (color_keeps reads name given (refused_is_judged given.0 refused) is).on_refused refused;
}
