-- Every answer keeps what it promises.
use Rattle.std.specs.Prelude.{codes, if◌then◌else◌}
use Rattle.std.proofs.Common.{◌≡◌, ℕ, ◌<◌, Bool, true, false, List, ◌++◌, length, Option, None, Some, Ok, inl, inr, refl, ap, ◌∙◌, sym, subst}
use Rattle.prem_cycle.specs.State.{record_of}
use Rattle.prem_layout.specs.Rules.{Refusal}
use Rattle.prem_tasks.specs.Told.{Told}
use Rattle.prem_tasks.specs.Broken.{TaskSet, broken}
use Rattle.prem_tasks.specs.Compiled.{compiled}
use Rattle.prem_sets_sound.specs.ImagePremises.Accepted.{HasValues, setup_in}
use Rattle.prem_answer.specs.declared.answer.Telling.TheVariants.{Brief}
use Rattle.prem_answer.specs.Statuses.{plain_status}
use Rattle.prem_answer.specs.Stages.{Reply, Reads, Stage, replied}
use Rattle.prem_exec.specs.Sources.Sources.{reading_set_by}
use Rattle.prem_exec.proofs.SourcesLemmas.Reading.{done_judged, is_judged, refused_judged, IsRight, Outcome, anything, set_outcome}
use Rattle.prem_resp.specs.declared.busy.length.Busy.{Busy}
use Rattle.prem_answer.specs.declared.status.PlainStatus.TheVariants.{Done, Refused}
use Rattle.prem_resp.specs.Lines.{all_within, last_line, lines_from, TellsLength}
use Rattle.prem_resp.specs.Fits.{loads_in, found_in}
use Rattle.prem_resp.specs.Told.{names_of}
use Rattle.prem_resp.specs.Stages.{fit_reply, fit_stages, judged_reply, refused_text, set_text}
use Rattle.prem_resp.specs.Headline.{EndsAsTold, IsRead, Keeps, SaysFits}
use Rattle.prem_resp.proofs.Endings.{late_is_other}
use Rattle.prem_resp.proofs.Fits.{fitting_sets_end_in_time}
use Rattle.prem_resp.proofs.TaskLines.{task_line_tells}

-- ---- what is read

-- the set is read, and the answer is that to what was read
record SetRead (reads : Reads) (name : List ℕ) (given : Reply) : Type 0 where
  set : TaskSet
  read : IsRead reads name set
  goes : fit_reply set ≡ given

abbrev pub behind_set : TaskSet → Stage Reply
behind_set set reads = Ok (fit_reply set)

set_read : (name : List ℕ) (given : Reply) (reads : Reads) → is_judged given.0 ≡ true → replied (fit_stages name reads) ≡ given → SetRead reads name given
set_read name given reads judged is = by (set_outcome name reads) where
  by : Outcome (reading_set_by Brief name) reads (IsRight anything) → SetRead reads name given
  by (inl goes) = record {
    set = goes.value;
    read = record { left = goes.left; gives = goes.gives; values = goes.holds.0 };
    goes = ap replied (sym (goes.gives behind_set)) ∙ is;
  }
  by (inr stop) =
      let same : stop.reply ≡ given = sym (ap replied (stop.stops behind_set)) ∙ is in
      let both : false ≡ true = sym stop.unjudged ∙ ap (λ (r : Reply). is_judged r.0) same ∙ judged in
      absurd cc

-- ---- by the first broken rule

record Judged (set : TaskSet) (given : Reply) : Type 0 where
  on_done : plain_status given.0 ≡ Done → (broken set ≡ None) × (given.1 ≡ set_text set)
  on_refused : plain_status given.0 ≡ Refused → (r : Refusal Told) × ((broken set ≡ Some r) × (given.1 ≡ refused_text set.tasks r))

judged_by : (set : TaskSet) (given : Reply) (first : Option (Refusal Told)) → broken set ≡ first → judged_reply set first ≡ given → Judged set given
judged_by set given None is goes = record {
  on_done = λ done. (is, sym (ap (λ (x : Reply). x.1) goes));
  on_refused = λ refused. let no : Done ≡ Refused = ap (λ (r : Reply). plain_status r.0) goes ∙ refused in absurd cc;
}
judged_by set given (Some r) is goes = record {
  on_done = λ done. let no : Refused ≡ Done = ap (λ (x : Reply). plain_status x.0) goes ∙ done in absurd cc;
  on_refused = λ refused. (r, (is, sym (ap (λ (x : Reply). x.1) goes)));
}

-- ---- where the text says so

says_within : (lines : List ℕ) (found : List Busy) → SaysFits (lines ++ last_line found) → all_within found ≡ true
says_within lines found says = by (all_within found) refl where
  by : (b : Bool) → all_within found ≡ b → all_within found ≡ true
  by true e = e
  by false e = absurd (late_is_other lines says.lines (sym (ap (λ b. lines ++ (if b then codes "fits\n" else codes "late\n")) e) ∙ says.is))

in_time : (set : TaskSet) (text : List ℕ) → HasValues set → broken set ≡ None → text ≡ set_text set → SaysFits text → (i : ℕ) → i < length (setup_in set).tasks → EndsAsTold set text i
in_time set text values none is says i lt =
    let found : List Busy = found_in (loads_in set) in
    let lines : List ℕ = lines_from (loads_in set) 0 (names_of (compiled set).image.tasks) found in
    let all = says_within lines found (record { lines = says.lines; is = sym is ∙ says.is }) in
    let x = fitting_sets_end_in_time set values none all i lt in
    record {
      cycles = x.cycles;
      line = subst (λ t. TellsLength t (loads_in set) i (record_of (setup_in set) i).name x.cycles) (sym is) (task_line_tells set values none all i x.cycles lt x.found);
      ends = x.ends;
    }

-- ---- the answers

pub fits_keep : (name : List ℕ) (reads : Reads) (given : Reply) → replied (fit_stages name reads) ≡ given → Keeps reads name given
fits_keep name reads given is = record {
  on_done = λ done.
      let r = set_read name given reads (done_judged given.0 done) is in
      let told = (judged_by r.set given (broken r.set) refl r.goes).on_done done in
      record { set = r.set; read = r.read; unbroken = told.0; text_is = told.1; in_time = in_time r.set given.1 r.read.values told.0 told.1 };
  on_refused = λ refused.
      let r = set_read name given reads (refused_judged given.0 refused) is in
      let told = (judged_by r.set given (broken r.set) refl r.goes).on_refused refused in
      record { set = r.set; read = r.read; refusal = told.0; is_first = told.1.0; text_is = told.1.1 };
}
