-- Every answer keeps what it promises.
use Rattle.std.proofs.Common.{◌≡◌, ℕ, true, false, List, [], ◌∷◌, Option, None, Some, Err, inl, inr, refl, ap, ◌∙◌, sym}
use Rattle.prem_layout.specs.Rules.{Refusal}
use Rattle.prem_tasks.specs.Told.{Told}
use Rattle.prem_tasks.specs.Broken.{TaskText, TaskSet}
use Rattle.prem_set.specs.SetFile.{SetData, set_of as set_of_text}
use Rattle.prem_set.specs.declared.task.TaskEntry.{TaskEntry}
use Rattle.prem_answer.specs.declared.answer.Telling.TheVariants.{Whole}
use Rattle.prem_answer.specs.declared.status.Status.TheVariants.{Done, Refused, Missing}
use Rattle.prem_answer.specs.Stages.{Reply, Reads, Stage, reading_by, replied}
use Rattle.prem_answer.specs.Refusal.Texts.{refused_reply}
use Rattle.prem_exec.specs.Sources.Sources.{set_limit, source_limit, set_of_bytes_by, task_of_source, reading_tasks_by, set_with, reading_sources, reading_set_by}
use Rattle.prem_exec.proofs.SourcesLemmas.Reading.{is_judged, Outcome, chain, file_outcome, set_formed}
use Rattle.prem_annotate.specs.Writing.Text.{annotated_text}
use Rattle.prem_annotate_answer.specs.Written.{text_named, written, unannotated}
use Rattle.prem_annotate_answer.specs.Promised.{IsRead, Keeps}
use Rattle.prem_annotate_answer.specs.Answers.{Asked, annotate_reply, annotate_stages, behind_set, found_reply, judged_reply, text_reply}
use Rattle.prem_annotate_answer.proofs.Annotated.{none_is_annotated}
use Rattle.prem_annotate_answer.proofs.Kept.{sets_are_annotated}

-- ---- what is read

abbrev Any : {A : Type 0} → A → Type 0
Any x = Unit {0}

task_formed : (e : TaskEntry) (bytes : List ℕ) (reply : Reply) → task_of_source e bytes ≡ Err reply → is_judged reply.0 ≡ false
task_formed e bytes reply is = absurd cc

put_first : (es : List TaskEntry) (t : TaskText) (left : Reads) → Outcome (reading_tasks_by Whole es) left Any →
    Outcome (λ (next : List TaskText → Stage Reply). reading_tasks_by Whole es (λ ts. next (t ∷ ts))) left Any
put_first es t left (inr stop) = inr (record { reply = stop.reply; unjudged = stop.unjudged; stops = λ next. stop.stops (λ ts. next (t ∷ ts)) })
put_first es t left (inl goes) = inl (record { value = t ∷ goes.value; left = goes.left; gives = λ next. goes.gives (λ ts. next (t ∷ ts)); holds = tt })

tasks_outcome : (es : List TaskEntry) (reads : Reads) → Outcome (reading_tasks_by Whole es) reads Any
tasks_outcome [] reads = inl (record { value = []; left = reads; gives = λ next. refl; holds = tt })
tasks_outcome (e ∷ es) reads =
    chain (reading_by Whole source_limit e.source (task_of_source e)) (λ (t : TaskText) (next : List TaskText → Stage Reply). reading_tasks_by Whole es (λ ts. next (t ∷ ts))) reads Any Any
    (file_outcome Whole source_limit e.source (task_of_source e) Any (task_formed e) (λ bytes t is. tt) reads)
    (λ t left is. put_first es t left (tasks_outcome es left))

sources_outcome : (s : SetData) (left : Reads) → Outcome (reading_sources Whole s) left Any
sources_outcome s left = by (tasks_outcome s.tasks left) where
  by : Outcome (reading_tasks_by Whole s.tasks) left Any → Outcome (reading_sources Whole s) left Any
  by (inr stop) = inr (record { reply = stop.reply; unjudged = stop.unjudged; stops = λ next. stop.stops (λ ts. next (set_with s ts)) })
  by (inl goes) = inl (record { value = set_with s goes.value; left = goes.left; gives = λ next. goes.gives (λ ts. next (set_with s ts)); holds = tt })

set_outcome : (name : List ℕ) (reads : Reads) → Outcome (reading_set_by Whole name) reads Any
set_outcome name reads =
    chain (reading_by Whole set_limit name (set_of_bytes_by Whole name)) (λ s. reading_sources Whole s) reads Any Any
    (file_outcome Whole set_limit name (set_of_bytes_by Whole name) Any (λ bytes reply. set_formed Whole name (set_of_text bytes) reply) (λ bytes s is. tt) reads)
    (λ s left is. sources_outcome s left)

-- the set is read, and the answer is that to what was read
record SetRead (reads : Reads) (a : Asked) (given : Reply) : Type 0 where
  set : TaskSet
  read : IsRead reads a.set set
  goes : annotate_reply a.task set ≡ given

set_read : (a : Asked) (given : Reply) (reads : Reads) → is_judged given.0 ≡ true → replied (annotate_stages a reads) ≡ given → SetRead reads a given
set_read a given reads judged is = by (set_outcome a.set reads) where
  by : Outcome (reading_set_by Whole a.set) reads Any → SetRead reads a given
  by (inl goes) = record {
    set = goes.value;
    read = record { left = goes.left; gives = goes.gives };
    goes = ap replied (sym (goes.gives (behind_set a.task))) ∙ is;
  }
  by (inr stop) =
      let same : stop.reply ≡ given = sym (ap replied (stop.stops (behind_set a.task))) ∙ is in
      let both : false ≡ true = sym stop.unjudged ∙ ap (λ (r : Reply). is_judged r.0) same ∙ judged in
      absurd cc

-- ---- by the first rule

record Judged (task : List ℕ) (set : TaskSet) (given : Reply) : Type 0 where
  on_done : given.0 ≡ Done → (unannotated annotated_text set ≡ None) × (text_named task (written annotated_text set).tasks ≡ Some given.1)
  on_refused : given.0 ≡ Refused → (r : Refusal Told) × ((unannotated annotated_text set ≡ Some r) × (given.1 ≡ (refused_reply set.tasks r).1))

text_by : (task : List ℕ) (given : Reply) (o : Option (List ℕ)) → text_reply task o ≡ given → given.0 ≡ Done → o ≡ Some given.1
text_by task given None goes done = let no : Missing ≡ Done = ap (λ (r : Reply). r.0) goes ∙ done in absurd cc
text_by task given (Some text) goes done = ap (λ (r : Reply). Some r.1) goes

text_unrefused : (task : List ℕ) (given : Reply) (o : Option (List ℕ)) → text_reply task o ≡ given → given.0 ≡ Refused → ⊥
text_unrefused task given None goes refused = let no : Missing ≡ Refused = ap (λ (r : Reply). r.0) goes ∙ refused in absurd cc
text_unrefused task given (Some text) goes refused = let no : Done ≡ Refused = ap (λ (r : Reply). r.0) goes ∙ refused in absurd cc

judged_by : (task : List ℕ) (set : TaskSet) (given : Reply) (first : Option (Refusal Told)) → unannotated annotated_text set ≡ first → judged_reply task set first ≡ given → Judged task set given
judged_by task set given None is goes = record {
  on_done = λ done. (is, text_by task given (text_named task (written annotated_text set).tasks) goes done);
  on_refused = λ refused. absurd (text_unrefused task given (text_named task (written annotated_text set).tasks) goes refused);
}
judged_by task set given (Some r) is goes = record {
  on_done = λ done. let no : Refused ≡ Done = ap (λ (x : Reply). x.0) goes ∙ done in absurd cc;
  on_refused = λ refused. (r, (is, sym (ap (λ (x : Reply). x.1) goes)));
}

found_by : (task : List ℕ) (set : TaskSet) (given : Reply) (found : Option (List ℕ)) → found_reply task set found ≡ given → Judged task set given
found_by task set given None goes = record {
  on_done = λ done. let no : Missing ≡ Done = ap (λ (x : Reply). x.0) goes ∙ done in absurd cc;
  on_refused = λ refused. let no : Missing ≡ Refused = ap (λ (x : Reply). x.0) goes ∙ refused in absurd cc;
}
found_by task set given (Some text) goes = judged_by task set given (unannotated annotated_text set) refl goes

-- ---- the answer

is_done : (s : _) → s ≡ Done → is_judged s ≡ true
is_done s is = ap is_judged is

is_refused : (s : _) → s ≡ Refused → is_judged s ≡ true
is_refused s is = ap is_judged is

pub annotations_keep : (a : Asked) (reads : Reads) (given : Reply) → replied (annotate_stages a reads) ≡ given → Keeps reads a.set a.task given
annotations_keep a reads given is = record {
  on_done = λ done.
      let r = set_read a given reads (is_done given.0 done) is in
      let told = (found_by a.task r.set given (text_named a.task r.set.tasks) r.goes).on_done done in
      record {
        set = r.set;
        read = r.read;
        new_set = written annotated_text r.set;
        annotated_set =
            sets_are_annotated r.set (written annotated_text r.set) (none_is_annotated annotated_text r.set told.0);
        text_is = told.1;
      };
  on_refused = λ refused.
      let r = set_read a given reads (is_refused given.0 refused) is in
      let told = (found_by a.task r.set given (text_named a.task r.set.tasks) r.goes).on_refused refused in
      record { set = r.set; read = r.read; refusal = told.0; is_first = told.1.0; text_is = told.1.1 };
}
