-- Readings give something, whatever comes next, or stop with an answer that tells of a file.
use Rattle.std.specs.Prelude.{All, if◌then◌else◌, codes}
use Rattle.std.proofs.Common.{◌≡◌, ◌⊎◌, ℕ, suc, Bool, true, false, List, [], ◌∷◌, length, map, nat_le, Option, None, Some, Result, Ok, Err, inl, inr, refl, ap, ◌∙◌, sym, subst}
use Rattle.std.proofs.lemmas.List.Elements.{All-nil, All-cons, All-head, All-tail}
use Rattle.prem_line.proofs.Chain.{same_Ok}
use Rattle.prem_plant.specs.Label.{IsName, AreDistinct}
use Rattle.prem_plant.specs.Ranges.{Between}
use Rattle.prem_plant.specs.declared.plant.Device.{Device}
use Rattle.prem_tasks.specs.Broken.{TaskText, TaskSet}
use Rattle.prem_sets_sound.specs.ImagePremises.Accepted.{HasTextValues, HasValues}
use Rattle.prem_set.specs.Lawful.{IsEntry, IsSet}
use Rattle.prem_set.specs.declared.fault.SetFail.{SetFail}
use Rattle.prem_set.specs.declared.task.TaskEntry.{TaskEntry}
use Rattle.prem_set.specs.SetFile.{SetData, set_of as set_of_text, task_names as entry_names}
use Rattle.prem_set.proofs.Lawful.{set_is_lawful}
use Rattle.prem_answer.specs.declared.answer.Telling.{Telling}
use Rattle.prem_answer.specs.declared.answer.Telling.TheVariants.{Whole, Brief}
use Rattle.prem_answer.specs.declared.status.Status.{Status}
use Rattle.prem_answer.specs.declared.status.Status.TheVariants.{Done, Refused, Usage, Form, ReadFault, WriteFault, OutOfMemory, Missing, Trap}
use Rattle.prem_answer.specs.declared.status.PlainStatus.TheVariants as plain
use Rattle.prem_answer.specs.Statuses.{plain_status}
use Rattle.prem_answer.specs.Stages.{Reply, Reads, Stage, and_then, form_by, later_reads, missing_reply, reading_by, within_by}
use Rattle.prem_exec.specs.Sources.Sources.{Gives, reading_set_by, reading_sources, reading_tasks_by, set_in_by, set_limit, set_of_bytes_by, set_why, set_with, source_limit, task_of_source, task_with}

-- ---- what readings come to

-- whether an answer comes from behind the readings
abbrev pub is_judged : Status → Bool
is_judged Done = true
is_judged Refused = true
is_judged Trap = true
is_judged _ = false

-- an answer with which a program that tells of no trap ends as done or as refused does
pub done_judged : (s : Status) → plain_status s ≡ plain.Done → is_judged s ≡ true
done_judged Done e = refl
done_judged Refused e = refl
done_judged Usage e = absurd cc
done_judged Form e = absurd cc
done_judged ReadFault e = absurd cc
done_judged WriteFault e = absurd cc
done_judged OutOfMemory e = absurd cc
done_judged Missing e = absurd cc
done_judged Trap e = refl

pub refused_judged : (s : Status) → plain_status s ≡ plain.Refused → is_judged s ≡ true
refused_judged Done e = refl
refused_judged Refused e = refl
refused_judged Usage e = absurd cc
refused_judged Form e = absurd cc
refused_judged ReadFault e = absurd cc
refused_judged WriteFault e = absurd cc
refused_judged OutOfMemory e = absurd cc
refused_judged Missing e = absurd cc
refused_judged Trap e = refl

pub record Goes {A : Type 0} (readings : (A → Stage Reply) → Stage Reply) (reads : Reads) (right : A → Type 0) : Type 0 where
  pub value : A
  pub left : Reads
  pub gives : Gives readings reads value left
  pub holds : right value

pub record Stops {A : Type 0} (readings : (A → Stage Reply) → Stage Reply) (reads : Reads) : Type 0 where
  pub reply : Reply
  pub unjudged : is_judged reply.0 ≡ false
  pub stops : (next : A → Stage Reply) → readings next reads ≡ Err reply

abbrev pub Outcome : {A : Type 0} → ((A → Stage Reply) → Stage Reply) → Reads → (A → Type 0) → Type 0
Outcome readings reads right = Goes readings reads right ⊎ Stops readings reads

-- one behind another
pub chain : {A B : Type 0} → (first : (A → Stage Reply) → Stage Reply) (second : A → (B → Stage Reply) → Stage Reply) (reads : Reads) (right : A → Type 0) (also : B → Type 0) →
    Outcome first reads right → ((x : A) (left : Reads) → right x → Outcome (second x) left also) → Outcome (λ next. first (λ x. second x next)) reads also
chain first second reads right also (inr stop) each = inr (record { reply = stop.reply; unjudged = stop.unjudged; stops = λ next. stop.stops (λ x. second x next) })
chain {A} {B} first second reads right also (inl goes) each = behind (each goes.value goes.left goes.holds) where
  behind : Outcome (second goes.value) goes.left also → Outcome (λ next. first (λ x. second x next)) reads also
  behind (inr stop) =
      inr (record { reply = stop.reply; unjudged = stop.unjudged; stops = λ next. goes.gives (λ x. second x next) ∙ stop.stops next })
  behind (inl more) =
      inl (record { value = more.value; left = more.left; gives = λ next. goes.gives (λ x. second x next) ∙ more.gives next; holds = more.holds })

-- ---- one file

pub form_unjudged : (how : Telling) (name why : List ℕ) → is_judged (form_by how name why).0 ≡ false
form_unjudged Whole name why = refl
form_unjudged Brief name why = refl

-- what makes something of bytes refuses them by their form alone
abbrev RefusesForms : {A : Type 0} → (List ℕ → Result A Reply) → Type 0
RefusesForms make = (bytes : List ℕ) (reply : Reply) → make bytes ≡ Err reply → is_judged reply.0 ≡ false

abbrev MakesRight : {A : Type 0} → (List ℕ → Result A Reply) → (A → Type 0) → Type 0
MakesRight {A} make right = (bytes : List ℕ) (x : A) → make bytes ≡ Ok x → right x

module _ {A : Type 0} (how : Telling) (limit : ℕ) (name : List ℕ) (make : List ℕ → Result A Reply) (right : A → Type 0) (formed : RefusesForms make)
    (makes : MakesRight make right) (reads : Reads) where
  abbrev goes_with : (A → Stage Reply) → Result (List ℕ) Reply → Result Reply Reply
  goes_with next r = and_then (and_then r make) (λ x. next x (later_reads reads))

  by_made : (bytes : List ℕ) → within_by how limit name (reads 0 name) ≡ Ok bytes → (r : Result A Reply) → make bytes ≡ r → Outcome (reading_by how limit name make) reads right
  by_made bytes within (Ok x) made =
      inl (record {
        value = x;
        left = later_reads reads;
        gives = λ next. ap (goes_with next) within ∙ ap (λ r. and_then r (λ x. next x (later_reads reads))) made;
        holds = makes bytes x made;
      })
  by_made bytes within (Err reply) made =
      inr (record {
        reply = reply;
        unjudged = formed bytes reply made;
        stops = λ next. ap (goes_with next) within ∙ ap (λ r. and_then r (λ x. next x (later_reads reads))) made;
      })

  by_size : (bytes : List ℕ) → reads 0 name ≡ Some bytes → (b : Bool) → nat_le (length bytes) limit ≡ b → Outcome (reading_by how limit name make) reads right
  by_size bytes there true small =
      by_made bytes (ap (within_by how limit name) there ∙ ap (λ b. if b then Ok bytes else Err (form_by how name (codes "too-long"))) small) (make bytes) refl
  by_size bytes there false small =
      inr (record {
        reply = form_by how name (codes "too-long");
        unjudged = form_unjudged how name (codes "too-long");
        stops = λ next. ap (goes_with next) (ap (within_by how limit name) there ∙ ap (λ b. if b then Ok bytes else Err (form_by how name (codes "too-long"))) small);
      })

  by_content : (o : Option (List ℕ)) → reads 0 name ≡ o → Outcome (reading_by how limit name make) reads right
  by_content None is = inr (record { reply = missing_reply name; unjudged = refl; stops = λ next. ap (goes_with next) (ap (within_by how limit name) is) })
  by_content (Some bytes) is = by_size bytes is (nat_le (length bytes) limit) refl

  pub file_outcome : Outcome (reading_by how limit name make) reads right
  file_outcome = by_content (reads 0 name) refl

-- ---- the sources of tasks

-- what tasks have of the entries of a set file
pub record HaveOf (es : List TaskEntry) (ts : List TaskText) : Type 0 where
  pub count : length ts ≡ length es
  pub names : map (λ (t : TaskText). t.name) ts ≡ entry_names es
  pub each : All IsEntry es → All HasTextValues ts

abbrev pub IsOf : TaskEntry → TaskText → Type 0
IsOf e t = t ≡ task_with e t.text

source_is : (e : TaskEntry) → MakesRight (task_of_source e) (IsOf e)
source_is e bytes t made = subst (IsOf e) (same_Ok (task_with e bytes) t made) refl

source_formed : (e : TaskEntry) → RefusesForms (task_of_source e)
source_formed e bytes reply made = absurd cc

task_has : (e : TaskEntry) (t : TaskText) → IsOf e t → IsEntry e → HasTextValues t
task_has e t is entry = record {
  name = subst IsName (sym (ap (λ (t : TaskText). t.name) is)) entry.name;
  period = subst (Between 1 4294967295) (sym (ap (λ (t : TaskText). t.period) is)) entry.period;
  jobs = subst (Between 1 65535) (sym (ap (λ (t : TaskText). t.jobs) is)) entry.jobs;
}

pub have_more : (e : TaskEntry) (es : List TaskEntry) (t : TaskText) (ts : List TaskText) → IsOf e t → HaveOf es ts → HaveOf (e ∷ es) (t ∷ ts)
have_more e es t ts is rest =
    let name : t.name ≡ e.name = ap (λ (t : TaskText). t.name) is in
    record {
      count = ap suc rest.count;
      names = ap (λ x. x ∷ map (λ (t : TaskText). t.name) ts) name ∙ ap (λ xs. e.name ∷ xs) rest.names;
      each = λ all. All-cons HasTextValues t ts (task_has e t is (All-head IsEntry e es all)) (rest.each (All-tail IsEntry e es all));
    }

-- the first one stands in front of the others
put_first : (how : Telling) (e : TaskEntry) (es : List TaskEntry) (t : TaskText) (left : Reads) → IsOf e t → Outcome (reading_tasks_by how es) left (HaveOf es) →
    Outcome (λ next. reading_tasks_by how es (λ ts. next (t ∷ ts))) left (HaveOf (e ∷ es))
put_first how e es t left is (inr stop) = inr (record { reply = stop.reply; unjudged = stop.unjudged; stops = λ next. stop.stops (λ ts. next (t ∷ ts)) })
put_first how e es t left is (inl goes) =
    inl (record { value = t ∷ goes.value; left = goes.left; gives = λ next. goes.gives (λ ts. next (t ∷ ts)); holds = have_more e es t goes.value is goes.holds })

tasks_outcome : (how : Telling) (es : List TaskEntry) (reads : Reads) → Outcome (reading_tasks_by how es) reads (HaveOf es)
tasks_outcome how [] reads = inl (record { value = []; left = reads; gives = λ next. refl; holds = record { count = refl; names = refl; each = λ all. All-nil HasTextValues } })
tasks_outcome how (e ∷ es) reads =
    chain (reading_by how source_limit e.source (task_of_source e)) (λ t next. reading_tasks_by how es (λ ts. next (t ∷ ts))) reads (IsOf e) (HaveOf (e ∷ es))
    (file_outcome how source_limit e.source (task_of_source e) (IsOf e) (source_formed e) (source_is e) reads)
    (λ t left is. put_first how e es t left is (tasks_outcome how es left))

-- ---- sets

pub values_with : (s : SetData) (ts : List TaskText) → IsSet s → HaveOf s.tasks ts → HasValues (set_with s ts)
values_with s ts lawful have = record {
  plant_is = lawful.plant;
  devices_are = record { count = lawful.device_count; each = lawful.each_device; names = lawful.device_names };
  count = subst (Between 1 16) (sym have.count) lawful.task_count;
  each = have.each lawful.each_task;
  names = subst AreDistinct (sym have.names) lawful.task_names;
}

-- a set whose values are in their ranges, with such devices
abbrev pub IsRight : (List Device → Type 0) → TaskSet → Type 0
IsRight such set = HasValues set × such set.devices

abbrev pub IsRightFile : (List Device → Type 0) → SetData → Type 0
IsRightFile such s = IsSet s × such s.devices

pub sources_outcome : (how : Telling) (such : List Device → Type 0) (s : SetData) (left : Reads) → IsRightFile such s → Outcome (reading_sources how s) left (IsRight such)
sources_outcome how such s left right = by (tasks_outcome how s.tasks left) where
  by : Outcome (reading_tasks_by how s.tasks) left (HaveOf s.tasks) → Outcome (reading_sources how s) left (IsRight such)
  by (inr stop) = inr (record { reply = stop.reply; unjudged = stop.unjudged; stops = λ next. stop.stops (λ ts. next (set_with s ts)) })
  by (inl goes) =
      inl (record { value = set_with s goes.value; left = goes.left; gives = λ next. goes.gives (λ ts. next (set_with s ts)); holds = (values_with s goes.value right.0 goes.holds, right.1) })

pub set_formed : (how : Telling) (name : List ℕ) (r : Result SetData SetFail) (reply : Reply) → set_in_by how name r ≡ Err reply → is_judged reply.0 ≡ false
set_formed how name (Ok s) reply is = absurd cc
set_formed how name (Err fail) reply is =
    let same : form_by how name (set_why fail) ≡ reply = cc in
    subst (λ (r : Reply). is_judged r.0 ≡ false) same (form_unjudged how name (set_why fail))

set_lawful : (how : Telling) (name bytes : List ℕ) (r : Result SetData SetFail) → set_of_text bytes ≡ r → (s : SetData) → set_in_by how name r ≡ Ok s → IsSet s
set_lawful how name bytes (Ok x) read s is = set_is_lawful bytes s (read ∙ ap Ok (same_Ok x s is))
set_lawful how name bytes (Err fail) read s is = absurd cc

-- a set's file and its sources
abbrev pub anything : List Device → Type 0
anything devices = Unit {0}

pub set_outcome : (name : List ℕ) (reads : Reads) → Outcome (reading_set_by Brief name) reads (IsRight anything)
set_outcome name reads =
    chain (reading_by Brief set_limit name (set_of_bytes_by Brief name)) (λ s. reading_sources Brief s) reads (IsRightFile anything) (IsRight anything)
    (file_outcome Brief set_limit name (set_of_bytes_by Brief name) (IsRightFile anything) (λ bytes reply. set_formed Brief name (set_of_text bytes) reply)
    (λ bytes s is. (set_lawful Brief name bytes (set_of_text bytes) refl s is, tt)) reads)
    (sources_outcome Brief anything)
