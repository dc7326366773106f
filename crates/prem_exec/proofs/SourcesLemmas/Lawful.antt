-- Tasks that say what the entries of a lawful set file say are lawful.
use Rattle.std.specs.Prelude.{All}
use Rattle.std.proofs.Common.{◌≡◌, ℕ, List, [], ◌∷◌, ◌++◌, refl, ap, ◌∙◌, sym, subst, length, map}
use Rattle.std.proofs.lemmas.List.{length-map}
use Rattle.std.proofs.lemmas.List.Elements.{All-nil, All-cons, All-head, All-tail}
use Rattle.prem_plant.specs.Label.{AreDistinct, IsName}
use Rattle.prem_plant.specs.Ranges.{Between}
use Rattle.prem_plant.specs.declared.plant.Device.{Device}
use Rattle.prem_tasks.specs.declared.set.TaskText.{TaskText as TaskTree}
use Rattle.prem_tasks.specs.Lawful.{IsTaskText, IsSet, task_names}
use Rattle.prem_tasks.specs.Broken.{TaskText, TaskSet}
use Rattle.prem_tasks.specs.SetOf.{task_of}
use Rattle.prem_set.specs.Run.Names.{known_of}
use Rattle.prem_set.specs.declared.task.TaskEntry.{TaskEntry}
use Rattle.prem_set.specs.SetFile.{SetData, task_names as entry_names}
use Rattle.prem_set.specs.Lawful.{IsEntry, IsSet as IsSetFile}
use Rattle.prem_exec.specs.Sources.Sources.{Head, head_of, entry_head, names_of}

abbrev heads : List TaskTree → List Head
heads ts = map (λ t. head_of (task_of t)) ts

names_are : (ts : List TaskTree) (es : List TaskEntry) → heads ts ≡ map entry_head es → task_names ts ≡ entry_names es
names_are [] [] is = refl
names_are [] (e ∷ es) is = absurd cc
names_are (t ∷ ts) [] is = absurd cc
names_are (t ∷ ts) (e ∷ es) is =
    let head : head_of (task_of t) ≡ entry_head e = cc in
    let rest : heads ts ≡ map entry_head es = cc in
    ap (λ x. x ∷ task_names ts) (ap (λ (h : Head). h.0) head) ∙ ap (λ xs. e.name ∷ xs) (names_are ts es rest)

one_is : (t : TaskTree) (e : TaskEntry) → head_of (task_of t) ≡ entry_head e → IsEntry e → IsTaskText t
one_is t e is entry = record {
  name = subst IsName (sym (ap (λ (h : Head). h.0) is)) entry.name;
  period = subst (Between 1 4294967295) (sym (ap (λ (h : Head). h.1.0) is)) entry.period;
  jobs = subst (Between 1 65535) (sym (ap (λ (h : Head). h.1.1) is)) entry.jobs;
}

each_is : (ts : List TaskTree) (es : List TaskEntry) → heads ts ≡ map entry_head es → All IsEntry es → All IsTaskText ts
each_is [] es is all = All-nil IsTaskText
each_is (t ∷ ts) [] is all = absurd cc
each_is (t ∷ ts) (e ∷ es) is all =
    let head : head_of (task_of t) ≡ entry_head e = cc in
    let rest : heads ts ≡ map entry_head es = cc in
    All-cons IsTaskText t ts (one_is t e head (All-head IsEntry e es all)) (each_is ts es rest (All-tail IsEntry e es all))

pub set_is_lawful : (s : SetData) (ts : List TaskTree) → heads ts ≡ map entry_head s.tasks → IsSetFile s → IsSet s.plant s.devices ts
set_is_lawful s ts is lawful =
    let size : length ts ≡ length s.tasks = sym (length-map ts (λ t. head_of (task_of t))) ∙ ap length is ∙ length-map s.tasks entry_head in
    record {
      plant_is = lawful.plant;
      devices_are = record { count = lawful.device_count; each = lawful.each_device; names = lawful.device_names };
      tasks_are = record {
        count = subst (Between 1 16) (sym size) lawful.task_count;
        each = each_is ts s.tasks is lawful.each_task;
        names = subst AreDistinct (sym (names_are ts s.tasks is)) lawful.task_names;
      };
    }

-- those that were read are all
pub heads_are : (front ts : List TaskTree) (entries es : List TaskEntry) → front ≡ [] → entries ≡ es → heads ts ≡ heads front ++ map entry_head entries → heads ts ≡ map entry_head es
heads_are front ts entries es none are is = is ∙ ap (λ f. heads f ++ map entry_head entries) none ∙ ap (map entry_head) are

-- ---- names

mapped_names : (ts : List TaskTree) → map (λ (t : TaskText). t.name) (map task_of ts) ≡ map (λ (t : TaskTree). t.name) ts
mapped_names [] = refl
mapped_names (t ∷ ts) = ap (λ xs. t.name ∷ xs) (mapped_names ts)

pub known_is : (labels : List (List ℕ)) (ts : List TaskTree) (devices : List Device) (set : TaskSet) → labels ≡ map (λ (t : TaskTree). t.name) ts → map task_of ts ≡ set.tasks →
    devices ≡ set.devices → known_of labels devices ≡ names_of set
known_is labels ts devices set names tasks are =
    ap (λ ls. known_of ls devices) (names ∙ sym (mapped_names ts) ∙ ap (map (λ (t : TaskText). t.name)) tasks)
    ∙ ap (known_of (map (λ (t : TaskText). t.name) set.tasks)) are
