-- Tasks whose texts have notes are as lawful as they were.
use Rattle.std.specs.Prelude.{All, drop}
use Rattle.std.proofs.Common.{◌≡◌, ℕ, List, [], ◌∷◌, map, refl, ap, sym, ◌∙◌, subst, length, arith}
use Rattle.std.proofs.lemmas.List.{length-map}
use Rattle.std.proofs.lemmas.List.Elements.{All-nil, All-cons, All-head, All-tail}
use Rattle.prem_plant.specs.Label.{AreDistinct, IsName}
use Rattle.prem_plant.specs.Ranges.{Between}
use Rattle.prem_tasks.specs.Broken.{TaskText}
use Rattle.prem_tasks.specs.SetOf.{task_of}
use Rattle.prem_tasks.specs.Lawful.{IsTaskText, AreTasks, task_names}
use Rattle.prem_tasks.specs.declared.set.TaskText.{TaskText as TaskTree}
use Rattle.prem_annotate.specs.Notes.{Notes}
use Rattle.prem_annotate_answer.specs.Written.{Writer, with_text}
use Rattle.prem_annotate_answer.specs.Steps.{noted_tasks}

one_kept : (text : List ℕ) (a b : TaskTree) → task_of a ≡ with_text text (task_of b) → IsTaskText b → IsTaskText a
one_kept text a b is lawful = record {
  name = subst IsName (sym (ap (λ (t : TaskText). t.name) is)) lawful.name;
  period = subst (Between 1 4294967295) (sym (ap (λ (t : TaskText). t.period) is)) lawful.period;
  jobs = subst (Between 1 65535) (sym (ap (λ (t : TaskText). t.jobs) is)) lawful.jobs;
}

names_kept : (write : Writer) (notes : List (List Notes)) (new old : List TaskTree) → map task_of new ≡ noted_tasks write (map task_of old) notes →
    length notes ≡ length old → task_names new ≡ task_names old
names_kept write notes [] [] is count = refl
names_kept write [] [] (b ∷ old) is count = absurd (omega (arith, count))
names_kept write (ns ∷ notes) [] (b ∷ old) is count = absurd cc
names_kept write notes (a ∷ new) [] is count = absurd cc
names_kept write [] (a ∷ new) (b ∷ old) is count = absurd cc
names_kept write (ns ∷ notes) (a ∷ new) (b ∷ old) is count =
    let head : task_of a ≡ with_text (write ns (task_of b).text) (task_of b) = cc in
    ap (λ (x : List ℕ). x ∷ task_names new) (ap (λ (t : TaskText). t.name) head)
    ∙ ap (λ (xs : List (List ℕ)). b.name ∷ xs) (names_kept write notes new old (ap (drop 1) is) (omega (arith, count)))

each_kept : (write : Writer) (notes : List (List Notes)) (new old : List TaskTree) → map task_of new ≡ noted_tasks write (map task_of old) notes →
    length notes ≡ length old → All IsTaskText old → All IsTaskText new
each_kept write notes [] old is count all = All-nil IsTaskText
each_kept write notes (a ∷ new) [] is count all = absurd cc
each_kept write [] (a ∷ new) (b ∷ old) is count all = absurd cc
each_kept write (ns ∷ notes) (a ∷ new) (b ∷ old) is count all =
    let head : task_of a ≡ with_text (write ns (task_of b).text) (task_of b) = cc in
    All-cons IsTaskText a new (one_kept (write ns (task_of b).text) a b head (All-head IsTaskText b old all))
    (each_kept write notes new old (ap (drop 1) is) (omega (arith, count)) (All-tail IsTaskText b old all))

pub tasks_kept : (write : Writer) (notes : List (List Notes)) (new old : List TaskTree) →
    map task_of new ≡ noted_tasks write (map task_of old) notes → length notes ≡ length old → AreTasks old → AreTasks new
tasks_kept write notes new old is count lawful =
    let names = names_kept write notes new old is count in
    let size : length new ≡ length old = sym (length-map new (λ (t : TaskTree). t.name)) ∙ ap length names ∙ length-map old (λ (t : TaskTree). t.name) in
    record {
      count = subst (Between 1 16) (sym size) lawful.count;
      each = each_kept write notes new old is count lawful.each;
      names = subst AreDistinct (sym names) lawful.names;
    }
