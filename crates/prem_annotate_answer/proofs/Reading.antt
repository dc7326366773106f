-- The programs of tasks whose texts are read.
use Rattle.std.specs.Prelude.{drop, slice_index_or}
use Rattle.std.proofs.Common.{◌≡◌, ℕ, zero, suc, ◌+◌, ◌<◌, List, [], ◌∷◌, None, Some, Result, Ok, Err, map, refl, ap, sym, ◌∙◌, length, arith}
use Rattle.prem_list.specs.Sequence.{items_of}
use Rattle.prem_syntax.specs.Syntax.{ProgramText}
use Rattle.prem_tree.specs.declared.checked.Checked.{Checked}
use Rattle.prem_text.specs.declared.lexing.token.fail.FrontFail.{FrontFail}
use Rattle.prem_text.specs.Texts.{reads}
use Rattle.prem_layout.specs.Rules.{or_else, refused_by, first_among, over_tasks}
use Rattle.prem_tasks.specs.Broken.{TaskText, unread, text_rules, program_before, programs_of}
use Rattle.prem_tasks.specs.SetOf.{task_of}
use Rattle.prem_tasks.specs.declared.set.TaskText.{TaskText as TaskTree}
use Rattle.prem_stages.specs.Stages.{checked_text}
use Rattle.prem_annotate_answer.specs.Steps.{read_of, ok_program, AreReadAs}

read_from : (n : ℕ) (ts : List TaskText) → first_among text_rules n ts ≡ None → AreReadAs ts (programs_of ts)
read_from n [] e = refl
read_from n (t ∷ ts) e = by (reads t.text) e (read_from (n + 1) ts)
  where
    by : (read : Result ProgramText FrontFail) → or_else (refused_by (Some n) (unread read)) (first_among text_rules (n + 1) ts) ≡ None →
        (first_among text_rules (n + 1) ts ≡ None → AreReadAs ts (programs_of ts)) →
        read ∷ map read_of ts ≡ map ok_program (program_before read (programs_of ts))
    by (Ok p) e more = ap (λ (rest : List (Result ProgramText FrontFail)). Ok p ∷ rest) (more e)
    by (Err fail) e more = absurd cc

pub tasks_read : (ts : List TaskText) → over_tasks text_rules ts ≡ None → AreReadAs ts (programs_of ts)
tasks_read ts e = read_from 0 ts e

-- a task's text is read as the program with its number
pub read_at : (tasks : List TaskTree) (programs : List Checked) (n : ℕ) (task : TaskTree) (program : Checked) →
    AreReadAs (map task_of tasks) (map checked_text programs) → task ≡ slice_index_or tasks n task →
    program ≡ slice_index_or programs n program → n < length tasks → reads (items_of task.text) ≡ Ok (checked_text program)
read_at [] programs n task program are et ep lt = absurd (omega (arith, lt))
read_at (t ∷ ts) [] n task program are et ep lt = absurd cc
read_at (t ∷ ts) (p ∷ ps) zero task program are et ep lt =
    let head : read_of (task_of t) ≡ ok_program (checked_text p) = cc in
    ap (λ (x : TaskTree). read_of (task_of x)) et ∙ head ∙ ap (λ (x : Checked). ok_program (checked_text x)) (sym ep)
read_at (t ∷ ts) (p ∷ ps) (suc n) task program are et ep lt = read_at ts ps n task program (ap (drop 1) are) et ep (omega (arith, lt))

pub as_many_read : (ts : List TaskText) (ps : List ProgramText) → AreReadAs ts ps → length ps ≡ length ts
as_many_read [] [] are = refl
as_many_read [] (p ∷ ps) are = absurd cc
as_many_read (t ∷ ts) [] are = absurd cc
as_many_read (t ∷ ts) (p ∷ ps) are = ap suc (as_many_read ts ps (ap (drop 1) are))
