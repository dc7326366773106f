-- Placed tasks that keep the rules stand as the least charges ask.
use Rattle.std.specs.Prelude.{slice_index_or}
use Rattle.std.proofs.Common.{◌≡◌, ℕ, zero, suc, ◌+◌, ◌*◌, ◌^◌, ◌≤◌, refl, ap, sym, subst, arith, List, [], ◌∷◌, inl, Some, slice_get}
use Rattle.prem_syntax.specs.Resolved.{Routine}
use Rattle.prem_syntax.specs.Reach.{IsAmong, callees_in, callee_table}
use Rattle.prem_layout.specs.Template.Terms.{shift_of}
use Rattle.prem_layout.specs.Footprint.{global_range}
use Rattle.prem_code_laws.specs.ExprLaws.Relation.{element_size}
use Rattle.prem_sets_sound.specs.StubLaws.Initial.Standing.{setting_of, globals_in}
use Rattle.prem_sets_sound.specs.StubLaws.StubFits.Within.{codes_in}
use Rattle.prem_sets_sound.specs.TaskLaws.TaskFrame.Frames.{task_guard}
use Rattle.prem_sets_sound.specs.TaskLaws.TaskFrame.Callees.{plain_callable}
use Rattle.prem_sets_sound.proofs.StubLawsLemmas.InitialLemmas.Tasks.{task_at}
use Rattle.prem_sets_sound.proofs.TaskLawsLemmas.TaskGroundLemmas.Depths.{callees_are_before}
use Rattle.prem_sets_sound.proofs.TaskLawsLemmas.TaskGroundLemmas.Elements.{base_is, element_lies}
use Rattle.prem_sets_sound.proofs.TaskLawsLemmas.ProgramFitsLemmas.Functions.{plain_tasks_fit}
use Rattle.prem_sets_sound.proofs.TaskLawsLemmas.TaskBytesLemmas.Parts.{laid}
use Rattle.prem_sets_sound.proofs.TaskRunsLemmas.Filled.{program_keeps, code_is, codes_stand}
use Rattle.prem_sets_sound.proofs.TaskRunsLemmas.Words.{job_fits}
use Rattle.prem_wcet_laws.proofs.Held.{held_by}
use Rattle.prem_wcet_laws.specs.Wcet.{frame_range, below_range}
use Rattle.prem_latency.specs.Wcet.Stands.{PlacedTasksStand, PlacedFramesStand}

row_there : (fs : List Routine) (n : ℕ) (f : Routine) → slice_get fs n ≡ Some f → slice_index_or (callee_table fs) n [] ≡ callees_in f.body
row_there [] n f e = cc
row_there (x ∷ fs) zero f e = let same : x ≡ f = cc in ap (λ (r : Routine). callees_in r.body) same
row_there (x ∷ fs) (suc n) f e = row_there fs n f e

begins_there : (low base more : ℕ) → base ≡ low → low ≤ base + more
begins_there low base more e = omega (arith, e)

ends_there : (low base more size top : ℕ) → base ≡ low → low + more + size ≤ top → base + more + size ≤ top
ends_there low base more size top e le = omega (arith, e, le)

pub placed_tasks_stand : PlacedTasksStand
placed_tasks_stand p devices tasks places k t placed x keeps =
    let all = laid p devices tasks places k t placed in
    let at = task_at p devices tasks places all k t placed.there in
    let rules = program_keeps p devices tasks places k t placed x keeps in
    let below = (job_fits p devices tasks places k t placed x keeps).below in
    let gs = globals_in p.target t.task.program in
    let s = setting_of p (task_guard t) t in
    record {
      line = let le = placed.plant_is.line.0 in omega (arith, le);
      parts_are = refl;
      places_are = λ part. refl;
      code_parts = λ f. refl;
      all = t.task.program.job;
      some = omega arith;
      count = omega (arith, below);
      task = plain_tasks_fit x t.task.program rules t.task.program.job (omega arith) s (codes_in t) (codes_stand p devices tasks places k t placed x keeps (plain_callable t.task.program));
      codes = λ f r lt there. code_is p devices tasks places k t placed x keeps f r there;
      before = λ f r there g among. callees_are_before p x t keeps f g (subst (IsAmong g) (sym (row_there t.task.program.routines f r there)) among);
      begins = λ g j lt. begins_there (global_range t.at g).0 (s.places (gs.part g)) (j * 2 ^ shift_of (gs.type g)) (base_is p devices tasks places all t at g);
      ends = λ g j lt. ends_there (global_range t.at g).0 (s.places (gs.part g)) (j * 2 ^ shift_of (gs.type g)) (element_size (gs.type g))
          (global_range t.at g).1 (base_is p devices tasks places all t at g) (element_lies p devices tasks places all t at g j lt).ends;
      before_job = omega arith;
    }

pub placed_frames_stand : PlacedFramesStand
placed_frames_stand p devices tasks places k t placed x keeps = record {
  frame = λ a le lt. held_by (frame_range t.task.program t.at) (frame_range t.task.program t.at ∷ []) a (inl refl) le lt;
  below = λ a le lt. held_by (below_range t.task.program t.at) (below_range t.task.program t.at ∷ []) a (inl refl) le lt;
}
