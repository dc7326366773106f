-- What calls of the functions of a task need, by their numbers.
use Rattle.std.specs.Prelude.{◌≡◌, ◌≤◌, ℕ, ◌+◌, min, List, [], ◌∷◌, length, Option, None, Some}
use Rattle.prem_plant.specs.declared.plant.Target.{Target}
use Rattle.prem_syntax.specs.declared.tree.Mark.{Mark}
use Rattle.prem_syntax.specs.Resolved.{Routine as PlainRoutine}
use Rattle.prem_tree.specs.declared.resolve.resolved.Routine.{Routine}
use Rattle.prem_tree.specs.Resolve.ResolvedOf.{routines_of}
use Rattle.prem_layout.specs.Template.Frames.{frame_at}
use Rattle.prem_layout.specs.Template.Limits.{greatest_frame}
use Rattle.prem_layout.specs.Template.Parts.{parts_of, global_part}
use Rattle.prem_gen.specs.declared.routine.task.Callee.{Callee}
use Rattle.prem_gen.specs.Routine.Parts.{callee_at}
use Rattle.prem_gen.specs.Frame.FrameOf.{most, frame_bytes}
use Rattle.prem_gen.specs.Routine.FrameOf.{slots_in}

-- a marked function is called by its stub, with the return place in x4
abbrev pub callee_by : Option Mark → (frame stub n : ℕ) → Callee
callee_by None frame stub n = record { frame = frame; link = 1; part = 1 + n }
callee_by (Some m) frame stub n = record { frame = frame; link = 4; part = stub }

abbrev pub marks_in : Option Mark → ℕ
marks_in None = 0
marks_in (Some m) = 1

abbrev pub marks : Routine → ℕ
marks r = marks_in r.text.now.mark

-- the stubs of functions
abbrev pub all_marks : List Routine → ℕ
all_marks [] = 0
all_marks (r ∷ rs) = marks r + all_marks rs

abbrev pub callee_of : (stub n : ℕ) → Routine → Callee
callee_of stub n r = callee_by r.text.now.mark (frame_bytes (min (slots_in r) most)) stub n

-- from function n on, where the next stub has this part
abbrev pub callees_from : (stub n : ℕ) → List Routine → List Callee
callees_from stub n [] = []
callees_from stub n (r ∷ rs) = callee_of stub n r ∷ callees_from (stub + marks r) (n + 1) rs

-- what calls need is what is told of the functions for which they stand; a frame that may be has its very bytes
pub record Told (target : Target) (routines : List PlainRoutine) (f : ℕ) (c : Callee) : Type 0 where
  pub frame_is : frame_at routines f ≤ greatest_frame → c.frame ≡ frame_at routines f
  pub link_is : c.link ≡ (parts_of target routines).link f
  pub part_is : c.part ≡ (parts_of target routines).callee f

abbrev pub TableTells : Type 0
TableTells =
    (target : Target) (turns : ℕ → ℕ) (m : ℕ) (rs : List Routine) (f : ℕ) →
    Told target (routines_of turns m rs) f (callee_at (callees_from (1 + length rs) 0 rs) f)

-- the globals stand behind the stubs
abbrev pub StubsAreCounted : Type 0
StubsAreCounted = (turns : ℕ → ℕ) (m : ℕ) (rs : List Routine) → 1 + length rs + all_marks rs ≡ global_part (routines_of turns m rs) 0
