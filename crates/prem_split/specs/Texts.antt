-- The plans of programs by their text.
use Rattle.std.specs.Prelude.{◌≤◌, List}
use Rattle.std.specs.List.{AllByRecursion}
use Rattle.prem_syntax.specs.Syntax.{ProgramText}
use Rattle.prem_syntax.specs.Resolved.{Routine}
use Rattle.prem_syntax.specs.Resolve.{resolve}
use Rattle.prem_syntax.specs.Source.{unlimited}
use Rattle.prem_layout.specs.Template.Frames.{frame_of}
use Rattle.prem_layout.specs.Plans as layout

abbrev pub HasSmallFrame : Routine → Type 0
HasSmallFrame f = frame_of f ≤ 2032

-- each function has a frame that may be compiled
abbrev pub HasFrames : ProgramText → Type 0
HasFrames p = AllByRecursion HasSmallFrame (resolve unlimited.turns p).routines

-- the turns of loops don't matter
abbrev pub plans_of : ProgramText → List layout.Plan
plans_of p = layout.plans_of (resolve unlimited.turns p)
