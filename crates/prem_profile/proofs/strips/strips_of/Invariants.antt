use Rattle.std.proofs.Common.{◌≡◌, ◌++◌, map, drop}
use Rattle.prem_list.specs.Sequence.{items_of}
use Rattle.prem_syntax.specs.Name.{name_bytes}
use Rattle.prem_compile.specs.CompiledOf.{compiled_of}
use Rattle.prem_profile.specs.Lines.Told.{lines_told}
use Rattle.prem_profile.specs.Sets.{parts_strips, strips_of}
use Rattle.prem_profile.specs.Strips.{strip_of}
use Rattle.prem_profile.proofs.strips.strips_of.Given as goal

-- what is there, and what is left
abbrev pub invariant-parts : goal.invariant-parts
invariant-parts l =
    let c = compiled_of l.compiled in
    record {
      at : l.n ≡ l.part-index;
      strips : map strip_of l.strips.items ++ parts_strips (map lines_told l.tasks) c.layout l.n (drop l.part-index (items_of l.compiled.parts)) (map name_bytes l.names)
          ≡ strips_of (map lines_told l.tasks) c;
    }
