use Rattle.std.proofs.Common.{◌≡◌, ◌++◌, map, drop}
use Rattle.prem_list.specs.Sequence.{items_of}
use Rattle.prem_syntax.specs.Name.{name_bytes}
use Rattle.prem_compile.specs.CompiledOf.{compiled_of}
use Rattle.prem_build.specs.Tables.Check.{parts_text}
use Rattle.prem_build.proofs.tables.bounds.push_parts.Given as goal

abbrev pub invariant-loop-part : goal.invariant-loop-part
invariant-loop-part l =
    let c = compiled_of l.compiled in
    l.text.items ++ parts_text c.jobs c.intervals (drop l.part-index (items_of l.compiled.parts)) (map name_bytes l.names)
    ≡ l.initial.text.items ++ parts_text c.jobs c.intervals c.parts c.names
