-- What accesses add, in memory.
use Rattle.prem_tiling.specs.Shapes.Narrowed.{Added, nothing, within, elsewhere}
use Rattle.prem_tiling.specs.declared.copies.narrowed.Added.{Added as AddedTree}
use Rattle.prem_tiling.specs.declared.copies.narrowed.Added.TheVariants.{Nothing, Within, Elsewhere}

abbrev pub added_view : AddedTree → Added
added_view Nothing = nothing
added_view (Within least most) = within least most
added_view Elsewhere = elsewhere
