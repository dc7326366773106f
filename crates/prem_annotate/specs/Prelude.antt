-- What the files of this crate's specs name of other modules, so that each imports it from one place.
pub use Rattle.prem_analysis.specs.Ranging.View.{span_of}
pub use Rattle.prem_annotating.specs.Annotated.{all_annotated, annotated, marked_routines, texts_of}
pub use Rattle.prem_annotating.specs.Inferred.{if_narrower, join_with, ranged_routines, stated_or, with_parameters}
pub use Rattle.prem_annotating.specs.Seen.{KnownCall, GlobalAccess, calls_in, calls_of, touch, touched_by_locals, touched_by_result, touched_in, touches_of}
pub use Rattle.prem_syntax.specs.Reach.{is_in, reach_set}
pub use Rattle.prem_syntax.specs.Resolve.{functions_of, promoted}
pub use Rattle.prem_syntax.specs.Resolved.{Resolved, Routine, Steps, Term}
pub use Rattle.prem_syntax.specs.Syntax.{FunctionText, GlobalVariable, MarkText, Parameter, ProgramText, RegionText}
pub use Rattle.prem_syntax.specs.declared.tree.Place.{Place}
pub use Rattle.prem_word.specs.Ranges.{Span, converted}
pub use Rattle.std.specs.Option.{option_map}
pub use Rattle.std.specs.Prelude.{List, Option, map, ℤ}
