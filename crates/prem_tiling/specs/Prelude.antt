-- What the files of this crate's specs name of other modules, so that each imports it from one place.
pub use Rattle.prem_names.specs.Numbers.{number_of}
pub use Rattle.prem_syntax.specs.Breaches.{has_name, in_limits, parameter_texts}
pub use Rattle.prem_syntax.specs.Resolve.{functions_of, globals_of}
pub use Rattle.prem_syntax.specs.Syntax.{Expression, FunctionText, ItemText, LocalVariable, LoopNames, MarkText, Parameter, ProgramText, RegionText, Statement, Statements, Text, assign}
pub use Rattle.prem_syntax.specs.Syntax.{binary, block, bounded_while, call, counting_for, element, function_item, global_item, if_else, if_then, input, literal, next_statement}
pub use Rattle.prem_syntax.specs.Syntax.{no_statements, output, unary, variable}
pub use Rattle.prem_syntax.specs.SyntaxOf.{function_of}
pub use Rattle.prem_syntax.specs.declared.tree.Place.{Place}
pub use Rattle.std.specs.Int.{div_ceil, int_max, int_min}
pub use Rattle.std.specs.List.{flat_map, list_all, list_any}
pub use Rattle.std.specs.Str.{bytes_eq}
