-- What the files of this crate's specs name of other modules, so that each imports it from one place.
pub use Rattle.prem_syntax.specs.Syntax.{Expression, FunctionText, GlobalVariable, InitialValue, ItemText, LocalVariable, LoopNames, MarkText, Parameter, ProgramText, RegionText, Statement}
pub use Rattle.prem_syntax.specs.Syntax.{Statements, Text, absent, assign, binary, block, bounded_while, call, counting_for, element, function_item, global_item, if_else, if_then, input}
pub use Rattle.prem_syntax.specs.Syntax.{literal, many, next_statement, no_statements, one, output, unary, variable}
pub use Rattle.prem_syntax.specs.declared.tree.Place.{Place}
pub use Rattle.prem_syntax.specs.declared.tree.Ty.{Ty}
pub use Rattle.prem_syntax.specs.declared.tree.Ty.TheVariants.{Schar, Short, Uchar, Ushort, Void}
pub use Rattle.prem_syntax.specs.declared.tree.UnOp.{UnOp}
pub use Rattle.prem_syntax.specs.declared.tree.UnOp.TheVariants.{Flip, Neg, Not}
pub use Rattle.prem_word.specs.declared.kind.BinOp.{BinOp}
pub use Rattle.prem_word.specs.declared.kind.BinOp.TheVariants.{Add, And, AndAlso, Div, Eq, Ge, Gt, Le, Lt, Mul, Ne, Or, OrElse, Rem, Shl, Shr, Sub, Xor}
pub use Rattle.prem_word.specs.declared.kind.Kind.{Kind}
pub use Rattle.prem_word.specs.declared.kind.Kind.TheVariants.{Int, Unsigned}
pub use Rattle.std.specs.Option.{option_and_then, option_map}
pub use Rattle.std.specs.Prelude.{map, ℕ}
