-- What the files of this crate's specs name of other modules, so that each imports it from one place.
pub use Rattle.prem_syntax.specs.Expressions.{Access, Outcome, and_then, eval, unary_word}
pub use Rattle.prem_syntax.specs.Literals.{ProgramHasWords}
pub use Rattle.prem_syntax.specs.ProgramRules.{IsWellFormed}
pub use Rattle.prem_syntax.specs.Reach.{IsAmong, callee_table, is_in, reach_set}
pub use Rattle.prem_syntax.specs.Resolve.{find_named, kind_of, operand_kind, promoted, resolve, unary_kind}
pub use Rattle.prem_syntax.specs.Resolved.{AndAlso, Binary, Call, Constant, Done, Element, For, If, Input, Local, OrElse, Output, Resolved, Routine, Scalar, SetElement, SetLocal, SetScalar}
pub use Rattle.prem_syntax.specs.Resolved.{Steps, Term, Unary, While}
pub use Rattle.prem_syntax.specs.Source.{Limits, access_of, everywhere, source, source_within, start, this_or, unlimited}
pub use Rattle.prem_syntax.specs.Statements.{Calls, ProgramState, enter, is_marked}
pub use Rattle.prem_syntax.specs.Syntax.{GlobalVariable, LocalVariable, MarkText, Parameter, ProgramText, RegionText}
pub use Rattle.prem_syntax.specs.declared.tree.Place.{Place}
pub use Rattle.prem_syntax.specs.declared.tree.Ty.{Ty}
pub use Rattle.prem_syntax.specs.declared.tree.UnOp.TheVariants.{Flip, Neg, Not}
pub use Rattle.prem_word.specs.Ranges.{IsRange, LiesIn, Span, converted, encloses, exactly, from_to, holds, join, range_flip, range_negate, range_not, range_of_op, truths, unless_empty}
pub use Rattle.prem_word.specs.Ranges.{whole, within}
pub use Rattle.prem_word.specs.Words.{CanApply, apply_op, result_kind, truth, value_in}
pub use Rattle.prem_word.specs.declared.kind.BinOp.{BinOp}
pub use Rattle.prem_word.specs.declared.kind.BinOp.TheVariants.{Div, Eq, Ge, Gt, Le, Lt, Ne, Rem}
pub use Rattle.prem_word.specs.declared.kind.Kind.{Kind}
pub use Rattle.prem_word.specs.declared.kind.Kind.TheVariants.{Int, Unsigned}
pub use Rattle.std.specs.Int.{int_max, int_min}
pub use Rattle.std.specs.List.{flat_map, list_any, range_with_len}
pub use Rattle.std.specs.Prelude.{IsTrue, List, Option, is_none, slice_index, ℕ}
