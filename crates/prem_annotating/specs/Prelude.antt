-- What the files of this crate's specs name of other modules, so that each imports it from one place.
pub use Rattle.prem_ranges.specs.Environment.{Environment, any_again, assigned, at_local, joined}
pub use Rattle.prem_ranges.specs.RangeBreaches.{in_routine, parameters_of, range_breaches}
pub use Rattle.prem_ranges.specs.RangeOf.{range_of, refined}
pub use Rattle.prem_ranges.specs.RangeRules.{RangeBreach, RangeRule, RegionOutside, first_of}
pub use Rattle.prem_ranges.specs.RangesKept.{StaysInRange, resolved}
pub use Rattle.prem_syntax.specs.ProgramRules.{IsWellFormed}
pub use Rattle.prem_syntax.specs.Resolve.{functions_of, globals_of, promoted}
pub use Rattle.prem_syntax.specs.Resolved.{AndAlso, Binary, Call, Constant, Done, Element, For, If, Input, Local, OrElse, Output, Routine, Scalar, SetElement, SetLocal, SetScalar, Steps}
pub use Rattle.prem_syntax.specs.Resolved.{Term, Unary, While}
pub use Rattle.prem_syntax.specs.Syntax.{FunctionText, GlobalVariable, LocalVariable, MarkText, Parameter, ProgramText, RegionText, Text, function_item, global_item}
pub use Rattle.prem_syntax.specs.declared.tree.Place.{Place}
pub use Rattle.prem_text.specs.Canonical.Canonical.{constant_lexemes, number_lexeme, range_lexemes, region_lexemes, regions_lexemes}
pub use Rattle.prem_text.specs.Canonical.Law.{lexemes_of}
pub use Rattle.prem_text.specs.Canonical.Printed.{lexeme_bytes}
pub use Rattle.prem_text.specs.Canonical.Unplaced.{unplaced, unplaced_mark, unplaced_parameter, unplaced_region}
pub use Rattle.prem_text.specs.Grammar.ProgramPhrases.{AreParameters, AreRegions, ConstantPhrase, FunctionPhrase, GlobalPhrase, IsMark, IsProgram, ItemPhrase, ProgramPhrase, RangePhrase}
pub use Rattle.prem_text.specs.Grammar.ProgramPhrases.{function_tree, mark_tree, of_function, of_global, parameters_tree, program_past, program_tokens, program_tree, region_tokens}
pub use Rattle.prem_text.specs.Grammar.ProgramPhrases.{region_trees}
pub use Rattle.prem_text.specs.Lexing.Token.Lexeme.{Lexeme, Seen, end_of_text, lexeme_of, mark, name, number, word}
pub use Rattle.prem_text.specs.Lexing.Tokens.{is_name_byte, tokens_of}
pub use Rattle.prem_text.specs.Spelling.Division.{Divides, Gap, IsToken, place_behind}
pub use Rattle.prem_text.specs.Texts.{IsProgramText, reads}
pub use Rattle.prem_text.specs.declared.lexing.token.token.Mark.{Mark}
pub use Rattle.prem_word.specs.Ranges.{IsRange, Span, converted, encloses, exactly, from_to, join, whole}
pub use Rattle.prem_word.specs.declared.kind.Kind.{Kind}
pub use Rattle.std.specs.List.{filter, flat_map}
pub use Rattle.std.specs.Option.{option_map}
