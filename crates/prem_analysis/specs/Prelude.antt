-- What the files of this crate's specs name of other modules, so that each imports it from one place.
pub use Rattle.prem_list.specs.Sequence.{items_of}
pub use Rattle.prem_ranges.specs.After.{bounds, bounds_in, in_counting, in_while, known_parameter, loop_end, turn_bound}
pub use Rattle.prem_ranges.specs.Environment.{Environment, Known}
pub use Rattle.prem_ranges.specs.RangeBreaches.{Site, in_argument, in_counting_loop, in_routine, in_steps, in_term, in_turns}
pub use Rattle.prem_ranges.specs.RangeRules.{ArgRange, IndexOutside, LoopBound, RangeBreach, RangeRule, RegionOutside, TooLarge, ZeroDivisor, first, first_of}
pub use Rattle.prem_ranges.specs.RangesKept.{StaysInRange, first_range_breach, limits_of, turn_bounds}
pub use Rattle.prem_ranges.specs.Regions.{Area, Watch, areas_of, watches_of}
pub use Rattle.prem_ranges.specs.Sound.{AreWords, Ranged}
pub use Rattle.prem_syntax.specs.Reach.{is_in, reach_set}
pub use Rattle.prem_syntax.specs.Resolved.{Done, For, If, Routine, Steps, Term, While}
pub use Rattle.prem_syntax.specs.Source.{source, source_within, unlimited}
pub use Rattle.prem_syntax.specs.Syntax.{Expression, GlobalVariable, LocalVariable, MarkText, Parameter, ProgramText, Statement, Statements, assign, binary, block, bounded_while, call}
pub use Rattle.prem_syntax.specs.Syntax.{counting_for, element, function_item, global_item, if_else, if_then, input, literal, next_statement, no_statements, output, unary, variable}
pub use Rattle.prem_syntax.specs.SyntaxOf.{function_of, global_of, program_of}
pub use Rattle.prem_tree.specs.Checked.{checked_program}
pub use Rattle.prem_tree.specs.Resolve.ResolvedOf.{resolved_of, routines_of, term_of}
pub use Rattle.prem_tree.specs.declared.checked.Checked.{Checked}
pub use Rattle.prem_tree.specs.declared.resolve.resolved.Step.{Row_of-Step, Step, end_of-Step, more_of-Step}
pub use Rattle.prem_tree.specs.declared.resolve.resolved.Step.TheVariants.{Block', Call, For', If', Input, Output, SetElement, SetLocal, SetScalar, While'}
pub use Rattle.prem_word.specs.Ranges.{Span, from_to, span_of}
pub use Rattle.std.specs.Option.{option_map}
pub use Rattle.std.specs.Prelude.{List, Option, map}
