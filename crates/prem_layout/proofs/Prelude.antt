-- What the files of this crate's proofs name of other modules, so that each imports it from one place.
pub use Rattle.prem_asm.specs.Pieces.{Pieces, address_code, address_of, address_weight, branch_of, call_to, either, followed, jump_weight, lower, no_pieces, repeat, size_of, skip_words}
pub use Rattle.prem_asm.specs.Pieces.{straight, upper, weight, weighted, words}
pub use Rattle.prem_isa.specs.Decode.{Fits, cost_of, word_of}
pub use Rattle.prem_isa.specs.declared.instr.Instr.{Instr}
pub use Rattle.prem_isa.specs.declared.instr.Instr.TheVariants.{Jalr, Op, OpImm}
pub use Rattle.prem_layout.specs.Bounds.{CodeTable, JobBound, costs_of, job_weight, limit_of, part_weight, start_code, weight_at, weight_listed}
pub use Rattle.prem_layout.specs.Footprint.{TaskPlaces, code_range, first_line, is_touched, last_line_end, line_end, lines_of, no_place, numbers_from, ranges_of, region_range, stack_range}
pub use Rattle.prem_layout.specs.Footprint.{touches}
pub use Rattle.prem_layout.specs.Image.{device_records, greatest_end, image_of}
pub use Rattle.prem_layout.specs.Laws.{HasByteIn, IsAmong, LinesAreExact, PartsMayBePlaced, PassesAreFew, PathsAreExact, RisesFrom, SomeHasByteIn, StubsHaveTheirSize}
pub use Rattle.prem_layout.specs.Parts.{Passes, Sized, area_parts, code_part, code_parts, global_parts, once, part, part_count, parts_from, pass_count, passes_under, passes_words, set_parts}
pub use Rattle.prem_layout.specs.Parts.{start_size, stub_part, stub_parts, task_parts, times}
pub use Rattle.prem_layout.specs.Placed.{Block, Coded, Placed, blocks_from, blocks_of, parts_of, placed_at, placed_from, sized_of, task_places}
pub use Rattle.prem_layout.specs.Plans.{Plan, plan_before, plans_from, plans_of}
pub use Rattle.prem_layout.specs.Stretch.Paths.{Cuts, Path, Takes, crossed, each_behind, longest_among, longest_from, longest_of, marked_paths, only, part_paths, paths_at, paths_behind}
pub use Rattle.prem_layout.specs.Stretch.Paths.{paths_of, stretch_of, task_paths}
unfoldable pub use Rattle.prem_layout.specs.Stretch.Paths.{turning}
pub use Rattle.prem_layout.specs.Stretch.Sums.{IsLess, IsWithin, Sums, among, both, chained, cut, greatest, job_sums, marked_sums, most, no_sums, or_none, part_sums, summed, sums_at}
pub use Rattle.prem_layout.specs.Stretch.Sums.{sums_behind, sums_of_event, sums_of_path, sums_of_paths, taking, task_sums}
unfoldable pub use Rattle.prem_layout.specs.Stretch.Sums.{turned}
pub use Rattle.prem_layout.specs.Stubs.{passes_code, predictable_code, ranges_code, return_code, stub_around, stub_of}
pub use Rattle.prem_layout.specs.Template.Limits.{depth, excess, excess_of, first_of, first_place, frame, too_deep}
pub use Rattle.prem_layout.specs.Template.Parts.{codes_of, marked_count}
pub use Rattle.prem_plant.specs.Places.{AreApart, ArePlaces, Extent, HasWholeAreas, IsArea, default_places}
pub use Rattle.prem_plant.specs.Ranges.{Between, IsDevice, default_plant}
pub use Rattle.prem_plant.specs.declared.layout.PartKind.TheVariants.{Stack, Start}
pub use Rattle.prem_plant.specs.declared.layout.PartSize.{PartSize}
pub use Rattle.prem_plant.specs.declared.plant.Device.{Device}
pub use Rattle.prem_plant.specs.declared.plant.Plant.{Plant}
pub use Rattle.prem_plant.specs.declared.plant.Replacement.TheVariants.{Fifo, Lru}
pub use Rattle.prem_plant.specs.declared.plant.Target.{Target}
pub use Rattle.prem_plant.specs.declared.plant.Target.TheVariants.{Rv32i, Rv32im}
pub use Rattle.prem_syntax.proofs.Samples.{at, function, global, int, local, one_name, parameter, plain, region, statements, uint}
pub use Rattle.prem_syntax.specs.Resolve.{resolve}
pub use Rattle.prem_syntax.specs.Resolved.{Binary, Constant, Done, Element, Local, Resolved, Routine, Scalar, Term, Unary}
pub use Rattle.prem_syntax.specs.Syntax.{Expression, GlobalVariable, MarkText, ProgramText, Text, absent, assign, binary, block, bounded_while, call, counting_for, element, if_else, if_then}
pub use Rattle.prem_syntax.specs.Syntax.{input, many, no_statements, one, output, unary, variable}
pub use Rattle.prem_syntax.specs.declared.tree.Ty.TheVariants.{Int, Schar, Short, Uchar, Unsigned, Ushort, Void}
pub use Rattle.prem_syntax.specs.declared.tree.UnOp.TheVariants.{Flip, Neg, Not}
pub use Rattle.prem_word.specs.declared.kind.BinOp.TheVariants.{Add, And, AndAlso, Div, Eq, Ge, Gt, Le, Lt, Mul, Ne, Or, OrElse, Rem, Shl, Shr, Sub, Xor}
pub use Rattle.std.proofs.Math.Nat.{div-mul-le_self, mul-mod_left}
pub use Rattle.std.proofs.lemmas.Bool.{and_from, and_left, and_parts, and_right, cases_lt, cond_both, le-leb, le-ltb, leb-true, lt-leb, lt-ltb, ltb-false, ltb-true, or_cases}
pub use Rattle.std.proofs.lemmas.List.{length-drop, length-map}
pub use Rattle.std.proofs.lemmas.List.Elements.{All-cons, All-from_recursion, All-nil}
pub use Rattle.std.specs.List.{AllByRecursion, AllZip, flat_map}
pub use Rattle.std.specs.Prelude.{codes, filter, is_some, negsuc, pos, slice_index, slice_index_or, sum, ℤ, ⊤}
