-- What the files of this crate's proofs name of other modules, so that each imports it from one place.
pub use Rattle.prem_lru.specs.Access.{IsWidth}
pub use Rattle.prem_lru.specs.Ages.{AreAgesOf, IsFirstOf, age_in, older, order_from, order_of_ages, orders_in, place_in, way_from}
pub use Rattle.prem_lru.specs.CacheFields.{IsWhole, cache_state}
pub use Rattle.prem_lru.specs.CacheState.{AreDistinct, CacheState, IsCache, IsClean, IsEntry, IsSet, Touched, byte_in, empty_cache, entry_of, is_resident, set_of, store_of, touch_of}
pub use Rattle.prem_lru.specs.CacheState.{touched_by, view_of, with_set}
pub use Rattle.prem_lru.specs.Entries.{Entry, ReplacementRule, SetTouch, brought_in, filled, find_line, has_line, hit_in, in_place, last_entry, no_entry, replaced, to_front, touch_set}
pub use Rattle.prem_lru.specs.Entries.{without_line, write_line, written, written_back}
pub use Rattle.prem_lru.specs.FifoFields.{order_of_turn, orders_of_turns}
pub use Rattle.prem_lru.specs.Flat.{HasNoWay, HasSlots, IsFlat, IsFree, IsWayOf, entries_from, entries_in, flat_state, no_line, slot_entry, slot_of}
pub use Rattle.prem_lru.specs.LruFields.{AreAges, orders_of_ages}
pub use Rattle.prem_lru.specs.Order.{lines_in, lines_of}
pub use Rattle.prem_lru.specs.Rules.{IsRule, MovesBy, rule_of}
pub use Rattle.prem_lru.specs.Settled.{IsSettled}
pub use Rattle.prem_lru.specs.Splice.{bytes_of, line_bytes, spliced}
pub use Rattle.prem_plant.proofs.OrderLemmas.Members.{in_head, in_other, in_tail, in_without, once_without, take_past, without-absent}
pub use Rattle.prem_plant.proofs.OrderLemmas.Ways.{few_ways, free_is, hit_ways, in_ways, length-ways, many_ways, missed_after, missed_ways, no_ways, not_in_ways, there_at, way_absent}
pub use Rattle.prem_plant.proofs.OrderLemmas.Ways.{way_leaves, way_of_last, without_last}
pub use Rattle.prem_plant.proofs.Powers.{line_of_words, lines_whole, power_of_two}
pub use Rattle.prem_plant.specs.Order.Order.{AreOnce, OrderRule, cache_after, fifo, is_in, lru, order_after, order_of, without}
pub use Rattle.prem_plant.specs.Order.Orders.{AreWays, Orders, after_hit_of, after_miss_of, free_from, no_orders, order_at, way_for, ways_below, with_order}
pub use Rattle.prem_plant.specs.Order.Rules.{IsOfKind, order_rule_of}
pub use Rattle.prem_plant.specs.Ranges.{IsPlant}
pub use Rattle.prem_plant.specs.declared.plant.Plant.{Plant}
pub use Rattle.prem_plant.specs.declared.plant.Replacement.{Replacement}
pub use Rattle.prem_plant.specs.declared.plant.Replacement.TheVariants.{Fifo, Lru}
pub use Rattle.prem_word.specs.Bytes.{number_at, put_byte, put_number}
pub use Rattle.std.proofs.Common.{ap, length, refl, subst, sym, ◌∙◌}
pub use Rattle.std.proofs.lemmas.Bool.{cases_Bool, cases_eq, cases_lt, cases_order, cond_both, eq-eqb, eqb-true, le-ltb, lt-ltb, ltb-false, ltb-true, ne_eqb}
pub use Rattle.std.proofs.lemmas.List.{append-nil, append_assoc, drop-drop, drop-take, drop_all, drop_at, ext_get_or, get_or-append_right, get_or-drop, get_or-map, get_or-replicate}
pub use Rattle.std.proofs.lemmas.List.{get_or-set_other, get_or-set_same, get_or-take, get_or_append_left, get_or_default, length-append, length-drop, length-map, length-replicate}
pub use Rattle.std.proofs.lemmas.List.{length-set, length-take, length-take-le, map-set, same_lists, set-get_or, take-map, take-take, take_all, take_at, take_more, with_items_is}
pub use Rattle.std.proofs.lemmas.Nat.{and_mask, div-add-mod', div-mul-add, div_below, mod-mul-add, mod_below, mul-le, pow_below}
pub use Rattle.std.specs.List.{AllByRecursion, range_with_len}
pub use Rattle.std.specs.Prelude.{IfSome, IsTrue, MatchOption, bit_and, is_some, option_to_list, replicate, slice_index, slice_set}
