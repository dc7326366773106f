-- The next part of a placing, over the values of the code.
use Rattle.std.specs.Prelude.{slice_index_or}
use Rattle.std.specs.Int.{next_multiple_of}
use Rattle.std.specs.List.{AllByRecursion}
use Rattle.std.proofs.Common.{◌≡◌, ℕ, ◌+◌, ◌*◌, ◌<◌, ◌≤◌, List, [], ◌∷◌, ◌++◌, Option, None, Some, Err, Vec, Global, ap, sym, ◌∙◌, subst, arith, length, length-append, map, drop, replicate}
use Rattle.std.proofs.lemmas.List.{length-map}
use Rattle.prem_list.specs.Sequence.{items_of}
use Rattle.prem_plant.specs.declared.plant.Plant.{Plant}
use Rattle.prem_plant.specs.declared.layout.PartSize.{PartSize}
use Rattle.prem_plant.specs.Places.{Extent, end_behind}
use Rattle.prem_plant.specs.Apart.{rise_from}
use Rattle.prem_plant.specs.Ranges.{IsPlant}
use Rattle.prem_foot.specs.declared.want.Want.{Want}
use Rattle.prem_color.specs.declared.moving.Placing.{Placing}
use Rattle.prem_color.specs.declared.room.Room.{Room as RoomInMemory}
use Rattle.prem_color.specs.declared.room.CacheShape.{CacheShape}
use Rattle.prem_color.specs.Offsets.{PartRange, moved_place, least_from, offset_of, moved_from, moved_places}
use Rattle.prem_color.specs.Rooms.{Room, no_lines, ranges_of_part, all_fit, rooms_after, AreRooms, LiesIn, no_part}
use Rattle.prem_color.specs.RoomOf.{room_of}
use Rattle.prem_color.specs.WantOf.{ranges_in}
use Rattle.prem_color.specs.Claims.{Share, shares_from}
use Rattle.prem_color.specs.Shares.{shares_fit, with_shares}
use Rattle.prem_color.specs.Placing.{EndsBy, AllEndBy, IsPlacing}
use Rattle.prem_color.proofs.Sharing.{offset_for_all, take_same}
use Rattle.prem_color.proofs.Steps.{rooms_next, all_wide_end, end_last, rise_last, each_last, offset_passes, offset_same, moved_more, moved_some, moved_none, next_is, no_rooms, nothing_ends}

-- ---- the start

pub nothing_placed : (p : Plant) (wants : List Want) (sizes : List PartSize) (places : Vec Extent Global) (rooms : Vec RoomInMemory Global) →
    IsPlant p → places.items ≡ [] → map room_of rooms.items ≡ replicate (length wants) no_lines →
    IsPlacing p (ranges_in wants) sizes 0 (record { places = places; at = 0; rooms = rooms })
nothing_placed p wants sizes places rooms plant none are =
    let sets = plant.sets in
    let long : length wants ≡ length (ranges_in wants) = sym (length-map wants (λ (w : Want). items_of w.ranges)) in
    let empty : AreRooms p.line p.sets p.«ways» [] (replicate (length wants) no_lines) (ranges_in wants) = no_rooms p (ranges_in wants) (length wants) (let high = sets.1 in high) long in
    record {
      count = ap length none;
      end = ap (end_behind 0) none;
      rise = ap (rise_from 0) none;
      each = subst (λ (ps : List Extent). AllByRecursion (EndsBy 0) ps) (sym none) tt;
      ends = subst (λ (ps : List Extent). AllEndBy 0 ps (ranges_in wants)) (sym none) (nothing_ends (ranges_in wants));
      rooms = subst (λ (ps : List Extent). AreRooms p.line p.sets p.«ways» ps (map room_of rooms.items) (ranges_in wants)) (sym none)
          (subst (λ (rs : List Room). AreRooms p.line p.sets p.«ways» [] rs (ranges_in wants)) (sym are) empty);
      whole = ap (λ (ps : List Extent). moved_from p (ranges_in wants) ps 0 sizes) none;
    }

-- ---- one part more

-- what the cache of a plant is, where the next part may stand, and which wants have ranges in it
pub record IsNext (p : Plant) (ws : List (List PartRange)) (s : Placing) (part : PartSize) (n : ℕ) (k : CacheShape) (base : ℕ) (shares : List Share) : Type 0 where
  pub plant : IsPlant p
  pub line : k.line ≡ p.line
  pub sets : k.sets ≡ p.sets
  pub «ways» : k.«ways» ≡ p.«ways»
  pub base_is : base ≡ next_multiple_of s.at part.align
  pub shares_are : shares ≡ shares_from n 0 ws
  pub long : length (map room_of s.rooms.items) ≡ length ws

module _ (p : Plant) (ws : List (List PartRange)) (sizes : List PartSize) (s : Placing) (part : PartSize) (n : ℕ) (k : CacheShape) (base : ℕ)
    (shares : List Share) (i : IsNext p ws s part n k base shares) (h : IsPlacing p ws sizes n s) where
  abbrev rooms : List Room
  rooms = map room_of s.rooms.items

  abbrev places : List Extent
  places = s.places.items

  offset_is : (found : Option ℕ) → found ≡ least_from (λ o. shares_fit k.line k.sets k.«ways» (base + o * k.line) rooms shares) 0 k.sets → found ≡ offset_of p ws places s.at part
  offset_is found e =
      let sets = i.plant.sets in
      let line = i.plant.line in
      e ∙ ap (λ x. least_from (λ o. shares_fit x k.sets k.«ways» (base + o * x) rooms shares) 0 k.sets) i.line
      ∙ ap (λ x. least_from (λ o. shares_fit p.line x k.«ways» (base + o * p.line) rooms shares) 0 x) i.sets
      ∙ ap (λ x. least_from (λ o. shares_fit p.line p.sets x (base + o * p.line) rooms shares) 0 p.sets) i.«ways»
      ∙ ap (λ x. least_from (λ o. shares_fit p.line p.sets p.«ways» (x + o * p.line) rooms shares) 0 p.sets) i.base_is
      ∙ ap (λ (x : List Share). least_from (λ o. shares_fit p.line p.sets p.«ways» (next_multiple_of s.at part.align + o * p.line) rooms x) 0 p.sets) i.shares_are
      ∙ offset_for_all p.line p.sets p.«ways» (next_multiple_of s.at part.align) n rooms ws i.long
      ∙ ap (λ m. least_from (λ o. all_fit p.line p.sets p.«ways» (next_multiple_of s.at part.align + o * p.line) rooms (map (ranges_of_part m) ws)) 0 p.sets) (sym h.count)
      ∙ offset_same p ws places s.at part rooms sets.0 sets.1 (let low = line.0 in omega (arith, low)) h.rooms h.ends

  pub no_offset : (found : Option ℕ) → n < length sizes → part ≡ slice_index_or sizes n no_part →
      found ≡ least_from (λ o. shares_fit k.line k.sets k.«ways» (base + o * k.line) rooms shares) 0 k.sets → found ≡ None → moved_places p ws sizes ≡ Err n
  no_offset found lt is e none =
      sym h.whole ∙ moved_more p ws sizes places s.at n part lt is
      ∙ moved_none (offset_of p ws places s.at part) (length places) _ (sym (offset_is found e) ∙ none)
      ∙ ap Err h.count

  pub placed_next : (found : Option ℕ) (o : ℕ) (next : Placing) → n < length sizes → part ≡ slice_index_or sizes n no_part → AllByRecursion (AllByRecursion (LiesIn sizes)) ws →
      found ≡ least_from (λ o. shares_fit k.line k.sets k.«ways» (base + o * k.line) rooms shares) 0 k.sets → found ≡ Some o →
      next.at ≡ base + o * k.line + part.size → next.places.items ≡ places ++ (base + o * k.line, next.at) ∷ [] →
      map room_of next.rooms.items ≡ with_shares k.line k.sets k.«ways» (base + o * k.line) rooms shares → IsPlacing p ws sizes (n + 1) next
  placed_next found o next lt is lies e some end put took =
      let sets = i.plant.sets in
      let line = i.plant.line in
      let pos : 0 < p.line = (let x = line.0 in omega (arith, x)) in
      let pl : Extent = moved_place p.line s.at part o in
      let start_is : base + o * k.line ≡ pl.0 = ap (λ x. x + o * k.line) i.base_is ∙ ap (λ x. next_multiple_of s.at part.align + o * x) i.line in
      let end_is : next.at ≡ pl.1 = end ∙ ap (λ x. x + part.size) start_is in
      let pair : (base + o * k.line, next.at) ≡ pl = ap (λ x. (x, next.at)) start_is ∙ ap (λ x. (pl.0, x)) end_is in
      let wide : next.places.items ≡ places ++ pl ∷ [] = put ∙ ap (λ (q : Extent). places ++ q ∷ []) pair in
      let at_is : offset_of p ws places s.at part ≡ Some o = sym (offset_is found e) ∙ some in
      let behind : s.at ≤ pl.0 = (let x = next_is s.at part.align in omega (arith, x)) in
      let forward : pl.0 ≤ pl.1 = omega arith in
      let further : s.at ≤ pl.1 = omega (arith, behind, forward) in
      let size : pl.1 ≡ pl.0 + (slice_index_or sizes (length places) no_part).size = ap (λ (q : PartSize). pl.0 + q.size) (is ∙ ap (λ m. slice_index_or sizes m no_part) (sym h.count)) in
      let took_is : map room_of next.rooms.items ≡ rooms_after p.line p.sets p.«ways» pl.0 rooms (map (ranges_of_part (length places)) ws) =
      took ∙ ap (λ x. with_shares x k.sets k.«ways» (base + o * k.line) rooms shares) i.line ∙ ap (λ x. with_shares p.line x k.«ways» (base + o * k.line) rooms shares) i.sets
      ∙ ap (λ x. with_shares p.line p.sets x (base + o * k.line) rooms shares) i.«ways» ∙ ap (λ x. with_shares p.line p.sets p.«ways» x rooms shares) start_is
      ∙ ap (λ (x : List Share). with_shares p.line p.sets p.«ways» pl.0 rooms x) i.shares_are ∙ take_same p.line p.sets p.«ways» pl.0 n rooms ws i.long
      ∙ ap (λ m. rooms_after p.line p.sets p.«ways» pl.0 rooms (map (ranges_of_part m) ws)) (sym h.count) in
      let are : AreRooms p.line p.sets p.«ways» (places ++ pl ∷ []) (rooms_after p.line p.sets p.«ways» pl.0 rooms (map (ranges_of_part (length places)) ws)) ws =
      rooms_next p sets.0 sets.1 pos places s.at pl behind rooms ws h.rooms h.ends (offset_passes p ws places s.at part o at_is) in
      let count : length (places ++ pl ∷ []) ≡ n + 1 = (let a = length-append places (pl ∷ []) in let b = h.count in omega (arith, a, b)) in
      record {
        count = ap length wide ∙ count;
        end = ap (end_behind 0) wide ∙ end_last 0 places pl ∙ sym end_is;
        rise = ap (rise_from 0) wide ∙ rise_last 0 places pl h.rise (let x = h.end in omega (arith, x, behind)) forward;
        each = subst (λ (a : ℕ). AllByRecursion (EndsBy a) next.places.items) (sym end_is)
            (subst (λ (ps : List Extent). AllByRecursion (EndsBy pl.1) ps) (sym wide) (each_last s.at places pl h.each further forward));
        ends = subst (λ (a : ℕ). AllEndBy a next.places.items ws) (sym end_is)
            (subst (λ (ps : List Extent). AllEndBy pl.1 ps ws) (sym wide) (all_wide_end sizes places pl s.at ws further size lies h.ends));
        rooms = subst (λ (ps : List Extent). AreRooms p.line p.sets p.«ways» ps (map room_of next.rooms.items) ws) (sym wide)
            (subst (λ (rs : List Room). AreRooms p.line p.sets p.«ways» (places ++ pl ∷ []) rs ws) (sym took_is) are);
        whole = ap (λ (a : ℕ). moved_from p ws next.places.items a (drop (n + 1) sizes)) end_is ∙ ap (λ (ps : List Extent). moved_from p ws ps pl.1 (drop (n + 1) sizes)) wide
            ∙ sym (moved_some (offset_of p ws places s.at part) (length places) o
            (λ o. moved_from p ws (places ++ moved_place p.line s.at part o ∷ []) (moved_place p.line s.at part o).1 (drop (n + 1) sizes)) at_is)
            ∙ sym (moved_more p ws sizes places s.at n part lt is) ∙ h.whole;
      }
