use Rattle.std.specs.Int.{next_multiple_of}
use Rattle.std.proofs.Common.{◌≡◌, ◌+◌, ◌*◌, ◌∙◌, ap, sym, List, length, map, Option, ℕ}
use Rattle.std.proofs.lemmas.List.{length-map}
use Rattle.prem_list.specs.Sequence.{items_of}
use Rattle.prem_foot.specs.declared.want.Want.{Want}
use Rattle.prem_color.specs.declared.claims.Share.{Share as ShareInMemory}
use Rattle.prem_color.specs.declared.room.Room.{Room as RoomInMemory}
use Rattle.prem_color.specs.Offsets.{PartRange, least_from}
use Rattle.prem_color.specs.RoomOf.{room_of}
use Rattle.prem_color.specs.Claims.{Share, share_of, grouped}
use Rattle.prem_color.specs.Shares.{shares_fit, with_shares}
use Rattle.prem_color.specs.WantOf.{ranges_in}
use Rattle.prem_color.specs.declared.moving.Placing.{Placing}
use Rattle.prem_color.proofs.Placings.{IsNext, no_offset, placed_next}
use Rattle.prem_color.proofs.Sharing.{given, shares_are}
use Rattle.prem_color.proofs.moving.place_next.Goals as goal

pub offset-requires-clause-there : goal.offset-requires-clause-there
offset-requires-clause-there c =
    let ws : List (List PartRange) = ranges_in c.args.wants.now in
    let long : length c.args.s.rooms.items ≡ length ws = c.requires.rooms ∙ sym (length-map c.args.wants.now (λ (w : Want). items_of w.ranges)) in
    given (length c.deref.result.now) c.args.n c.deref-2.result.now ws (ap length c.deref.ensures.value ∙ long)
    (ap (map share_of) c.deref-2.ensures.value ∙ c.in_ok-shares.ensures ∙ ap grouped c.requires.claims ∙ shares_are c.args.n 0 ws)

pub take_all-requires-clause-there : goal.take_all-requires-clause-there
take_all-requires-clause-there c =
    let ws : List (List PartRange) = ranges_in c.args.wants.now in
    let long : length c.args.s.rooms.items ≡ length ws = c.requires.rooms ∙ sym (length-map c.args.wants.now (λ (w : Want). items_of w.ranges)) in
    given (length c.args.s.rooms.items) c.args.n c.deref-3.result.now ws long
    (ap (map share_of) c.deref-3.ensures.value ∙ c.in_ok-shares.ensures ∙ ap grouped c.requires.claims ∙ shares_are c.args.n 0 ws)

pub returns-in_default-clause-placing : goal.returns-in_default-clause-placing
returns-in_default-clause-placing c = λ sizes lt is lies h.
    let k = c.cache_of-cache.result in
    let base : ℕ = c.next_multiple_of-base.result in
    let ws : List (List PartRange) = ranges_in c.args.wants.now in
    let shares : List Share = map share_of c.in_ok-shares.shares.items in
    let next : IsNext c.args.p.now ws c.args.s c.args.part c.args.n k base shares = record {
      plant = c.requires.plant;
      line = c.cache_of-cache.ensures.line;
      sets = c.cache_of-cache.ensures.sets;
      «ways» = c.cache_of-cache.ensures.«ways»;
      base_is = c.next_multiple_of-base.ensures.value ∙ ap (λ a. next_multiple_of c.args.s.at a) c.from.ensures;
      shares_are = c.in_ok-shares.ensures ∙ ap grouped c.requires.claims ∙ shares_are c.args.n 0 ws;
      long = length-map c.args.s.rooms.items room_of ∙ c.requires.rooms ∙ sym (length-map c.args.wants.now (λ (w : Want). items_of w.ranges));
    } in
    let rooms : List RoomInMemory → Option ℕ = λ rs. least_from (λ o. shares_fit k.line k.sets k.«ways» (base + o * k.line) (map room_of rs) (map share_of c.deref-2.result.now)) 0 k.sets in
    let others : List ShareInMemory → Option ℕ = λ ss. least_from (λ o. shares_fit k.line k.sets k.«ways» (base + o * k.line) (map room_of c.args.s.rooms.items) (map share_of ss)) 0 k.sets in
    let found : c.in_ok-o.field-0 ≡ least_from (λ o. shares_fit k.line k.sets k.«ways» (base + o * k.line) (map room_of c.args.s.rooms.items) shares) 0 k.sets =
    c.in_ok-o.ensures.least ∙ ap rooms c.deref.ensures.value ∙ ap others c.deref-2.ensures.value in
    no_offset c.args.p.now ws sizes c.args.s c.args.part c.args.n k base shares next h c.in_ok-o.field-0 lt is found c.in_default.is

pub returns-clause-placing : goal.returns-clause-placing
returns-clause-placing c = λ sizes lt is lies h.
    let k = c.cache_of-cache.result in
    let base : ℕ = c.next_multiple_of-base.result in
    let o : ℕ = c.in-Some.o in
    let ws : List (List PartRange) = ranges_in c.args.wants.now in
    let shares : List Share = map share_of c.in_ok-shares.shares.items in
    let i : IsNext c.args.p.now ws c.args.s c.args.part c.args.n k base shares = record {
      plant = c.requires.plant;
      line = c.cache_of-cache.ensures.line;
      sets = c.cache_of-cache.ensures.sets;
      «ways» = c.cache_of-cache.ensures.«ways»;
      base_is = c.next_multiple_of-base.ensures.value ∙ ap (λ a. next_multiple_of c.args.s.at a) c.from.ensures;
      shares_are = c.in_ok-shares.ensures ∙ ap grouped c.requires.claims ∙ shares_are c.args.n 0 ws;
      long = length-map c.args.s.rooms.items room_of ∙ c.requires.rooms ∙ sym (length-map c.args.wants.now (λ (w : Want). items_of w.ranges));
    } in
    let rooms : List RoomInMemory → Option ℕ = λ rs. least_from (λ o. shares_fit k.line k.sets k.«ways» (base + o * k.line) (map room_of rs) (map share_of c.deref-2.result.now)) 0 k.sets in
    let others : List ShareInMemory → Option ℕ = λ ss. least_from (λ o. shares_fit k.line k.sets k.«ways» (base + o * k.line) (map room_of c.args.s.rooms.items) (map share_of ss)) 0 k.sets in
    let found : c.in_ok-o.field-0 ≡ least_from (λ o. shares_fit k.line k.sets k.«ways» (base + o * k.line) (map room_of c.args.s.rooms.items) shares) 0 k.sets =
    c.in_ok-o.ensures.least ∙ ap rooms c.deref.ensures.value ∙ ap others c.deref-2.ensures.value in
    let took : map room_of c.take_all.new.rooms.items ≡ with_shares k.line k.sets k.«ways» (base + o * k.line) (map room_of c.args.s.rooms.items) shares =
    c.in_ok-take_all.ensures.taken
    ∙ ap (λ (ss : List ShareInMemory). with_shares k.line k.sets k.«ways» (base + o * k.line) (map room_of c.args.s.rooms.items)
    (map share_of ss)) c.deref-3.ensures.value in
    let next : Placing = record { places = c.push.new.self; at = base + o * k.line + c.from-2.result; rooms = c.take_all.new.rooms } in
    placed_next c.args.p.now ws sizes c.args.s c.args.part c.args.n k base shares i h c.in_ok-o.field-0 o next lt is lies found c.in-Some.is
    (ap (λ z. base + o * k.line + z) c.from-2.ensures) c.in_ok-push.ensures.items took
