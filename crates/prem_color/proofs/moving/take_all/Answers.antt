use Rattle.std.specs.List.{AllByRecursion}
use Rattle.std.proofs.Common.{◌≡◌, ◌∙◌, ◌+◌, ◌∷◌, List, ap, sym, subst, drop, length, map}
use Rattle.std.proofs.lemmas.List.{at_drop_more, length-set}
use Rattle.prem_color.specs.declared.claims.Share.{Share as ShareInMemory}
use Rattle.prem_color.specs.declared.room.Room.{Room as RoomInMemory}
use Rattle.prem_color.specs.Offsets.{PartRange}
use Rattle.prem_color.specs.RoomOf.{room_of}
use Rattle.prem_color.specs.Claims.{share_of}
use Rattle.prem_color.specs.Rooms.{room_after}
use Rattle.prem_color.specs.Shares.{IsOf, with_shares}
use Rattle.prem_color.proofs.Sharing.{took_one}
use Rattle.prem_color.proofs.moving.take_all.Goals as goal

pub loop-share-preserved : goal.loop-share-preserved
loop-share-preserved c =
    let k = c.args.cache in
    let shares = c.args.shares.now in
    let s = c.share-item.result in
    let rooms = c.loop-share.rooms.items in
    let before = c.index_mut.result.now in
    let next = c.take_one.new.room in
    let ss : List ShareInMemory = drop (c.loop-share.share-index + 1) shares in
    let head : drop c.loop-share.share-index shares ≡ s ∷ ss =
    at_drop_more (λ (xs : List ShareInMemory). xs) shares c.loop-share.share-index s c.loop-share-test.true ∙ ap (λ (x : ShareInMemory). x ∷ ss) (sym c.share-item.is) in
    let there : AllByRecursion (IsOf (length rooms)) (map share_of (s ∷ ss)) =
    subst (λ (xs : List ShareInMemory). AllByRecursion (IsOf (length rooms)) (map share_of xs)) head c.loop-share.invariant.there in
    let long = length-set rooms s.want next in
    record {
      long = long ∙ c.loop-share.invariant.long;
      there = subst (λ n. AllByRecursion (IsOf n) (map share_of ss)) (sym long) there.1;
      rest = took_one k.line k.sets k.«ways» c.args.address rooms s ss next before there.0
          (c.in_ok-take_one.ensures ∙ ap (λ (own : List PartRange). room_after k.line k.sets k.«ways» c.args.address (room_of before) own) c.deref.ensures.value
          ∙ ap (λ (r : RoomInMemory). room_after k.line k.sets k.«ways» c.args.address (room_of r) s.own.items) c.index_mut.ensures.value)
          ∙ ap (λ (xs : List ShareInMemory). with_shares k.line k.sets k.«ways» c.args.address (map room_of rooms) (map share_of xs)) (sym head)
          ∙ c.loop-share.invariant.rest;
    }
