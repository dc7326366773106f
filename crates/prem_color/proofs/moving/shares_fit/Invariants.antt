use Rattle.std.specs.List.{AllByRecursion}
use Rattle.std.proofs.Common.{◌≡◌, drop, length, map}
use Rattle.prem_color.specs.RoomOf.{room_of}
use Rattle.prem_color.specs.Claims.{share_of}
use Rattle.prem_color.specs.Shares.{IsOf, shares_fit}
use Rattle.prem_color.proofs.moving.shares_fit.Given as goal

-- those from here on have room exactly where all have
abbrev pub invariant-loop-share : goal.invariant-loop-share
invariant-loop-share l =
    record {
      rest : shares_fit l.cache.line l.cache.sets l.cache.«ways» l.address (map room_of l.rooms) (map share_of (drop l.share-index l.shares))
          ≡ shares_fit l.cache.line l.cache.sets l.cache.«ways» l.address (map room_of l.rooms) (map share_of l.shares);
      there : AllByRecursion (IsOf (length l.rooms)) (map share_of (drop l.share-index l.shares));
    }
