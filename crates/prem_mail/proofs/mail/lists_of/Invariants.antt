use Rattle.std.proofs.Common.{◌≡◌, ◌≤◌, All, length, map, take}
use Rattle.prem_list.specs.Sequence.{items_of, room_of}
use Rattle.prem_cycle.specs.FactsOf.{inputs_size}
use Rattle.prem_set.specs.Run.Views.{lists_of}
use Rattle.prem_mail.proofs.mail.lists_of.Given as goal

abbrev pub invariant-loop-list : goal.invariant-loop-list
invariant-loop-list l =
    record {
      lists : lists_of l.lists ≡ map (λ list. items_of list) (take l.list-index l.words);
      count : length (items_of l.lists) ≡ l.list-index;
      room : room_of l.lists ≡ length l.words;
      rooms : All (λ list. inputs_size ≤ room_of list) (items_of l.lists);
    }
