use Rattle.prem_cycle.proofs.RunsLemmas.InputsLemmas.Taken.{words_are_taken_in_order, room_is_of_the_list}
use Rattle.prem_cycle.proofs.runs.inputs.words_are_taken_in_order.Goals as goal

pub returns-clause-taken : goal.returns-clause-taken
returns-clause-taken c = words_are_taken_in_order

pub returns-clause-room : goal.returns-clause-room
returns-clause-room c = room_is_of_the_list
