-- The fields of a run in memory, and what they keep.
use Rattle.std.specs.Prelude.{◌≡◌, ℕ, ◌<◌, ◌≤◌, All, List, [], length, slice_index_or}
use Rattle.prem_list.specs.declared.Sequence.{Sequence}
use Rattle.prem_list.specs.Sequence.{items_of, room_of}
use Rattle.prem_cycle.specs.State.{task_in}
use Rattle.prem_cycle.specs.FactsOf.{inputs_size}
use Rattle.prem_cycle.specs.Runs.Inputs.Taken.{TakesFrom}
use Rattle.prem_machine.specs.States.{Running}
use Rattle.prem_set.specs.Run.Views.{lists_of}
use Rattle.prem_mail.specs.declared.feed.Feed.{Feed}
use Rattle.prem_mail.specs.declared.mail.Mail.TheInside.{Inside}
use Rattle.prem_mail.specs.Mailing.{Mailing}

abbrev pub mailing_of : {P : Type 0} → Inside P → Mailing
mailing_of m = record {
  setup = m.machine.setup;
  requests = m.machine.requests;
  feeds = m.feeds.items;
  mailed = record { state = m.machine.state; mail = record { lists = lists_of m.words; lost = m.lost.items } };
}

-- a list for each task, with all its words, the taken ones too, and room for as many as it may have; a feed goes to one of the tasks, and no more
-- values are lost than transfers have ended
pub record HoldsMail (r : Running) (feeds : List Feed) (words : Sequence (Sequence ℕ)) (lost : List ℕ) : Type 0 where
  pub count : length (items_of words) ≡ length r.setup.tasks
  pub counts : length lost ≡ length r.setup.tasks
  pub tasks : length r.state.work.tasks ≡ length r.setup.tasks
  pub rooms : All (λ list. inputs_size ≤ room_of list) (items_of words)
  pub taken : (k : ℕ) → k < length (items_of words) → TakesFrom (slice_index_or (lists_of words) k []) (task_in r.state.work k)
  pub known : All (λ (f : Feed). f.task < length r.setup.tasks) feeds
  pub few : All (λ n. n ≤ length r.state.log.transfers) lost

abbrev pub IsMail : {P : Type 0} → Inside P → Type 0
IsMail m = HoldsMail m.machine m.feeds.items m.words m.lost.items
