-- The text that tells of a run of two cores.
use Rattle.std.specs.Prelude.{ℕ, ◌+◌, ◌==◌, Bool, if◌then◌else◌, List, [], ◌++◌, codes, decimal}
use Rattle.std.specs.List.{flat_map}
use Rattle.prem_image.specs.declared.image.TaskRecord.{TaskRecord}
use Rattle.prem_image.specs.declared.image.DeviceRecord.{DeviceRecord}
use Rattle.prem_cycle.specs.declared.state.Stop.{Stop}
use Rattle.prem_cycle.specs.declared.state.Stop.TheVariants.{Finished, Trap, LogFull, Limit}
use Rattle.prem_cycle.specs.State.{Counts}
use Rattle.prem_cycle.specs.FactsOf.{Report}
use Rattle.prem_pair.specs.declared.cycles.state.PairStop.{PairStop}
use Rattle.prem_pair.specs.declared.cycles.state.PairStop.TheVariants as pair
use Rattle.prem_report.specs.Report.{tasks_text, interval_line, transfer_line, counts_text, devices_text, stop_line}

-- ---- a core

abbrev pub core_line : ℕ → List ℕ
core_line core = codes "core " ++ (decimal core ++ codes "\n")

-- its tasks with their outputs, and where times are told its intervals
abbrev pub core_text : ℕ → List TaskRecord → Bool → Report → List ℕ
core_text core tasks times r = core_line core ++ (tasks_text tasks r.tasks ++ (if times then flat_map (interval_line tasks) r.intervals else []))

-- ---- both

-- what both have counted; clashes are counted with core 0 alone
abbrev pub both_counts : Counts → Counts → Counts
both_counts n m =
    record {
      hits = n.hits + m.hits;
      misses = n.misses + m.misses;
      writebacks = n.writebacks + m.writebacks;
      exec_misses = n.exec_misses + m.exec_misses;
      memory_stores = n.memory_stores + m.memory_stores;
      clashes = n.clashes + m.clashes;
      overruns = n.overruns + m.overruns;
    }

-- why the run stopped, as one core's run would tell it
abbrev pub stop_in : PairStop → Stop
stop_in pair.Finished = Finished
stop_in (pair.Trap core task pc cause) = Trap task pc cause
stop_in (pair.LogFull core length) = LogFull length
stop_in pair.Limit = Limit

-- and whose tasks it speaks of
abbrev pub stop_tasks : List TaskRecord → List TaskRecord → PairStop → List TaskRecord
stop_tasks tasks others pair.Finished = tasks
stop_tasks tasks others (pair.Trap core task pc cause) = if core == 1 then others else tasks
stop_tasks tasks others (pair.LogFull core length) = tasks
stop_tasks tasks others pair.Limit = tasks

abbrev pub pair_stop_line : List TaskRecord → List TaskRecord → PairStop → List ℕ
pair_stop_line tasks others stop = stop_line (stop_tasks tasks others stop) (stop_in stop)

-- the tasks of core 0 and its devices, and the tasks of core 1
abbrev pub pair_text : List TaskRecord → List TaskRecord → List DeviceRecord → Bool → ℕ → Report → Report → PairStop → List ℕ
pair_text tasks others devices times cycles r q stop =
    core_text 0 tasks times r
    ++ (core_text 1 others times q
    ++ ((if times then flat_map (transfer_line devices) r.transfers else [])
    ++ (counts_text cycles (both_counts r.counts q.counts)
    ++ (devices_text devices r ++ pair_stop_line tasks others stop))))
