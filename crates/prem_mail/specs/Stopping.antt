-- Why a run stops on its way.
use Rattle.std.specs.Prelude.{Bool, Option, None, Some, if◌then◌else◌}
use Rattle.prem_cycle.specs.declared.state.Stop.{Stop}
use Rattle.prem_cycle.specs.declared.state.Stop.TheVariants.{Finished, Trap, LogFull, Limit}

-- of a reason that may be a limit: that one counts only if it is the last
abbrev pub stop_unless_limit : Stop → Bool → Option Stop
stop_unless_limit Finished last = Some Finished
stop_unless_limit (Trap task pc cause) last = Some (Trap task pc cause)
stop_unless_limit (LogFull length) last = Some (LogFull length)
stop_unless_limit Limit last = if last then Some Limit else None
