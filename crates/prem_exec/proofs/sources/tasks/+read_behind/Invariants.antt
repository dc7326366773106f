use Rattle.std.proofs.Common.{length}
use Rattle.prem_exec.proofs.sources.tasks.+read_behind.Given as goal

abbrev pub decreases-read_behind : goal.decreases-read_behind
decreases-read_behind g l = length l.entries.now
