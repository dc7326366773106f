-- The exit statuses of programs.
use Rattle.std.specs.Prelude.{ℕ}
use Rattle.prem_answer.specs.declared.status.Status.{Status}
use Rattle.prem_answer.specs.declared.status.Status.TheVariants as status
use Rattle.prem_answer.specs.declared.status.PlainStatus.{PlainStatus}
use Rattle.prem_answer.specs.declared.status.PlainStatus.TheVariants.{Done, Refused, Usage, Form, ReadFault, WriteFault, OutOfMemory, Missing}

-- the exit status
abbrev pub plain_code : PlainStatus → ℕ
plain_code Done = 0
plain_code Refused = 1
plain_code Usage = 2
plain_code Form = 3
plain_code ReadFault = 4
plain_code WriteFault = 5
plain_code OutOfMemory = 6
plain_code Missing = 7

-- an answer's status where no answer tells of a trap
abbrev pub plain_status : Status → PlainStatus
plain_status status.Done = Done
plain_status status.Refused = Refused
plain_status status.Usage = Usage
plain_status status.Form = Form
plain_status status.ReadFault = ReadFault
plain_status status.WriteFault = WriteFault
plain_status status.OutOfMemory = OutOfMemory
plain_status status.Missing = Missing
plain_status status.Trap = Done
