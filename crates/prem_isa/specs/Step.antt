-- What comes of a word, decoded and executed at once, before memory is read.
use Rattle.std.specs.Prelude.{ℕ, ◌+◌, ◌<◌, List, Option, Some}
use Rattle.prem_word.specs.Bytes.{number_at}
use Rattle.prem_plant.specs.declared.plant.Target.{Target}
use Rattle.prem_isa.specs.declared.instr.Instr.{Instr}
use Rattle.prem_isa.specs.declared.effect.Phase.{Phase}
use Rattle.prem_isa.specs.declared.effect.Outcome.{Outcome}
use Rattle.prem_isa.specs.declared.effect.Outcome.TheVariants.{Trap, Done}
use Rattle.prem_isa.specs.declared.effect.AccessKind.TheVariants.{Stores as Written}
use Rattle.prem_isa.specs.declared.effect.Change.TheVariants.{Memory, Execute, End, Job}
use Rattle.prem_isa.specs.declared.step.Upshot.{Upshot}
use Rattle.prem_isa.specs.declared.step.Upshot.TheVariants.{Traps, Moves, Loads, Stores, Begins, Executes, Ends, Finishes, Takes, Puts}
use Rattle.prem_isa.specs.Alu.{load_size}
use Rattle.prem_isa.specs.Act.{goes, sets, loads, changes, takes, puts, act_fetched, fetched, list_with_register}
use Rattle.prem_isa.specs.Bounds.{IsPlaced}

-- what the instruction at a place does, if there is one
abbrev pub act_of : (target : Target) (size : ℕ) (view registers : ℕ → ℕ) (pc : ℕ) (phase : Phase) (input : ℕ) → Option Instr → Outcome
act_of target size view registers pc phase input i = act_fetched target size view registers pc phase input (fetched i)

-- the outcome that an upshot tells, with the bytes of memory and the word that a `pm.in` would take
abbrev pub told_by : (view : ℕ → ℕ) (pc input : ℕ) → Upshot → Outcome
told_by view pc input (Traps cause) = Trap cause
told_by view pc input (Moves rd value next) = sets next rd value
told_by view pc input (Loads op rd address next) = loads next op rd address (number_at view address (load_size op))
told_by view pc input (Stores address size value) =
    Done (record (goes (pc + 4)) {
      access = Some (record { kind = Written; address = address; size = size });
      stored = Some (record { address = address; size = size; value = value });
    })
told_by view pc input Begins = changes (pc + 4) Memory
told_by view pc input (Executes stated) = changes (pc + 4) (Execute stated)
told_by view pc input Ends = changes (pc + 4) End
told_by view pc input Finishes = changes (pc + 4) Job
told_by view pc input (Takes rd) = takes (pc + 4) rd input
told_by view pc input (Puts word) = puts (pc + 4) word

-- its register exists, and its data lies in memory
abbrev pub UpshotFits : ℕ → Upshot → Type 0
UpshotFits size (Traps cause) = Unit {0}
UpshotFits size (Moves rd value next) = rd < 32
UpshotFits size (Loads op rd address next) = (rd < 32) × IsPlaced size address (load_size op)
UpshotFits size (Stores address bytes value) = IsPlaced size address bytes
UpshotFits size Begins = Unit {0}
UpshotFits size (Executes stated) = Unit {0}
UpshotFits size Ends = Unit {0}
UpshotFits size Finishes = Unit {0}
UpshotFits size (Takes rd) = rd < 32
UpshotFits size (Puts word) = Unit {0}

-- ---- in place: an instruction that only writes a register and goes on is done, and any other one changes nothing yet

abbrev pub registers_moved : Upshot → List ℕ → List ℕ
registers_moved (Traps cause) registers = registers
registers_moved (Moves rd value next) registers = list_with_register rd value registers
registers_moved (Loads op rd address next) registers = registers
registers_moved (Stores address size value) registers = registers
registers_moved Begins registers = registers
registers_moved (Executes stated) registers = registers
registers_moved Ends registers = registers
registers_moved Finishes registers = registers
registers_moved (Takes rd) registers = registers
registers_moved (Puts word) registers = registers

abbrev pub pc_moved : Upshot → ℕ → ℕ
pc_moved (Traps cause) pc = pc
pc_moved (Moves rd value next) pc = next
pc_moved (Loads op rd address next) pc = pc
pc_moved (Stores address size value) pc = pc
pc_moved Begins pc = pc
pc_moved (Executes stated) pc = pc
pc_moved Ends pc = pc
pc_moved Finishes pc = pc
pc_moved (Takes rd) pc = pc
pc_moved (Puts word) pc = pc
