-- A store in memory, whose calls are counted.
use Rattle.std.specs.Prelude.{ℕ, List, Result, ⊤}
use Rattle.prem_io.specs.Counts.{counted}
use Rattle.prem_io.specs.Files.{Files}
use Rattle.prem_io.specs.Answers.{read_faults}
use Rattle.prem_io.specs.declared.store.StoreFail.{StoreFail}

-- the files, the numbers of the calls that fail, and the calls and faults so far
pub record StoreState : Type 0 where
  pub files : Files
  pub failing : List ℕ
  pub calls : ℕ
  pub faults : ℕ

-- the store after a call with this answer
abbrev pub after_read : StoreState → Result ⊤ StoreFail → StoreState
after_read s answer = record s { calls = counted s.calls; faults = read_faults answer s.faults }
