-- A sink in memory, whose calls are counted.
use Rattle.std.specs.Prelude.{ℕ, ◌-◌, List, [], ◌++◌, min, length, take, Result, Ok, Err}
use Rattle.prem_io.specs.Counts.{counted}
use Rattle.prem_io.specs.Answers.{write_faults}
use Rattle.prem_io.specs.declared.sink.SinkFailed.{SinkFailed}

-- the bytes so far, how many it holds and how many it takes in a call at most, the numbers of the calls
-- that fail, and the calls and faults so far
pub record SinkState : Type 0 where
  pub bytes : List ℕ
  pub room : ℕ
  pub piece : ℕ
  pub failing : List ℕ
  pub calls : ℕ
  pub faults : ℕ

-- how many bytes of a piece a call takes that doesn't fail
abbrev pub taken_of : SinkState → List ℕ → ℕ
taken_of s piece = min (length piece) (min s.piece (s.room - length s.bytes))

-- the bytes that a call took
abbrev pub taken : List ℕ → Result ℕ SinkFailed → List ℕ
taken piece (Ok n) = take n piece
taken piece (Err e) = []

-- the sink after a call with this piece and this answer
abbrev pub after_write : SinkState → List ℕ → Result ℕ SinkFailed → SinkState
after_write s piece answer =
    record s { bytes = s.bytes ++ taken piece answer; calls = counted s.calls; faults = write_faults answer s.faults }
