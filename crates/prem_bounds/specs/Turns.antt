-- The four sums of a loop at once.
use Rattle.std.specs.Prelude.{ℕ, zero, suc, ◌*◌, Option, Some, None}
use Rattle.prem_layout.specs.Stretch.Sums.{Sums, both, most, or_none}

-- so many turns without a cut, and a sum behind them
abbrev pub repeated : (turns : ℕ) (whole sum : Option ℕ) → Option ℕ
repeated turns whole sum = both (Some (turns * or_none whole)) sum

-- between the cuts of two turns, as many turns between them as there may be
abbrev pub again : (turns : ℕ) (turn : Sums) → Option ℕ
again zero turn = None
again (suc zero) turn = None
again (suc (suc turns)) turn = both turn.behind (repeated turns turn.whole turn.before)

-- the turns, and those but one
abbrev pub before_turns : (rest turns : ℕ) (turn out : Sums) → Option ℕ
before_turns rest turns turn out = most (repeated rest turn.whole turn.before) (repeated turns turn.whole out.before)

abbrev pub between_turns : (rest turns : ℕ) (turn out : Sums) → Option ℕ
between_turns rest turns turn out =
    most (most turn.between out.between) (most (again turns turn) (both turn.behind (repeated rest turn.whole out.before)))

abbrev pub behind_turns : (rest : ℕ) (turn out : Sums) → Option ℕ
behind_turns rest turn out = most out.behind (both turn.behind (repeated rest turn.whole out.whole))

-- of one turn at least
abbrev pub looped : (rest turns : ℕ) (turn out : Sums) → Sums
looped rest turns turn out =
    record {
      whole = repeated turns turn.whole out.whole;
      before = before_turns rest turns turn out;
      between = between_turns rest turns turn out;
      behind = behind_turns rest turn out;
    }
