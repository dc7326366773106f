-- What a result tells of why a function has no code.
use Rattle.std.specs.Prelude.{◌≡◌, ℕ, nat_lt, if◌then◌else◌, Option, Some, None, Result, MatchResult}
use Rattle.prem_line.specs.declared.failing.Failing.TheVariants as term
use Rattle.prem_syntax.specs.Resolved.{Term}
use Rattle.prem_layout.specs.Template.Limits.{Excess, frame, depth, greatest_frame, deep_excess, too_deep}
use Rattle.prem_gen.specs.declared.term.fail.GenFail.{GenFail}
use Rattle.prem_gen.specs.declared.term.fail.GenFail.TheVariants.{Frame, Depth, OutOfMemory}
use Rattle.prem_gen.specs.Term.Deep.{TermFail}

abbrev pub gen_fail : TermFail → GenFail
gen_fail (term.Refused at) = Depth at.line
gen_fail term.OutOfMemory = OutOfMemory

-- want of memory tells nothing
pub record Exceeds (e : GenFail) (found : Option Excess) : Type 0 where
  pub by_frame : (f : ℕ) → e ≡ Frame f → found ≡ Some (frame f)
  pub by_depth : (line : ℕ) → e ≡ Depth line → found ≡ Some (depth line)

-- code is there exactly where nothing exceeds its limit
abbrev pub Refuses : {A : Type 0} → Result A GenFail → Option Excess → Type 0
Refuses result found = MatchResult result (λ _. found ≡ None) (λ e. Exceeds e found)

-- of an expression that goes into register r, in a function with a frame of so many bytes: the frame comes first
abbrev pub term_excess : (n bytes r : ℕ) → Term → Option Excess
term_excess n bytes r e = if nat_lt greatest_frame bytes then Some (frame n) else deep_excess (too_deep r e)
