use Rattle.std.proofs.Common.{◌≡◌, ◌++◌, map, drop}
use Rattle.prem_text.specs.Lexing.Token.Lexeme.{seen_of}
use Rattle.prem_profile.specs.Lines.Marks.{marks_in}
use Rattle.prem_profile.proofs.lines.marks.marks_in.Given as goal

-- what is there, and what is left
abbrev pub invariant-tokens : goal.invariant-tokens
invariant-tokens l = l.marks.items ++ marks_in (map seen_of (drop l.spotted-index l.all)) ≡ marks_in (map seen_of l.all)
