use Rattle.std.proofs.Common.{◌≡◌, ◌≤◌, List, map}
use Rattle.std.specs.Vec.Iter.{into_iter_items, into_iter_len}
use Rattle.prem_syntax.specs.Syntax.{ItemText}
use Rattle.prem_syntax.specs.SyntaxOf.{function_of}
use Rattle.prem_text.specs.Lexing.Token.Lexeme.{seen_of}
use Rattle.prem_text.specs.Grammar.Item.{in_statements}
use Rattle.prem_text.specs.Grammar.Reader.{read_on}
use Rattle.prem_reader.specs.Statement.PointOf.{point_of}
use Rattle.prem_front.proofs.program.take_statements.Given as goal

-- what is left reads as all does
abbrev pub invariant-tokens : goal.invariant-tokens
invariant-tokens l = record {
  reads : (items : List ItemText) → read_on items (in_statements (function_of l.function) (point_of l.initial.point)) (map seen_of (into_iter_items l.initial.tokens))
      ≡ read_on items (in_statements (function_of l.function) (point_of l.point)) (map seen_of (into_iter_items l.tokens));
  less : into_iter_len l.tokens ≤ into_iter_len l.initial.tokens;
}

abbrev pub decreases-tokens : goal.decreases-tokens
decreases-tokens l = into_iter_len l.tokens
