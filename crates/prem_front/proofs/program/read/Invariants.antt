use Rattle.std.proofs.Common.{◌≡◌, map}
use Rattle.std.specs.Vec.Iter.{into_iter_items, into_iter_len}
use Rattle.prem_list.specs.Sequence.{items_of}
use Rattle.prem_syntax.specs.SyntaxOf.{item_of}
use Rattle.prem_text.specs.Lexing.Token.Lexeme.{seen_of}
use Rattle.prem_text.specs.Grammar.Reader.{read, read_on}
use Rattle.prem_front.specs.StageOf.{stage_of}
use Rattle.prem_front.proofs.program.read.Given as goal

abbrev pub invariant-tokens : goal.invariant-tokens
invariant-tokens l = record {
  reads : read (map seen_of l.fn.all.items) ≡ read_on (map item_of (items_of l.items)) (stage_of l.stage) (map seen_of (into_iter_items l.tokens));
}

abbrev pub decreases-tokens : goal.decreases-tokens
decreases-tokens l = into_iter_len l.tokens
