use Rattle.std.proofs.Common.{◌≡◌, ◌≤◌, ◌-◌, ◌+◌, drop, map, vec_len}
use Rattle.prem_text.proofs.Prelude.{seen_of, with_front, lex, beginning, Skip}
use Rattle.prem_text.proofs.lexing.lexer.tokens.Given as goal

abbrev pub invariant-loop-i : goal.invariant-loop-i
invariant-loop-i l = record {
  so_far : with_front (map seen_of l.all.items) (lex l.mode l.cursor (200000 - vec_len l.all) (drop l.i l.text)) ≡ lex (Skip 0) beginning 200000 l.text;
  room : vec_len l.all ≤ 200000;
  offset : l.cursor.offset ≡ l.i;
  line : l.cursor.line ≤ l.i + 1;
  col : l.cursor.col ≤ l.i + 1;
}
