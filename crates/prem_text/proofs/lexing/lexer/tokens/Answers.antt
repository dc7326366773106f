use Rattle.std.proofs.Common.{◌≡◌, ◌<◌, ◌-◌, ◌++◌, ◌∷◌, [], suc, Ok, Err, Some, None, length, drop, refl, sym, ap, ◌∙◌, arith, rules, vec_len, map}
use Rattle.prem_text.proofs.Prelude.{seen_of, lexeme_of, Fails, place, Token, map_push, take_rest}
use Rattle.prem_text.proofs.LexingLemmas.Lexing.{passed, taken, full, wrong, whole, at_last, none_is, may_end}
use Rattle.prem_text.proofs.lexing.lexer.tokens.Goals.{in-Some+else-len-eq-TEXT_TOKENS+in_ok-push, in_default}
use Rattle.prem_text.specs.Lexing.Tokens.{step, at_end}
use Rattle.std.proofs.lemmas.Result.{err_from_is_err_and}
use Rattle.prem_text.proofs.lexing.lexer.tokens.Goals as goal

pub returns-in_err-next : goal.returns-in_err-next
returns-in_err-next c =
    let p = err_from_is_err_and c.from_residual.result c.from_residual.ensures.1 in
    let failed : Fails c.in_err-next.field-0.0 (step c.loop-i.mode c.loop-i.cursor (drop c.loop-i.i c.args.text.now)) = simp take_rest at c.in_err-next.ensures in
    rw (p.1, p.2) (wrong c.in_err-next.field-0.0 (map seen_of c.loop-i.all.items) c.loop-i.mode c.loop-i.cursor (200000 - vec_len c.loop-i.all)
    c.loop-i.i c.args.text.now _ (omega arith) failed (c.loop-i.invariant.so_far ∙ sym (whole c.args.text.now (omega arith))))

pub loop-i-preserved : goal.loop-i-preserved
loop-i-preserved c =
    let inside : c.loop-i.i < length c.args.text.now = omega arith in
    elim c.match-token.branch [
      | in-Some+else-len-eq-TEXT_TOKENS+in_ok-push w ↦
          let stepped : step c.loop-i.mode c.loop-i.cursor (drop c.loop-i.i c.args.text.now)
          ≡ Ok (c.in_ok-next.next, Some (lexeme_of w.in-Some.token)) = rw w.in-Some.is at (simp take_rest at c.in_ok-next.ensures) in
          let counted : 200000 - vec_len c.loop-i.all ≡ suc (200000 - vec_len w.push.new.self) =
          omega (arith, w.in_ok-push.ensures.len, w.if-len-eq-TEXT_TOKENS.false, w.len.ensures, c.loop-i.invariant.room) in
          let spotted : map seen_of w.push.new.self.items ≡ map seen_of c.loop-i.all.items
          ++ (lexeme_of w.in-Some.token, place c.loop-i.cursor) ∷ [] =
          rw (w.in_ok-push.ensures.items, w.place-at.ensures) (map_push seen_of c.loop-i.all.items _) in
          let next = taken (map seen_of c.loop-i.all.items) c.loop-i.mode c.in_ok-next.next (lexeme_of w.in-Some.token) c.loop-i.cursor
          (200000 - vec_len c.loop-i.all) (200000 - vec_len w.push.new.self)
          c.loop-i.i c.args.text.now _ inside counted stepped c.loop-i.invariant.so_far in
          record {
            so_far = rw (w.all-is, spotted, c.behind-cursor.ensures) next;
            room = rw w.all-is (omega (arith, w.in_ok-push.ensures.len, w.if-len-eq-TEXT_TOKENS.false, w.len.ensures, c.loop-i.invariant.room));
            offset = rw c.behind-cursor.ensures (omega arith);
            line = search rules;
            col = search rules;
          }
      | in_default w ↦
          let none = none_is c.in_ok-next.token w.in_default.not-Some in
          let stepped : step c.loop-i.mode c.loop-i.cursor (drop c.loop-i.i c.args.text.now) ≡ Ok (c.in_ok-next.next, None) = rw none at (simp take_rest at c.in_ok-next.ensures) in
          let next = passed (map seen_of c.loop-i.all.items) c.loop-i.mode c.in_ok-next.next c.loop-i.cursor (200000 - vec_len c.loop-i.all)
          c.loop-i.i c.args.text.now _ inside stepped c.loop-i.invariant.so_far in
          record {
            so_far = rw (w.all-is, c.behind-cursor.ensures) next;
            room = rw w.all-is (omega arith);
            offset = rw c.behind-cursor.ensures (omega arith);
            line = search rules;
            col = search rules;
          }
    ]

pub returns-then-len-eq-TEXT_TOKENS : goal.returns-then-len-eq-TEXT_TOKENS
returns-then-len-eq-TEXT_TOKENS c =
    let stepped : step c.loop-i.mode c.loop-i.cursor (drop c.loop-i.i c.args.text.now) ≡ Ok (c.in_ok-next.next, Some (lexeme_of c.in-Some.token)) =
    rw c.in-Some.is at (simp take_rest at c.in_ok-next.ensures) in
    whole c.args.text.now (omega arith)
    ∙ full (map seen_of c.loop-i.all.items) c.loop-i.mode c.in_ok-next.next (lexeme_of c.in-Some.token) c.loop-i.cursor
    (200000 - vec_len c.loop-i.all) c.loop-i.i c.args.text.now _ (omega arith) (omega arith) stepped c.loop-i.invariant.so_far

pub returns-in-Block : goal.returns-in-Block
returns-in-Block c =
    let comment : at_end c.loop-i.mode c.loop-i.cursor ≡ Err (Token c.in-Block.from.line c.in-Block.from.col) = rw c.in-Block.is refl in
    whole c.args.text.now (omega arith)
    ∙ at_last (map seen_of c.loop-i.all.items) c.loop-i.mode c.loop-i.cursor (200000 - vec_len c.loop-i.all) c.loop-i.i c.args.text.now _
    (Err (Token c.in-Block.from.line c.in-Block.from.col)) (omega arith) comment c.loop-i.invariant.so_far

pub returns : goal.returns
returns c =
    let done = may_end c.loop-i.mode c.loop-i.cursor c.in_default-mode.not-Block in
    whole c.args.text.now (omega arith)
    ∙ at_last (map seen_of c.loop-i.all.items) c.loop-i.mode c.loop-i.cursor (200000 - vec_len c.loop-i.all) c.loop-i.i c.args.text.now _ _
    (omega arith) done c.loop-i.invariant.so_far
    ∙ sym (rw (c.in_ok-push-2.ensures.items, c.place.ensures) (ap Ok (map_push seen_of c.loop-i.all.items _)))
