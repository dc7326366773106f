-- Statements with calls of named tiles are statements with tiles.
use Rattle.std.proofs.Common.{◌≡◌, ℕ, zero, suc, ◌+◌, Bool, true, false, cond, [], refl, ap, None}
use Rattle.prem_tiling.proofs.Prelude.{Text, Statement, block, if_then, if_else, bounded_while, counting_for, assign, output, input, call, Statements, no_statements, next_statement, Place}
use Rattle.prem_tiling.proofs.Prelude.{calls_before, with_calls, all_with_calls, tile_name, tile_names, calls_from, with_tiles, all_with_tiles, bytes_eq}

calls_same : (at : Place) (name : Text) (n t : ℕ) → calls_before at (tile_names name t n) no_statements ≡ calls_from at name t n
calls_same at name zero t = refl
calls_same at name (suc n) t = ap (next_statement (call at None (tile_name name t) [])) (calls_same at name n (t + 1))

mutual
  pub calls_are_tiles : (name : Text) (n : ℕ) (s : Statement) → with_calls name (tile_names name 0 n) s ≡ with_tiles name n s
  calls_are_tiles name n (block at body) = ap (block at) (all_calls_are_tiles name n body)
  calls_are_tiles name n (if_then at condition taken) = ap (if_then at condition) (calls_are_tiles name n taken)
  calls_are_tiles name n (if_else at condition taken other) = λ i. if_else at condition (calls_are_tiles name n taken i) (calls_are_tiles name n other i)
  calls_are_tiles name n (bounded_while at turns condition body) = ap (bounded_while at turns condition) (calls_are_tiles name n body)
  calls_are_tiles name n (counting_for at names low closed high step body) = ap (counting_for at names low closed high step) (calls_are_tiles name n body)
  calls_are_tiles name n (assign at x index value) = refl
  calls_are_tiles name n (output at value) = refl
  calls_are_tiles name n (input at x) = refl
  calls_are_tiles name n (call at target callee arguments) = by (bytes_eq callee name)
    where
      by : (b : Bool) → cond b (block at (calls_before at (tile_names name 0 n) no_statements)) (call at target callee arguments)
          ≡ cond b (block at (calls_from at name 0 n)) (call at target callee arguments)
      by true = ap (block at) (calls_same at name n 0)
      by false = refl

  pub all_calls_are_tiles : (name : Text) (n : ℕ) (ss : Statements) → all_with_calls name (tile_names name 0 n) ss ≡ all_with_tiles name n ss
  all_calls_are_tiles name n no_statements = refl
  all_calls_are_tiles name n (next_statement s ss) = λ i. next_statement (calls_are_tiles name n s i) (all_calls_are_tiles name n ss i)
