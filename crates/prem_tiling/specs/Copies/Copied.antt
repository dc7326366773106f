-- Copies whose calls of a function are calls of others, by their names.
use Rattle.std.specs.Prelude.{if◌then◌else◌, List, [], ◌∷◌, None}
use Rattle.prem_tiling.specs.Prelude.{Text, Statement, block, if_then, if_else, bounded_while, counting_for, assign, output, input, call, Statements, no_statements, next_statement, Place}
use Rattle.prem_tiling.specs.Prelude.{bytes_eq}

-- calls of functions, one behind the other
abbrev pub calls_before : Place → List Text → Statements → Statements
calls_before at [] rest = rest
calls_before at (callee ∷ callees) rest = next_statement (call at None callee []) (calls_before at callees rest)

-- a statement that calls the function becomes a block that calls the others
abbrev mutual
  pub with_calls : Text → List Text → Statement → Statement
  with_calls name tiles (block at body) = block at (all_with_calls name tiles body)
  with_calls name tiles (if_then at condition taken) = if_then at condition (with_calls name tiles taken)
  with_calls name tiles (if_else at condition taken other) = if_else at condition (with_calls name tiles taken) (with_calls name tiles other)
  with_calls name tiles (bounded_while at turns condition body) = bounded_while at turns condition (with_calls name tiles body)
  with_calls name tiles (counting_for at names low closed high step body) = counting_for at names low closed high step (with_calls name tiles body)
  with_calls name tiles (assign at x index value) = assign at x index value
  with_calls name tiles (output at value) = output at value
  with_calls name tiles (input at x) = input at x
  with_calls name tiles (call at target callee arguments) = if bytes_eq callee name then block at (calls_before at tiles no_statements) else call at target callee arguments

  pub all_with_calls : Text → List Text → Statements → Statements
  all_with_calls name tiles no_statements = no_statements
  all_with_calls name tiles (next_statement first rest) = next_statement (with_calls name tiles first) (all_with_calls name tiles rest)
