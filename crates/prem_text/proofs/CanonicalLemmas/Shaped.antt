-- What the tree of a text is like, its tokens aside.
use Rattle.std.proofs.Common.{◌≡◌, Bool, true, false, List, [], ◌∷◌}
use Rattle.prem_text.proofs.Prelude.{Statement, block, if_then, if_else, bounded_while, counting_for, Statements, no_statements, next_statement, Parameter, InitialValue, many, ItemText}
use Rattle.prem_text.proofs.Prelude.{global_item, function_item, ProgramText, Ty}
use Rattle.prem_syntax.specs.declared.tree.Ty.TheVariants as ty

-- an `else` behind a statement would belong to it
abbrev pub leaves_open : Statement → Bool
leaves_open (if_then at condition taken) = true
leaves_open (if_else at condition taken other) = leaves_open other
leaves_open (bounded_while at turns condition body) = leaves_open body
leaves_open (counting_for at names low closed high step body) = leaves_open body
leaves_open _ = false

-- no `else` stands behind a statement that it would belong to
abbrev mutual
  pub IsShaped : Statement → Type 0
  IsShaped (block at body) = AreShaped body
  IsShaped (if_then at condition taken) = IsShaped taken
  IsShaped (if_else at condition taken other) = IsShaped taken × (leaves_open taken ≡ false) × IsShaped other
  IsShaped (bounded_while at turns condition body) = IsShaped body
  IsShaped (counting_for at names low closed high step body) = IsShaped body
  IsShaped _ = Unit {0}

  pub AreShaped : Statements → Type 0
  AreShaped no_statements = Unit {0}
  AreShaped (next_statement first rest) = IsShaped first × AreShaped rest

abbrev pub is_void : Ty → Bool
is_void ty.Void = true
is_void _ = false

-- the first parameter isn't void
abbrev pub BeginsShaped : List Parameter → Type 0
BeginsShaped [] = Unit {0}
BeginsShaped (p ∷ rest) = is_void p.ty ≡ false

-- a list in braces isn't empty
abbrev pub IsShapedInitial : InitialValue → Type 0
IsShapedInitial (many []) = ⊥
IsShapedInitial _ = Unit {0}

abbrev pub IsShapedItem : ItemText → Type 0
IsShapedItem (global_item g) = IsShapedInitial g.initial
IsShapedItem (function_item f) = BeginsShaped f.params × AreShaped f.body

abbrev pub AreShapedItems : ProgramText → Type 0
AreShapedItems [] = Unit {0}
AreShapedItems (i ∷ rest) = IsShapedItem i × AreShapedItems rest
