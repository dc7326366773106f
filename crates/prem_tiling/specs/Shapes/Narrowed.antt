-- Regions of a tile: where all accesses of a global follow the loop's variable, the elements that the tile's turns can reach.
use Rattle.std.specs.Prelude.{ℕ, nat_le, ℤ, pos, neg_ℤ, ◌+ℤ◌, int_le, unsigned_abs, Bool, false, if◌then◌else◌, List, [], ◌∷◌, Option, None, Some}
use Rattle.prem_tiling.specs.Prelude.{Text, Expression, literal, variable, element, unary, binary, Statement, block, if_then, if_else, bounded_while, counting_for, assign, output, input}
use Rattle.prem_tiling.specs.Prelude.{call, Statements, no_statements, next_statement, RegionText, int_min, int_max, bytes_eq}
use Rattle.prem_word.specs.declared.kind.BinOp.{BinOp}
use Rattle.prem_word.specs.declared.kind.BinOp.TheVariants.{Add, Sub}

-- what accesses of a global add to the loop's variable: there is none, or at least and at most so much, or some access has another index
pub data Added : Type 0 where
  nothing : Added
  within : (least most : ℤ) → Added
  elsewhere : Added

abbrev pub joined : Added → Added → Added
joined nothing b = b
joined elsewhere b = elsewhere
joined (within least most) nothing = within least most
joined (within least most) elsewhere = elsewhere
joined (within least most) (within l m) = within (int_min least l) (int_max most m)

-- ---- one access

abbrev pub is_variable : Text → Expression → Bool
is_variable i (variable at name) = bytes_eq name i
is_variable i e = false

-- a literal of at most 65535
abbrev pub small : Expression → Option ℕ
small (literal at value kind) = if nat_le value 65535 then Some value else None
small e = None

abbrev pub exactly : ℤ → Added
exactly z = within z z

abbrev pub sum_added : BinOp → ℕ → Added
sum_added Add n = exactly (pos n)
sum_added Sub n = exactly (neg_ℤ (pos n))
sum_added op n = elsewhere

abbrev pub offset_added : BinOp → Option ℕ → Added
offset_added op None = elsewhere
offset_added op (Some n) = sum_added op n

-- an index i, i + C or i - C
abbrev pub index_added : Text → Expression → Added
index_added i (variable at name) = if bytes_eq name i then exactly (pos 0) else elsewhere
index_added i (binary at op left right) = if is_variable i left then offset_added op (small right) else elsewhere
index_added i e = elsewhere

abbrev pub element_added : Text → Text → Text → Expression → Added
element_added i g name index = if bytes_eq name g then index_added i index else nothing

-- without an index
abbrev pub plain_added : Text → Text → Added
plain_added g name = if bytes_eq name g then elsewhere else nothing

abbrev pub target_added : Text → Text → Text → Option Expression → Added
target_added i g name None = plain_added g name
target_added i g name (Some index) = element_added i g name index

-- ---- all accesses of a global g, where i is the loop's variable

abbrev pub added_of : Text → Text → Expression → Added
added_of i g (literal at value kind) = nothing
added_of i g (variable at name) = plain_added g name
added_of i g (element at name index) = joined (element_added i g name index) (added_of i g index)
added_of i g (unary at op operand) = added_of i g operand
added_of i g (binary at op left right) = joined (added_of i g left) (added_of i g right)

abbrev pub added_of_option : Text → Text → Option Expression → Added
added_of_option i g None = nothing
added_of_option i g (Some e) = added_of i g e

abbrev pub added_of_all : Text → Text → List Expression → Added
added_of_all i g [] = nothing
added_of_all i g (e ∷ es) = joined (added_of i g e) (added_of_all i g es)

abbrev mutual
  pub added_in : Text → Text → Statement → Added
  added_in i g (block at body) = added_within i g body
  added_in i g (if_then at condition taken) = joined (added_of i g condition) (added_in i g taken)
  added_in i g (if_else at condition taken other) = joined (added_of i g condition) (joined (added_in i g taken) (added_in i g other))
  added_in i g (bounded_while at turns condition body) = joined (added_of i g condition) (added_in i g body)
  added_in i g (counting_for at names low closed high step body) = joined (added_of i g low) (joined (added_of i g high) (added_in i g body))
  added_in i g (assign at name index value) = joined (target_added i g name index) (joined (added_of_option i g index) (added_of i g value))
  added_in i g (output at value) = added_of i g value
  added_in i g (input at name) = nothing
  added_in i g (call at target callee arguments) = added_of_all i g arguments

  pub added_within : Text → Text → Statements → Added
  added_within i g no_statements = nothing
  added_within i g (next_statement first rest) = joined (added_in i g first) (added_within i g rest)

-- ---- narrowed regions

-- its elements from one to another, where there are any; else as it was
abbrev pub cut_to : RegionText → ℤ → ℤ → RegionText
cut_to r from to = if int_le from to then record r { low = unsigned_abs from; high = unsigned_abs to } else r

-- where the variable has its values from one to another
abbrev pub narrowed : ℤ → ℤ → RegionText → Added → RegionText
narrowed first last r (within least most) = cut_to r (int_max (pos r.low) (first +ℤ least)) (int_min (pos r.high) (last +ℤ most))
narrowed first last r a = r
