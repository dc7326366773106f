-- A turn of a loop, walked in the order of its text: the locals that are stale so far, and the line of the first read of one. What is known behind
-- arms and inner loops is taken back by the trail, so a walk takes as long as its text.
use Rattle.std.specs.Prelude.{ℕ, length, take, drop, Bool, true, false, List, [], ◌∷◌, ◌++◌, slice_set, Option, None, Some}
use Rattle.prem_tiling.specs.Prelude.{number_of, Text, Expression, Statement, block, if_then, if_else, bounded_while, counting_for, assign, output, input, call, Statements, no_statements}
use Rattle.prem_tiling.specs.Prelude.{next_statement}
use Rattle.prem_tiling.specs.Copies.Flags.{flag_at, assigned_flags, read_by, read_by_option, read_by_all}
use Rattle.prem_tiling.specs.Shapes.Carried.{first_line}

-- stale locals are flagged; the trail has those that are so no longer, in the order in which they were assigned
pub record Walk : Type 0 where
  pub flags : List Bool
  pub trail : List ℕ
  pub line : Option ℕ

-- ---- reads

abbrev pub reading : List Text → Walk → Expression → Walk
reading locals w e = record w { line = first_line w.line (read_by locals w.flags e) }

abbrev pub reading_option : List Text → Walk → Option Expression → Walk
reading_option locals w e = record w { line = first_line w.line (read_by_option locals w.flags e) }

abbrev pub reading_all : List Text → Walk → List Expression → Walk
reading_all locals w es = record w { line = first_line w.line (read_by_all locals w.flags es) }

-- ---- assignments

abbrev pub lowered_if : Bool → ℕ → Walk → Walk
lowered_if true k w = record w { flags = slice_set w.flags k false; trail = w.trail ++ k ∷ [] }
lowered_if false k w = w

-- a local that is assigned is stale no longer
abbrev pub lowered : Option ℕ → Walk → Walk
lowered None w = w
lowered (Some k) w = lowered_if (flag_at w.flags k) k w

abbrev pub lowered_plain : List Text → Walk → Text → Option Expression → Walk
lowered_plain locals w name None = lowered (number_of locals name) w
lowered_plain locals w name (Some index) = w

abbrev pub lowered_target : List Text → Walk → Option Text → Walk
lowered_target locals w None = w
lowered_target locals w (Some name) = lowered (number_of locals name) w

abbrev pub lowered_all : List ℕ → Walk → Walk
lowered_all [] w = w
lowered_all (k ∷ ks) w = lowered_all ks (lowered (Some k) w)

-- ---- taking back

abbrev pub raised : List ℕ → List Bool → List Bool
raised [] flags = flags
raised (k ∷ ks) flags = slice_set (raised ks flags) k true

-- the locals are stale again that a walk has assigned since its trail had this length
abbrev pub undone : ℕ → Walk → Walk
undone mark w = record w { flags = raised (drop mark w.trail) w.flags; trail = take mark w.trail }

abbrev pub unflagged_before : Bool → ℕ → List ℕ → List ℕ
unflagged_before true k ks = ks
unflagged_before false k ks = k ∷ ks

-- the numbers without a flag
abbrev pub unflagged : List Bool → List ℕ → List ℕ
unflagged flags [] = []
unflagged flags (k ∷ ks) = unflagged_before (flag_at flags k) k (unflagged flags ks)

-- behind two arms, of which the second is walked from where the first one was: assigned is what both assign
abbrev pub behind_arms : ℕ → List ℕ → Walk → Walk
behind_arms mark first second = lowered_all (unflagged second.flags first) (undone mark second)

-- ---- statements

abbrev mutual
  pub walked : List Text → Walk → Statement → Walk
  walked locals w (block at body) = all_walked locals w body
  walked locals w (if_then at condition taken) = undone (length w.trail) (walked locals (reading locals w condition) taken)
  walked locals w (if_else at condition taken other) =
      behind_arms (length w.trail) (drop (length w.trail) (walked locals (reading locals w condition) taken).trail)
      (walked locals (undone (length w.trail) (walked locals (reading locals w condition) taken)) other)
  walked locals w (bounded_while at turns condition body) = undone (length w.trail) (walked locals (reading locals w condition) body)
  walked locals w (counting_for at names low closed high step body) =
      undone (length (lowered (number_of locals names.first) (reading locals w low)).trail)
      (walked locals (reading locals (lowered (number_of locals names.first) (reading locals w low)) high) body)
  walked locals w (assign at name index value) = lowered_plain locals (reading locals (reading_option locals w index) value) name index
  walked locals w (output at value) = reading locals w value
  walked locals w (input at name) = lowered (number_of locals name) w
  walked locals w (call at target callee arguments) = lowered_target locals (reading_all locals w arguments) target

  pub all_walked : List Text → Walk → Statements → Walk
  all_walked locals w no_statements = w
  all_walked locals w (next_statement first rest) = all_walked locals (walked locals w first) rest

-- a statement behind which is stale what was so before it
abbrev pub walked_apart : List Text → Walk → Statement → Walk
walked_apart locals w s = undone (length w.trail) (walked locals w s)

-- where a turn begins, all is stale that the body assigns
abbrev pub started : List Text → Walk → Statement → Walk
started locals w body = record w { flags = assigned_flags locals w.flags body }
