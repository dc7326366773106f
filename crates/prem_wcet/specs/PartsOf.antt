-- What statements with their code in memory stand for, and what is put behind them.
use Rattle.std.specs.Prelude.{◌≡◌, ℕ, List, [], ◌∷◌, ◌++◌, map, length}
use Rattle.std.specs.Option.{option_map}
use Rattle.prem_list.specs.Sequence.{items_of}
use Rattle.prem_plant.specs.declared.plant.Target.{Target}
use Rattle.prem_asm.specs.Pieces.{Pieces, skip_words}
use Rattle.prem_asm.specs.PiecesOf.{pieces_of}
use Rattle.prem_tree.specs.declared.resolve.resolved.Step.{Step, Row_of-Step, end_of-Step, more_of-Step}
use Rattle.prem_tree.specs.declared.resolve.resolved.Step.TheVariants.{Block', SetLocal, SetScalar, SetElement, Output, Input, If', For', While', Call}
use Rattle.prem_tree.specs.declared.resolve.resolved.Routine.{Routine}
use Rattle.prem_tree.specs.Resolve.ResolvedOf.{term_of}
use Rattle.prem_wcet_laws.specs.Scopes.{globals_in_result, globals_in_term, globals_in_terms}
use Rattle.prem_wcet.specs.declared.outline.Outline.{Outline as OutlineTree}
use Rattle.prem_wcet.specs.declared.outline.Part.{Part, Row_of-Part, end_of-Part, more_of-Part}
use Rattle.prem_wcet.specs.declared.outline.Part.TheVariants.{Plain, Calling, Choice', Turning'}
use Rattle.prem_wcet.specs.Outlines.{Outline, ended, plain, calling, choice, turning}
use Rattle.prem_wcet.specs.Sliced.{tail_of, behind_pieces, before_pieces, first_side, second_side, turns_in, head_in, body_in, behind_term, behind_terms, behind_target}

-- ---- in memory

abbrev mutual
  pub part_before : Part → Outline → Outline
  part_before (Plain code names) rest = plain (pieces_of code.now) (items_of names) rest
  part_before (Calling code names arguments count callee landing) rest = calling (pieces_of code.now) (items_of names) (pieces_of arguments.now) count callee (pieces_of landing.now) rest
  part_before (Choice' code names condition skips p taken q other) rest =
      choice (pieces_of code.now) (items_of names) (pieces_of condition.now) skips (row_before taken ended) (row_before other ended) rest
  part_before (Turning' code names first turns head before p body behind) rest =
      turning (pieces_of code.now) (items_of names) (pieces_of first.now) turns (pieces_of head.now) (pieces_of before.now) (row_before body ended) (pieces_of behind.now) rest

  pub row_before : {m : _} → Row_of-Part m → Outline → Outline
  row_before end_of-Part rest = rest
  row_before (more_of-Part first others) rest = part_before first (row_before others rest)

abbrev pub parts_before : List Part → Outline → Outline
parts_before [] rest = rest
parts_before (first ∷ others) rest = part_before first (parts_before others rest)

abbrev pub parts_of : List Part → Outline
parts_of ps = parts_before ps ended

-- one alone
abbrev pub part_of : Part → Outline
part_of p = part_before p ended

-- all its code
abbrev pub part_code : Part → Pieces
part_code (Plain code names) = pieces_of code.now
part_code (Calling code names arguments count callee landing) = pieces_of code.now
part_code (Choice' code names condition skips p taken q other) = pieces_of code.now
part_code (Turning' code names first turns head before p body behind) = pieces_of code.now

-- others behind them
abbrev pub joined : Outline → Outline → Outline
joined ended o = o
joined (plain code names rest) o = plain code names (joined rest o)
joined (calling code names arguments count callee landing rest) o = calling code names arguments count callee landing (joined rest o)
joined (choice code names condition skips taken other rest) o = choice code names condition skips taken other (joined rest o)
joined (turning code names first turns head before body behind rest) o = turning code names first turns head before body behind (joined rest o)

-- ---- steps in memory, cut out of pieces that begin with their code

abbrev mutual
  pub behind_step : Target → Step → Pieces → Pieces
  behind_step target (Block' shape body) ps = behind_row target body ps
  behind_step target (SetLocal at k value) ps = tail_of (behind_term target (term_of value) ps)
  behind_step target (SetScalar at g ty value) ps = behind_pieces 2 (behind_term target (term_of value) ps)
  behind_step target (SetElement at g ty index value) ps = behind_pieces 3 (behind_term target (term_of index) (behind_term target (term_of value) ps))
  behind_step target (Output at value) ps = tail_of (behind_term target (term_of value) ps)
  behind_step target (Input at k) ps = tail_of ps
  behind_step target (If' at condition p taken q other) ps = tail_of (behind_term target (term_of condition) ps)
  behind_step target (For' at k low closed high step p body) ps = behind_pieces 2 (behind_term target (term_of low) ps)
  behind_step target (While' at turns condition p body) ps = behind_pieces 3 ps
  behind_step target (Call at to callee arguments) ps = behind_target to (tail_of (behind_terms target (map term_of (items_of arguments)) ps))

  pub behind_row : {m : _} → Target → Row_of-Step m → Pieces → Pieces
  behind_row target end_of-Step ps = ps
  behind_row target (more_of-Step first others) ps = behind_row target others (behind_step target first ps)

abbrev mutual
  pub cut_step : Target → Step → Pieces → Outline
  cut_step target (Block' shape body) ps = cut_row target body ps
  cut_step target (SetLocal at k value) ps = plain (before_pieces ps (behind_step target (SetLocal at k value) ps)) (globals_in_term (term_of value)) ended
  cut_step target (SetScalar at g ty value) ps = plain (before_pieces ps (behind_step target (SetScalar at g ty value) ps)) (g ∷ globals_in_term (term_of value)) ended
  cut_step target (SetElement at g ty index value) ps =
      plain (before_pieces ps (behind_step target (SetElement at g ty index value) ps)) (g ∷ (globals_in_term (term_of index) ++ globals_in_term (term_of value))) ended
  cut_step target (Output at value) ps = plain (before_pieces ps (behind_step target (Output at value) ps)) (globals_in_term (term_of value)) ended
  cut_step target (Input at k) ps = plain (before_pieces ps (tail_of ps)) [] ended
  cut_step target (If' at condition p taken q other) ps =
      choice (before_pieces ps (tail_of (behind_term target (term_of condition) ps))) (globals_in_term (term_of condition)) (before_pieces ps (behind_term target (term_of condition) ps))
      (skip_words (second_side (behind_term target (term_of condition) ps))) (cut_step target taken (first_side (behind_term target (term_of condition) ps)))
      (cut_step target other (second_side (behind_term target (term_of condition) ps))) ended
  cut_step target (For' at k low closed high step p body) ps =
      turning (before_pieces ps (behind_pieces 2 (behind_term target (term_of low) ps))) (globals_in_term (term_of low) ++ globals_in_term (term_of high))
      (before_pieces ps (tail_of (behind_term target (term_of low) ps))) (turns_in (tail_of (behind_term target (term_of low) ps))) (head_in (tail_of (behind_term target (term_of low) ps)))
      (before_pieces (body_in (tail_of (behind_term target (term_of low) ps))) (body_in (tail_of (behind_term target (term_of low) ps))))
      (cut_step target body (body_in (tail_of (behind_term target (term_of low) ps)))) (behind_step target body (body_in (tail_of (behind_term target (term_of low) ps)))) ended
  cut_step target (While' at turns condition p body) ps =
      turning (before_pieces ps (behind_pieces 3 ps)) (globals_in_term (term_of condition)) (before_pieces ps (behind_pieces 2 ps)) (turns_in (behind_pieces 2 ps)) (head_in (behind_pieces 2 ps))
      (before_pieces (body_in (behind_pieces 2 ps)) (tail_of (body_in (behind_pieces 2 ps)))) (cut_step target body (tail_of (body_in (behind_pieces 2 ps))))
      (behind_step target body (tail_of (body_in (behind_pieces 2 ps)))) ended
  cut_step target (Call at to callee arguments) ps =
      calling (before_pieces ps (behind_step target (Call at to callee arguments) ps)) (globals_in_terms (map term_of (items_of arguments)))
      (before_pieces ps (behind_terms target (map term_of (items_of arguments)) ps))
      (length (items_of arguments)) callee
      (before_pieces (tail_of (behind_terms target (map term_of (items_of arguments)) ps)) (behind_step target (Call at to callee arguments) ps)) ended

  pub cut_row : {m : _} → Target → Row_of-Step m → Pieces → Outline
  cut_row target end_of-Step ps = ended
  cut_row target (more_of-Step first others) ps = joined (cut_step target first ps) (cut_row target others (behind_step target first ps))

-- those of a list
abbrev pub behind_list : Target → List Step → Pieces → Pieces
behind_list target [] ps = ps
behind_list target (first ∷ others) ps = behind_list target others (behind_step target first ps)

abbrev pub cut_list : Target → List Step → Pieces → Outline
cut_list target [] ps = ended
cut_list target (first ∷ others) ps = joined (cut_step target first ps) (cut_list target others (behind_step target first ps))

-- the globals that a statement names, where it calls nothing and has no others inside
abbrev pub plain_names : Step → List ℕ
plain_names (SetLocal at k value) = globals_in_term (term_of value)
plain_names (SetScalar at g ty value) = g ∷ globals_in_term (term_of value)
plain_names (SetElement at g ty index value) = g ∷ (globals_in_term (term_of index) ++ globals_in_term (term_of value))
plain_names (Output at value) = globals_in_term (term_of value)
plain_names _ = []

-- ---- a function in memory, cut out of its pieces

-- behind what stands before the statements of its body
abbrev pub inside_of : Target → Routine → Pieces → Pieces
inside_of target r ps = behind_terms target (map term_of (items_of r.locals)) (tail_of ps)

pub record IsOutline (target : Target) (r : Routine) (ps : Pieces) (o : OutlineTree) : Type 0 where
  pub entry : pieces_of o.entry.now ≡ before_pieces ps (inside_of target r ps)
  pub entry_names : items_of o.entry_names ≡ globals_in_terms (map term_of (items_of r.locals))
  pub body : parts_of (items_of o.body) ≡ cut_step target r.body (inside_of target r ps)
  pub leaving : pieces_of o.leaving.now ≡ behind_step target r.body (inside_of target r ps)
  pub leaving_names : items_of o.leaving_names ≡ globals_in_result (option_map term_of r.result)
