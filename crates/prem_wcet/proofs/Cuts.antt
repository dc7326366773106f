-- Steps in memory are cut as those that they stand for.
use Rattle.std.proofs.Common.{◌≡◌, ℕ, ◌+◌, ◌++◌, List, map, refl, ap, sym, ◌∙◌}
use Rattle.std.proofs.lemmas.List.{length-map}
use Rattle.prem_list.specs.Sequence.{items_of}
use Rattle.prem_plant.specs.declared.plant.Target.{Target}
use Rattle.prem_syntax.specs.Resolved.{Term, Steps, Done}
use Rattle.prem_asm.specs.Pieces.{Pieces, followed, skip_words}
use Rattle.prem_layout.specs.Template.Steps.{steps_code}
use Rattle.prem_tree.specs.declared.resolve.resolved.Step.{Step, Row_of-Step, end_of-Step, more_of-Step}
use Rattle.prem_tree.specs.declared.resolve.resolved.Step.TheVariants.{Block', SetLocal, SetScalar, SetElement, Output, Input, If', For', While', Call}
use Rattle.prem_tree.specs.Resolve.ResolvedOf.{term_of, loops_of, step_before, row_before}
use Rattle.prem_wcet_laws.specs.Scopes.{globals_in_term, globals_in_terms}
use Rattle.prem_wcet.specs.Outlines.{calling, choice, turning}
use Rattle.prem_wcet.specs.Sliced.{tail_of, behind_pieces, before_pieces, first_side, second_side, turns_in, head_in, body_in, behind_term, behind_terms, behind_target, behind_steps, sliced}
use Rattle.prem_wcet.specs.PartsOf.{joined, behind_step, behind_row, cut_step, cut_row}
use Rattle.prem_wcet.specs.Cut.{CutsAreOutlines}
use Rattle.prem_wcet.proofs.BlockCuts.{joined_none, joined_append}
use Rattle.prem_wcet.proofs.Slices.{slices_are, steps_behind}

mutual
  behind_before : (target : Target) (turns : ℕ → ℕ) (m : ℕ) (s : Step) (rest : Steps) (ps : Pieces) →
      behind_steps target (step_before turns m s rest) ps ≡ behind_steps target rest (behind_step target s ps)
  behind_before target turns m (Block' shape body) rest ps = behind_row_before target turns m body rest ps
  behind_before target turns m (SetLocal at k value) rest ps = refl
  behind_before target turns m (SetScalar at g ty value) rest ps = refl
  behind_before target turns m (SetElement at g ty index value) rest ps = refl
  behind_before target turns m (Output at value) rest ps = refl
  behind_before target turns m (Input at k) rest ps = refl
  behind_before target turns m (If' at condition p taken q other) rest ps = refl
  behind_before target turns m (For' at k low closed high step p body) rest ps = refl
  behind_before target turns m (While' at most condition p body) rest ps = refl
  behind_before target turns m (Call at to callee arguments) rest ps = refl

  behind_row_before : {l : _} (target : Target) (turns : ℕ → ℕ) (m : ℕ) (row : Row_of-Step l) (rest : Steps) (ps : Pieces) →
      behind_steps target (row_before turns m row rest) ps ≡ behind_steps target rest (behind_row target row ps)
  behind_row_before target turns m end_of-Step rest ps = refl
  behind_row_before target turns m (more_of-Step first others) rest ps =
      behind_before target turns m first (row_before turns (m + loops_of first) others rest) ps ∙ behind_row_before target turns (m + loops_of first) others rest (behind_step target first ps)

mutual
  sliced_before : (target : Target) (turns : ℕ → ℕ) (m : ℕ) (s : Step) (rest : Steps) (ps : Pieces) →
      sliced target (step_before turns m s rest) ps ≡ joined (cut_step target s ps) (sliced target rest (behind_step target s ps))
  sliced_before target turns m (Block' shape body) rest ps = sliced_row target turns m body rest ps
  sliced_before target turns m (SetLocal at k value) rest ps = refl
  sliced_before target turns m (SetScalar at g ty value) rest ps = refl
  sliced_before target turns m (SetElement at g ty index value) rest ps = refl
  sliced_before target turns m (Output at value) rest ps = refl
  sliced_before target turns m (Input at k) rest ps = refl
  sliced_before target turns m (If' at condition p taken q other) rest ps =
      let inside : Pieces = behind_term target (term_of condition) ps in
      let one = sliced_before target turns m taken Done (first_side inside) ∙ joined_none (cut_step target taken (first_side inside)) in
      let two = sliced_before target turns (m + loops_of taken) other Done (second_side inside) ∙ joined_none (cut_step target other (second_side inside)) in
      λ i. choice (before_pieces ps (tail_of inside)) (globals_in_term (term_of condition)) (before_pieces ps inside)
      (skip_words (second_side inside)) (one i) (two i) (sliced target rest (tail_of inside))
  sliced_before target turns m (For' at k low closed high step p body) rest ps =
      let there : Pieces = tail_of (behind_term target (term_of low) ps) in
      let one = sliced_before target turns (m + 1) body Done (body_in there) ∙ joined_none (cut_step target body (body_in there)) in
      λ i. turning (before_pieces ps (tail_of there)) (globals_in_term (term_of low) ++ globals_in_term (term_of high)) (before_pieces ps there) (turns_in there) (head_in there)
      (before_pieces (body_in there) (body_in there)) (one i) (behind_before target turns (m + 1) body Done (body_in there) i) (sliced target rest (tail_of there))
  sliced_before target turns m (While' at most condition p body) rest ps =
      let there : Pieces = behind_pieces 2 ps in
      let inside : Pieces = tail_of (body_in there) in
      let one = sliced_before target turns m body Done inside ∙ joined_none (cut_step target body inside) in
      λ i. turning (before_pieces ps (behind_pieces 3 ps)) (globals_in_term (term_of condition)) (before_pieces ps there) (turns_in there) (head_in there)
      (before_pieces (body_in there) inside) (one i) (behind_before target turns m body Done inside i) (sliced target rest (behind_pieces 3 ps))
  sliced_before target turns m (Call at to callee arguments) rest ps =
      let terms : List Term = map term_of (items_of arguments) in
      let jump : Pieces = behind_terms target terms ps in
      let last : Pieces = behind_target to (tail_of jump) in
      λ i. calling (before_pieces ps last) (globals_in_terms terms) (before_pieces ps jump) (length-map (items_of arguments) term_of i) callee
      (before_pieces (tail_of jump) last) (sliced target rest last)

  sliced_row : {l : _} (target : Target) (turns : ℕ → ℕ) (m : ℕ) (row : Row_of-Step l) (rest : Steps) (ps : Pieces) →
      sliced target (row_before turns m row rest) ps ≡ joined (cut_row target row ps) (sliced target rest (behind_row target row ps))
  sliced_row target turns m end_of-Step rest ps = refl
  sliced_row target turns m (more_of-Step first others) rest ps =
      sliced_before target turns m first (row_before turns (m + loops_of first) others rest) ps
      ∙ ap (joined (cut_step target first ps)) (sliced_row target turns (m + loops_of first) others rest (behind_step target first ps))
      ∙ sym (joined_append (cut_step target first ps) (cut_row target others (behind_step target first ps)) (sliced target rest (behind_row target others (behind_step target first ps))))

pub cuts_are_outlines : CutsAreOutlines
cuts_are_outlines = record {
  outline_is = λ e turns n m s last.
      sym (sliced_before e.parts.target turns m s Done (followed (steps_code e.parts n (step_before turns m s Done)) last)
      ∙ joined_none (cut_step e.parts.target s (followed (steps_code e.parts n (step_before turns m s Done)) last)))
      ∙ slices_are e n (step_before turns m s Done) last;
  behind_is = λ e turns n m s last.
      sym (behind_before e.parts.target turns m s Done (followed (steps_code e.parts n (step_before turns m s Done)) last)) ∙ steps_behind e n (step_before turns m s Done) last;
}
