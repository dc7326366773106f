-- What the generator gives for a function by its number.
use Rattle.std.specs.Prelude.{slice_get, Result, IfOk}
use Rattle.std.proofs.Common.{◌≡◌, ◌<◌, ◌≤◌, ℕ, ◌+◌, List, length, take, get_or, Some, ap, ◌∙◌, sym, subst, arith, Ok, Err}
use Rattle.prem_list.specs.declared.Sequence.{Sequence}
use Rattle.prem_list.specs.Sequence.{items_of}
use Rattle.prem_plant.specs.declared.plant.Target.{Target}
use Rattle.prem_syntax.specs.Resolved.{Routine}
use Rattle.prem_tree.specs.declared.resolve.resolved.Routine.{Routine as RoutineTree}
use Rattle.prem_tree.specs.declared.resolve.resolved.Resolved.{Resolved as ResolvedTree}
use Rattle.prem_tree.specs.Resolve.ResolvedOf.{routine_of, routines_of, resolved_of, all_loops}
use Rattle.prem_asm.specs.declared.piece.Piece.{Piece}
use Rattle.prem_asm.specs.PiecesOf.{pieces_of}
use Rattle.prem_layout.specs.Template.Frames.{frame_of}
use Rattle.prem_layout.specs.Template.Limits.{excess_of, greatest_frame}
use Rattle.prem_layout.specs.Template.Steps.{function_code}
use Rattle.prem_layout.specs.Template.Parts.{parts_of}
use Rattle.prem_gen.specs.declared.term.fail.GenFail.{GenFail}
use Rattle.prem_gen.specs.Term.Excess.{Refuses}
use Rattle.prem_gen.specs.declared.routine.task.Callee.{Callee}
use Rattle.prem_gen.specs.Routine.RoutineCode.{RoutineSmall}
use Rattle.prem_gen.specs.Table.Table.{all_marks, callees_from}
use Rattle.prem_gen.specs.Codes.Codes.{code_if_there, code_at, excess_if_there, excess_at, FunctionsSmall, CalleesFit}
use Rattle.prem_gen.proofs.CodesLemmas.Numbered.{routine_at}
use Rattle.prem_gen.proofs.CodesLemmas.Sameness.{parts_by, code_same, fits_where_none, routine_small}

module _ (turns : ℕ → ℕ) (p : ResolvedTree) (n m : ℕ) (r : RoutineTree) (xs : List RoutineTree) (listed : xs ≡ items_of p.routines) (inside : n < length (items_of p.routines)) (is : r ≡ get_or xs n r)
    (numbered : m ≡ all_loops (take n (items_of p.routines))) where
  abbrev All : List RoutineTree
  All = items_of p.routines

  abbrev Plain : Routine
  Plain = routine_of turns m r

  pub there : slice_get (resolved_of turns p).routines n ≡ Some Plain
  there =
      let at : r ≡ get_or All n r = is ∙ ap (λ ys. get_or ys n r) listed in
      let number : 0 + all_loops (take n All) ≡ m = omega (arith, numbered) in
      routine_at turns 0 All n r inside at ∙ ap (λ k. Some (routine_of turns k r)) number

  pub small_told : (table : List Callee) → table ≡ callees_from (1 + length All) 0 All → FunctionsSmall (resolved_of turns p) →
      CalleesFit (resolved_of turns p) n → frame_of Plain ≤ greatest_frame → RoutineSmall table r
  small_told table made small fits own =
      subst (λ t. RoutineSmall t r) (sym made) (routine_small turns All m n r (small n Plain there own) (fits Plain there own))

  pub excess_told : {A : Type 0} (result : Result A GenFail) → Refuses result (excess_of n Plain) → Refuses result (excess_at (resolved_of turns p) n)
  excess_told {A} result h = subst (λ o. Refuses {A = A} result (excess_if_there n o)) (sym there) h

  pub code_told : (target : Target) (first : ℕ) (table : List Callee) (result : Result (Sequence Piece) GenFail) →
      first ≡ 1 + length xs + all_marks xs → table ≡ callees_from (1 + length All) 0 All → CalleesFit (resolved_of turns p) n →
      IfOk result (λ pieces. pieces_of (items_of pieces) ≡ function_code (parts_by target first table) Plain) → Refuses result (excess_of n Plain) →
      IfOk result (λ pieces. pieces_of (items_of pieces) ≡ code_at target (resolved_of turns p) n)
  code_told target first table (Err e) counted made fits code none = tt
  code_told target first table (Ok pieces) counted made fits code none =
      let own : frame_of Plain ≤ greatest_frame = fits_where_none n Plain none in
      let number : first ≡ 1 + length All + all_marks All = counted ∙ ap (λ ys. 1 + length ys + all_marks ys) listed in
      code
      ∙ ap (λ k. function_code (parts_by target k table) Plain) number
      ∙ ap (λ t. function_code (parts_by target (1 + length All + all_marks All) t) Plain) made
      ∙ code_same target turns All Plain (fits Plain there own)
      ∙ ap (code_if_there (parts_of target (routines_of turns 0 All))) (sym there)
