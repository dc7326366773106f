-- The outline of a whole function, cut out of its code.
use Rattle.std.proofs.Common.{◌≡◌, ℕ, ◌+◌, List, [], ◌∷◌, length, refl, ap, ◌∙◌}
use Rattle.prem_plant.specs.declared.plant.Target.{Target}
use Rattle.prem_syntax.specs.Resolved.{Term, Routine}
use Rattle.prem_asm.specs.Pieces.{Pieces, straight, followed}
use Rattle.prem_asm.proofs.Rows.{followed_append}
use Rattle.prem_layout.specs.Template.Terms.{only, term_code}
use Rattle.prem_layout.specs.Template.Frames.{locals_of, frame_of}
use Rattle.prem_layout.specs.Template.Steps.{store_slot, declare_code, result_code, closing, steps_code}
use Rattle.prem_tree.specs.Resolve.ResolvedOf.{routine_of}
use Rattle.prem_wcet_laws.specs.Parted.{entry as entry_edge}
use Rattle.prem_wcet.specs.Sliced.{tail_of, before_pieces, behind_term, behind_terms}
use Rattle.prem_wcet.specs.PartsOf.{inside_of, behind_step, cut_step}
use Rattle.prem_wcet.specs.Cut.{FunctionsAreCut}
use Rattle.prem_wcet.proofs.Slices.{before_is, term_behind}
use Rattle.prem_wcet.proofs.Cuts.{cuts_are_outlines}

declares_behind : (target : Target) (parts : ℕ → ℕ) (k : ℕ) (xs : List Term) (q : Pieces) → behind_terms target xs (followed (declare_code target parts k xs) q) ≡ q
declares_behind target parts k [] q = refl
declares_behind target parts k (x ∷ xs) q =
    let stored : Pieces = straight (store_slot k ∷ []) (declare_code target parts (k + 1) xs) in
    ap (λ ps. behind_terms target xs (tail_of (behind_term target x ps))) (followed_append (term_code target parts 10 x) stored q)
    ∙ ap (λ ps. behind_terms target xs (tail_of ps)) (term_behind target parts 10 x (followed stored q))
    ∙ declares_behind target parts (k + 1) xs q

pub functions_are_cut : FunctionsAreCut
functions_are_cut e turns m r ps o is told =
    let f : Routine = routine_of turns m r in
    let last : Pieces = followed (result_code e.parts.target e.parts.global f.result) (only (closing (frame_of f))) in
    let rest : Pieces = followed (steps_code e.parts (locals_of f) f.body) last in
    let inside : inside_of e.parts.target r ps ≡ rest = ap (inside_of e.parts.target r) is ∙ declares_behind e.parts.target e.parts.global (length f.text.params) f.locals rest in
    record {
      entry = told.entry ∙ ap (before_pieces ps) inside ∙ before_is ps rest (entry_edge e f).pieces is;
      entry_names = told.entry_names;
      body = told.body ∙ ap (cut_step e.parts.target r.body) inside ∙ cuts_are_outlines.outline_is e turns (locals_of f) m r.body last;
      leaving = told.leaving ∙ ap (behind_step e.parts.target r.body) inside ∙ cuts_are_outlines.behind_is e turns (locals_of f) m r.body last;
      leaving_names = told.leaving_names;
    }
