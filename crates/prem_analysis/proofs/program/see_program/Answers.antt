use Rattle.prem_analysis.proofs.Prelude.{site_at, behind_routines, Seen, Global, Routine, List, ap, ◌∙◌, [], None, ℕ, Bor}
use Rattle.prem_analysis.proofs.Behind.{seen}
use Rattle.prem_analysis.proofs.Programs.{program_seen}
use Rattle.prem_analysis.proofs.program.see_program.Goals as goal

pub returns-clause-found : goal.returns-clause-found
returns-clause-found c =
    let r = c.args.r.now in let m = c.args.marked.now in let l = c.items.result.now in
    ap (λ (s : Seen). s.found)
    (c.in_ok-walk_routines.ensures ∙ ap (λ (bs : List ℕ). behind_routines (site_at c.deref.result.now l m) 0 l (seen bs None)) c.new.ensures.items
    ∙ ap (λ (g : List (Bor Global)). behind_routines (site_at g l m) 0 l (seen [] None)) c.deref.ensures.value
    ∙ ap (λ (x : List Routine). behind_routines (site_at r.globals.items x m) 0 x (seen [] None)) c.items.ensures ∙ program_seen r m c.requires.watched)

pub returns-clause-turns : goal.returns-clause-turns
returns-clause-turns c =
    let r = c.args.r.now in let m = c.args.marked.now in let l = c.items.result.now in
    ap (λ (s : Seen). s.bounds)
    (c.in_ok-walk_routines.ensures ∙ ap (λ (bs : List ℕ). behind_routines (site_at c.deref.result.now l m) 0 l (seen bs None)) c.new.ensures.items
    ∙ ap (λ (g : List (Bor Global)). behind_routines (site_at g l m) 0 l (seen [] None)) c.deref.ensures.value
    ∙ ap (λ (x : List Routine). behind_routines (site_at r.globals.items x m) 0 x (seen [] None)) c.items.ensures ∙ program_seen r m c.requires.watched)
