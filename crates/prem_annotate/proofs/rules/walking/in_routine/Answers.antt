use Rattle.prem_annotate.proofs.Prelude.{seen, routine_arm, plain_routine, env_of, slot_of, with_slots, routine_with, known_parameter, parameter_of, local_of, Local, Param, term_of, List}
use Rattle.prem_annotate.proofs.Prelude.{map, refl, ap, ◌∙◌, None}
use Rattle.prem_analysis.specs.Ranging.SiteOf.{site_of}
use Rattle.prem_analysis.specs.Seen.{Seen, seen_of}
use Rattle.prem_tree.specs.declared.resolve.resolved.Term.{Term}
use Rattle.prem_annotate.proofs.rules.walking.in_routine.Goals as goal

pub returns : goal.returns
returns c =
    let row = map slot_of c.args.row.now in
    let f = routine_with row (plain_routine c.args.f.now) in
    let start = seen c.new.result.items None in
    ap (λ (s : Seen). s.found)
    (routine_arm (site_of c.args.site.now) f (map local_of c.items-2.result.now) (map term_of c.items-3.result.now) (env_of c.in_ok-env.env.items)
    (env_of c.declare_all.new.env.items) (env_of c.walk.new.env.items) (env_of c.walk.new.env.items)
    start (seen_of c.declare_all.new.seen) (seen_of c.walk.new.seen) (seen_of c.see_result.new.seen)
    (c.in_ok-env.ensures ∙ ap (λ (ps : List Param). map known_parameter (with_slots row (map parameter_of ps))) c.items.ensures)
    (ap (λ (l : List Local). map local_of l) c.items-2.ensures) (ap (λ (l : List Term). map term_of l) c.items-3.ensures)
    c.in_ok-declare_all.ensures.env c.in_ok-declare_all.ensures.seen c.in_ok-walk.ensures.env c.in_ok-walk.ensures.seen refl c.in_ok-see_result.ensures)
