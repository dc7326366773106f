use Rattle.prem_annotate.proofs.Prelude.{plain_routine, env_of, touch_of, argument_of, sight_of, Argument, local_of, Local, term_of, List, map, ap}
use Rattle.prem_annotate.proofs.Arms.{routine_arm}
use Rattle.prem_annotate.proofs.Sights.{sight, same_sight}
use Rattle.prem_annotate.specs.declared.seeing.sight.GlobalAccess.{GlobalAccess}
use Rattle.prem_tree.specs.declared.resolve.resolved.Term.{Term}
use Rattle.prem_annotate.proofs.seeing.routine.see_routine.Goals as goal

pub returns : goal.returns
returns c =
    routine_arm (env_of c.args.parameters.items) (plain_routine c.args.f.now) (map local_of c.items.result.now) (map term_of c.items-2.result.now)
    (env_of c.declare_all.new.env.items) (env_of c.walk.new.env.items)
    (sight (map touch_of c.new.result.items) (map argument_of c.new-2.result.items)) (sight_of c.declare_all.new.sight) (sight_of c.walk.new.sight) (sight_of c.see_result.new.sight)
    (ap (λ (l : List Local). map local_of l) c.items.ensures) (ap (λ (l : List Term). map term_of l) c.items-2.ensures)
    (same_sight _ _ _ _ (ap (λ (l : List GlobalAccess). map touch_of l) c.new.ensures.items) (ap (λ (l : List Argument). map argument_of l) c.new-2.ensures.items))
    c.in_ok-declare_all.ensures.env c.in_ok-declare_all.ensures.sight c.in_ok-walk.ensures.env c.in_ok-walk.ensures.sight c.in_ok-see_result.ensures
