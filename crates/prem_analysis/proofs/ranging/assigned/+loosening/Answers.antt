use Rattle.prem_analysis.proofs.Prelude.{plain, plain_list, env_of, items_of, is_target, assigns, loosened, Step, List, ap, sym, ◌∙◌, refl, eqb, arith, drop_all}
use Rattle.prem_analysis.proofs.RangingLemmas.Sequences.{block_is, loosened-one, or_end, arm, local_arm, no_arm, both_arm, moved, more_loosened, loosened-none}
use Rattle.prem_analysis.proofs.ranging.assigned.+loosening.Goals as goal

pub loosen_assigned-returns-in-SetLocal : goal.loosen_assigned-returns-in-SetLocal
loosen_assigned-returns-in-SetLocal t c = c.loosen.ensures ∙ local_arm c.args.step.now c.in-SetLocal.number (env_of c.args.env.now) c.in-SetLocal.is (λ j. refl)

pub loosen_assigned-returns-in-SetScalar : goal.loosen_assigned-returns-in-SetScalar
loosen_assigned-returns-in-SetScalar t c = no_arm c.args.step.now (env_of c.args.env.now) c.in-SetScalar.is (λ j. refl)

pub loosen_assigned-returns-in-SetElement : goal.loosen_assigned-returns-in-SetElement
loosen_assigned-returns-in-SetElement t c = no_arm c.args.step.now (env_of c.args.env.now) c.in-SetElement.is (λ j. refl)

pub loosen_assigned-returns-in-Output : goal.loosen_assigned-returns-in-Output
loosen_assigned-returns-in-Output t c = no_arm c.args.step.now (env_of c.args.env.now) c.in-Output.is (λ j. refl)

pub loosen_assigned-returns-in-Input : goal.loosen_assigned-returns-in-Input
loosen_assigned-returns-in-Input t c = c.loosen-in-Input.ensures ∙ local_arm c.args.step.now c.in-Input.number (env_of c.args.env.now) c.in-Input.is (λ j. refl)

pub loosen_assigned-returns-in-Block : goal.loosen_assigned-returns-in-Block
loosen_assigned-returns-in-Block t c =
    let env = env_of c.args.env.now in
    let body = c.in-Block.body in
    c.loosen_all.ensures ∙ ap (λ (l : List Step). loosened (λ j. assigns j (plain_list l)) env) c.items.ensures
    ∙ sym (arm c.args.step.now (λ j. assigns j (plain_list (items_of body))) env c.in-Block.is (λ j. ap (assigns j) (block_is body)))

pub loosen_assigned-returns-in-If : goal.loosen_assigned-returns-in-If
loosen_assigned-returns-in-If t c =
    let env = env_of c.args.env.now in
    let taken = c.in-If.taken.value in
    let other = c.in-If.other.value in
    c.loosen_assigned-in-If.ensures
    ∙ moved c.deref-in-If.result.now other (env_of c.loosen_assigned.new.env) (loosened (λ j. assigns j (plain taken)) env) c.deref-in-If.ensures
    (c.loosen_assigned.ensures ∙ moved c.deref.result.now taken env env c.deref.ensures refl)
    ∙ both_arm c.args.step.now (λ j. assigns j (plain taken)) (λ j. assigns j (plain other)) env c.in-If.is (λ j. refl)

pub loosen_assigned-returns-in-For : goal.loosen_assigned-returns-in-For
loosen_assigned-returns-in-For t c =
    let env = env_of c.args.env.now in
    let k = c.in-For.number in
    let body = c.in-For.body.value in
    c.loosen_assigned-in-For.ensures
    ∙ moved c.deref-in-For.result.now body (env_of c.loosen-in-For.new.env) (loosened (λ j. eqb k j) env) c.deref-in-For.ensures (c.loosen-in-For.ensures ∙ sym (loosened-one k env))
    ∙ both_arm c.args.step.now (λ j. eqb k j) (λ j. assigns j (plain body)) env c.in-For.is (λ j. refl)

pub loosen_assigned-returns-in-While : goal.loosen_assigned-returns-in-While
loosen_assigned-returns-in-While t c =
    let env = env_of c.args.env.now in
    let body = c.in-While.body.value in
    c.loosen_assigned-in-While.ensures ∙ moved c.deref-in-While.result.now body env env c.deref-in-While.ensures refl
    ∙ sym (arm c.args.step.now (λ j. assigns j (plain body)) env c.in-While.is (λ j. or_end (assigns j (plain body))))

pub loosen_assigned-returns-in-Call : goal.loosen_assigned-returns-in-Call
loosen_assigned-returns-in-Call t c =
    c.loosen_target.ensures ∙ sym (arm c.args.step.now (λ j. is_target j c.in-Call.target) (env_of c.args.env.now) c.in-Call.is (λ j. or_end (is_target j c.in-Call.target)))

pub loosen_all-loop-s-preserved : goal.loosen_all-loop-s-preserved
loosen_all-loop-s-preserved t c =
    more_loosened c.args.steps.now c.loop-s.s-index c.s-item.result (env_of c.loop-s.env) (env_of c.loosen_assigned.new.env) (omega arith) c.s-item.is c.loosen_assigned.ensures ∙ c.loop-s.invariant

pub loosen_all-returns : goal.loosen_all-returns
loosen_all-returns t c =
    let env = env_of c.loop-s.env in
    let none = drop_all c.loop-s.s-index c.args.steps.now (omega arith) in
    sym (loosened-none env) ∙ ap (λ (l : List Step). loosened (λ j. assigns j (plain_list l)) env) (sym none) ∙ c.loop-s.invariant
