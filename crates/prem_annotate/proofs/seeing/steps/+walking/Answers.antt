use Rattle.prem_annotate.proofs.Prelude.{if_other_known, if_known, for_known, while_known, block_is, plain, plain_list, env_of, saves_of, sight_of, behind, after, restored, merged, term_of}
use Rattle.prem_annotate.proofs.Prelude.{Step, List, ap, sym, ◌∙◌, arith}
use Rattle.prem_analysis.specs.declared.ranging.saves.Saved.{Saved}
use Rattle.prem_annotate.proofs.Arms.{if_arm, for_arm, while_arm}
use Rattle.prem_annotate.proofs.Sights.{walked_on}
use Rattle.prem_annotate.proofs.seeing.steps.+walking.Goals as goal

pub walk-returns-in_ok-walk_all-in-Block-clause-env : goal.walk-returns-in_ok-walk_all-in-Block-clause-env
walk-returns-in_ok-walk_all-in-Block-clause-env t c =
    let env = env_of c.args.env.now.items in
    c.in_ok-walk_all-in-Block.ensures.env ∙ ap (λ (l : List Step). after env (plain_list l)) c.items.ensures
    ∙ sym (ap (after env) (block_is c.in-Block.body)) ∙ sym (ap (λ (x : Step). after env (plain x)) c.in-Block.is)

pub walk-returns-in_ok-walk_all-in-Block-clause-sight : goal.walk-returns-in_ok-walk_all-in-Block-clause-sight
walk-returns-in_ok-walk_all-in-Block-clause-sight t c =
    let env = env_of c.args.env.now.items in let s = sight_of c.args.sight.now in
    c.in_ok-walk_all-in-Block.ensures.sight ∙ ap (λ (l : List Step). behind env (plain_list l) s) c.items.ensures
    ∙ sym (ap (λ b. behind env b s) (block_is c.in-Block.body)) ∙ sym (ap (λ (x : Step). behind env (plain x) s) c.in-Block.is)

pub walk-returns-in_ok-walk-in-If-2 : goal.walk-returns-in_ok-walk-in-If-2
walk-returns-in_ok-walk-in-If-2 t c =
    let env = env_of c.args.env.now.items in let s = sight_of c.args.sight.now in
    let condition = term_of c.in-If.condition in let taken = c.in-If.taken.value in let other = c.in-If.other.value in
    let inner = env_of c.enter_if.new.env.items in let behind_taken = env_of c.walk.new.env.items in let right = env_of c.enter_other.new.env.items in
    let right_is = if_other_known env inner behind_taken right condition taken other c.deref.result.now c.deref-in-If.result.now
    c.deref-in-If-2.result.now (saves_of c.in_ok-arms-in-If.arms.before.items)
    c.in_ok-arms-in-If.ensures.before c.in_ok-arms-in-If.ensures.env c.in_ok-walk-in-If.ensures.env c.in_ok-behind-in-If.ensures.env c.deref.ensures c.deref-in-If.ensures c.deref-in-If-2.ensures in
    record {
      env = if_known env inner behind_taken right (env_of c.walk-in-If.new.env.items) (env_of c.at_either.new.env.items) c.in-If.at condition taken other
          c.deref.result.now c.deref-in-If.result.now c.deref-in-If-2.result.now c.deref-in-If-3.result.now c.in_ok-arms-in-If.arms.locals.items (saves_of c.in_ok-behind-in-If.behind.items)
          c.in_ok-arms-in-If.ensures.locals c.in_ok-arms-in-If.ensures.env c.in_ok-walk-in-If.ensures.env c.in_ok-behind-in-If.ensures.behind right_is c.in_ok-walk-in-If-2.ensures.env
          (c.at_either.ensures ∙ ap (λ (l : List Saved). merged (saves_of l) (env_of c.walk-in-If.new.env.items)) c.deref-in-If-4.ensures.value)
          c.deref.ensures c.deref-in-If.ensures c.deref-in-If-2.ensures c.deref-in-If-3.ensures
          ∙ sym (ap (λ (x : Step). after env (plain x)) c.in-If.is);
      sight = if_arm env right inner c.in-If.at condition taken other c.deref-in-If-2.result.now c.deref-in-If-3.result.now
          (sight_of c.enter_if.new.sight) (sight_of c.walk.new.sight) (sight_of c.walk-in-If.new.sight) s
          right_is c.in_ok-arms-in-If.ensures.env c.in_ok-arms-in-If.ensures.sight c.deref-in-If-2.ensures c.deref-in-If-3.ensures c.in_ok-walk-in-If.ensures.sight c.in_ok-walk-in-If-2.ensures.sight
          ∙ sym (ap (λ (x : Step). behind env (plain x) s) c.in-If.is);
    }

pub walk-returns-in_ok-walk-in-For : goal.walk-returns-in_ok-walk-in-For
walk-returns-in_ok-walk-in-For t c =
    let env = env_of c.args.env.now.items in let s = sight_of c.args.sight.now in
    let low = term_of c.in-For.low in let high = term_of c.in-For.high in let inner = env_of c.enter_counting.new.env.items in
    record {
      env = for_known env inner (env_of c.walk-in-For.new.env.items) (env_of c.put_back.new.env.items) c.in-For.at c.in-For.number low c.in-For.closed high c.in-For.step c.in-For.body.value
          c.deref-in-For.result.now c.deref-in-For-2.result.now (saves_of c.in_ok-behind-in-For.behind.items)
          c.in_ok-behind-in-For.ensures.behind c.in_ok-behind-in-For.ensures.env c.in_ok-walk-in-For.ensures.env
          (c.put_back.ensures ∙ ap (λ (l : List Saved). restored (saves_of l) (env_of c.walk-in-For.new.env.items)) c.deref-in-For-3.ensures.value)
          c.deref-in-For.ensures c.deref-in-For-2.ensures
          ∙ sym (ap (λ (x : Step). after env (plain x)) c.in-For.is);
      sight = for_arm env inner c.in-For.at c.in-For.number low c.in-For.closed high c.in-For.step
          c.deref-in-For.result.now c.deref-in-For-2.result.now c.in-For.body.value (sight_of c.enter_counting.new.sight) (sight_of c.walk-in-For.new.sight) s
          c.in_ok-behind-in-For.ensures.env c.in_ok-behind-in-For.ensures.sight c.in_ok-walk-in-For.ensures.sight c.deref-in-For.ensures c.deref-in-For-2.ensures
          ∙ sym (ap (λ (x : Step). behind env (plain x) s) c.in-For.is);
    }

pub walk-returns-in_ok-walk-in-While : goal.walk-returns-in_ok-walk-in-While
walk-returns-in_ok-walk-in-While t c =
    let env = env_of c.args.env.now.items in let s = sight_of c.args.sight.now in
    let condition = term_of c.in-While.condition in let inner = env_of c.enter_while.new.env.items in
    record {
      env = while_known env inner (env_of c.walk-in-While.new.env.items) (env_of c.put_back-in-While.new.env.items) c.in-While.at c.in-While.turns condition c.in-While.body.value
          c.deref-in-While.result.now c.deref-in-While-2.result.now (saves_of c.in_ok-behind-in-While.behind.items)
          c.in_ok-behind-in-While.ensures.behind c.in_ok-behind-in-While.ensures.env c.in_ok-walk-in-While.ensures.env
          (c.put_back-in-While.ensures ∙ ap (λ (l : List Saved). restored (saves_of l) (env_of c.walk-in-While.new.env.items)) c.deref-in-While-3.ensures.value)
          c.deref-in-While.ensures c.deref-in-While-2.ensures
          ∙ sym (ap (λ (x : Step). after env (plain x)) c.in-While.is);
      sight = while_arm env inner c.in-While.at c.in-While.turns condition
          c.deref-in-While.result.now c.deref-in-While-2.result.now c.in-While.body.value (sight_of c.enter_while.new.sight) (sight_of c.walk-in-While.new.sight) s
          c.in_ok-behind-in-While.ensures.env c.in_ok-behind-in-While.ensures.sight c.in_ok-walk-in-While.ensures.sight c.deref-in-While.ensures c.deref-in-While-2.ensures
          ∙ sym (ap (λ (x : Step). behind env (plain x) s) c.in-While.is);
    }

pub walk_all-loop-s-preserved : goal.walk_all-loop-s-preserved
walk_all-loop-s-preserved t c =
    walked_on c.args.steps.now c.loop-s.s-index c.s-item.result (env_of c.loop-s.env.items) (env_of c.walk.new.env.items)
    (env_of c.args.env.now.items) (sight_of c.loop-s.sight) (sight_of c.walk.new.sight) (sight_of c.args.sight.now)
    (omega arith) c.s-item.is c.loop-s.invariant c.in_ok-walk.ensures.env c.in_ok-walk.ensures.sight
