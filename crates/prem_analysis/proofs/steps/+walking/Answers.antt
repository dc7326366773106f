use Rattle.prem_analysis.proofs.Prelude.{plain, plain_list, site_of, env_of, saves_of, seen_of, behind, after, restored, merged, term_of, Step, List, ap, sym, ◌∙◌, arith}
use Rattle.prem_analysis.proofs.Behind.{if_arm, for_arm, while_arm, walked_on}
use Rattle.prem_analysis.proofs.InPlace.{if_other_known, if_known, for_known, while_known}
use Rattle.prem_analysis.proofs.RangingLemmas.Sequences.{block_is}
use Rattle.prem_analysis.specs.declared.ranging.saves.Saved.{Saved}
use Rattle.prem_analysis.proofs.steps.+walking.Goals as goal

pub walk-returns-in_ok-walk_all-in-Block-clause-env : goal.walk-returns-in_ok-walk_all-in-Block-clause-env
walk-returns-in_ok-walk_all-in-Block-clause-env t c =
    let env = env_of c.args.env.now.items in
    c.in_ok-walk_all-in-Block.ensures.env ∙ ap (λ (l : List Step). after env (plain_list l)) c.items.ensures
    ∙ sym (ap (after env) (block_is c.in-Block.body)) ∙ sym (ap (λ (x : Step). after env (plain x)) c.in-Block.is)

pub walk-returns-in_ok-walk_all-in-Block-clause-seen : goal.walk-returns-in_ok-walk_all-in-Block-clause-seen
walk-returns-in_ok-walk_all-in-Block-clause-seen t c =
    let site = site_of c.args.site.now in let around = c.args.around in let env = env_of c.args.env.now.items in let s = seen_of c.args.seen.now in
    c.in_ok-walk_all-in-Block.ensures.seen ∙ ap (λ (l : List Step). behind site around env (plain_list l) s) c.items.ensures
    ∙ sym (ap (λ b. behind site around env b s) (block_is c.in-Block.body)) ∙ sym (ap (λ (x : Step). behind site around env (plain x) s) c.in-Block.is)

pub walk-returns-in_ok-walk-in-If-2 : goal.walk-returns-in_ok-walk-in-If-2
walk-returns-in_ok-walk-in-If-2 t c =
    let site = site_of c.args.site.now in let around = c.args.around in let env = env_of c.args.env.now.items in let s = seen_of c.args.seen.now in
    let condition = term_of c.in-If.condition in let taken = c.in-If.taken.value in let other = c.in-If.other.value in
    let inner = env_of c.enter_if.new.env.items in let behind_taken = env_of c.walk.new.env.items in let right = env_of c.enter_other.new.env.items in
    let right_is = if_other_known env inner behind_taken right condition taken other c.deref.result.now c.deref-in-If.result.now
    c.deref-in-If-2.result.now (saves_of c.in_ok-arms-in-If.arms.before.items)
    c.in_ok-arms-in-If.ensures.before c.in_ok-arms-in-If.ensures.env c.in_ok-walk-in-If.ensures.env c.in_ok-behind-in-If.ensures.env c.deref.ensures c.deref-in-If.ensures c.deref-in-If-2.ensures in
    record {
      env = if_known env inner behind_taken right (env_of c.walk-in-If.new.env.items) (env_of c.at_either.new.env.items) c.in-If.at condition taken other
          c.deref.result.now c.deref-in-If.result.now c.deref-in-If-2.result.now c.deref-in-If-3.result.now c.in_ok-arms-in-If.arms.locals.items (saves_of c.in_ok-behind-in-If.behind.items)
          c.in_ok-arms-in-If.ensures.locals c.in_ok-arms-in-If.ensures.env c.in_ok-walk-in-If.ensures.env c.in_ok-behind-in-If.ensures.behind right_is c.in_ok-walk-in-If-2.ensures.env
          (c.at_either.ensures ∙ ap (λ (l : List Saved). merged (saves_of l) (env_of c.walk-in-If.new.env.items)) c.deref-in-If-4.ensures.value)
          c.deref.ensures c.deref-in-If.ensures c.deref-in-If-2.ensures c.deref-in-If-3.ensures
          ∙ sym (ap (λ (x : Step). after env (plain x)) c.in-If.is);
      seen = if_arm site around env right inner c.in-If.at condition taken other c.deref-in-If-2.result.now c.deref-in-If-3.result.now
          (seen_of c.enter_if.new.seen) (seen_of c.walk.new.seen) (seen_of c.walk-in-If.new.seen) s
          right_is c.in_ok-arms-in-If.ensures.env c.in_ok-arms-in-If.ensures.seen c.deref-in-If-2.ensures c.deref-in-If-3.ensures c.in_ok-walk-in-If.ensures.seen c.in_ok-walk-in-If-2.ensures.seen
          ∙ sym (ap (λ (x : Step). behind site around env (plain x) s) c.in-If.is);
    }

pub walk-returns-in_ok-walk-in-For : goal.walk-returns-in_ok-walk-in-For
walk-returns-in_ok-walk-in-For t c =
    let site = site_of c.args.site.now in let around = c.args.around in let env = env_of c.args.env.now.items in let s = seen_of c.args.seen.now in
    let low = term_of c.in-For.low in let high = term_of c.in-For.high in let inner = env_of c.enter_counting.new.env.items in
    record {
      env = for_known env inner (env_of c.walk-in-For.new.env.items) (env_of c.put_back.new.env.items) c.in-For.at c.in-For.number low c.in-For.closed high c.in-For.step c.in-For.body.value
          c.deref-in-For.result.now c.deref-in-For-2.result.now (saves_of c.in_ok-inner-in-For.inner.behind.items)
          c.in_ok-inner-in-For.ensures.behind c.in_ok-inner-in-For.ensures.env c.in_ok-walk-in-For.ensures.env
          (c.put_back.ensures ∙ ap (λ (l : List Saved). restored (saves_of l) (env_of c.walk-in-For.new.env.items)) c.deref-in-For-3.ensures.value)
          c.deref-in-For.ensures c.deref-in-For-2.ensures
          ∙ sym (ap (λ (x : Step). after env (plain x)) c.in-For.is);
      seen = for_arm site around c.in_ok-inner-in-For.inner.around env inner c.in-For.at c.in-For.number low c.in-For.closed high c.in-For.step
          c.deref-in-For.result.now c.deref-in-For-2.result.now c.in-For.body.value (seen_of c.enter_counting.new.seen) (seen_of c.walk-in-For.new.seen) s
          c.in_ok-inner-in-For.ensures.around c.in_ok-inner-in-For.ensures.env c.in_ok-inner-in-For.ensures.seen c.in_ok-walk-in-For.ensures.seen c.deref-in-For.ensures c.deref-in-For-2.ensures
          ∙ sym (ap (λ (x : Step). behind site around env (plain x) s) c.in-For.is);
    }

pub walk-returns-in_ok-walk-in-While : goal.walk-returns-in_ok-walk-in-While
walk-returns-in_ok-walk-in-While t c =
    let site = site_of c.args.site.now in let around = c.args.around in let env = env_of c.args.env.now.items in let s = seen_of c.args.seen.now in
    let condition = term_of c.in-While.condition in let inner = env_of c.enter_while.new.env.items in
    record {
      env = while_known env inner (env_of c.walk-in-While.new.env.items) (env_of c.put_back-in-While.new.env.items) c.in-While.at c.in-While.turns condition c.in-While.body.value
          c.deref-in-While.result.now c.deref-in-While-2.result.now (saves_of c.in_ok-inner-in-While.inner.behind.items)
          c.in_ok-inner-in-While.ensures.behind c.in_ok-inner-in-While.ensures.env c.in_ok-walk-in-While.ensures.env
          (c.put_back-in-While.ensures ∙ ap (λ (l : List Saved). restored (saves_of l) (env_of c.walk-in-While.new.env.items)) c.deref-in-While-3.ensures.value)
          c.deref-in-While.ensures c.deref-in-While-2.ensures
          ∙ sym (ap (λ (x : Step). after env (plain x)) c.in-While.is);
      seen = while_arm site around c.in_ok-inner-in-While.inner.around env inner c.in-While.at c.in-While.turns condition
          c.deref-in-While.result.now c.deref-in-While-2.result.now c.in-While.body.value (seen_of c.enter_while.new.seen) (seen_of c.walk-in-While.new.seen) s
          c.in_ok-inner-in-While.ensures.around c.in_ok-inner-in-While.ensures.env c.in_ok-inner-in-While.ensures.seen
          c.in_ok-walk-in-While.ensures.seen c.deref-in-While.ensures c.deref-in-While-2.ensures
          ∙ sym (ap (λ (x : Step). behind site around env (plain x) s) c.in-While.is);
    }

pub walk_all-loop-s-preserved : goal.walk_all-loop-s-preserved
walk_all-loop-s-preserved t c =
    walked_on (site_of c.args.site.now) c.args.around c.args.steps.now c.loop-s.s-index c.s-item.result (env_of c.loop-s.env.items)
    (env_of c.walk.new.env.items) (env_of c.args.env.now.items) (seen_of c.loop-s.seen) (seen_of c.walk.new.seen) (seen_of c.args.seen.now)
    (omega arith) c.s-item.is c.loop-s.invariant c.in_ok-walk.ensures.env c.in_ok-walk.ensures.seen
