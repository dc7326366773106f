use Rattle.std.proofs.Common.{◌≡◌, ◌≤◌, map, length, ap, sym, subst, ◌∙◌, arith, rules}
use Rattle.std.proofs.lemmas.List.{length-map}
use Rattle.prem_syntax.specs.SyntaxOf.{function_of}
use Rattle.prem_syntax.specs.Breaches.{is_marked_text, table_of}
use Rattle.prem_syntax.specs.Reach.{with_called}
use Rattle.prem_names.specs.Scopes.{scope_of}
use Rattle.prem_names.specs.Reach.Reach.{Closed, callees_of_each, with_new}
use Rattle.prem_names.proofs.ReachLemmas.Rounds.{closed_behind, closed_first, reached_more, reached_where_same, round}
use Rattle.prem_names.proofs.reach.reached.Goals as goal

pub loop-turn-init : goal.loop-turn-init
loop-turn-init c = record {
  reached = c.in_ok-set.ensures ∙ ap (map is_marked_text) c.functions-functions.ensures;
  closed =
      let table = map (λ ks. ks.items) c.in_ok-table.table.items in
      let set = c.in_ok-set.set.items in
      subst (λ before. Closed table before 0 set) (sym c.new-before.ensures.items) (closed_first table 0 set);
}

pub loop-turn-preserved : goal.loop-turn-preserved
loop-turn-preserved c =
    let fs = (scope_of c.args.names.now).functions in
    let table = map (λ ks. ks.items) c.in_ok-table.table.items in
    let before = c.loop-turn.before.items in
    let set = c.loop-turn.set.items in
    let next = c.in_ok-next.next.items in
    let all : table ≡ table_of fs = c.in_ok-table.ensures ∙ ap (callees_of_each fs) c.functions-functions.ensures in
    let made : next ≡ with_new table before set 0 0 set = search rules in
    let called : next ≡ with_called table set 0 set = made ∙ round table before set 0 set c.loop-turn.invariant.closed in
    record {
      reached = called ∙ ap (λ t. with_called t set 0 set) all ∙ reached_more (table_of fs) (map is_marked_text fs) set c.loop-turn._turn c.loop-turn.invariant.reached;
      closed = subst (Closed table set 0) (sym called) (closed_behind table set 0 set);
    }

pub returns-then-is_same : goal.returns-then-is_same
returns-then-is_same c =
    let fs = (scope_of c.args.names.now).functions in
    let table = map (λ ks. ks.items) c.in_ok-table.table.items in
    let before = c.loop-turn.before.items in
    let set = c.loop-turn.set.items in
    let next = c.in_ok-next.next.items in
    let all : table ≡ table_of fs = c.in_ok-table.ensures ∙ ap (callees_of_each fs) c.functions-functions.ensures in
    let made : next ≡ with_new table before set 0 0 set = search rules in
    let same : next ≡ set = search rules in
    let count : length c.functions-functions.result.now ≡ length fs = sym (length-map c.functions-functions.result.now (λ f. function_of f.now)) ∙ ap length c.functions-functions.ensures in
    let within : c.loop-turn._turn ≤ length fs = omega (arith, count) in
    reached_where_same (table_of fs) (map is_marked_text fs) before set next c.loop-turn._turn (length fs) c.loop-turn.invariant.reached within
    (subst (λ t. Closed t before 0 set) all c.loop-turn.invariant.closed) (made ∙ ap (λ t. with_new t before set 0 0 set) all) same
