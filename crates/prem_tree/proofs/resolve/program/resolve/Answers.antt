use Rattle.std.specs.Prelude.{unwrap_or}
use Rattle.std.proofs.Common.{◌≡◌, ◌+◌, ◌∷◌, [], ◌++◌, arith, take, map, length, codes, ap, sym, ◌∙◌}
use Rattle.std.proofs.lemmas.Grind.{common_steps}
use Rattle.std.proofs.lemmas.List.{length-map}
use Rattle.prem_list.specs.Sequence.{items_of}
use Rattle.prem_syntax.specs.SyntaxOf.{item_of, function_of, program_of}
use Rattle.prem_syntax.specs.Resolve.{functions_of, number_named}
use Rattle.prem_names.specs.Scopes.{scope_of}
use Rattle.prem_tree.specs.Resolve.NamesOf.{AreBehind}
use Rattle.prem_tree.proofs.resolve.program.resolve.Goals as goal

pub loop-item-preserved : goal.loop-item-preserved
loop-item-preserved c =
    let items = items_of c.args.p.now.items in
    let k = c.loop-item.item-index in
    let more : map item_of (take (k + 1) items) ≡ map item_of (take k items) ++ item_of c.item-item.result ∷ [] = grind (arith, common_steps) in
    rw more (c.in_ok-resolve_item.ensures (functions_of (program_of c.args.p.now)) (map item_of (take k items)) c.loop-item.invariant)

pub returns : goal.returns
returns c =
    let p = program_of c.args.p.now in
    let items = items_of c.args.p.now.items in
    let functions = c.in_ok-functions.functions in
    let all : map item_of (take c.loop-item.item-index items) ≡ p = grind (arith, common_steps) in
    let b : AreBehind (scope_of c.loop-item.names) (items_of c.loop-item.routines) (functions_of p) p = rw all at c.loop-item.invariant in
    let number : c.number_of_function.result ≡ number_named (functions_of p) (codes "job") = c.number_of_function.ensures ∙ ap (λ fs. number_named fs (codes "job")) b.functions_are in
    let count : c.len-count.result ≡ length (functions_of p) =
    c.len-count.ensures ∙ functions.ok.0 ∙ sym (length-map functions.items (λ f. function_of f.now))
    ∙ ap length (c.in_ok-functions.ensures ∙ ap (λ xs. functions_of (map item_of xs)) c.items.ensures) in
    let job : c.unwrap_or-job.result ≡ unwrap_or (number_named (functions_of p) (codes "job")) (length (functions_of p)) = c.unwrap_or-job.ensures ∙ (λ i. unwrap_or (number i) (count i)) in
    let globals = c.into_globals.ensures ∙ b.globals_are in
    record { same = λ turns i. record { globals = globals i; routines = b.routines_are.same turns 0 i; job = job i } }
