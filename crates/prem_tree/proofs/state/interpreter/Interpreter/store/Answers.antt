use Rattle.std.specs.Prelude.{slice_set}
use Rattle.std.specs.Vec.{with_item}
use Rattle.std.proofs.Common.{◌<◌, length, map, ap, ◌∙◌, arith}
use Rattle.std.proofs.lemmas.List.{map-set}
use Rattle.prem_tree.specs.State.Interpreter.{state_of}
use Rattle.prem_tree.proofs.StateLemmas.Cells.{slice_get-map, slice_get-at, store_at}
use Rattle.prem_tree.proofs.state.interpreter.Interpreter.store.Goals as goal

pub returns : goal.returns
returns c = λ ls.
    let globals = c.args.self.now.globals in
    let words = c.in-Some.words.now in
    let g_inside : c.args.g < length globals.items = grind arith in
    let j_inside : c.args.j < length words.items = grind arith in
    let here = slice_get-map (λ ws. ws.items) globals.items c.args.g words g_inside c.in-Some.ensures.value in
    let there = slice_get-at words.items c.args.j c.in-Some-get_mut.word.now j_inside c.in-Some-get_mut.ensures.value in
    store_at c.args.line c.args.g c.args.j c.args.w c.in-Some-get_mut.word.now c.args.ty (state_of c.args.self.now ls) words.items
    (map (λ ws. ws.items) (slice_set globals.items c.args.g (with_item words c.args.j c.stored.result))) here there
    (map-set (λ ws. ws.items) globals.items c.args.g (with_item words c.args.j c.stored.result)
    ∙ ap (λ w. slice_set (map (λ ws. ws.items) globals.items) c.args.g (slice_set words.items c.args.j w)) c.stored.ensures)
