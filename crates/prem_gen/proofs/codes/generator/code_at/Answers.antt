use Rattle.std.specs.Prelude.{slice_index}
use Rattle.std.proofs.Common.{◌≤◌, get_or, ap, sym, ◌∙◌, arith, subst}
use Rattle.prem_list.specs.Sequence.{items_of}
use Rattle.prem_layout.specs.Template.Limits.{greatest_frame}
use Rattle.prem_gen.proofs.RoutineLemmas.Whole.{frame_is}
use Rattle.prem_gen.proofs.CodesLemmas.Numbered.{loops_at}
use Rattle.prem_gen.proofs.CodesLemmas.Told.{small_told, code_told, excess_told}
use Rattle.prem_gen.proofs.codes.generator.code_at.Goals as goal

pub code_of-requires-clause-small : goal.code_of-requires-clause-small
code_of-requires-clause-small c = λ fits.
    let turns = slice_index c.args.turns.now in
    small_told turns c.args.r.now c.args.f c.args.turn c.index-routines-f.result c.items-routines.result.now c.items-routines.ensures c.requires.there c.index-routines-f.is c.requires.turn
    c.args.table.now c.requires.table c.requires.small c.requires.callees
    (subst (λ k. k ≤ greatest_frame) (sym (frame_is turns c.args.turn c.index-routines-f.result)) fits)

pub code_of-requires-clause-turns : goal.code_of-requires-clause-turns
code_of-requires-clause-turns c =
    let is = c.index-routines-f.is ∙ ap (λ ys. get_or ys c.args.f c.index-routines-f.result) c.items-routines.ensures in
    let among = loops_at (items_of c.args.r.now.routines) c.args.f c.index-routines-f.result c.requires.there is in
    omega (arith, among, c.requires.turn, c.requires.loops)

pub returns-clause-code : goal.returns-clause-code
returns-clause-code c =
    code_told (slice_index c.args.turns.now)
    c.args.r.now c.args.f c.args.turn c.index-routines-f.result c.items-routines.result.now c.items-routines.ensures c.requires.there
    c.index-routines-f.is c.requires.turn
    c.args.target c.first_global.result c.args.table.now c.code_of.result c.first_global.ensures.value c.requires.table c.requires.callees c.code_of.ensures.pieces c.code_of.ensures.excess

pub returns-clause-excess : goal.returns-clause-excess
returns-clause-excess c =
    excess_told (slice_index c.args.turns.now)
    c.args.r.now c.args.f c.args.turn c.index-routines-f.result c.items-routines.result.now c.items-routines.ensures c.requires.there
    c.index-routines-f.is c.requires.turn
    c.code_of.result c.code_of.ensures.excess
