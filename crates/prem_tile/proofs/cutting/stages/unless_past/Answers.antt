use Rattle.std.specs.Prelude.{nat_lt}
use Rattle.std.proofs.Common.{◌≤◌, false, Ok, length, map, ap, sym, ◌∙◌, arith}
use Rattle.std.proofs.lemmas.Bool.{le-ltb}
use Rattle.prem_syntax.specs.Syntax.{ProgramText}
use Rattle.prem_syntax.specs.SyntaxOf.{item_of, program_of}
use Rattle.prem_syntax.specs.Resolve.{functions_of}
use Rattle.prem_tiling.specs.Copies.CutOf.{cut_in}
use Rattle.prem_tile.specs.Cutting.Answer.{is_text_past}
use Rattle.prem_tile.proofs.CuttingLemmas.Stages.{ends_by}
use Rattle.prem_tile.proofs.cutting.stages.unless_past.Goals as goal

pub returns : goal.returns
returns c =
    let cut = cut_in c.args.c.now in
    let p = program_of c.args.p.now in
    let q = program_of c.in_ok-q.q in
    let few : c.function_count.result ≤ 256 = omega arith in
    let count = c.function_count.ensures ∙ ap (λ xs. length (functions_of (map item_of xs))) c.items-2.ensures ∙ ap (λ (x : ProgramText). length (functions_of x)) c.in_ok-q.ensures in
    let functions = ap (nat_lt 256) (sym count) ∙ le-ltb 256 c.function_count.result few in
    let names = sym (rw c.in-Some.is at c.in_ok-names.ensures.long) in
    let text = ap is_text_past (sym c.in_ok-q.ensures) ∙ sym c.in_ok-is_text_past.ensures ∙ c.if-branch.false in
    ends_by is_text_past cut p c.requires.asked c.requires.can false false false functions names text ∙ ap Ok (sym c.in_ok-q.ensures)
