use Rattle.std.proofs.Common.{ap, arith, length, ◌-◌}
use Rattle.prem_place.specs.Placed.PlacedOf.{placed_of}
use Rattle.prem_place.proofs.VerdictLemmas.Names.{plain_long}
use Rattle.prem_place.proofs.WordsLemmas.Jumps.{code_at, plan_there, stub_found}
use Rattle.prem_place.proofs.words.function_of.Goals as goal

pub bounds-items-part : goal.bounds-items-part
bounds-items-part c = plan_there c.args.t.now c.args.part (length c.items-functions.result.now) c.items.result.now
    (ap length c.items-functions.ensures) c.if-part-functions.false c.requires.there c.items.ensures

pub bounds-items-part-else-part-functions : goal.bounds-items-part-else-part-functions
bounds-items-part-else-part-functions c =
    plan_there c.args.t.now c.args.part (length c.items-functions.result.now) c.items.result.now (ap length c.items-functions.ensures) c.if-part-functions.false c.requires.there c.items.ensures

pub returns-then-part-functions-clause-name : goal.returns-then-part-functions-clause-name
returns-then-part-functions-clause-name c =
    let le = c.if-part-functions.true in
    let some = c.if-part-eq0.false in
    code_at (placed_of c.args.t.now) c.args.part (c.args.part - 1) (omega (arith, some)) (omega (arith, le, ap length c.items-functions.ensures, plain_long c.args.t.now))

pub returns-then-part-functions-clause-function : goal.returns-then-part-functions-clause-function
returns-then-part-functions-clause-function c =
    let le = c.if-part-functions.true in
    let some = c.if-part-eq0.false in
    omega (arith, some, le, ap length c.items-functions.ensures, plain_long c.args.t.now)

pub returns-else-part-functions-clause-name : goal.returns-else-part-functions-clause-name
returns-else-part-functions-clause-name c =
    (stub_found c.args.t.now c.requires.stands c.args.part (length c.items-functions.result.now) c.items.result.now c.index-items-part.result
    (ap length c.items-functions.ensures) c.if-part-functions.false c.requires.there c.items.ensures c.index-items-part.is).name

pub returns-else-part-functions-clause-function : goal.returns-else-part-functions-clause-function
returns-else-part-functions-clause-function c =
    (stub_found c.args.t.now c.requires.stands c.args.part (length c.items-functions.result.now) c.items.result.now c.index-items-part.result
    (ap length c.items-functions.ensures) c.if-part-functions.false c.requires.there c.items.ensures c.index-items-part.is).function
