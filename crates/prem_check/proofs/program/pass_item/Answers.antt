use Rattle.std.proofs.Common.{ap}
use Rattle.prem_syntax.specs.SyntaxOf.{item_of, global_of, function_of}
use Rattle.prem_check.proofs.Passed.{global_passed, function_passed}
use Rattle.prem_check.proofs.program.pass_item.Goals as goal

pub returns-in-Global-clause-found : goal.returns-in-Global-clause-found
returns-in-Global-clause-found c =
    global_passed c.pass_global.result c.pass_global.new.walk c.args.walk.now (global_of c.in-Global.g) (item_of c.args.item.now) (c.args.items.now) c.args.within.now
    (ap item_of c.in-Global.is) c.pass_global.ensures.found c.pass_global.ensures.walk

pub returns-in-Function-clause-found : goal.returns-in-Function-clause-found
returns-in-Function-clause-found c =
    function_passed c.pass_function.result c.pass_function.new.walk c.args.walk.now (function_of c.in-Function.f) (item_of c.args.item.now) (c.args.items.now) c.args.within.now
    (ap item_of c.in-Function.is) c.pass_function.ensures.found c.pass_function.ensures.walk
