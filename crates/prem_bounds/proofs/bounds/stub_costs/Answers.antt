use Rattle.std.proofs.Common.{◌≡◌, length, ap, sym, ◌∙◌, arith}
use Rattle.std.proofs.lemmas.Bool.Decides.{nat_tests}
use Rattle.prem_list.specs.Sequence.{items_of}
use Rattle.prem_layout.specs.Bounds.{costs_of}
use Rattle.prem_bounds.specs.TableOf.{listed, table_of}
use Rattle.prem_bounds.proofs.Told.{no_stub_told, stub_told_at}
use Rattle.prem_bounds.proofs.bounds.stub_costs.Goals as goal

pub returns-then-is_empty : goal.returns-then-is_empty
returns-then-is_empty c =
    let t = c.args.table.now in
    let shown : length c.items-stubs.result.now ≡ 0 = grind (arith, nat_tests, c.if-is_empty.ensures) in
    let none : length (items_of t.stubs) ≡ 0 = sym (ap length c.items-stubs.ensures) ∙ shown in
    no_stub_told (length (listed (items_of t.code))) (items_of t.stubs) (costs_of (table_of t)) none

pub returns : goal.returns
returns c =
    let t = c.args.table.now in
    record {
      long = c.weights_listed.ensures.long;
      each = λ k. stub_told_at t c.items-code.result.now c.items-stubs.result.now c.costs.result c.weights_listed.result k c.items-code.ensures c.items-stubs.ensures c.costs.ensures
          c.weights_listed.ensures;
    }
