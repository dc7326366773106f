-- The bills of statements with marked calls come to what these count in all.
use Rattle.std.proofs.Common.{◌≡◌, ℕ, zero, suc, pos, ◌+◌, ◌*◌, Bool, true, false, cond, List, [], ◌∷◌, ◌++◌, refl, ap, arith}
use Rattle.prem_plant.specs.declared.plant.Plant.{Plant}
use Rattle.prem_isa.specs.declared.instr.Instr.TheVariants.{Jalr, PmMem}
use Rattle.prem_asm.specs.Pieces.{branch_of, size_of}
use Rattle.prem_layout.specs.Template.Terms.{nonzero}
use Rattle.prem_layout.specs.Footprint.{lines_of}
use Rattle.prem_layout.specs.Plans.{Plan}
use Rattle.prem_layout.specs.Bounds.{job_weight, marked_weights}
use Rattle.prem_wcet_laws.specs.Counts.{PathCount, marked_count, quiet, then_count}
use Rattle.prem_wcet_laws.specs.Scopes.{Scene, code_ranges, fact_of}
use Rattle.prem_wcet_laws.specs.Least.{own, own_jump, own_turns}
use Rattle.prem_wcet_laws.specs.Parted.{Edge, by_cut, called_parted, no_edge, turn_count}
use Rattle.prem_wcet.specs.Outlines.{Outline, ended, plain, calling, choice, turning, between, closed_in, code_of, cut_in, data_between, edge_in, first_place, front_in, inner_place, landing_in}
use Rattle.prem_wcet.specs.Outlines.{call_parted, choice_parted, parted_in, passage_in, second_place}
use Rattle.prem_profile.specs.Bound.Bills.{Bill}
use Rattle.prem_profile.specs.Bound.Pieces.{item}
use Rattle.prem_profile.specs.Bound.Scopes.{rule_cost}
use Rattle.prem_profile.specs.Bound.Statements.{CallBill, call_at, head_end, inner_end, over_place}
use Rattle.prem_profile.specs.Bound.Passages.{Stubs, closed_bill, cut_bill, cycles_item, first_passage, marked_bill, marked_call, parted_bill, passage_bill, switch_item}
use Rattle.prem_profile.specs.declared.bound.bill.Spot.TheVariants.{At}
use Rattle.prem_profile.proofs.BoundLemmas.Sums.{Comes, both, led, less, none, recount, three}
use Rattle.prem_profile.proofs.BoundLemmas.Charged.{jump_first, own_comes, rule_same, scope_comes_with}
use Rattle.prem_profile.proofs.BoundLemmas.Statements.{choice_comes, least_comes, turns_come}

-- ---- marked calls

call_comes : (p : Plant) (task at : ℕ) (plan : Plan) → Comes (marked_call p task at plan) (job_weight p PmMem + p.switch + plan.stated + p.switch + job_weight p (Jalr 0 4 (pos 0)))
call_comes p task at plan =
    recount (job_weight p PmMem + p.switch + plan.stated + p.switch + job_weight p (Jalr 0 4 (pos 0)))
    (led (item (rule_cost p) at PmMem) (job_weight p PmMem) (rule_same p at PmMem)
    (led (switch_item p task) p.switch refl
    (led (cycles_item (At at) plan.stated) plan.stated refl
    (led (switch_item p task) p.switch refl (led (item (rule_cost p) at (Jalr 0 4 (pos 0))) (job_weight p (Jalr 0 4 (pos 0))) (rule_same p at (Jalr 0 4 (pos 0))) none)))))
    (sum (job_weight p PmMem) p.switch plan.stated (job_weight p (Jalr 0 4 (pos 0)))) where
      sum : (a s n b : ℕ) → a + (s + (n + (s + (b + 0)))) ≡ a + s + n + s + b
      sum a s n b = omega arith

marked_comes : (p : Plant) (task at : ℕ) (plans : List Plan) (k : ℕ) → Comes (marked_bill p task at plans k) (marked_weights p plans k)
marked_comes p task at [] k = none
marked_comes p task at (plan ∷ plans) zero = call_comes p task at plan
marked_comes p task at (plan ∷ plans) (suc k) = marked_comes p task at plans k

module _ (e : Scene) (stubs : Stubs) (known : List CallBill) (calls : (f : ℕ) → Comes (call_at known f).least (fact_of e f).least)
    (parted : (f : ℕ) → Comes (call_at known f).parted (fact_of e f).parted.total) where
  cut_comes : (f : ℕ) → Comes (cut_bill e stubs known f) (called_parted e f).total
  cut_comes f = by (e.marked f) where
    by : (t : Bool) → Comes (cond t (marked_bill e.plant stubs.task (stubs.places (e.stub f)) e.plans (e.stub f)) (call_at known f).parted)
        (cond t (marked_count e.plant e.plans (e.stub f)) (fact_of e f).parted).total
    by true = marked_comes e.plant stubs.task (stubs.places (e.stub f)) e.plans (e.stub f)
    by false = parted f

  -- ---- passages

  passage_comes : (at : ℕ) (before : Edge) (o : Outline) (last : Edge) → Comes (passage_bill e known at before o last) (passage_in e at before o last)
  passage_comes at before o last =
      let held : List ℕ = lines_of e.plant.line (data_between e before o last) in
      let lines : List ℕ = lines_of e.plant.line (code_ranges e at (between before o last) ++ data_between e before o last) in
      less (scope_comes_with e at (between before o last) lines held)
      (three (own_comes e at before.pieces) (least_comes e known calls (at + size_of before.pieces) o) (own_comes e (at + size_of before.pieces + size_of (code_of o)) last.pieces))

  first_comes : (at : ℕ) (before last : Edge) (o : Outline) → Comes (first_passage e known at before last o) (passage_in e at before (front_in e o) (edge_in e last o))
  first_comes at before last o = passage_comes at before (front_in e o) (edge_in e last o)

  -- a statement where it has marked calls, and what is behind it
  where_cut : {here rest : Bill} {m n : ℕ} (cut : Bool) (x y : PathCount) → Comes here m → Comes rest n → m + n ≡ x.total → n ≡ y.total →
      Comes (by_cut cut here [] ++ rest) (by_cut cut x y).total
  where_cut true x y c d is was = recount x.total (both c d) is
  where_cut false x y c d is was = recount y.total d was

  call_sum : (j c p r : ℕ) → (j + (c + p)) + r ≡ (j + c) + (p + r)
  call_sum j c p r = omega arith

  part_sum : (a p r : ℕ) → (a + p) + r ≡ a + (p + r)
  part_sum a p r = omega arith

  -- the turns of a loop, as they are counted
  turn_total : (turns h : ℕ) (body : PathCount) → own_turns e turns (nonzero 10) h body.total ≡ (turn_count e turns (nonzero 10) h body).total
  turn_total turns h body =
      let w : ℕ = job_weight e.plant (branch_of (nonzero 10)) in
      ap (λ n. turns * n + (h + w + own_jump e)) (part_sum (h + w) body.total (own_jump e))

  closed_comes : (last : Edge) (at : ℕ) (o : Outline) → Comes (closed_bill e stubs known last at o) (closed_in e last at o).total
  closed_comes last at ended = none
  closed_comes last at (plain code names rest) = closed_comes last (at + size_of code) rest
  closed_comes last at (calling code names arguments count callee landing rest) =
      let there : ℕ = at + size_of arguments + 4 in
      let passage : ℕ = passage_in e there (landing_in landing) (front_in e rest) (edge_in e last rest) in
      let left : PathCount = closed_in e last (at + size_of code) rest in
      let all : PathCount = then_count (call_parted e callee) (then_count (quiet passage) left) in
      where_cut (cut_in e (calling code names arguments count callee landing ended)) all left
      (jump_first e (at + size_of arguments) (both (cut_comes callee) (first_comes there (landing_in landing) last rest)))
      (closed_comes last (at + size_of code) rest) (call_sum (own_jump e) (called_parted e callee).total passage left.total) refl
  closed_comes last at (choice code names condition skips taken other rest) =
      let one : ℕ = first_place at condition in
      let two : ℕ = second_place at condition taken skips in
      let there : ℕ = at + size_of code in
      let first : PathCount = then_count (quiet (passage_in e one no_edge (front_in e taken) (edge_in e no_edge taken))) (closed_in e no_edge one taken) in
      let second : PathCount = then_count (quiet (passage_in e two no_edge (front_in e other) (edge_in e no_edge other))) (closed_in e no_edge two other) in
      let passage : ℕ = passage_in e there no_edge (front_in e rest) (edge_in e last rest) in
      let left : PathCount = closed_in e last there rest in
      let sides : PathCount = then_count (quiet (own e condition)) (choice_parted e skips first second) in
      where_cut (cut_in e (choice code names condition skips taken other ended)) (then_count sides (then_count (quiet passage) left)) left
      (both
      (both (own_comes e at condition)
      (choice_comes e (at + size_of condition) (over_place at condition taken) skips (both (first_comes one no_edge no_edge taken) (closed_comes no_edge one taken))
      (both (first_comes two no_edge no_edge other) (closed_comes no_edge two other))))
      (first_comes there no_edge last rest))
      (closed_comes last there rest) (part_sum sides.total passage left.total) refl
  closed_comes last at (turning code names first turns head before body behind rest) =
      let one : ℕ = inner_place at first head before in
      let there : ℕ = at + size_of code in
      let passage : ℕ = passage_in e there no_edge (front_in e rest) (edge_in e last rest) in
      let left : PathCount = closed_in e last there rest in
      let alone : PathCount = then_count (quiet (passage_in e one no_edge (front_in e body) (edge_in e no_edge body))) (closed_in e no_edge one body) in
      let inside : PathCount = then_count (quiet (own e before)) (then_count alone (quiet (own e behind))) in
      let loop = recount (turn_count e turns (nonzero 10) (own e head) inside).total
      (turns_come e (head_end at first head) (inner_end at first head before body + size_of behind) turns (own_comes e (at + size_of first) head)
      (both (own_comes e (head_end at first head + 8) before)
      (both (both (first_comes one no_edge no_edge body) (closed_comes no_edge one body)) (own_comes e (inner_end at first head before body) behind))))
      (turn_total turns (own e head) inside) in
      let all : PathCount = then_count (quiet (own e first)) (turn_count e turns (nonzero 10) (own e head) inside) in
      where_cut (cut_in e (turning code names first turns head before body behind ended)) (then_count all (then_count (quiet passage) left)) left
      (both (both (own_comes e at first) loop) (first_comes there no_edge last rest))
      (closed_comes last there rest) (part_sum all.total passage left.total) refl

  pub parted_comes : (at : ℕ) (before last : Edge) (o : Outline) → Comes (parted_bill e stubs known at before last o) (parted_in e at before last o).total
  parted_comes at before last o = both (first_comes at before last o) (closed_comes last (at + size_of before.pieces) o)
