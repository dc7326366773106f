-- Bills have no more instructions, lines that are brought in and lines that are written back than cycles, and no item that stands for a function.
use Rattle.std.specs.Prelude.{nat_le}
use Rattle.std.proofs.Common.{◌≡◌, ℕ, zero, suc, pos, ◌+◌, ◌*◌, ◌≤◌, ◌<◌, ◌^◌, Bool, true, false, cond, List, [], ◌∷◌, ◌++◌, length, refl, arith}
use Rattle.std.proofs.Math.Nat.{le-mul_of_pos_right, mul-le-mul_left}
use Rattle.std.specs.List.{list_all}
use Rattle.prem_plant.specs.declared.plant.Plant.{Plant}
use Rattle.prem_plant.specs.Places.{Extent}
use Rattle.prem_isa.specs.declared.instr.Instr.{Instr}
use Rattle.prem_isa.specs.declared.instr.Instr.TheVariants.{Lui, Auipc, Jal, Jalr, Branch, Load, Store, OpImm, Op, MulDiv, Fence, Ecall, Ebreak, PmMem, PmExec, PmEnd, PmDone, PmIn, PmOut}
use Rattle.prem_isa.specs.declared.instr.MulDivOp.TheVariants.{Mul, Div, Divu, Rem, Remu}
use Rattle.prem_isa.specs.Decode.{cost_of}
use Rattle.prem_asm.specs.Pieces.{Pieces, branch_of, size_of}
use Rattle.prem_syntax.specs.Resolved.{Routine, Resolved}
use Rattle.prem_layout.specs.Bounds.{line_cost}
use Rattle.prem_layout.specs.Footprint.{TaskPlaces, lines_of}
use Rattle.prem_layout.specs.Template.Frames.{locals_of}
use Rattle.prem_layout.specs.Template.Terms.{nonzero}
use Rattle.prem_wcet.specs.Outlined.{outline_of}
use Rattle.prem_layout.specs.Parts.{code_part, start_part}
use Rattle.prem_layout.specs.Placed.{Placed}
use Rattle.prem_layout.specs.Plans.{Plan}
use Rattle.prem_bounds.specs.Scale.{clipped}
use Rattle.prem_wcet_laws.specs.Parted.{Edge, by_cut, entry, leaving, no_edge}
use Rattle.prem_wcet_laws.specs.Scopes.{Fact, Scene, Span, code_ranges, data_lines, fact_of, function_span, is_roomy, lines_in, roomy_lines}
use Rattle.prem_wcet_laws.specs.Wcet.{at_function, fact_at, known_scene, scene_of, stack_of, start_span}
use Rattle.prem_wcet.specs.Outlines.{Outline, ended, plain, calling, choice, turning, between, code_of, coded_span, data_between, cut_in, first_place, front_in, edge_in, inner_place, landing_in, second_place, span_in}
use Rattle.prem_profile.specs.declared.cost.Cost.{Cost}
use Rattle.prem_profile.specs.declared.bound.bill.Item.{Item}
use Rattle.prem_profile.specs.declared.bound.bill.Spot.{Spot}
use Rattle.prem_profile.specs.declared.bound.bill.Spot.TheVariants.{At, Switch}
use Rattle.prem_profile.specs.Bound.Bills.{Bill, bill_times, cheaper, cycles_on, dearer, gathered, is_call, is_one, spent_at, told_plus, total, with_bill, with_item}
use Rattle.prem_profile.specs.Bound.Booked.{bills_from}
use Rattle.prem_profile.specs.Bound.Passages.{Stubs, closed_bill, cut_bill, cycles_item, first_passage, marked_bill, parted_bill, passage_bill}
use Rattle.prem_profile.specs.Bound.Pieces.{PlaceCost, bill_at, bill_from, call_items, instruction_cost, item, part_bill}
use Rattle.prem_profile.specs.Bound.Profile.{AreTold, joined}
use Rattle.prem_profile.specs.Bound.Scopes.{bills_behind, cycles_of, lines_item, own_bill, own_jump_item, own_test_item, rule_cost, rule_misses, scope_bill, scope_bill_with, scope_cost, scope_misses}
use Rattle.prem_profile.specs.Bound.Small.{IsSmall}
use Rattle.prem_profile.specs.Bound.Spread.{calls_on, item_told, items_often, spread, without_calls}
use Rattle.prem_profile.specs.Bound.Statements.{CallBill, apart_bill, call_at, called_bill, choice_bill, head_end, inner_end, least_bill, over_place, turns_bill}
use Rattle.prem_profile.specs.Bound.Tasks.{bills_of, body_begin, body_end, function_bill, job_bill, start_bill, stubs_of, task_bill}
use Rattle.prem_profile.proofs.BillLemmas.Each.{AllOf, AreAll, all_append, all_at, all_dearer, all_one, all_times, known_all, none_all, path_all, pieces_all, timed}
use Rattle.prem_profile.proofs.Numbers.{true_false}

pub record IsLean (x : Item) : Type 0 where
  pub instructions : x.cost.instructions ≤ x.cost.cycles
  pub misses : x.cost.misses ≤ x.cost.cycles
  pub backs : x.cost.backs ≤ x.cost.cycles
  pub told : is_call x.spot ≡ false

abbrev pub AreLean : Bill → Type 0
AreLean bill = AreAll IsLean bill

-- ---- bills of bills

pub lean_append : (a b : Bill) → AreLean a → AreLean b → AreLean (a ++ b)
lean_append a b f g = all_append IsLean a b f g

times_more : (n a b : ℕ) → a ≤ b → n * a ≤ n * b
times_more n a b le = mul-le-mul_left n le

clipped_more : (a b : ℕ) → a ≤ b → clipped a ≤ clipped b
clipped_more a b le = omega (arith, le)

lean_timed : (n : ℕ) (x : Item) → IsLean x → IsLean (timed n x)
lean_timed n x f =
    let c : Cost = x.cost in
    record {
      instructions = clipped_more (n * c.instructions) (n * c.cycles) (times_more n c.instructions c.cycles f.instructions);
      misses = clipped_more (n * c.misses) (n * c.cycles) (times_more n c.misses c.cycles f.misses);
      backs = clipped_more (n * c.backs) (n * c.cycles) (times_more n c.backs c.cycles f.backs);
      told = f.told;
    }

pub lean_times : (n : ℕ) (a : Bill) → AreLean a → AreLean (bill_times n a)
lean_times n a f = all_times IsLean lean_timed n a f

one_of : (t : Bool) (a b : Bill) → AreLean a → AreLean b → AreLean (cond t a b)
one_of t a b f g = all_one IsLean t a b f g

pub lean_dearer : (a b : Bill) → AreLean a → AreLean b → AreLean (dearer a b)
lean_dearer a b f g = all_dearer IsLean a b f g

pub lean_cheaper : (a b : Bill) → AreLean a → AreLean b → AreLean (cheaper a b)
lean_cheaper a b f g = one_of (nat_le (clipped (cycles_on a)) (clipped (cycles_on b))) a b f g

lean_both : (x y : Item) → IsLean x → IsLean y → IsLean (spent_at x.spot (told_plus x.cost y.cost))
lean_both x y f g =
    let a : Cost = x.cost in
    let b : Cost = y.cost in
    let i = f.instructions in
    let i' = g.instructions in
    let m = f.misses in
    let m' = g.misses in
    let k = f.backs in
    let k' = g.backs in
    record {
      instructions = clipped_more (a.instructions + b.instructions) (a.cycles + b.cycles) (omega (arith, i, i'));
      misses = clipped_more (a.misses + b.misses) (a.cycles + b.cycles) (omega (arith, m, m'));
      backs = clipped_more (a.backs + b.backs) (a.cycles + b.cycles) (omega (arith, k, k'));
      told = f.told;
    }

lean_item : (a : Bill) (x : Item) → AreLean a → IsLean x → AreLean (with_item a x)
lean_item [] x f g = (g, tt)
lean_item (y ∷ a) x f g =
    one_of (is_one y.spot x.spot) (spent_at y.spot (told_plus y.cost x.cost) ∷ a) (y ∷ with_item a x) (lean_both y x f.0 g, f.1) (f.0, lean_item a x f.1 g)

lean_with : (a b : Bill) → AreLean a → AreLean b → AreLean (with_bill a b)
lean_with a [] f g = f
lean_with a (x ∷ b) f g = lean_with (with_item a x) b (lean_item a x f g.0) g.1

lean_gathered : (a : Bill) → AreLean a → AreLean (gathered a)
lean_gathered a f = lean_with [] a tt f

-- ---- pieces

some_cost : (i : Instr) → 1 ≤ cost_of i
some_cost (Lui a b) = omega arith
some_cost (Auipc a b) = omega arith
some_cost (Jal a b) = omega arith
some_cost (Jalr a b c) = omega arith
some_cost (Branch o a b c) = omega arith
some_cost (Load o a b c) = omega arith
some_cost (Store o a b c) = omega arith
some_cost (OpImm o a b c) = omega arith
some_cost (Op o a b c) = omega arith
some_cost (MulDiv Mul a b c) = omega arith
some_cost (MulDiv Div a b c) = omega arith
some_cost (MulDiv Divu a b c) = omega arith
some_cost (MulDiv Rem a b c) = omega arith
some_cost (MulDiv Remu a b c) = omega arith
some_cost (Fence a b) = omega arith
some_cost Ecall = omega arith
some_cost Ebreak = omega arith
some_cost PmMem = omega arith
some_cost (PmExec a) = omega arith
some_cost PmEnd = omega arith
some_cost PmDone = omega arith
some_cost (PmIn a) = omega arith
some_cost (PmOut a) = omega arith

instruction_lean : (at miss lines : ℕ) (i : Instr) → 0 < miss → IsLean (spent_at (At at) (instruction_cost miss lines i))
instruction_lean at miss lines i some =
    let one = some_cost i in
    let enough = le-mul_of_pos_right {m = miss} lines some in
    record { instructions = omega (arith, one); misses = omega (arith, enough); backs = omega (arith, enough); told = refl }

-- ---- paths, where calls stand for functions

abbrev IsLeanTold : Item → Type 0
IsLeanTold x = is_call x.spot ≡ false → IsLean x

call_lean : (f n : ℕ) → AreAll IsLeanTold (call_items f n)
call_lean f zero = tt
call_lean f (suc n) = (λ e. absurd (true_false e), tt)

told_lean : (x : Item) → IsLeanTold x → AreLean (item_told x)
told_lean x f = by (is_call x.spot) refl where
  by : (t : Bool) → is_call x.spot ≡ t → AreLean (cond t [] (x ∷ []))
  by true e = tt
  by false e = (f e, tt)

without_lean : (bill : Bill) → AreAll IsLeanTold bill → AreLean (without_calls bill)
without_lean [] f = tt
without_lean (x ∷ bill) f = lean_append (item_told x) _ (told_lean x f.0) (without_lean bill f.1)

often_lean : (n : ℕ) (bill : Bill) → AreAll IsLeanTold bill → AreLean (items_often n bill)
often_lean zero bill f = tt
often_lean (suc n) bill f = lean_times (suc n) (without_calls bill) (without_lean bill f)

spread_lean : (bills : List Bill) → AllOf IsLeanTold bills → (n : ℕ) (often : ℕ → ℕ) → AreLean (spread bills n often)
spread_lean bills h zero often = tt
spread_lean bills h (suc n) often =
    lean_append (items_often (often n) (bill_at bills n)) _ (often_lean (often n) (bill_at bills n) (all_at IsLeanTold bills h n))
    (spread_lean bills h n (λ f. often f + often n * calls_on (bill_at bills n) f))

-- ---- scopes

module _ (e : Scene) (some : 0 < line_cost e.plant) where
  rule_lean : (at : ℕ) (i : Instr) → IsLean (item (rule_cost e.plant) at i)
  rule_lean at i = instruction_lean at (line_cost e.plant) (rule_misses i) i some

  own_lean : (at : ℕ) (ps : Pieces) → AreLean (own_bill e at ps)
  own_lean at ps = pieces_all IsLean lean_timed (rule_cost e.plant) rule_lean (part_bill 0 []) (none_all IsLean) at ps

  jump_lean : (at : ℕ) → IsLean (own_jump_item e at)
  jump_lean at = rule_lean at (Jal 0 (pos 0))

  test_lean : (at : ℕ) → IsLean (own_test_item e at)
  test_lean at = rule_lean at (branch_of (nonzero 10))

  lines_lean : (at lines : ℕ) → IsLean (lines_item e.plant at lines)
  lines_lean at lines =
      let enough = le-mul_of_pos_right {m = line_cost e.plant} lines some in record { instructions = omega arith; misses = omega (arith, enough); backs = omega (arith, enough); told = refl }

  scope_lean_with : (at : ℕ) (s : Span) (lines held : List ℕ) → AreLean (scope_bill_with e at s lines held)
  scope_lean_with at s lines held =
      let roomy : Bool = list_all (is_roomy e.plant lines) held in
      let c : PlaceCost = scope_cost e.plant lines roomy in
      let each : (at : ℕ) (i : Instr) → IsLeanTold (item c at i) = λ at i told. instruction_lean at (line_cost e.plant) (scope_misses e.plant lines roomy at i) i some in
      let more : (n : ℕ) (x : Item) → IsLeanTold x → IsLeanTold (timed n x) = λ n x f told. lean_timed n x (f told) in
      let bills : List Bill = bills_behind c e.functions e.places [] e.facts in
      let path : Bill = bill_from c (part_bill e.functions (cycles_of bills)) at s.pieces in (
        lines_lean at (length (roomy_lines e.plant lines)),
        lean_append (items_often 1 path) _ (often_lean 1 path (path_all IsLeanTold more c each call_lean e.functions (cycles_of bills) at s.pieces))
            (spread_lean bills (known_all IsLeanTold more c each call_lean e.functions e.places [] e.facts tt) (length bills) (calls_on path)),
      )

  scope_lean : (at : ℕ) (s : Span) → AreLean (scope_bill e at s)
  scope_lean at s = scope_lean_with at s (lines_in e at s) (data_lines e s)

  -- ---- statements

  choice_lean : (at skip_at skips : ℕ) (taken other : Bill) → AreLean taken → AreLean other → AreLean (choice_bill e at skip_at skips taken other)
  choice_lean at skip skips taken other f g = (
    test_lean at,
    lean_dearer (taken ++ bill_times skips (own_jump_item e skip ∷ [])) (own_jump_item e (at + 4) ∷ other)
        (lean_append taken _ f (lean_times skips (own_jump_item e skip ∷ []) (jump_lean skip, tt))) (jump_lean (at + 4), g),
  )

  turns_lean : (at back turns : ℕ) (head body : Bill) → AreLean head → AreLean body → AreLean (turns_bill e at back turns head body)
  turns_lean at back turns head body f g =
      let turn : Bill = head ++ (own_test_item e at ∷ (body ++ own_jump_item e back ∷ [])) in
      lean_append (bill_times turns turn) _ (lean_times turns turn (lean_append head _ f (test_lean at, lean_append body _ g (jump_lean back, tt))))
      (lean_append head _ f (test_lean at, (jump_lean (at + 4), tt)))

  cycles_lean : (s : Spot) (n : ℕ) → is_call s ≡ false → IsLean (cycles_item s n)
  cycles_lean s n told = record { instructions = omega arith; misses = omega arith; backs = omega arith; told = told }

  marked_lean : (task at : ℕ) (plans : List Plan) (k : ℕ) → AreLean (marked_bill e.plant task at plans k)
  marked_lean task at [] k = tt
  marked_lean task at (plan ∷ plans) zero =
      (rule_lean at PmMem, (cycles_lean (Switch task) e.plant.switch refl, (cycles_lean (At at) plan.stated refl, (cycles_lean (Switch task) e.plant.switch refl, (rule_lean at (Jalr 0 4 (pos 0)), tt)))))
  marked_lean task at (plan ∷ plans) (suc k) = marked_lean task at plans k

  module _ (known : List CallBill) (least : (f : ℕ) → AreLean (call_at known f).least) (parted : (f : ℕ) → AreLean (call_at known f).parted) where
    apart_lean : (at : ℕ) (o : Outline) → AreLean (apart_bill e known at o)
    apart_lean at ended = tt
    apart_lean at (plain code names rest) =
        lean_append (cheaper (scope_bill e at (coded_span code (plain code names ended))) (own_bill e at code)) _
        (lean_cheaper (scope_bill e at (coded_span code (plain code names ended))) (own_bill e at code) (scope_lean at (coded_span code (plain code names ended))) (own_lean at code))
        (apart_lean (at + size_of code) rest)
    apart_lean at (calling code names arguments count callee landing rest) =
        let s : Span = coded_span code (calling code names arguments count callee landing ended) in
        let parts : Bill = own_bill e at arguments ++ (own_jump_item e (at + size_of arguments) ∷ (called_bill e known callee ++ own_bill e (at + size_of arguments + 4) landing)) in
        lean_append (cheaper (scope_bill e at s) parts) _
        (lean_cheaper (scope_bill e at s) parts (scope_lean at s)
        (lean_append (own_bill e at arguments) _ (own_lean at arguments) (
          jump_lean (at + size_of arguments),
          lean_append (called_bill e known callee) _ (one_of (e.marked callee) [] (call_at known callee).least tt (least callee)) (own_lean (at + size_of arguments + 4) landing),
        )))
        (apart_lean (at + size_of code) rest)
    apart_lean at (choice code names condition skips taken other rest) =
        let s : Span = coded_span code (choice code names condition skips taken other ended) in
        let one : ℕ = first_place at condition in
        let two : ℕ = second_place at condition taken skips in
        let first : Bill = cheaper (scope_bill e one (span_in taken)) (apart_bill e known one taken) in
        let second : Bill = cheaper (scope_bill e two (span_in other)) (apart_bill e known two other) in
        let parts : Bill = own_bill e at condition ++ choice_bill e (at + size_of condition) (over_place at condition taken) skips first second in
        lean_append (cheaper (scope_bill e at s) parts) _
        (lean_cheaper (scope_bill e at s) parts (scope_lean at s)
        (lean_append (own_bill e at condition) _ (own_lean at condition)
        (choice_lean (at + size_of condition) (over_place at condition taken) skips first second
        (lean_cheaper (scope_bill e one (span_in taken)) (apart_bill e known one taken) (scope_lean one (span_in taken)) (apart_lean one taken))
        (lean_cheaper (scope_bill e two (span_in other)) (apart_bill e known two other) (scope_lean two (span_in other)) (apart_lean two other)))))
        (apart_lean (at + size_of code) rest)
    apart_lean at (turning code names first turns head before body behind rest) =
        let s : Span = coded_span code (turning code names first turns head before body behind ended) in
        let one : ℕ = inner_place at first head before in
        let end : ℕ = inner_end at first head before body in
        let inside : Bill = cheaper (scope_bill e one (span_in body)) (apart_bill e known one body) in
        let turn : Bill = own_bill e (head_end at first head + 8) before ++ (inside ++ own_bill e end behind) in
        let parts : Bill = own_bill e at first ++ turns_bill e (head_end at first head) (end + size_of behind) turns (own_bill e (at + size_of first) head) turn in
        lean_append (cheaper (scope_bill e at s) parts) _
        (lean_cheaper (scope_bill e at s) parts (scope_lean at s)
        (lean_append (own_bill e at first) _ (own_lean at first)
        (turns_lean (head_end at first head) (end + size_of behind) turns (own_bill e (at + size_of first) head) turn (own_lean (at + size_of first) head)
        (lean_append (own_bill e (head_end at first head + 8) before) _ (own_lean (head_end at first head + 8) before)
        (lean_append inside _ (lean_cheaper (scope_bill e one (span_in body)) (apart_bill e known one body) (scope_lean one (span_in body)) (apart_lean one body)) (own_lean end behind))))))
        (apart_lean (at + size_of code) rest)

    least_lean : (at : ℕ) (o : Outline) → AreLean (least_bill e known at o)
    least_lean at o = lean_cheaper (scope_bill e at (span_in o)) (apart_bill e known at o) (scope_lean at (span_in o)) (apart_lean at o)

    passage_lean : (at : ℕ) (before : Edge) (o : Outline) (last : Edge) → AreLean (passage_bill e known at before o last)
    passage_lean at before o last =
        let held : List ℕ = lines_of e.plant.line (data_between e before o last) in
        let lines : List ℕ = lines_of e.plant.line (code_ranges e at (between before o last) ++ data_between e before o last) in
        let there : ℕ = at + size_of before.pieces in
        let parts : Bill = own_bill e at before.pieces ++ (least_bill e known there o ++ own_bill e (there + size_of (code_of o)) last.pieces) in
        lean_cheaper (scope_bill_with e at (between before o last) lines held) parts (scope_lean_with at (between before o last) lines held)
        (lean_append (own_bill e at before.pieces) _ (own_lean at before.pieces) (lean_append (least_bill e known there o) _ (least_lean there o) (own_lean (there + size_of (code_of o)) last.pieces)))

    first_lean : (at : ℕ) (before last : Edge) (o : Outline) → AreLean (first_passage e known at before last o)
    first_lean at before last o = passage_lean at before (front_in e o) (edge_in e last o)

    module _ (stubs : Stubs) where
      cut_lean : (f : ℕ) → AreLean (cut_bill e stubs known f)
      cut_lean f =
          one_of (e.marked f) (marked_bill e.plant stubs.task (stubs.places (e.stub f)) e.plans (e.stub f)) (call_at known f).parted
          (marked_lean stubs.task (stubs.places (e.stub f)) e.plans (e.stub f)) (parted f)

      where_cut : (b : Bool) (here rest : Bill) → AreLean here → AreLean rest → AreLean (by_cut b here [] ++ rest)
      where_cut true here rest f g = lean_append here rest f g
      where_cut false here rest f g = g

      closed_lean : (last : Edge) (at : ℕ) (o : Outline) → AreLean (closed_bill e stubs known last at o)
      closed_lean last at ended = tt
      closed_lean last at (plain code names rest) = closed_lean last (at + size_of code) rest
      closed_lean last at (calling code names arguments count callee landing rest) =
          let there : ℕ = at + size_of arguments in
          where_cut (cut_in e (calling code names arguments count callee landing ended)) (own_jump_item e there ∷ (cut_bill e stubs known callee ++ first_passage e known (there + 4) (landing_in landing) last rest)) _
          (jump_lean there, lean_append (cut_bill e stubs known callee) _ (cut_lean callee) (first_lean (there + 4) (landing_in landing) last rest)) (closed_lean last (at + size_of code) rest)
      closed_lean last at (choice code names condition skips taken other rest) =
          let one : ℕ = first_place at condition in
          let two : ℕ = second_place at condition taken skips in
          let first : Bill = first_passage e known one no_edge no_edge taken ++ closed_bill e stubs known no_edge one taken in
          let second : Bill = first_passage e known two no_edge no_edge other ++ closed_bill e stubs known no_edge two other in
          let parts : Bill = own_bill e at condition ++ choice_bill e (at + size_of condition) (over_place at condition taken) skips first second in
          where_cut (cut_in e (choice code names condition skips taken other ended)) (parts ++ first_passage e known (at + size_of code) no_edge last rest) _
          (lean_append parts _
          (lean_append (own_bill e at condition) _ (own_lean at condition)
          (choice_lean (at + size_of condition) (over_place at condition taken) skips first second
          (lean_append (first_passage e known one no_edge no_edge taken) _ (first_lean one no_edge no_edge taken) (closed_lean no_edge one taken))
          (lean_append (first_passage e known two no_edge no_edge other) _ (first_lean two no_edge no_edge other) (closed_lean no_edge two other))))
          (first_lean (at + size_of code) no_edge last rest))
          (closed_lean last (at + size_of code) rest)
      closed_lean last at (turning code names first turns head before body behind rest) =
          let one : ℕ = inner_place at first head before in
          let end : ℕ = inner_end at first head before body in
          let inside : Bill = first_passage e known one no_edge no_edge body ++ closed_bill e stubs known no_edge one body in
          let turn : Bill = own_bill e (head_end at first head + 8) before ++ (inside ++ own_bill e end behind) in
          let parts : Bill = own_bill e at first ++ turns_bill e (head_end at first head) (end + size_of behind) turns (own_bill e (at + size_of first) head) turn in
          where_cut (cut_in e (turning code names first turns head before body behind ended)) (parts ++ first_passage e known (at + size_of code) no_edge last rest) _
          (lean_append parts _
          (lean_append (own_bill e at first) _ (own_lean at first)
          (turns_lean (head_end at first head) (end + size_of behind) turns (own_bill e (at + size_of first) head) turn (own_lean (at + size_of first) head)
          (lean_append (own_bill e (head_end at first head + 8) before) _ (own_lean (head_end at first head + 8) before)
          (lean_append inside _ (lean_append (first_passage e known one no_edge no_edge body) _ (first_lean one no_edge no_edge body) (closed_lean no_edge one body)) (own_lean end behind)))))
          (first_lean (at + size_of code) no_edge last rest))
          (closed_lean last (at + size_of code) rest)

      parted_lean : (at : ℕ) (before last : Edge) (o : Outline) → AreLean (parted_bill e stubs known at before last o)
      parted_lean at before last o =
          lean_append (first_passage e known at before last o) _ (first_lean at before last o) (closed_lean last (at + size_of before.pieces) o)

      function_least_lean : (f : Routine) (at : ℕ) → AreLean (function_bill e stubs known f at).least
      function_least_lean f at =
          let o : Outline = outline_of e (locals_of f) f.body in
          let parts : Bill = own_bill e at (entry e f).pieces ++ (least_bill e known (body_begin e f at) o ++ own_bill e (body_end e f at) (leaving e f).pieces) in
          lean_gathered (cheaper (scope_bill e at (function_span e f)) parts)
          (lean_cheaper (scope_bill e at (function_span e f)) parts (scope_lean at (function_span e f))
          (lean_append (own_bill e at (entry e f).pieces) _ (own_lean at (entry e f).pieces)
          (lean_append (least_bill e known (body_begin e f at) o) _ (least_lean (body_begin e f at) o) (own_lean (body_end e f at) (leaving e f).pieces))))

-- ---- functions and jobs

abbrev AllCallsLean : List CallBill → Type 0
AllCallsLean [] = Unit {0}
AllCallsLean (b ∷ bs) = (AreLean b.least × AreLean b.parted) × AllCallsLean bs

least_at : (bs : List CallBill) → AllCallsLean bs → (n : ℕ) → AreLean (call_at bs n).least
least_at [] h zero = tt
least_at [] h (suc n) = tt
least_at (b ∷ bs) h zero = h.0.0
least_at (b ∷ bs) h (suc n) = least_at bs h.1 n

parted_at : (bs : List CallBill) → AllCallsLean bs → (n : ℕ) → AreLean (call_at bs n).parted
parted_at [] h zero = tt
parted_at [] h (suc n) = tt
parted_at (b ∷ bs) h zero = h.0.1
parted_at (b ∷ bs) h (suc n) = parted_at bs h.1 n

calls_more : (bs : List CallBill) (b : CallBill) → AllCallsLean bs → AreLean b.least × AreLean b.parted → AllCallsLean (bs ++ b ∷ [])
calls_more [] b h one = (one, tt)
calls_more (c ∷ bs) b h one = (h.0, calls_more bs b h.1 one)

module _ (e : Scene) (some : 0 < line_cost e.plant) (stubs : Stubs) (stack : ℕ → List Extent) where
  all_lean : (facts : List Fact) (known : List CallBill) (fs : List Routine) → AllCallsLean known → AllCallsLean (bills_of e stubs stack facts known fs)
  all_lean facts known [] h = h
  all_lean facts known (f ∷ fs) h =
      let here : Scene = at_function e stack facts in
      let at : ℕ = e.places (code_part (length facts)) in
      all_lean (facts ++ fact_at here f at ∷ []) (known ++ function_bill here stubs known f at ∷ []) fs
      (calls_more known (function_bill here stubs known f at) h (
        function_least_lean here some known (least_at known h) (parted_at known h) stubs f at,
        lean_gathered (parted_bill here stubs known at (entry here f) (leaving here f) (outline_of here (locals_of f) f.body))
            (parted_lean here some known (least_at known h) (parted_at known h) stubs at (entry here f) (leaving here f) (outline_of here (locals_of f) f.body)),
      ))

job_lean : (e : Scene) → 0 < line_cost e.plant → (known : List CallBill) → AllCallsLean known → (program : Resolved) → AreLean (job_bill e known program)
job_lean e some known h program =
    let start : AreLean (start_bill e) = (jump_lean e some (e.places start_part), (rule_lean e some (e.places start_part + 4) PmDone, tt)) in
    one_of (fact_of e program.job).cuts (start_bill e ++ (call_at known program.job).parted)
    (cheaper (scope_bill e (e.places start_part) (start_span program)) (start_bill e ++ (call_at known program.job).least))
    (lean_append (start_bill e) _ start (parted_at known h program.job))
    (lean_cheaper (scope_bill e (e.places start_part) (start_span program)) (start_bill e ++ (call_at known program.job).least) (scope_lean e some (e.places start_part) (start_span program))
    (lean_append (start_bill e) _ start (least_at known h program.job)))

task_lean : (p : Plant) → 0 < line_cost p → (plans : List Plan) (task : ℕ) (program : Resolved) (t : TaskPlaces) → AreLean (task_bill p plans task program t)
task_lean p some plans task program t =
    let known : List CallBill = bills_of (scene_of p plans program t) (stubs_of task t) (stack_of program t) [] [] program.routines in (
      record { instructions = omega arith; misses = omega arith; backs = omega arith; told = refl },
      job_lean (known_scene p plans program t) some known (all_lean (scene_of p plans program t) some (stubs_of task t) (stack_of program t) [] [] program.routines tt) program,
    )

pub set_lean : (p : Plant) → 0 < line_cost p → (k : ℕ) (tasks : List Placed) → AreLean (joined (bills_from p k tasks))
set_lean p some k [] = tt
set_lean p some k (t ∷ ts) = lean_append (task_bill p t.plans k t.task.program t.at) _ (task_lean p some t.plans k t.task.program t.at) (set_lean p some (k + 1) ts)

-- ---- sums

record IsLeanCost (c : Cost) : Type 0 where
  instructions : c.instructions ≤ c.cycles
  misses : c.misses ≤ c.cycles
  backs : c.backs ≤ c.cycles

lean_total : (bill : Bill) → AreLean bill → IsLeanCost (total bill)
lean_total [] h = record { instructions = omega arith; misses = omega arith; backs = omega arith }
lean_total (x ∷ bill) h =
    let rest = lean_total bill h.1 in
    let i = rest.instructions in
    let m = rest.misses in
    let b = rest.backs in
    let i' = h.0.instructions in
    let m' = h.0.misses in
    let b' = h.0.backs in
    record { instructions = omega (arith, i, i'); misses = omega (arith, m, m'); backs = omega (arith, b, b') }

-- ---- items

pub told_all : (bill : Bill) → AreLean bill → AreTold bill
told_all [] h = tt
told_all (x ∷ bill) h = (h.0.told, told_all bill h.1)

pub lean_small : (bill : Bill) → AreLean bill → cycles_on bill < 2 ^ 63 → IsSmall bill
lean_small bill h few = let sum = lean_total bill h in record { instructions = sum.instructions; misses = sum.misses; backs = sum.backs; cycles = omega (arith, few) }
