-- Worked bills: what jobs are billed on the path that counts most, by the place of each word, counted from the machine's costs and the layout by hand.
use Rattle.std.specs.Prelude.{codes, ◌^◌}
use Rattle.std.proofs.Common.{◌≡◌, refl, ℕ, ◌+◌, ◌∙◌, arith, List, [], ◌∷◌, map, Option, Some, None, pos, true}
use Rattle.prem_word.specs.declared.kind.BinOp.TheVariants.{Add as AddOp}
use Rattle.prem_plant.specs.Ranges.{default_plant as plant}
use Rattle.prem_plant.proofs.Powers.{default_is_plant}
use Rattle.prem_isa.specs.declared.instr.Instr.{Instr}
use Rattle.prem_isa.specs.declared.instr.Instr.TheVariants.{OpImm, PmOut}
use Rattle.prem_isa.specs.declared.instr.AluOp.TheVariants.{Add}
use Rattle.prem_syntax.specs.declared.tree.Ty.TheVariants.{Void}
use Rattle.prem_syntax.specs.Syntax.{ProgramText, binary, output}
use Rattle.prem_syntax.proofs.Samples.{at, int, statements, function}
use Rattle.prem_asm.specs.Pieces.{Pieces, either, no_pieces, repeat, straight}
use Rattle.prem_layout.specs.Placed.{Coded, Placed}
use Rattle.prem_layout.specs.Template.Terms.{nonzero}
use Rattle.prem_layout.proofs.Samples.{m_text, m_turns}
use Rattle.prem_layout.proofs.Tasks.{coded, placed}
use Rattle.prem_profile.specs.declared.cost.Cost.{Cost}
use Rattle.prem_profile.specs.declared.bound.bill.Item.{Item}
use Rattle.prem_profile.specs.declared.bound.bill.Spot.{Spot}
use Rattle.prem_profile.specs.declared.bound.bill.Spot.TheVariants.{Switch, At, Call}
use Rattle.prem_profile.specs.Bound.Bills.{Bill, cycles_on, gathered, spent_at}
use Rattle.prem_profile.specs.Bound.Pieces.{bill_from}
use Rattle.prem_profile.specs.Bound.Scopes.{rule_cost}
use Rattle.prem_profile.specs.Bound.Booked.{bill_row, bills_from}
use Rattle.prem_profile.specs.Bound.Profile.{AreShort, AreTold, set_bill, wcets}
use Rattle.prem_profile.specs.Bound.Spread.{spread_path}
use Rattle.prem_profile.specs.declared.callgrind.Source.{Source}
use Rattle.prem_profile.specs.Account.{each_row}
use Rattle.prem_profile.specs.Strips.{Strip, first_row, rows_of, strip_words}
use Rattle.prem_profile.specs.Grammar.{Entry}
use Rattle.prem_profile.specs.Callgrind.{no_calls_at}
use Rattle.prem_profile.specs.Entries.{profile_entries}
use Rattle.prem_profile.specs.Lines.Table.{at_line}
use Rattle.prem_profile.proofs.BoundLemmas.Profile.{bounds_add_up}

-- the address of an item's word, none of a switch or of a call; its cycles; and how many lines it may bring in
abbrev place_of : Spot → Option ℕ
place_of (Switch k) = None
place_of (At pc) = Some pc
place_of (Call f) = None

abbrev told : Bill → List (Option ℕ × (ℕ × ℕ))
told bill = map (λ (x : Item). (place_of x.spot, (x.cost.cycles, x.cost.misses))) bill

abbrev bills : List Coded → List (List (Option ℕ × (ℕ × ℕ)))
bills tasks = map told (bills_from plant 0 (placed plant tasks))

-- void job(void) { out(2 + 3); }
abbrev sum_text : ProgramText
sum_text = function (at 1 6) None Void (codes "job") [] [] (statements (output (at 1 18) (binary (at 1 24) AddOp (int 1 22 2) (int 1 26 3)) ∷ [])) None ∷ []

-- One scope: three lines of code and one of the stack; then the start's jump, the job's end, and `job` from 8 on, which the start calls. In all 115 cycles.
sum_bill : bills (coded (codes "sum") 1000 1 sum_text [] ∷ [])
    ≡ ((None, (20, 0)) ∷ (Some 0, (80, 4)) ∷ (Some 0, (2, 0)) ∷ (Some 4, (1, 0)) ∷ (Some 8, (1, 0)) ∷ (Some 12, (2, 0)) ∷ (Some 16, (1, 0)) ∷ (Some 20, (1, 0))
    ∷ (Some 24, (1, 0)) ∷ (Some 28, (1, 0)) ∷ (Some 32, (2, 0)) ∷ (Some 36, (1, 0)) ∷ (Some 40, (2, 0)) ∷ [])
    ∷ []
sum_bill = refl

-- int g;
-- PREDICTABLE(491) REGION(g, 0, 0) void set(int x RANGE(0, 9)) { g = x; }
-- void job(void) { set(7); out(g); }
-- The start by the rule. `job` from 44 on up to the argument, as one scope of four lines: two of code, the frame's and the argument's. The jump to the stub,
-- which begins at 92, where `pm.mem`, the stated length and the return are one item; two switches. The rest of `job`, as one scope of four lines: two of code,
-- that of `g` and the frame's. In all 835 cycles, so the bound's lines come to these exactly.
marked_bill : bills (coded (codes "m") 1000 1 m_text m_turns ∷ [])
    ≡ ((None, (20, 0)) ∷ (Some 0, (22, 1)) ∷ (Some 4, (21, 1))
    ∷ (Some 44, (81, 4)) ∷ (Some 48, (2, 0)) ∷ (Some 52, (1, 0)) ∷ (Some 56, (2, 0)) ∷ (Some 60, (22, 1))
    ∷ (Some 92, (534, 2)) ∷ (None, (40, 0))
    ∷ (Some 64, (81, 4)) ∷ (Some 68, (1, 0)) ∷ (Some 72, (2, 0)) ∷ (Some 76, (1, 0)) ∷ (Some 80, (2, 0)) ∷ (Some 84, (1, 0)) ∷ (Some 88, (2, 0)) ∷ [])
    ∷ []
marked_bill = refl

-- by line: the mark and `set` are in line 2, `job` is in line 3; `set` stands from 8 on, and nothing of it is counted but the stated length
abbrev strip : List ℕ → (at count line : ℕ) → Strip
strip name at count line = record { task = 0; name = name; called = true; at = at; count = count; lines = at_line line count }

abbrev marked_strips : List Strip
marked_strips = strip (codes "[start]") 0 2 3 ∷ strip (codes "set") 8 9 2 ∷ strip (codes "job") 44 12 3 ∷ strip (codes "[stub] set") 92 43 2 ∷ []

abbrev marked_source : Source
marked_source = record { name = codes "m"; file = codes "m.c" }

abbrev marked_task : List Placed
marked_task = placed plant (coded (codes "m") 1000 1 m_text m_turns ∷ [])

marked_wcets : wcets plant marked_task ≡ 835
marked_wcets = refl

-- it is short, so it meets the premise of what is exact
marked_short : AreShort plant marked_task
marked_short = (let is = marked_wcets in omega (arith, is), tt)

marked_exact : (bounds_add_up (marked_source ∷ []) marked_strips 68 plant marked_task).sums.cycles ≡ 835
marked_exact = (bounds_add_up (marked_source ∷ []) marked_strips 68 plant marked_task).exact marked_short ∙ marked_wcets

-- and to the premise that each item has lines of its own
marked_told : AreTold (set_bill plant marked_task)
marked_told = (bounds_add_up (marked_source ∷ []) marked_strips 68 plant marked_task).items default_is_plant

abbrev line_and_cycles : List Entry → List (ℕ × ℕ)
line_and_cycles entries = map (λ (e : Entry). (e.line, e.cost.cycles)) entries

abbrev bound_lines : Bill → List (ℕ × ℕ)
bound_lines bill = line_and_cycles (profile_entries (marked_source ∷ []) marked_strips (each_row (bill_row 1 (rows_of 1 68 marked_strips) bill) 0 (first_row 1 + strip_words marked_strips)) no_calls_at)

marked_lines : bound_lines (set_bill plant marked_task)
    ≡ (0, 60) ∷ (3, 22) ∷ (3, 21) ∷ (3, 81) ∷ (3, 2) ∷ (3, 1) ∷ (3, 2) ∷ (3, 22) ∷ (3, 81) ∷ (3, 1) ∷ (3, 2) ∷ (3, 1) ∷ (3, 2) ∷ (3, 1) ∷ (3, 2) ∷ (2, 534) ∷ []
marked_lines = refl

-- ---- choices and loops, by the rule

abbrev one : Instr
one = OpImm Add 10 0 (pos 1)

abbrev told_pieces : Pieces → List (Option ℕ × (ℕ × ℕ))
told_pieces ps = told (bill_from (rule_cost plant) (λ part. []) 100 ps)

-- The first side, with the jump over the second one, where both cost as much: the branch at 100, the jump to the second side at 104, the first side from 108 on.
equal_sides : told_pieces (either (nonzero 10) (straight (one ∷ []) no_pieces) (straight (PmOut 10 ∷ []) no_pieces) no_pieces)
    ≡ (Some 100, (22, 1)) ∷ (Some 108, (21, 1)) ∷ (Some 112, (22, 1)) ∷ []
equal_sides = refl

-- the second one, at 116, where it costs more
second_side : told_pieces (either (nonzero 10) (straight (one ∷ []) no_pieces) (straight (one ∷ one ∷ []) no_pieces) no_pieces)
    ≡ (Some 100, (22, 1)) ∷ (Some 104, (22, 1)) ∷ (Some 116, (21, 1)) ∷ (Some 120, (21, 1)) ∷ []
second_side = refl

-- three turns of a head, the branch, a body at 112 and the jump back; then the head, the branch and the jump out of the loop
three_turns : told_pieces (repeat 3 (straight (one ∷ []) no_pieces) (nonzero 10) (straight (one ∷ []) no_pieces) no_pieces)
    ≡ (Some 100, (63, 3)) ∷ (Some 104, (66, 3)) ∷ (Some 112, (63, 3)) ∷ (Some 116, (66, 3)) ∷ (Some 100, (21, 1)) ∷ (Some 104, (22, 1)) ∷ (Some 108, (22, 1)) ∷ []
three_turns = refl

-- ---- gathered bills

abbrev cost : (cycles : ℕ) → Cost
cost n = record { instructions = 1; cycles = n; misses = 1; backs = 0 }

-- two words twice, of which the first one comes to more than is told, the switches to two tasks, and calls of two functions
abbrev twice : Bill
twice =
    spent_at (At 100) (cost (2 ^ 41)) ∷ spent_at (Switch 3) (cost 20) ∷ spent_at (At 104) (cost 2) ∷ spent_at (At 100) (cost 5) ∷ spent_at (Call 3) (cost 8)
    ∷ spent_at (Switch 4) (cost 20) ∷ spent_at (Switch 3) (cost 20) ∷ spent_at (Call 4) (cost 9) ∷ spent_at (At 104) (cost 7) ∷ spent_at (Call 3) (cost 8) ∷ []

gathered_once : gathered twice
    ≡ spent_at (At 100) (record { instructions = 2; cycles = 2 ^ 41; misses = 2; backs = 0 }) ∷ spent_at (Switch 3) (record { instructions = 2; cycles = 40; misses = 2; backs = 0 })
    ∷ spent_at (At 104) (record { instructions = 2; cycles = 9; misses = 2; backs = 0 }) ∷ spent_at (Call 3) (record { instructions = 2; cycles = 16; misses = 2; backs = 0 })
    ∷ spent_at (Switch 4) (cost 20) ∷ spent_at (Call 4) (cost 9) ∷ []
gathered_once = refl

-- ---- calls that are spread

abbrev calls : (function often cycles : ℕ) → Item
calls f n cycles = spent_at (Call f) (record { instructions = n; cycles = cycles; misses = 0; backs = 0 })

-- the first one takes 2 cycles, the second one 3 and two calls of the first one, so 7, and the third one isn't called
abbrev functions : List Bill
functions = (spent_at (At 8) (cost 2) ∷ []) ∷ (spent_at (At 16) (cost 3) ∷ calls 0 2 4 ∷ []) ∷ (spent_at (At 24) (cost 9) ∷ []) ∷ []

-- two calls of the second one, and one of the first one
abbrev calling_path : Bill
calling_path = spent_at (At 100) (cost 1) ∷ calls 1 2 14 ∷ calls 0 1 2 ∷ []

-- the word of the path, the second one twice, and the first one five times
path_spread : told (spread_path functions calling_path) ≡ (Some 100, (1, 1)) ∷ (Some 16, (6, 2)) ∷ (Some 8, (10, 5)) ∷ []
path_spread = refl

-- it takes as many cycles as the path
path_kept : (cycles_on (spread_path functions calling_path) ≡ 17) × (cycles_on calling_path ≡ 17)
path_kept = (refl, refl)
