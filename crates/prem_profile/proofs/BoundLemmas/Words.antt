-- Bills word by word, as `tools/bill_model.py` has them, which is another model and counts from the description alone.
use Rattle.std.specs.Prelude.{◌/◌, codes, false, replicate}
use Rattle.std.proofs.Common.{◌≡◌, refl, ℕ, List, [], ◌∷◌, map, None, Some, pos}
use Rattle.prem_plant.specs.declared.plant.Plant.{Plant}
use Rattle.prem_plant.specs.Ranges.{default_plant as plant}
use Rattle.prem_syntax.specs.declared.tree.Ty.TheVariants.{Void, Int as IntTy}
use Rattle.prem_syntax.specs.Syntax.{ItemText, ProgramText, absent, assign, block, call, counting_for, element, if_else, output, variable}
use Rattle.prem_syntax.proofs.Samples.{at, int, statements, one_name, parameter, local, region, global, function}
use Rattle.prem_layout.specs.Placed.{Coded}
use Rattle.prem_layout.proofs.Tasks.{coded, placed}
use Rattle.prem_profile.specs.declared.cost.Cost.{Cost}
use Rattle.prem_profile.specs.declared.bound.bill.Spot.{Spot}
use Rattle.prem_profile.specs.declared.bound.bill.Spot.TheVariants.{Switch, At, Call}
use Rattle.prem_profile.specs.Account.{with_cost}
use Rattle.prem_profile.specs.Spent.{no_cost}
use Rattle.prem_profile.specs.Bound.Bills.{Bill}
use Rattle.prem_profile.specs.Bound.Profile.{set_bill}

-- ---- instructions, cycles and misses of each of so many words

abbrev with_item : List Cost → Spot → Cost → List Cost
with_item words (Switch k) c = words
with_item words (At pc) c = with_cost words (pc / 4) c
with_item words (Call f) c = words

abbrev words_of : List Cost → Bill → List Cost
words_of words [] = words
words_of words (x ∷ bill) = words_of (with_item words x.spot x.cost) bill

abbrev told : Cost → ℕ × (ℕ × ℕ)
told c = (c.instructions, (c.cycles, c.misses))

abbrev by_word : Plant → List Coded → ℕ → List (ℕ × (ℕ × ℕ))
by_word p tasks n = map told (words_of (replicate n no_cost) (set_bill p (placed p tasks)))

-- ---- programs

-- int g; int a[8];
abbrev globals : ProgramText → ProgramText
globals rest = global (at 1 5) IntTy (codes "g") None absent ∷ global (at 1 12) IntTy (codes "a") (Some 8) absent ∷ rest

-- void say(void) { out(1); if (g) { out(2); } else { out(3); out(4); } }
abbrev say : ItemText
say =
    function (at 3 6) None Void (codes "say") [] []
    (statements (output (at 3 18) (int 3 22 1)
    ∷ if_else (at 3 26) (variable (at 3 30) (codes "g")) (block (at 3 33) (statements (output (at 3 35) (int 3 39 2) ∷ [])))
    (block (at 3 50) (statements (output (at 3 52) (int 3 56 3) ∷ output (at 3 60) (int 3 64 4) ∷ [])))
    ∷ [])) None

-- void job(void) {
--   int i = 0;
--   say();
--   for (i = 0; i < 5; i++) { if (a[i]) { out(1); say(); } else { out(a[i]); out(3); out(4); } }
--   say();
-- }
abbrev quiet_task : List Coded
quiet_task =
    coded (codes "m") 1000 1
    (globals (say
    ∷ function (at 4 6) None Void (codes "job") [] (local (at 5 7) IntTy (codes "i") (int 5 11 0) ∷ [])
    (statements (call (at 6 3) None (codes "say") []
    ∷ counting_for (at 7 3) (one_name (codes "i")) (int 7 12 0) false (int 7 19 5) 1
    (block (at 7 27) (statements (if_else (at 7 29) (element (at 7 33) (codes "a") (variable (at 7 35) (codes "i")))
    (block (at 7 39) (statements (output (at 7 41) (int 7 45 1) ∷ call (at 7 49) None (codes "say") [] ∷ [])))
    (block (at 7 63) (statements (output (at 7 65) (element (at 7 69) (codes "a") (variable (at 7 71) (codes "i"))) ∷ output (at 7 76) (int 7 80 3) ∷ output (at 7 84) (int 7 88 4) ∷ [])))
    ∷ [])))
    ∷ call (at 8 3) None (codes "say") []
    ∷ [])) None
    ∷ []))
    (5 ∷ [])
    ∷ []

-- PREDICTABLE(491) REGION(g, 0, 0) void set(int x RANGE(0, 9)) { g = x; }
-- void job(void) {
--   int i = 0;
--   for (i = 0; i < 5; i++) { set(7); say(); }
--   say();
--   if (g) { set(3); out(a[2]); } else { out(1); }
-- }
abbrev mixed_task : List Coded
mixed_task =
    coded (codes "m") 1000 1
    (globals (function (at 2 39) (Some (record { stated = 491; regions = region (at 2 25) (codes "g") 0 0 ∷ [] })) Void (codes "set")
    (parameter (at 2 47) IntTy (codes "x") (Some (pos 0, pos 9)) ∷ []) [] (statements (assign (at 2 64) (codes "g") None (variable (at 2 68) (codes "x")) ∷ [])) None
    ∷ say
    ∷ function (at 4 6) None Void (codes "job") [] (local (at 5 7) IntTy (codes "i") (int 5 11 0) ∷ [])
    (statements (counting_for (at 6 3) (one_name (codes "i")) (int 6 12 0) false (int 6 19 5) 1
    (block (at 6 27) (statements (call (at 6 29) None (codes "set") (int 6 33 7 ∷ []) ∷ call (at 6 37) None (codes "say") [] ∷ [])))
    ∷ call (at 7 3) None (codes "say") []
    ∷ if_else (at 8 3) (variable (at 8 7) (codes "g"))
    (block (at 8 10) (statements (call (at 8 12) None (codes "set") (int 8 16 3 ∷ []) ∷ output (at 8 20) (element (at 8 24) (codes "a") (int 8 26 2)) ∷ [])))
    (block (at 8 38) (statements (output (at 8 40) (int 8 44 1) ∷ [])))
    ∷ [])) None
    ∷ []))
    (5 ∷ [])
    ∷ []

-- ---- their bills

abbrev cache : (sets each : ℕ) → Plant
cache sets each = record plant { sets = sets; «ways» = each }

-- In eight sets of two: the loop is one scope, with crowded lines; the calls are billed by their parts, and in them `say` as one scope. In all 4142 cycles, 20 of them in switches.
quiet_bill : by_word (cache 8 2) quiet_task 63
    ≡ (1, (22, 1)) ∷ (1, (21, 1)) ∷ (7, (427, 21)) ∷ (7, (214, 10)) ∷ (7, (107, 5)) ∷ (7, (107, 5)) ∷ (7, (107, 5)) ∷ (7, (107, 5)) ∷ (7, (214, 10)) ∷ (7, (114, 5)) ∷
    (7, (114, 5)) ∷ (0, (0, 0)) ∷ (0, (0, 0)) ∷ (0, (0, 0)) ∷ (7, (107, 5)) ∷ (7, (107, 5)) ∷ (7, (7, 0)) ∷ (7, (7, 0)) ∷ (7, (114, 5)) ∷ (7, (7, 0)) ∷ (7, (14, 0)) ∷
    (1, (21, 1)) ∷ (1, (42, 2)) ∷ (1, (21, 1)) ∷ (1, (42, 2)) ∷ (1, (22, 1)) ∷ (1, (161, 8)) ∷ (1, (22, 1)) ∷ (6, (132, 6)) ∷ (6, (6, 0)) ∷ (6, (12, 0)) ∷ (1, (2, 0)) ∷
    (5, (210, 10)) ∷ (5, (105, 5)) ∷ (5, (105, 5)) ∷ (5, (105, 5)) ∷ (5, (105, 5)) ∷ (5, (210, 10)) ∷ (5, (110, 5)) ∷ (0, (0, 0)) ∷ (5, (105, 5)) ∷ (5, (105, 5)) ∷ (5, (110, 5)) ∷
    (5, (110, 5)) ∷ (0, (0, 0)) ∷ (0, (0, 0)) ∷ (0, (0, 0)) ∷ (0, (0, 0)) ∷ (0, (0, 0)) ∷ (0, (0, 0)) ∷ (0, (0, 0)) ∷ (0, (0, 0)) ∷ (0, (0, 0)) ∷ (0, (0, 0)) ∷ (0, (0, 0)) ∷
    (5, (110, 5)) ∷ (5, (5, 0)) ∷ (5, (110, 5)) ∷ (5, (10, 0)) ∷ (1, (22, 1)) ∷ (1, (42, 2)) ∷ (1, (21, 1)) ∷ (1, (22, 1)) ∷ []
quiet_bill = refl

-- In four sets of one: the loop and the calls by their parts, and in them `say` statement by statement. In all 5182 cycles, 20 of them in switches.
crowded_bill : by_word (cache 4 1) quiet_task 63
    ≡ (1, (22, 1)) ∷ (1, (21, 1)) ∷ (7, (147, 7)) ∷ (7, (294, 14)) ∷ (7, (287, 14)) ∷ (7, (7, 0)) ∷ (7, (7, 0)) ∷ (7, (7, 0)) ∷ (7, (294, 14)) ∷ (7, (154, 7)) ∷ (7, (154, 7)) ∷
    (0, (0, 0)) ∷ (0, (0, 0)) ∷ (0, (0, 0)) ∷ (7, (147, 7)) ∷ (7, (147, 7)) ∷ (7, (7, 0)) ∷ (7, (7, 0)) ∷ (7, (294, 14)) ∷ (7, (147, 7)) ∷ (7, (154, 7)) ∷ (1, (21, 1)) ∷
    (1, (42, 2)) ∷ (1, (21, 1)) ∷ (1, (42, 2)) ∷ (1, (22, 1)) ∷ (1, (21, 1)) ∷ (1, (42, 2)) ∷ (6, (252, 12)) ∷ (6, (126, 6)) ∷ (6, (132, 6)) ∷ (1, (22, 1)) ∷ (5, (210, 10)) ∷
    (5, (105, 5)) ∷ (5, (105, 5)) ∷ (5, (105, 5)) ∷ (5, (105, 5)) ∷ (5, (210, 10)) ∷ (5, (110, 5)) ∷ (0, (0, 0)) ∷ (5, (205, 10)) ∷ (5, (5, 0)) ∷ (5, (110, 5)) ∷ (5, (110, 5)) ∷
    (0, (0, 0)) ∷ (0, (0, 0)) ∷ (0, (0, 0)) ∷ (0, (0, 0)) ∷ (0, (0, 0)) ∷ (0, (0, 0)) ∷ (0, (0, 0)) ∷ (0, (0, 0)) ∷ (0, (0, 0)) ∷ (0, (0, 0)) ∷ (0, (0, 0)) ∷ (5, (210, 10)) ∷
    (5, (105, 5)) ∷ (5, (210, 10)) ∷ (5, (110, 5)) ∷ (1, (22, 1)) ∷ (1, (42, 2)) ∷ (1, (21, 1)) ∷ (1, (22, 1)) ∷ []
crowded_bill = refl

-- In eight sets of one, with marked calls in a loop and in a choice: what these take is at the stub, which begins at 280. In all 7538 cycles, 260 of them in switches.
mixed_bill : by_word (cache 8 1) mixed_task 71
    ≡ (1, (22, 1)) ∷ (1, (21, 1)) ∷ (0, (0, 0)) ∷ (0, (0, 0)) ∷ (0, (0, 0)) ∷ (0, (0, 0)) ∷ (0, (0, 0)) ∷ (0, (0, 0)) ∷ (0, (0, 0)) ∷ (0, (0, 0)) ∷ (0, (0, 0)) ∷ (6, (486, 24)) ∷
    (6, (132, 6)) ∷ (6, (6, 0)) ∷ (6, (6, 0)) ∷ (6, (6, 0)) ∷ (6, (126, 6)) ∷ (6, (252, 12)) ∷ (6, (132, 6)) ∷ (6, (132, 6)) ∷ (0, (0, 0)) ∷ (0, (0, 0)) ∷ (0, (0, 0)) ∷
    (6, (6, 0)) ∷ (6, (6, 0)) ∷ (6, (6, 0)) ∷ (6, (6, 0)) ∷ (6, (132, 6)) ∷ (6, (126, 6)) ∷ (6, (132, 6)) ∷ (1, (21, 1)) ∷ (1, (22, 1)) ∷ (1, (21, 1)) ∷ (1, (42, 2)) ∷
    (1, (21, 1)) ∷ (1, (42, 2)) ∷ (6, (252, 12)) ∷ (6, (126, 6)) ∷ (6, (132, 6)) ∷ (1, (22, 1)) ∷ (5, (305, 15)) ∷ (5, (10, 0)) ∷ (5, (110, 5)) ∷ (5, (110, 5)) ∷ (5, (210, 10)) ∷
    (5, (105, 5)) ∷ (5, (210, 10)) ∷ (5, (110, 5)) ∷ (1, (22, 1)) ∷ (1, (21, 1)) ∷ (1, (21, 1)) ∷ (1, (42, 2)) ∷ (1, (22, 1)) ∷ (0, (0, 0)) ∷ (1, (61, 3)) ∷ (1, (2, 0)) ∷
    (1, (22, 1)) ∷ (1, (101, 5)) ∷ (1, (21, 1)) ∷ (1, (21, 1)) ∷ (1, (1, 0)) ∷ (1, (1, 0)) ∷ (1, (22, 1)) ∷ (1, (1, 0)) ∷ (1, (22, 1)) ∷ (0, (0, 0)) ∷ (0, (0, 0)) ∷ (1, (62, 3)) ∷
    (1, (1, 0)) ∷ (1, (2, 0)) ∷ (12, (3204, 12)) ∷ []
mixed_bill = refl
