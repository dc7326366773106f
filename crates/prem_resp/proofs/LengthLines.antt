-- A text that tells the lengths of all busy periods, line by line.
use Rattle.std.specs.List.{list_all, AllByRecursion}
use Rattle.std.specs.Str.Parse.{AllDigits}
use Rattle.std.specs.Prelude.{codes, if◌then◌else◌}
use Rattle.std.proofs.Common.{◌≡◌, ◌+◌, ◌<◌, ◌≤◌, ◌^◌, ℕ, zero, suc, ◌==◌, ◌&&◌, Bool, true, false, not, List, [], ◌∷◌, ◌++◌, map, take, slice_get, Option, Some, unwrap_or}
use Rattle.std.proofs.Common.{decimal, refl, ap, ◌∙◌, sym, arith, append_assoc}
use Rattle.std.proofs.lemmas.Bool.{and_parts, not-true}
use Rattle.std.proofs.lemmas.Bool.Decides.{nat_tests}
use Rattle.std.proofs.lemmas.Fmt.{decimal_is_IsNumeral}
use Rattle.std.proofs.lemmas.List.Folds.{list_all-append}
use Rattle.std.proofs.lemmas.Str.Parse.{digit_from_value}
use Rattle.prem_plant.specs.Label.{is_name_byte, IsName}
use Rattle.prem_line.specs.Lines.{lines_of, without_return}
use Rattle.prem_line.specs.Spelled.{IsLine, ended}
use Rattle.prem_line.proofs.Spelled.{lines_are_read_back}
use Rattle.prem_syntax.specs.Syntax.{Text}
use Rattle.prem_resp.specs.declared.busy.load.Load.{Load}
use Rattle.prem_resp.specs.declared.busy.length.Busy.{Busy}
use Rattle.prem_resp.specs.declared.busy.length.Busy.TheVariants.{Within, Past}
use Rattle.prem_resp.specs.Busy.Busy.{load_at, blocking, interference, IsLength}
use Rattle.prem_resp.specs.Busy.Found.{IsFound, busy_of}
use Rattle.prem_resp.proofs.BusyLemmas.First.{busy_found}
use Rattle.prem_resp.specs.Lines.{all_within, fit_text, length_line, lines_from, task_line, TellsLength}
use Rattle.prem_resp.specs.Fits.{found_from}

-- ---- bytes within a line: neither an LF nor a CR

abbrev is_inner : ℕ → Bool
is_inner b = not (b == 10) && not (b == 13)

and_true : (a b : Bool) → a ≡ true → b ≡ true → (a && b) ≡ true
and_true true true e f = refl
and_true true false e f = absurd cc
and_true false b e f = absurd cc

stays : (line : List ℕ) → list_all is_inner line ≡ true → list_all (λ b. not (b == 10)) line ≡ true
stays [] h = refl
stays (b ∷ bs) h =
    let (here, later) = and_parts (is_inner b) (list_all is_inner bs) h in
    and_true (not (b == 10)) (list_all (λ b. not (b == 10)) bs) (and_parts (not (b == 10)) (not (b == 13)) here).0 (stays bs later)

whole : (line : List ℕ) → list_all is_inner line ≡ true → without_return line ≡ line
whole [] h = refl
whole (b ∷ []) h =
    let (here, later) = and_parts (is_inner b) true h in
    rw (not-true (b == 13) (and_parts (not (b == 10)) (not (b == 13)) here).1) refl
whole (b ∷ c ∷ bs) h = ap (λ x. b ∷ x) (whole (c ∷ bs) (and_parts (is_inner b) (list_all is_inner (c ∷ bs)) h).1)

joined : (xs ys : List ℕ) → list_all is_inner xs ≡ true → list_all is_inner ys ≡ true → list_all is_inner (xs ++ ys) ≡ true
joined xs ys h k = list_all-append is_inner xs ys ∙ and_true (list_all is_inner xs) (list_all is_inner ys) h k

digit_inner : (b : ℕ) → 48 ≤ b → is_inner b ≡ true
digit_inner b low = grind (arith, nat_tests, low)

digits_inner : (ds : List ℕ) → AllDigits 10 ds → list_all is_inner ds ≡ true
digits_inner [] all = refl
digits_inner (c ∷ cs) all = and_true (is_inner c) (list_all is_inner cs) (digit_inner c (digit_from_value c all.0).0) (digits_inner cs all.1)

decimal_inner : (n : ℕ) → n < 2 ^ 64 → list_all is_inner (decimal n) ≡ true
decimal_inner n small = digits_inner (decimal n) (decimal_is_IsNumeral n small).0.1

name_byte_inner : (b : ℕ) → is_name_byte b ≡ true → is_inner b ≡ true
name_byte_inner b h = grind (arith, nat_tests, h)

name_inner : (name : List ℕ) → list_all is_name_byte name ≡ true → list_all is_inner name ≡ true
name_inner [] h = refl
name_inner (b ∷ bs) h =
    let (here, later) = and_parts (is_name_byte b) (list_all is_name_byte bs) h in
    and_true (is_inner b) (list_all is_inner bs) (name_byte_inner b here) (name_inner bs later)

-- ---- the line of a task

-- numbers that are told of a task have no more digits than a word of 64 bits
record AreShort (loads : List Load) (i cycles : ℕ) : Type 0 where
  cost : (load_at loads i).cost < 2 ^ 64
  blocks : blocking loads i < 2 ^ 64
  lasts : cycles < 2 ^ 64

line_inner : (name : Text) (cost blocks cycles : ℕ) → IsName name → cost < 2 ^ 64 → blocks < 2 ^ 64 → cycles < 2 ^ 64 → list_all is_inner (length_line name cost blocks cycles) ≡ true
line_inner name cost blocks cycles named c b n =
    joined name (codes " cost " ++ (decimal cost ++ (codes " blocks " ++ (decimal blocks ++ (codes " length " ++ decimal cycles))))) (name_inner name named.each)
    (joined (decimal cost) (codes " blocks " ++ (decimal blocks ++ (codes " length " ++ decimal cycles))) (decimal_inner cost c)
    (joined (decimal blocks) (codes " length " ++ decimal cycles) (decimal_inner blocks b) (decimal_inner cycles n)))

is_line : (loads : List Load) (i : ℕ) (name : Text) (cycles : ℕ) → IsName name → AreShort loads i cycles → IsLine (length_line name (load_at loads i).cost (blocking loads i) cycles)
is_line loads i name cycles named short =
    let line = length_line name (load_at loads i).cost (blocking loads i) cycles in
    let inner = line_inner name (load_at loads i).cost (blocking loads i) cycles named short.cost short.blocks short.lasts in
    record { stays = stays line inner; whole = whole line inner }

line_ended : (name : Text) (cost blocks cycles : ℕ) (rest : List ℕ) → task_line name cost blocks (Within cycles) ++ rest ≡ length_line name cost blocks cycles ++ 10 ∷ rest
line_ended name cost blocks cycles rest =
    let whole : length_line name cost blocks cycles ++ 10 ∷ [] ≡ task_line name cost blocks (Within cycles) = simp (append_assoc) in
    ap (λ xs. xs ++ rest) (sym whole) ∙ append_assoc (length_line name cost blocks cycles) (10 ∷ []) rest

-- ---- the lines of all tasks

-- from number i on
abbrev rows_from : List Load → ℕ → List Text → List ℕ → List (List ℕ)
rows_from loads i [] ns = []
rows_from loads i (name ∷ names) [] = []
rows_from loads i (name ∷ names) (n ∷ ns) = length_line name (load_at loads i).cost (blocking loads i) n ∷ rows_from loads (i + 1) names ns

abbrev AllShort : List Load → ℕ → List ℕ → Type 0
AllShort loads i [] = Unit {0}
AllShort loads i (n ∷ ns) = AreShort loads i n × AllShort loads (i + 1) ns

rows_are_lines : (loads : List Load) (i : ℕ) (names : List Text) (ns : List ℕ) (more : List (List ℕ)) → AllByRecursion IsName names →
    AllShort loads i ns → AllByRecursion IsLine more → AllByRecursion IsLine (rows_from loads i names ns ++ more)
rows_are_lines loads i [] ns more named short all = all
rows_are_lines loads i (name ∷ names) [] more named short all = all
rows_are_lines loads i (name ∷ names) (n ∷ ns) more named short all = (is_line loads i name n named.0 short.0, rows_are_lines loads (i + 1) names ns more named.1 short.1 all)

rows_ended : (loads : List Load) (i : ℕ) (names : List Text) (ns : List ℕ) (more : List (List ℕ)) → lines_from loads i names (map Within ns) ++ ended more ≡ ended (rows_from loads i names ns ++ more)
rows_ended loads i [] ns more = refl
rows_ended loads i (name ∷ names) [] more = refl
rows_ended loads i (name ∷ names) (n ∷ ns) more =
    let cost = (load_at loads i).cost in
    let blocks = blocking loads i in
    append_assoc (task_line name cost blocks (Within n)) (lines_from loads (i + 1) names (map Within ns)) (ended more)
    ∙ ap (λ xs. task_line name cost blocks (Within n) ++ xs) (rows_ended loads (i + 1) names ns more)
    ∙ line_ended name cost blocks n (ended (rows_from loads (i + 1) names ns ++ more))

row_there : (loads : List Load) (i : ℕ) (names : List Text) (ns : List ℕ) (more : List (List ℕ)) (k : ℕ) (name : Text) (n : ℕ) → slice_get names k ≡ Some name → slice_get ns k ≡ Some n →
    slice_get (rows_from loads i names ns ++ more) k ≡ Some (length_line name (load_at loads (i + k)).cost (blocking loads (i + k)) n)
row_there loads i [] ns more k name n a b = absurd cc
row_there loads i (m ∷ names) [] more k name n a b = absurd cc
row_there loads i (m ∷ names) (q ∷ ns) more zero name n a b =
    let same : i ≡ i + 0 = omega arith in
    ap (λ (o : Option Text). Some (length_line (unwrap_or o m) (load_at loads i).cost (blocking loads i) q)) a
    ∙ ap (λ (o : Option ℕ). Some (length_line name (load_at loads i).cost (blocking loads i) (unwrap_or o q))) b
    ∙ ap (λ j. Some (length_line name (load_at loads j).cost (blocking loads j) n)) same
row_there loads i (m ∷ names) (q ∷ ns) more (suc k) name n a b =
    let same : i + 1 + k ≡ i + suc k = omega arith in
    row_there loads (i + 1) names ns more k name n a b ∙ ap (λ j. Some (length_line name (load_at loads j).cost (blocking loads j) n)) same

all_are : (ns : List ℕ) → all_within (map Within ns) ≡ true
all_are [] = refl
all_are (n ∷ ns) = all_are ns

text_lines : (loads : List Load) (names : List Text) (ns : List ℕ) → AllByRecursion IsName names → AllShort loads 0 ns →
    lines_of (fit_text names loads (map Within ns)) ≡ rows_from loads 0 names ns ++ codes "fits" ∷ []
text_lines loads names ns named short =
    let lines : List ℕ = lines_from loads 0 names (map Within ns) in
    let rows : List (List ℕ) = rows_from loads 0 names ns ++ codes "fits" ∷ [] in
    ap lines_of (ap (λ b. lines ++ (if b then codes "fits\n" else codes "late\n")) (all_are ns) ∙ rows_ended loads 0 names ns (codes "fits" ∷ []))
    ∙ lines_are_read_back rows (rows_are_lines loads 0 names ns (codes "fits" ∷ []) named short (record { stays = refl; whole = refl }, tt))

-- ---- what is found

record AreWithin (loads : List Load) (i : ℕ) (found : List Busy) : Type 0 where
  lengths : List ℕ
  are : found ≡ map Within lengths
  short : AllShort loads i lengths

short_of : (loads : List Load) (i n : ℕ) → IsLength loads i n → n ≤ (load_at loads i).period → (load_at loads i).period ≤ 4294967295 → AreShort loads i n
short_of loads i n is within small = by (blocking loads i) (load_at loads i).cost (interference n (take i loads)) (load_at loads i).period is.balanced.1 within small where
  by : (b c r p : ℕ) → n ≡ b + c + r → n ≤ p → p ≤ 4294967295 → AreShort loads i n
  by b c r p e le small = record { cost = omega (arith, e, le, small); blocks = omega (arith, e, le, small); lasts = omega (arith, le, small) }

all_found : (loads : List Load) (i count : ℕ) → ((j : ℕ) → (load_at loads j).period ≤ 4294967295) → all_within (found_from loads i count) ≡ true → AreWithin loads i (found_from loads i count)
all_found loads i zero small all = record { lengths = []; are = refl; short = tt }
all_found loads i (suc count) small all = by (busy_of loads i) (busy_found loads i) all (all_found loads (i + 1) count small) where
  by : (b : Busy) → IsFound loads i b → all_within (b ∷ found_from loads (i + 1) count) ≡ true →
      (all_within (found_from loads (i + 1) count) ≡ true → AreWithin loads (i + 1) (found_from loads (i + 1) count)) →
      AreWithin loads i (b ∷ found_from loads (i + 1) count)
  by (Within n) is h rest =
      let more = rest h in
      record { lengths = n ∷ more.lengths; are = ap (λ xs. Within n ∷ xs) more.are; short = (short_of loads i n is.0 is.1 (small i), more.short) }
  by Past is h rest = absurd cc

length_there : (ns : List ℕ) (k n : ℕ) → slice_get (map Within ns) k ≡ Some (Within n) → slice_get ns k ≡ Some n
length_there [] k n e = absurd cc
length_there (m ∷ ns) zero n e = cc
length_there (m ∷ ns) (suc k) n e = length_there ns k n e

-- where all are within the periods the line of each tells its length
pub line_tells : (loads : List Load) (names : List Text) (count : ℕ) → AllByRecursion IsName names → ((j : ℕ) → (load_at loads j).period ≤ 4294967295) → all_within (found_from loads 0 count) ≡ true →
    (i : ℕ) (name : Text) (n : ℕ) → slice_get names i ≡ Some name → slice_get (found_from loads 0 count) i ≡ Some (Within n) →
    TellsLength (fit_text names loads (found_from loads 0 count)) loads i name n
line_tells loads names count named small all i name n a b =
    let w = all_found loads 0 count small all in
    let same : 0 + i ≡ i = omega arith in
    ap (λ found. slice_get (lines_of (fit_text names loads found)) i) w.are
    ∙ ap (λ rows. slice_get rows i) (text_lines loads names w.lengths named w.short)
    ∙ row_there loads 0 names w.lengths (codes "fits" ∷ []) i name n a (length_there w.lengths i n (ap (λ found. slice_get found i) (sym w.are) ∙ b))
    ∙ ap (λ j. Some (length_line name (load_at loads j).cost (blocking loads j) n)) same
