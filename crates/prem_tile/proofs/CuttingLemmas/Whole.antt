-- What is known of the program that `tile` gives.
use Rattle.std.specs.Prelude.{nat_lt}
use Rattle.std.specs.List.{list_any}
use Rattle.std.proofs.Common.{◌≡◌, ℕ, zero, suc, ◌+◌, ◌<◌, ◌≤◌, false, ◌||◌, List, [], length, refl, sym, subst, arith, Result, Ok, true≢false, ⊎_elim}
use Rattle.std.proofs.lemmas.Bool.{ltb-false, cases_lt}
use Rattle.prem_syntax.specs.Syntax.{Text, ProgramText, function_item}
use Rattle.prem_syntax.specs.Resolve.{functions_of, globals_of}
use Rattle.prem_syntax.specs.Breaches.{in_limits}
use Rattle.prem_syntax.specs.ProgramRules.{IsWellFormed}
use Rattle.prem_text.specs.declared.lexing.token.fail.FrontFail.{FrontFail}
use Rattle.prem_text.specs.Lexing.Token.Lexeme.{name}
use Rattle.prem_text.specs.Texts.{reads}
use Rattle.prem_text.specs.Spelling.Spellings.{Spells}
use Rattle.prem_text.specs.Canonical.Canonical.{function_lexemes}
use Rattle.prem_text.specs.Canonical.Printed.{printed}
use Rattle.prem_text.specs.Canonical.Law.{ReadBack, gives_back, is_too_long, is_too_deep}
use Rattle.prem_text.specs.Canonical.Unplaced.{unplaced_item}
use Rattle.prem_text.proofs.CanonicalLemmas.Sayable.{AreSayable}
use Rattle.prem_text.proofs.CanonicalLemmas.Shaped.{IsShapedItem}
use Rattle.prem_tiling.specs.Shapes.Shape.{turns_of}
use Rattle.prem_tiling.specs.Shapes.Tiled.{Cut, tile_name, tile_names, first_turn, low_of, closed_of, high_of, tiled}
use Rattle.prem_tiling.specs.Shapes.Tile.{Past, has_breach, is_past, cut_by, tile}
use Rattle.prem_tiling.specs.Laws.CanCut.{CanCut}
use Rattle.prem_tiling.proofs.LawsLemmas.Cutting.{IsCut}
use Rattle.prem_tiling.proofs.LawsLemmas.Law.{is_cut}
use Rattle.prem_tiling.proofs.LawsLemmas.Lists.{Split, split_at}
use Rattle.prem_tiling.proofs.LawsLemmas.Ruled.{well_formed}
use Rattle.prem_tiling.proofs.LawsLemmas.Shapes.{IsShape, shape_parts}
use Rattle.prem_tiling.proofs.LawsLemmas.Standing.{step_of}
use Rattle.prem_tiling.proofs.LawsLemmas.Tied.{neither_left, neither_right}
use Rattle.prem_tiling.proofs.LawsLemmas.Told.{Tiling, tiling, tile_same}
use Rattle.prem_tile.specs.Cutting.Answer.{ends_at_limit, is_text_past, IsTiled, IsReadBack}
use Rattle.prem_tile.proofs.CuttingLemmas.Printable.{IsPrintable, read_printable, printable_read}
use Rattle.prem_tile.proofs.CuttingLemmas.Readable.{tile_said, items_said, items_shaped, function_inside, name_said}

pub tile_kept : (past : Past) (p : ProgramText) (function : Text) (tiles stated : ℕ) (q : ProgramText) → IsWellFormed p → 2 ≤ tiles → tiles ≤ 64 →
    tile past p function tiles stated ≡ Ok q → IsTiled p q function tiles
tile_kept past p function tiles stated q formed several few e =
    let t = tiling past p function tiles stated q several few e in
    let c = cut_by t.function tiles stated t.loop in
    record {
      formed = subst IsWellFormed (sym t.is) (well_formed p c formed t.can (subst (λ (x : ProgramText). in_limits (globals_of x) (functions_of x) ≡ []) t.is t.limits));
      same = tile_same past p function tiles stated q formed several few e;
    }

-- ---- reading it again

short_names : (f : Text) (n t k : ℕ) → list_any (λ (x : Text). nat_lt 64 (length x)) (tile_names f t n) ≡ false → t ≤ k → k < t + n → length (tile_name f k) ≤ 64
short_names f zero t k e low high = absurd (omega arith)
short_names f (suc n) t k e low high =
    let here = neither_left (nat_lt 64 (length (tile_name f t))) (list_any (λ (x : Text). nat_lt 64 (length x)) (tile_names f (t + 1) n)) e in
    let later = neither_right (nat_lt 64 (length (tile_name f t))) (list_any (λ (x : Text). nat_lt 64 (length x)) (tile_names f (t + 1) n)) e in
    ⊎_elim (λ (lt : t < k). short_names f n (t + 1) k later (omega arith) (omega arith))
    (λ (le : k ≤ t). let same : t ≡ k = omega arith in subst (λ j. length (tile_name f j) ≤ 64) same (ltb-false 64 (length (tile_name f t)) here)) (cases_lt t k)

read_again : (q : ProgramText) (r : Result ProgramText FrontFail) → reads (printed q) ≡ r → ReadBack q r → ends_at_limit r ≡ false → IsReadBack q
read_again q _ e (gives_back items fits is same) h = record { items = items; read = e; same = same }
read_again q _ e (is_too_long long) h = absurd (true≢false h)
read_again q _ e (is_too_deep line ts fits are why) h = absurd (true≢false h)

-- the parts of the last test
not_past : (past : Past) (c : Cut) (q : ProgramText) → is_past past c q ≡ false → past q ≡ false
not_past past c q e = neither_right (has_breach (in_limits (globals_of q) (functions_of q)) || list_any (λ (x : Text). nat_lt 64 (length x)) (tile_names c.function.name 0 c.tiles)) (past q) e

short_all : (past : Past) (c : Cut) (q : ProgramText) → is_past past c q ≡ false → list_any (λ (x : Text). nat_lt 64 (length x)) (tile_names c.function.name 0 c.tiles) ≡ false
short_all past c q e =
    neither_right (has_breach (in_limits (globals_of q) (functions_of q))) (list_any (λ (x : Text). nat_lt 64 (length x)) (tile_names c.function.name 0 c.tiles))
    (neither_left (has_breach (in_limits (globals_of q) (functions_of q)) || list_any (λ (x : Text). nat_lt 64 (length x)) (tile_names c.function.name 0 c.tiles)) (past q) e)

-- what a cut of a printable program gives can be printed
cut_printable : (p : ProgramText) (c : Cut) → IsWellFormed p → CanCut p c → IsPrintable p → c.stated ≤ 2147483647 →
    list_any (λ (x : Text). nat_lt 64 (length x)) (tile_names c.function.name 0 c.tiles) ≡ false → IsPrintable (tiled c p)
cut_printable p c formed can is small short = record {
  shaped = items_shaped c shape small lows highs said own.0 own.1 p is.shaped;
  sayable = items_said c shape small lows highs said own.0 own.1 p is.sayable;
}
  where
    s : Split p c.function
    s = split_at p c.function.name c.function can.named

    own : AreSayable (function_lexemes c.function) × IsShapedItem (unplaced_item (function_item c.function))
    own = function_inside s.front s.back c.function (subst IsPrintable s.is is)

    shape : IsShape c.function c.loop
    shape = shape_parts c.function c.loop can.shape

    numbers : IsCut c.loop.step c.loop.low.value c.loop.high.value c.loop.closed c.tiles (turns_of c.loop) 2147483648 (first_turn c) (closed_of c) (high_of c)
    numbers = is_cut c 2147483648 (step_of p c formed can.named can.shape) shape.low_small shape.high_small can.several can.enough (omega arith)

    lows : (t : ℕ) → t < c.tiles → low_of c t ≤ 2147483647
    lows t lt = let a = numbers.lows_small t lt in omega arith

    highs : (t : ℕ) → t < c.tiles → high_of c t ≤ 2147483647
    highs t lt = let a = numbers.highs_small t lt in omega arith

    said : (k : ℕ) → k < c.tiles → Spells (tile_name c.function.name k) (name (tile_name c.function.name k))
    said k lt = tile_said c.function.name k (name_said c.function own.0) (let f = can.few in omega arith) (short_names c.function.name c.tiles 0 k short (omega arith) (omega arith))

printable_tiles : (past : Past) (p : ProgramText) (function : Text) (tiles stated : ℕ) (q : ProgramText) → IsPrintable p → IsWellFormed p →
    stated ≤ 2147483647 → Tiling past p function tiles stated q → IsPrintable q
printable_tiles past p function tiles stated q is formed small t =
    let c = cut_by t.function tiles stated t.loop in
    subst IsPrintable (sym t.is) (cut_printable p c formed t.can is small (short_all past c q t.within))

within_limits : (past : Past) (p : ProgramText) (function : Text) (tiles stated : ℕ) (q : ProgramText) → Tiling past p function tiles stated q → past q ≡ false
within_limits past p function tiles stated q t = not_past past (cut_by t.function tiles stated t.loop) q t.within

pub tile_read_back : (text : List ℕ) (p : ProgramText) (function : Text) (tiles stated : ℕ) (q : ProgramText) → reads text ≡ Ok p → IsWellFormed p →
    2 ≤ tiles → tiles ≤ 64 → stated ≤ 2147483647 → tile is_text_past p function tiles stated ≡ Ok q → IsReadBack q
tile_read_back text p function tiles stated q read formed several few small e =
    let t = tiling is_text_past p function tiles stated q several few e in
    read_again q (reads (printed q)) refl
    (printable_read q (printable_tiles is_text_past p function tiles stated q (read_printable text p read) formed small t))
    (within_limits is_text_past p function tiles stated q t)
