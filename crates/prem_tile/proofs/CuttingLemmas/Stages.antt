-- The stages of a cut, as they end.
use Rattle.std.specs.Prelude.{nat_lt}
use Rattle.std.specs.List.{list_any}
use Rattle.std.proofs.Common.{◌≡◌, ℕ, ◌≤◌, Bool, cond, ◌||◌, List, length, ap, ◌∙◌, Some, Result, Ok, Err, IfOk}
use Rattle.prem_syntax.specs.declared.tree.Program.{Program}
use Rattle.prem_syntax.specs.Syntax.{Text, FunctionText, ProgramText}
use Rattle.prem_syntax.specs.SyntaxOf.{program_of}
use Rattle.prem_syntax.specs.Resolve.{functions_of}
use Rattle.prem_syntax.specs.ProgramRules.{IsWellFormed}
use Rattle.prem_tiling.specs.Shapes.Shape.{marked_named}
use Rattle.prem_tiling.specs.Shapes.Tiled.{Cut, tile_names, tiled}
use Rattle.prem_tiling.specs.Shapes.Tile.{limit, Past, is_past, unless_past, tile}
use Rattle.prem_tiling.specs.Laws.CanCut.{CanCut}
use Rattle.prem_tiling.proofs.LawsLemmas.Limits.{only_functions}
use Rattle.prem_tiling.proofs.LawsLemmas.Lists.{named_so}
use Rattle.prem_tile.specs.Cutting.Answer.{IsAsked, IsTiled, Tells}
use Rattle.prem_tile.specs.declared.cutting.fail.TileFail.{TileFail}
use Rattle.prem_tile.proofs.CuttingLemmas.Whole.{tile_kept}

abbrev long_names : Cut → Bool
long_names c = list_any (λ (n : Text). nat_lt 64 (length n)) (tile_names c.function.name 0 c.tiles)

module _ (past : Past) (c : Cut) (p : ProgramText) (asked : IsAsked p c) (can : CanCut p c) where
  -- what the last test says, by its parts
  past_is : is_past past c (tiled c p) ≡ (nat_lt 256 (length (functions_of (tiled c p))) || long_names c || past (tiled c p))
  past_is = ap (λ b. b || long_names c || past (tiled c p)) (only_functions p c asked.formed can asked.some asked.stated)

  pub ends_by : (functions names text : Bool) → nat_lt 256 (length (functions_of (tiled c p))) ≡ functions → long_names c ≡ names →
      past (tiled c p) ≡ text → unless_past past c p ≡ cond (functions || names || text) (Err limit) (Ok (tiled c p))
  ends_by functions names text e f g = ap (λ b. cond b (Err limit) (Ok (tiled c p))) (past_is ∙ (λ i. e i || f i || g i))

-- a function is found by its own name
pub named_again : (fs : List FunctionText) (name : Text) (f : FunctionText) → marked_named fs name ≡ Some f → marked_named fs f.name ≡ Some f
named_again fs name f is = ap (marked_named fs) (named_so fs name f is) ∙ is

-- what is known of the program that was given
pub kept_result : (past : Past) (p : ProgramText) (name : Text) (tiles stated : ℕ) (r : Result Program TileFail) → IsWellFormed p → 2 ≤ tiles →
    tiles ≤ 64 → Tells r (tile past p name tiles stated) → IfOk r (λ q. IsTiled p (program_of q) name tiles)
kept_result past p name tiles stated (Ok q) formed several few is = tile_kept past p name tiles stated (program_of q) formed several few is
kept_result past p name tiles stated (Err fail) formed several few is = tt
