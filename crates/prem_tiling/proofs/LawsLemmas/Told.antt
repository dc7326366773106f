-- Where there is a program with tiles, the function could be cut.
use Rattle.std.proofs.Common.{◌≡◌, ℕ, ◌≤◌, Bool, true, false, cond, List, [], ◌∷◌, refl, ap, sym, ◌∙◌, subst, Option, None, Some, Ok, Err, ltb}
use Rattle.prem_tiling.proofs.Prelude.{in_limits, IsWellFormed, functions_of, globals_of, number_named, Breach, source, Text, FunctionText, ProgramText, CanCut, AreSame, names_of}
use Rattle.prem_tiling.proofs.Prelude.{carried_in, Loop, marked_named, shape_of, turns_of, limit, turns, Past, has_breach, is_past, unless_taken, unless_carried, cut_by, of_shape}
use Rattle.prem_tiling.proofs.Prelude.{of_function, tile, tiled, used_names, taken_from, ltb-false}
use Rattle.prem_tiling.proofs.LawsLemmas.Law.{tiles_same}
use Rattle.prem_tiling.proofs.LawsLemmas.Lists.{named_so}
use Rattle.prem_tiling.proofs.LawsLemmas.Tied.{neither_left}

-- how the program with tiles came about
pub record Tiling (past : Past) (p : ProgramText) (name : Text) (tiles stated : ℕ) (q : ProgramText) : Type 0 where
  pub function : FunctionText
  pub loop : Loop
  pub can : CanCut p (cut_by function tiles stated loop)
  pub is : q ≡ tiled (cut_by function tiles stated loop) p
  pub named : function.name ≡ name
  pub limits : in_limits (globals_of q) (functions_of q) ≡ []
  pub within : is_past past (cut_by function tiles stated loop) q ≡ false

no_breach : (bs : List Breach) → has_breach bs ≡ false → bs ≡ []
no_breach [] e = refl
no_breach (b ∷ bs) e = cc

pub tiling : (past : Past) (p : ProgramText) (name : Text) (tiles stated : ℕ) (q : ProgramText) → 2 ≤ tiles → tiles ≤ 64 → tile past p name tiles stated ≡ Ok q → Tiling past p name tiles stated q
tiling past p name tiles stated q several few e = by_function (marked_named (functions_of p) name) refl e
  where
    made : (f : FunctionText) (l : Loop) → marked_named (functions_of p) name ≡ Some f → shape_of f ≡ Some l →
        carried_in (names_of f.locals) l.body ≡ None → tiles ≤ turns_of l → taken_from (used_names p) f.name 0 tiles ≡ None →
        (b : Bool) → is_past past (cut_by f tiles stated l) (tiled (cut_by f tiles stated l) p) ≡ b →
        cond b (Err limit) (Ok (tiled (cut_by f tiles stated l) p)) ≡ Ok q → Tiling past p name tiles stated q
    made f l is shaped uncarried enough untaken true past_is h = cc
    made f l is shaped uncarried enough untaken false past_is h =
        let same : tiled (cut_by f tiles stated l) p ≡ q = cc in
        let so = named_so (functions_of p) name f is in
        let bs = in_limits (globals_of (tiled (cut_by f tiles stated l) p)) (functions_of (tiled (cut_by f tiles stated l) p)) in
        record {
          function = f;
          loop = l;
          can = record { named = ap (marked_named (functions_of p)) so ∙ is; shape = shaped; uncarried = uncarried; several = several; few = few; enough = enough; untaken = untaken };
          is = sym same;
          named = so;
          within = ap (is_past past (cut_by f tiles stated l)) (sym same) ∙ past_is;
          limits = subst (λ (x : ProgramText). in_limits (globals_of x) (functions_of x) ≡ []) same
              (no_breach bs (neither_left (has_breach bs) _ (neither_left _ (past (tiled (cut_by f tiles stated l) p)) past_is)));
        }

    by_names : (f : FunctionText) (l : Loop) → marked_named (functions_of p) name ≡ Some f → shape_of f ≡ Some l → carried_in (names_of f.locals) l.body ≡ None → tiles ≤ turns_of l →
        (o : Option Text) → taken_from (used_names p) f.name 0 tiles ≡ o → unless_taken past (cut_by f tiles stated l) p o ≡ Ok q → Tiling past p name tiles stated q
    by_names f l is shaped uncarried enough None untaken h = made f l is shaped uncarried enough untaken (is_past past (cut_by f tiles stated l) (tiled (cut_by f tiles stated l) p)) refl h
    by_names f l is shaped uncarried enough (Some n) untaken h = cc

    by_turns : (f : FunctionText) (l : Loop) → marked_named (functions_of p) name ≡ Some f → shape_of f ≡ Some l → carried_in (names_of f.locals) l.body ≡ None →
        (b : Bool) → ltb (turns_of l) tiles ≡ b →
        cond b (Err (turns (turns_of l))) (unless_taken past (cut_by f tiles stated l) p (taken_from (used_names p) f.name 0 tiles)) ≡ Ok q →
        Tiling past p name tiles stated q
    by_turns f l is shaped uncarried true few h = cc
    by_turns f l is shaped uncarried false few h = by_names f l is shaped uncarried (ltb-false (turns_of l) tiles few) (taken_from (used_names p) f.name 0 tiles) refl h

    by_carry : (f : FunctionText) (l : Loop) → marked_named (functions_of p) name ≡ Some f → shape_of f ≡ Some l → (o : Option ℕ) →
        carried_in (names_of f.locals) l.body ≡ o → unless_carried past (cut_by f tiles stated l) p o ≡ Ok q → Tiling past p name tiles stated q
    by_carry f l is shaped None uncarried h = by_turns f l is shaped uncarried (ltb (turns_of l) tiles) refl h
    by_carry f l is shaped (Some line) uncarried h = cc

    by_shape : (f : FunctionText) → marked_named (functions_of p) name ≡ Some f → (o : Option Loop) → shape_of f ≡ o → of_shape past p f tiles stated o ≡ Ok q → Tiling past p name tiles stated q
    by_shape f is (Some l) shaped h = by_carry f l is shaped (carried_in (names_of f.locals) l.body) refl h
    by_shape f is None shaped h = cc

    by_function : (o : Option FunctionText) → marked_named (functions_of p) name ≡ o → of_function past p tiles stated o ≡ Ok q → Tiling past p name tiles stated q
    by_function (Some f) is h = by_shape f is (shape_of f) refl h
    by_function None is h = cc

pub tile_same : (past : Past) (p : ProgramText) (name : Text) (tiles stated : ℕ) (q : ProgramText) → IsWellFormed p → 2 ≤ tiles → tiles ≤ 64 → tile past p name tiles stated ≡ Ok q →
    (n : ℕ) → number_named (functions_of p) name ≡ Some n → (inputs : List ℕ) (jobs : ℕ) → AreSame n tiles (source p inputs jobs) (source q inputs jobs)
tile_same past p name tiles stated q formed several few e n number inputs jobs =
    let t = tiling past p name tiles stated q several few e in
    let c = cut_by t.function tiles stated t.loop in
    subst (λ x. AreSame n tiles (source p inputs jobs) (source x inputs jobs)) (sym t.is) (tiles_same p c formed t.can n (ap (number_named (functions_of p)) t.named ∙ number) inputs jobs)
