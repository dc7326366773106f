-- The charges of scopes, by what is known of functions in memory.
use Rattle.std.proofs.Common.{◌≡◌, ℕ, ◌+◌, ◌*◌, ◌≤◌, List, [], ◌∷◌, ◌++◌, map, length, take, refl, ap, sym, ◌∙◌, arith}
use Rattle.std.specs.List.{list_all}
use Rattle.prem_list.specs.declared.Sequence.{Sequence}
use Rattle.prem_list.specs.Sequence.{items_of}
use Rattle.prem_plant.specs.Places.{Extent}
use Rattle.prem_asm.specs.declared.piece.Piece.{Piece}
use Rattle.prem_asm.specs.Pieces.{Pieces}
use Rattle.prem_asm.specs.PiecesOf.{pieces_of}
use Rattle.prem_layout.specs.Footprint.{lines_of, place_at}
use Rattle.prem_layout.specs.Bounds.{part_weight, weight_at, line_cost}
use Rattle.prem_bounds.specs.Scale.{clipped}
use Rattle.prem_bounds.specs.TableOf.{listed}
use Rattle.prem_bounds.proofs.Steps.{listed_long}
use Rattle.prem_wcet_laws.specs.Weights.{PlaceWeight, weighted_from}
use Rattle.prem_wcet_laws.specs.Scopes.{Scene, Span, Fact, path_weight, places_behind, roomy_lines, is_roomy, scope_weight, extent_of, code_ranges, data_ranges, charge, charge_with}
use Rattle.prem_wcet.specs.declared.scene.Fact.{Fact as FactTree}
use Rattle.prem_wcet.specs.declared.scene.Scene.{Scene as SceneTree}
use Rattle.prem_wcet.specs.SceneOf.{facts_in, scene_in}
use Rattle.prem_wcet.specs.Known.{pieces_behind, known_before, TellsKnown, bare_span}
use Rattle.prem_wcet.specs.Once.{with_names, with_code, with_touched}
use Rattle.prem_wcet.specs.Outlines.{Outline, code_of, names_of, callees_of, span_in}
use Rattle.prem_wcet.proofs.PlaceWeights.{by_pieces, from_alike, part_alike}
use Rattle.prem_wcet.proofs.OnceSame.{code_same, touched_same, edges_same}
use Rattle.prem_wcet.proofs.SameRanges.{same_append, same_lines}

-- the pieces of the functions that are known
facts_pieces : (fs : List FactTree) (code : List (Sequence Piece)) → length fs ≤ length code → map (λ (f : Fact). f.pieces) (facts_in fs code) ≡ take (length fs) (listed code)
facts_pieces [] code le = refl
facts_pieces (f ∷ fs) [] le = absurd (omega arith)
facts_pieces (f ∷ fs) (s ∷ ss) le = ap (λ pss. pieces_of (items_of s) ∷ pss) (facts_pieces fs ss (omega arith))

-- weights of functions that an array tells
pub path_told : (s : SceneTree) (w : PlaceWeight) (array : List ℕ) → length s.facts.now ≤ length s.code.now →
    TellsKnown array w s.places.now (listed s.code.now) (length s.facts.now) → (at : ℕ) (ps : Pieces) →
    clipped (weighted_from w (part_weight (length s.code.now) (weight_at array) (λ k. 0)) at ps) ≡ clipped (path_weight (scene_in s) w at (bare_span ps))
path_told s w array le tells at ps =
    let places : ℕ → ℕ = λ part. (place_at s.places.now part).0 in
    let known : List ℕ = known_before w (length (listed s.code.now)) places (listed s.code.now) (length s.facts.now) in
    let same : known ≡ places_behind w (length s.code.now) places [] (facts_in s.facts.now s.code.now) =
    (λ i. pieces_behind w (listed_long s.code.now i) places [] (sym (facts_pieces s.facts.now s.code.now le) i))
    ∙ sym (by_pieces w (length s.code.now) places [] (facts_in s.facts.now s.code.now)) in
    from_alike w (part_weight (length s.code.now) (weight_at array) (λ k. 0)) (part_weight (length s.code.now) (weight_at known) (λ k. 0)) (part_alike (length s.code.now) array known tells) at ps
    ∙ ap (λ ks. clipped (weighted_from w (part_weight (length s.code.now) (weight_at ks) (λ k. 0)) at ps)) same

-- a charge in memory, where these are its lines
pub charge_sum : (s : SceneTree) (w v : PlaceWeight) (array lines held : List ℕ) (at room fills sum : ℕ) (ps : Pieces) → length s.facts.now ≤ length s.code.now →
    w ≡ v → v ≡ scope_weight s.plant.now lines (list_all (is_roomy s.plant.now lines) held) → TellsKnown array w s.places.now (listed s.code.now) (length s.facts.now) →
    room ≡ length (roomy_lines s.plant.now lines) → fills ≡ room * line_cost s.plant.now → sum ≡ clipped (weighted_from v (part_weight (length s.code.now) (weight_at array) (λ k. 0)) at ps) →
    clipped (fills + sum) ≡ clipped (charge_with (scene_in s) at (bare_span ps) lines held)
charge_sum s w v array lines held at room fills sum ps le same is tells rooms filled summed =
    let path = path_told s w array le tells at ps in
    let path2 : clipped (weighted_from v (part_weight (length s.code.now) (weight_at array) (λ k. 0)) at ps)
    ≡ clipped (path_weight (scene_in s) (scope_weight s.plant.now lines (list_all (is_roomy s.plant.now lines) held)) at (bare_span ps)) =
    ap (λ u. clipped (weighted_from u (part_weight (length s.code.now) (weight_at array) (λ k. 0)) at ps)) (sym same) ∙ path
    ∙ ap (λ u. clipped (path_weight (scene_in s) u at (bare_span ps))) (same ∙ is) in
    let first : fills ≡ length (roomy_lines s.plant.now lines) * line_cost s.plant.now = filled ∙ ap (λ k. k * line_cost s.plant.now) rooms in
    together fills sum _ _ _ first summed path2 where
      together : (a b c d e : ℕ) → a ≡ c → b ≡ clipped d → clipped d ≡ clipped e → clipped (a + b) ≡ clipped (c + e)
      together a b c d e f g h = omega (arith, f, g, h)

-- the ranges of statements, each kept once
pub charge_told : (e : Scene) (at : ℕ) (o : Outline) (code touched : List Extent) (ps : Pieces) →
    code ≡ with_code e (extent_of at (code_of o) ∷ []) o → touched ≡ with_touched e e.stack o → ps ≡ code_of o →
    charge_with e at (bare_span ps) (lines_of e.plant.line (code ++ touched)) (lines_of e.plant.line touched) ≡ charge e at (span_in o)
charge_told e at o code touched ps run touch is =
    let s : Span = span_in o in
    let all = same_append (with_code e (extent_of at (code_of o) ∷ []) o) (code_ranges e at s) (with_touched e e.stack o) (data_ranges e s)
    (code_same e (extent_of at (code_of o) ∷ []) o) (touched_same e e.stack o) in
    (λ i. charge_with e at (bare_span (is i)) (lines_of e.plant.line (run i ++ touch i)) (lines_of e.plant.line (touch i)))
    ∙ (λ i. charge_with e at s
    (same_lines e.plant.line (with_code e (extent_of at (code_of o) ∷ []) o ++ with_touched e e.stack o) (code_ranges e at s ++ data_ranges e s) all i)
    (same_lines e.plant.line (with_touched e e.stack o) (data_ranges e s) (touched_same e e.stack o) i))

-- those of a function
pub function_told : (e : Scene) (at : ℕ) (ps qs : Pieces) (o : Outline) (before behind : List ℕ) (code touched : List Extent) → code ≡ with_code e (extent_of at ps ∷ []) o →
    touched ≡ with_names e (with_names e (with_touched e e.stack o) before) behind → qs ≡ ps →
    charge_with e at (bare_span qs) (lines_of e.plant.line (code ++ touched)) (lines_of e.plant.line touched)
    ≡ charge e at (record { pieces = ps; globals = before ++ (names_of o ++ behind); callees = callees_of o })
function_told e at ps qs o before behind code touched run touch is =
    let s : Span = record { pieces = ps; globals = before ++ (names_of o ++ behind); callees = callees_of o } in
    let all : List Extent = with_names e (with_names e (with_touched e e.stack o) before) behind in
    let same = same_append (with_code e (extent_of at ps ∷ []) o) (code_ranges e at s) all (data_ranges e s) (code_same e (extent_of at ps ∷ []) o) (edges_same e e.stack o before behind) in
    (λ i. charge_with e at (bare_span (is i)) (lines_of e.plant.line (run i ++ touch i)) (lines_of e.plant.line (touch i)))
    ∙ (λ i. charge_with e at s
    (same_lines e.plant.line (with_code e (extent_of at ps ∷ []) o ++ all) (code_ranges e at s ++ data_ranges e s) same i)
    (same_lines e.plant.line all (data_ranges e s) (edges_same e e.stack o before behind) i))
