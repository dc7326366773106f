-- The bills of scopes in memory, whose ranges are kept once.
use Rattle.std.specs.Prelude.{Vec}
use Rattle.std.specs.Global.{Global}
use Rattle.std.proofs.Common.{◌≡◌, ℕ, zero, suc, ◌+◌, ◌/◌, ◌<◌, ◌≤◌, Option, List, [], ◌∷◌, ◌++◌, append-nil, ◌||◌, map, length, length-append, drop, get_or, refl, ap, sym, ◌∙◌, arith}
use Rattle.std.proofs.lemmas.List.{drop_more, map-append}
use Rattle.std.proofs.lemmas.List.Folds.{list_any-append}
use Rattle.std.specs.List.{list_all, list_any}
use Rattle.prem_list.specs.declared.Sequence.{Sequence}
use Rattle.prem_plant.specs.declared.plant.Plant.{Plant}
use Rattle.prem_plant.specs.Places.{Extent}
use Rattle.prem_plant.specs.Ranges.{IsPlant}
use Rattle.prem_isa.specs.declared.instr.Instr.{Instr}
use Rattle.prem_isa.specs.declared.instr.Instr.TheVariants.{Lui, Auipc, Jal, Jalr, Branch, Load, Store, OpImm, Op, MulDiv, Fence, Ecall, Ebreak, PmMem, PmExec, PmEnd, PmDone, PmIn, PmOut}
use Rattle.prem_asm.specs.declared.piece.Piece.{Piece}
use Rattle.prem_asm.specs.Pieces.{Pieces, no_pieces, size_of}
use Rattle.prem_layout.specs.Bounds.{start_code}
use Rattle.prem_layout.specs.Footprint.{lines_of}
use Rattle.prem_layout.specs.Parts.{code_part}
use Rattle.prem_bounds.specs.Scale.{clipped}
use Rattle.prem_bounds.specs.TableOf.{listed}
use Rattle.prem_wcet_laws.specs.Scopes.{Fact, Scene, Span, code_ranges, data_ranges, extent_of, fact_of, is_roomy}
use Rattle.prem_wcet_laws.specs.Parted.{Edge}
use Rattle.prem_wcet.specs.declared.crowd.Crowd.{Crowd}
use Rattle.prem_wcet.specs.declared.scene.Fact.{Fact as FactTree}
use Rattle.prem_wcet.specs.Crowds.{IsCrowd, has_room}
use Rattle.prem_wcet.specs.EdgesOf.{below_of}
use Rattle.prem_wcet.specs.JobTimes.{at_start, job_span}
use Rattle.prem_wcet.specs.Known.{bare_span}
use Rattle.prem_wcet.specs.Once.{with_code, with_names, with_ranges, with_some, with_touched}
use Rattle.prem_wcet.specs.Outlines.{Outline, between, callees_of, code_of, data_between, names_of, span_in}
use Rattle.prem_wcet.specs.Same.{AreSame}
use Rattle.prem_wcet.specs.SceneOf.{facts_in}
use Rattle.prem_wcet.proofs.OnceSame.{code_same, edges_same, ranges_same, touched_same}
use Rattle.prem_wcet.proofs.Passages.{between_kept}
use Rattle.prem_wcet.proofs.Rooms.{room_is}
use Rattle.prem_wcet.proofs.SameRanges.{same_append, same_lines}
use Rattle.prem_profile.specs.Bound.Bills.{Bill, cycles_on}
use Rattle.prem_profile.specs.Bound.Pieces.{PlaceCost, bill_from, instruction_cost, part_bill}
use Rattle.prem_profile.specs.Bound.Scopes.{bills_behind, crowd_lines, cycles_of, lines_item, path_with, scope_bill, scope_bill_with, scope_cost, scope_misses}
use Rattle.prem_profile.specs.declared.bound.bill.Item.{Item}
use Rattle.prem_profile.specs.Bound.Priced.{bills_in, crowd_bill, crowd_cost, crowd_misses}
use Rattle.prem_profile.proofs.BillLemmas.Alike.{pieces_behind}

-- ---- a collection in memory

module _ (e : Scene) (lines held : List ℕ) (c : Crowd) (plant : IsPlant e.plant) (is : IsCrowd e.plant lines held c) where
  abbrev p : Plant
  p = e.plant

  fetched : (at : ℕ) → crowd_lines (has_room c (at / c.line)) ≡ crowd_lines (is_roomy p lines (at / p.line))
  fetched at = ap (λ l. crowd_lines (has_room c (at / l))) is.line ∙ ap crowd_lines (room_is p lines held c plant is (at / p.line))

  accessed : crowd_lines c.roomy ≡ crowd_lines (list_all (is_roomy p lines) held)
  accessed = ap crowd_lines is.roomy

  misses_same : (at : ℕ) (i : Instr) → crowd_misses c at i ≡ scope_misses p lines (list_all (is_roomy p lines) held) at i
  misses_same at (Load op rd rs1 offset) = λ j. fetched at j + accessed j
  misses_same at (Store op rs1 rs2 offset) = λ j. fetched at j + accessed j
  misses_same at (Lui a b) = fetched at
  misses_same at (Auipc a b) = fetched at
  misses_same at (Jal a b) = fetched at
  misses_same at (Jalr a b d) = fetched at
  misses_same at (Branch o a b d) = fetched at
  misses_same at (OpImm o a b d) = fetched at
  misses_same at (Op o a b d) = fetched at
  misses_same at (MulDiv o a b d) = fetched at
  misses_same at (Fence a b) = fetched at
  misses_same at Ecall = fetched at
  misses_same at Ebreak = fetched at
  misses_same at PmMem = fetched at
  misses_same at (PmExec a) = fetched at
  misses_same at PmEnd = fetched at
  misses_same at PmDone = fetched at
  misses_same at (PmIn a) = fetched at
  misses_same at (PmOut a) = fetched at

  cost_same : crowd_cost c ≡ scope_cost p lines (list_all (is_roomy p lines) held)
  cost_same = λ j at i. instruction_cost (is.miss j) (misses_same at i j) i

  -- the bill of a scope with these lines
  pub crowd_is : (at : ℕ) (ps : Pieces) → crowd_bill e c at ps ≡ scope_bill_with e at (bare_span ps) lines held
  crowd_is at ps = λ i. lines_item e.plant at (is.held i) ∷ path (cost_same i) where
    path : PlaceCost → Bill
    path k = path_with k e.functions (bills_behind k e.functions e.places [] e.facts) at ps

-- ---- the bills of functions

pub pieces_few : (fs : List FactTree) (code : List (Sequence Piece)) → length (map (λ (f : Fact). f.pieces) (facts_in fs code)) ≤ length fs
pieces_few [] code = omega arith
pieces_few (f ∷ fs) [] = omega arith
pieces_few (f ∷ fs) (s ∷ ss) = let more = pieces_few fs ss in omega (arith, more)

pieces_long : (fs : List FactTree) (code : List (Sequence Piece)) → length fs ≤ length code → length (map (λ (f : Fact). f.pieces) (facts_in fs code)) ≡ length fs
pieces_long [] code le = refl
pieces_long (f ∷ fs) [] le = absurd (omega (arith, le))
pieces_long (f ∷ fs) (s ∷ ss) le = ap suc (pieces_long fs ss (omega (arith, le)))

pieces_at : (fs : List FactTree) (code : List (Sequence Piece)) (n : ℕ) → n < length fs → length fs ≤ length code →
    get_or (map (λ (f : Fact). f.pieces) (facts_in fs code)) n no_pieces ≡ get_or (listed code) n no_pieces
pieces_at [] code n lt le = absurd (omega (arith, lt))
pieces_at (f ∷ fs) [] n lt le = absurd (omega (arith, le))
pieces_at (f ∷ fs) (s ∷ ss) zero lt le = refl
pieces_at (f ∷ fs) (s ∷ ss) (suc n) lt le = pieces_at fs ss n (omega (arith, lt)) (omega (arith, le))

pub pieces_drop : (fs : List FactTree) (code : List (Sequence Piece)) (n : ℕ) → n < length fs → length fs ≤ length code →
    drop n (map (λ (f : Fact). f.pieces) (facts_in fs code)) ≡ get_or (listed code) n no_pieces ∷ drop (n + 1) (map (λ (f : Fact). f.pieces) (facts_in fs code))
pieces_drop fs code n lt le =
    let pss : List Pieces = map (λ (f : Fact). f.pieces) (facts_in fs code) in
    let long = pieces_long fs code le in
    drop_more pss n no_pieces (omega (arith, lt, long)) ∙ ap (λ ps. ps ∷ drop (n + 1) pss) (pieces_at fs code n lt le)

pub one_more : (bills : List (Vec Item Global)) (b : Vec Item Global) → bills_in (bills ++ b ∷ []) ≡ bills_in bills ++ b.items ∷ []
one_more [] b = refl
one_more (x ∷ bills) b = ap (λ bs. x.items ∷ bs) (one_more bills b)

-- one more function is known
module _ (old new : List Bill) (b : Bill) (put : new ≡ old ++ b ∷ []) where
  pub next_bill : (c : PlaceCost) (functions : ℕ) (places : ℕ → ℕ) (fs : List FactTree) (code : List (Sequence Piece)) (n : ℕ) (cycles : List ℕ) (all : List Bill) →
      n < length fs → length fs ≤ length code → length old ≡ n → cycles ≡ cycles_of old →
      b ≡ bill_from c (part_bill functions cycles) (places (code_part n)) (get_or (listed code) n no_pieces) →
      pieces_behind c functions places old (drop n (map (λ (f : Fact). f.pieces) (facts_in fs code))) ≡ all →
      pieces_behind c functions places new (drop (n + 1) (map (λ (f : Fact). f.pieces) (facts_in fs code))) ≡ all
  next_bill c functions places fs code n cycles all lt le long told is rest =
      let left : List Pieces = drop (n + 1) (map (λ (f : Fact). f.pieces) (facts_in fs code)) in
      let ps : Pieces = get_or (listed code) n no_pieces in
      ap (λ bs. pieces_behind c functions places bs left) (put ∙ ap (λ x. old ++ x ∷ []) (is ∙ (λ i. bill_from c (part_bill functions (told i)) (places (code_part (sym long i))) ps)))
      ∙ ap (pieces_behind c functions places old) (sym (pieces_drop fs code n lt le)) ∙ rest

  pub next_long : (n : ℕ) → length old ≡ n → length new ≡ n + 1
  next_long n long = ap length put ∙ length-append old (b ∷ []) ∙ ap (λ k. k + 1) long

  pub next_cycles : (cycles more : List ℕ) → cycles ≡ cycles_of old → more ≡ cycles ++ clipped (cycles_on b) ∷ [] → more ≡ cycles_of new
  next_cycles cycles more told is = is ∙ ap (λ ns. ns ++ clipped (cycles_on b) ∷ []) told ∙ sym (ap cycles_of put ∙ map-append (λ (x : Bill). clipped (cycles_on x)) old (b ∷ []))

-- ---- ranges that are kept once

-- of statements
pub scope_told : (e : Scene) (at : ℕ) (o : Outline) (code touched : List Extent) (ps : Pieces) →
    code ≡ with_code e (extent_of at (code_of o) ∷ []) o → touched ≡ with_touched e e.stack o → ps ≡ code_of o →
    scope_bill_with e at (bare_span ps) (lines_of e.plant.line (code ++ touched)) (lines_of e.plant.line touched) ≡ scope_bill e at (span_in o)
scope_told e at o code touched ps run touch is =
    let s : Span = span_in o in
    let all = same_append (with_code e (extent_of at (code_of o) ∷ []) o) (code_ranges e at s) (with_touched e e.stack o) (data_ranges e s)
    (code_same e (extent_of at (code_of o) ∷ []) o) (touched_same e e.stack o) in
    (λ i. scope_bill_with e at (bare_span (is i)) (lines_of e.plant.line (run i ++ touch i)) (lines_of e.plant.line (touch i)))
    ∙ (λ i. scope_bill_with e at s
    (same_lines e.plant.line (with_code e (extent_of at (code_of o) ∷ []) o ++ with_touched e e.stack o) (code_ranges e at s ++ data_ranges e s) all i)
    (same_lines e.plant.line (with_touched e e.stack o) (data_ranges e s) (touched_same e e.stack o) i))

-- of a function
pub function_told : (e : Scene) (at : ℕ) (ps qs : Pieces) (o : Outline) (before behind : List ℕ) (code touched : List Extent) → code ≡ with_code e (extent_of at ps ∷ []) o →
    touched ≡ with_names e (with_names e (with_touched e e.stack o) before) behind → qs ≡ ps →
    scope_bill_with e at (bare_span qs) (lines_of e.plant.line (code ++ touched)) (lines_of e.plant.line touched)
    ≡ scope_bill e at (record { pieces = ps; globals = before ++ (names_of o ++ behind); callees = callees_of o })
function_told e at ps qs o before behind code touched run touch is =
    let s : Span = record { pieces = ps; globals = before ++ (names_of o ++ behind); callees = callees_of o } in
    let all : List Extent = with_names e (with_names e (with_touched e e.stack o) before) behind in
    let same = same_append (with_code e (extent_of at ps ∷ []) o) (code_ranges e at s) all (data_ranges e s) (code_same e (extent_of at ps ∷ []) o) (edges_same e e.stack o before behind) in
    (λ i. scope_bill_with e at (bare_span (is i)) (lines_of e.plant.line (run i ++ touch i)) (lines_of e.plant.line (touch i)))
    ∙ (λ i. scope_bill_with e at s
    (same_lines e.plant.line (with_code e (extent_of at ps ∷ []) o ++ all) (code_ranges e at s ++ data_ranges e s) same i)
    (same_lines e.plant.line all (data_ranges e s) (edges_same e e.stack o before behind) i))

-- of a passage
pub passage_told : (e : Scene) (at end : ℕ) (o : Outline) (b l : Edge) (first last : Option Extent) (code touched : List Extent) → b.below ≡ below_of first → l.below ≡ below_of last →
    end ≡ at + size_of (between b o l).pieces → code ≡ with_code e ((at, end) ∷ []) o →
    touched ≡ with_some (with_names e (with_some (with_names e (with_touched e e.stack o) b.globals) first) l.globals) last →
    scope_bill_with e at (bare_span (between b o l).pieces) (lines_of e.plant.line (code ++ touched)) (lines_of e.plant.line touched)
    ≡ scope_bill_with e at (between b o l) (lines_of e.plant.line (code_ranges e at (between b o l) ++ data_between e b o l)) (lines_of e.plant.line (data_between e b o l))
passage_told e at end o b l first last code touched bb ll place run touch =
    let s : Span = between b o l in
    let kept : AreSame touched (data_between e b o l) = λ p. ap (list_any p) touch ∙ between_kept e o b l first last bb ll p in
    let ran : AreSame code (code_ranges e at s) = λ p. ap (list_any p) (run ∙ ap (λ k. with_code e ((at, k) ∷ []) o) place) ∙ code_same e (extent_of at s.pieces ∷ []) o p in
    λ i. scope_bill_with e at s (same_lines e.plant.line (code ++ touched) (code_ranges e at s ++ data_between e b o l)
    (same_append code (code_ranges e at s) touched (data_between e b o l) ran kept) i) (same_lines e.plant.line touched (data_between e b o l) kept i)

-- of the start
pub start_told : (e : Scene) (at job : ℕ) (code touched : List Extent) (ps : Pieces) →
    code ≡ with_ranges (extent_of at (start_code job) ∷ []) (fact_of e job).code → touched ≡ with_ranges [] (fact_of e job).touched → ps ≡ start_code job →
    scope_bill_with e at (bare_span ps) (lines_of e.plant.line (code ++ touched)) (lines_of e.plant.line touched) ≡ scope_bill (at_start e) at (job_span job)
start_told e at job code touched ps run touch is =
    let v : Scene = at_start e in
    let s : Span = job_span job in
    let own : List Extent = extent_of at (start_code job) ∷ [] in
    let f : Fact = fact_of e job in
    let codes : AreSame (with_ranges own f.code) (code_ranges v at s) =
    λ p. ranges_same own f.code p ∙ ap (λ xs. list_any p own || list_any p xs) (sym (append-nil f.code)) ∙ sym (list_any-append p own (f.code ++ [])) in
    let held : AreSame (with_ranges [] f.touched) (data_ranges v s) = λ p. ranges_same [] f.touched p ∙ ap (list_any p) (sym (append-nil f.touched)) in
    let all = same_append (with_ranges own f.code) (code_ranges v at s) (with_ranges [] f.touched) (data_ranges v s) codes held in
    (λ i. scope_bill_with e at (bare_span (is i)) (lines_of e.plant.line (run i ++ touch i)) (lines_of e.plant.line (touch i)))
    ∙ (λ i. scope_bill_with v at s
    (same_lines e.plant.line (with_ranges own f.code ++ with_ranges [] f.touched) (code_ranges v at s ++ data_ranges v s) all i)
    (same_lines e.plant.line (with_ranges [] f.touched) (data_ranges v s) held i))
