-- The blocks of a task as its parts in their order, and the lowest jump out of reach by parts.
use Rattle.std.specs.Prelude.{⊤, slice_index_or}
use Rattle.std.specs.Option.{option_map}
use Rattle.std.proofs.Common.{◌≡◌, ℕ, suc, ◌+◌, ◌*◌, ◌<◌, ◌≤◌, refl, ap, sym, ◌∙◌, subst, arith, cond, ltb, true, false, Bool, List, [], ◌∷◌, ◌++◌, length, map, Option, None, Some}
use Rattle.std.proofs.Common.{◌⊎◌, inl, inr, ⊎_elim}
use Rattle.std.proofs.lemmas.Bool.{lt-ltb, le-ltb}
use Rattle.std.proofs.lemmas.List.{length-map, length-append, append_assoc}
use Rattle.prem_isa.specs.declared.instr.Instr.{Instr}
use Rattle.prem_syntax.specs.Syntax.{Text}
use Rattle.prem_syntax.specs.Resolved.{Routine}
use Rattle.prem_asm.specs.Pieces.{Pieces, size_of, code_of, reaches, first_far}
use Rattle.prem_asm.proofs.Shape.{code-length}
use Rattle.prem_layout.specs.Plans.{Plan}
use Rattle.prem_layout.specs.Footprint.{TaskPlaces}
use Rattle.prem_layout.specs.Bounds.{start_code}
use Rattle.prem_layout.specs.Placed.{Placed, Block, block, blocks_from, job_name, name_at, blocks_of}
use Rattle.prem_layout.specs.Rules.{Reach, Jump, jump_in, lower_jump, far_jump, of_jump}
use Rattle.prem_place.specs.Content.Blocks.{Words}
use Rattle.prem_place.specs.Flat.Flat.{far_in, part_if, lower_part, lowest_far, words_at, words_from}
use Rattle.prem_place.specs.Flat.Blocks.{start_at, parts_in, names_in, words_of, LieApart, AllApart, HasParts, ReachIsLowest, BlocksHaveWords}

-- ---- all blocks in one list

blocks_behind : (t : TaskPlaces) (part : ℕ) (xs ys : List Text) (ps qs : List Pieces) → length xs ≡ length ps →
    blocks_from t part (xs ++ ys) (ps ++ qs) ≡ blocks_from t part xs ps ++ blocks_from t (part + length ps) ys qs
blocks_behind t part [] ys [] qs e = let z : part ≡ part + 0 = omega arith in ap (λ n. blocks_from t n ys qs) z
blocks_behind t part [] ys (p ∷ ps) qs e = absurd (omega (arith, e))
blocks_behind t part (x ∷ xs) ys [] qs e = absurd (omega (arith, e))
blocks_behind t part (x ∷ xs) ys (p ∷ ps) qs e =
    let z : part + 1 + length ps ≡ part + suc (length ps) = omega arith in
    ap (λ (bs : List Block). block t x part p ∷ bs) (blocks_behind t (part + 1) xs ys ps qs (omega (arith, e)) ∙ ap (λ n. blocks_from t (part + 1) xs ps ++ blocks_from t n ys qs) z)

as_one : (t : Placed) → HasParts t → blocks_of t ≡ blocks_from t.at 0 (names_in t) (parts_in t)
as_one t h =
    let names = map (λ (r : Routine). r.text.name) t.task.program.routines in
    let told = map (λ (plan : Plan). name_at t.task.program.routines plan.function) t.plans in
    let long : length names ≡ length t.table.code = length-map t.task.program.routines (λ (r : Routine). r.text.name) ∙ sym h.code in
    let there : 1 + t.at.functions ≡ 1 + length t.table.code = ap (λ n. 1 + n) (h.functions ∙ sym h.code) in
    ap (λ n. block t.at job_name 0 (start_code t.table.job) ∷ (blocks_from t.at 1 names t.table.code ++ blocks_from t.at n told t.table.stubs)) there
    ∙ ap (λ (bs : List Block). block t.at job_name 0 (start_code t.table.job) ∷ bs) (sym (blocks_behind t.at 1 names told t.table.code t.table.stubs long))

-- ---- their words

words_same : (t : TaskPlaces) (part : ℕ) (names : List Text) (pss : List Pieces) → length names ≡ length pss → map words_of (blocks_from t part names pss) ≡ words_from (start_at t) part pss
words_same t part [] [] e = refl
words_same t part [] (ps ∷ pss) e = absurd (omega (arith, e))
words_same t part (n ∷ ns) [] e = absurd (omega (arith, e))
words_same t part (n ∷ ns) (ps ∷ pss) e = ap (λ (ws : List Words). words_at (start_at t) part ps ∷ ws) (words_same t (part + 1) ns pss (omega (arith, e)))

as_many : (t : Placed) → HasParts t → length (names_in t) ≡ length (parts_in t)
as_many t h =
    let names = map (λ (r : Routine). r.text.name) t.task.program.routines in
    let told = map (λ (plan : Plan). name_at t.task.program.routines plan.function) t.plans in
    let a : length names ≡ length t.task.program.routines = length-map t.task.program.routines (λ (r : Routine). r.text.name) in
    let b : length told ≡ length t.plans = length-map t.plans (λ (plan : Plan). name_at t.task.program.routines plan.function) in
    let c : length (names ++ told) ≡ length names + length told = length-append names told in
    let d : length (t.table.code ++ t.table.stubs) ≡ length t.table.code + length t.table.stubs = length-append t.table.code t.table.stubs in
    let code = h.code in
    let stubs = h.stubs in
    omega (arith, a, b, c, d, code, stubs)

pub blocks_have_words : BlocksHaveWords
blocks_have_words t h = ap (map words_of) (as_one t h) ∙ words_same t.at 0 (names_in t) (parts_in t) (as_many t h)

-- ---- where a jump stands

far_within : (at : ℕ) (code : List Instr) (a : ℕ) → first_far at code ≡ Some a → a < at + 4 * length code
far_within at [] a e = cc
far_within at (i ∷ is) a e = by (reaches i) e (λ h. far_within (at + 4) is a h)
  where
    by : (b : Bool) → cond b (first_far (at + 4) is) (Some at) ≡ Some a → (first_far (at + 4) is ≡ Some a → a < at + 4 + 4 * length is) → a < at + 4 * length (i ∷ is)
    by true h more = let lt = more h in omega (arith, lt)
    by false h more = let same : at ≡ a = cc in omega (arith, same)

far_from : (at : ℕ) (code : List Instr) (a : ℕ) → first_far at code ≡ Some a → at ≤ a
far_from at [] a e = cc
far_from at (i ∷ is) a e = by (reaches i) e (λ h. far_from (at + 4) is a h)
  where
    by : (b : Bool) → cond b (first_far (at + 4) is) (Some at) ≡ Some a → (first_far (at + 4) is ≡ Some a → at + 4 ≤ a) → at ≤ a
    by true h more = let le = more h in omega (arith, le)
    by false h more = let same : at ≡ a = cc in omega (arith, same)

-- ---- a jump and the part that has it

-- names by the number of their part
abbrev Agree : (ℕ → Text) → ℕ → List Text → Type 0
Agree name part [] = ⊤
Agree name part (n ∷ ns) = (name part ≡ n) × Agree name (part + 1) ns

module _ (places : ℕ → ℕ) (name : ℕ → Text) where
  -- the jump is the part's, and lies on the part's side of all bytes that are apart from the parts
  abbrev IsSame : (part : ℕ) → List Pieces → Option Jump → Option ℕ → Type 0
  IsSame part pss None None = ⊤
  IsSame part pss None (Some n) = ⊥
  IsSame part pss (Some j) None = ⊥
  IsSame part pss (Some j) (Some n) = (j.1 ≡ name n) × ((places n ≤ j.0) × ((at end : ℕ) → at < end → LieApart places at end part pss → (end ≤ places n) ⊎ (j.0 < at)))

  rest_same : (part : ℕ) (ps : Pieces) (pss : List Pieces) (jump : Option Jump) (far : Option ℕ) → IsSame (part + 1) pss jump far → IsSame part (ps ∷ pss) jump far
  rest_same part ps pss None None h = tt
  rest_same part ps pss None (Some n) h = absurd h
  rest_same part ps pss (Some j) None h = absurd h
  rest_same part ps pss (Some j) (Some n) h = (h.0, (h.1.0, λ at end some apart. h.1.1 at end some apart.1))

  mine : (part : ℕ) (ps : Pieces) (pss : List Pieces) (a : ℕ) (n : Text) → name part ≡ n → places part ≤ a → a < places part + size_of ps → IsSame part (ps ∷ pss) (Some (a, n)) (Some part)
  mine part ps pss a n named low high = (
    sym named,
    (
      low,
      λ at end some apart. ⊎_elim (λ (behind : end ≤ places part). inl behind)
          (λ (before : places part + size_of ps ≤ at). inr (omega (arith, high, before))) (apart.0 some (omega (arith, low, high))),
    ),
  )

  joined : (part : ℕ) (ps : Pieces) (pss : List Pieces) (o : Option ℕ) (n : Text) (jump : Option Jump) (far : Option ℕ) → name part ≡ n →
      ((a : ℕ) → o ≡ Some a → (places part ≤ a) × (a < places part + size_of ps)) →
      LieApart places (places part) (places part + size_of ps) (part + 1) pss → IsSame (part + 1) pss jump far →
      IsSame part (ps ∷ pss) (lower_jump (jump_in n o) jump) (lower_part places (part_if part o None) far)
  joined part ps pss None n jump far named within apart rest = rest_same part ps pss jump far rest
  joined part ps pss (Some a) n None None named within apart rest = let w = within a refl in mine part ps pss a n named w.0 w.1
  joined part ps pss (Some a) n None (Some m) named within apart rest = absurd rest
  joined part ps pss (Some a) n (Some j) None named within apart rest = absurd rest
  joined part ps pss (Some a) n (Some j) (Some m) named within apart rest =
      let w = within a refl in
      let low : places part ≤ a = w.0 in
      let high : a < places part + size_of ps = w.1 in
      let inside : places m ≤ j.0 = rest.1.0 in
      ⊎_elim
      (λ (behind : places part + size_of ps ≤ places m).
      let one : ltb j.0 a ≡ false = le-ltb _ _ (omega (arith, high, inside, behind)) in
      let two : ltb (places m) (places part) ≡ false = le-ltb _ _ (omega (arith, behind)) in
      subst (λ b. IsSame part (ps ∷ pss) (cond b (Some j) (Some (a, n))) (cond (ltb (places m) (places part)) (Some m) (Some part))) (sym one)
      (subst (λ b. IsSame part (ps ∷ pss) (Some (a, n)) (cond b (Some m) (Some part))) (sym two) (mine part ps pss a n named low high)))
      (λ (before : j.0 < places part).
      let one : ltb j.0 a ≡ true = lt-ltb _ _ (omega (arith, before, low)) in
      let two : ltb (places m) (places part) ≡ true = lt-ltb _ _ (omega (arith, inside, before)) in
      subst (λ b. IsSame part (ps ∷ pss) (cond b (Some j) (Some (a, n))) (cond (ltb (places m) (places part)) (Some m) (Some part))) (sym one)
      (subst (λ b. IsSame part (ps ∷ pss) (Some j) (cond b (Some m) (Some part))) (sym two) (rest_same part ps pss (Some j) (Some m) rest)))
      (rest.1.1 (places part) (places part + size_of ps) (omega (arith, low, high)) apart)

  told_of : (part : ℕ) (pss : List Pieces) (jump : Option Jump) (far : Option ℕ) → IsSame part pss jump far → of_jump jump ≡ option_map (λ n. Reach (name n)) far
  told_of part pss None None h = refl
  told_of part pss None (Some n) h = absurd h
  told_of part pss (Some j) None h = absurd h
  told_of part pss (Some j) (Some n) h = ap (λ (x : Text). Some (Reach x)) h.0

found : (t : TaskPlaces) (name : ℕ → Text) (part : ℕ) (names : List Text) (pss : List Pieces) → length names ≡ length pss → Agree name part names → AllApart (start_at t) part pss →
    IsSame (start_at t) name part pss (far_jump (blocks_from t part names pss)) (lowest_far (start_at t) part pss)
found t name part [] [] e named apart = tt
found t name part [] (ps ∷ pss) e named apart = absurd (omega (arith, e))
found t name part (n ∷ ns) [] e named apart = absurd (omega (arith, e))
found t name part (n ∷ ns) (ps ∷ pss) e named apart =
    let at = start_at t part in
    let code = code_of (start_at t) at ps in
    let long = code-length (start_at t) at ps in
    joined (start_at t) name part ps pss (far_in (start_at t) part ps) n (far_jump (blocks_from t (part + 1) ns pss)) (lowest_far (start_at t) (part + 1) pss) named.0
    (λ a is. (far_from at code a is, (let lt = far_within at code a is in omega (arith, lt, long)))) apart.0 (found t name (part + 1) ns pss (omega (arith, e)) named.1 apart.1)

agree : (before names : List Text) → Agree (λ part. slice_index_or (before ++ names) part []) (length before) names
agree before [] = tt
agree before (n ∷ ns) =
    let more : length (before ++ n ∷ []) ≡ length before + 1 = length-append before (n ∷ []) in
    let same : (before ++ n ∷ []) ++ ns ≡ before ++ n ∷ ns = append_assoc before (n ∷ []) ns in (
      here before,
      subst (λ k. Agree (λ part. slice_index_or (before ++ n ∷ ns) part []) k ns) more
          (subst (λ (all : List Text). Agree (λ part. slice_index_or all part []) (length (before ++ n ∷ [])) ns) same (agree (before ++ n ∷ []) ns)),
    )
  where
    here : (xs : List Text) → slice_index_or (xs ++ n ∷ ns) (length xs) [] ≡ n
    here [] = refl
    here (x ∷ xs) = here xs

pub reach_is_lowest : ReachIsLowest
reach_is_lowest t h apart =
    let names = names_in t in
    let name : ℕ → Text = λ part. slice_index_or names part [] in
    let same = found t.at name 0 names (parts_in t) (as_many t h) (agree [] names) apart in
    ap (λ bs. of_jump (far_jump bs)) (as_one t h)
    ∙ told_of (start_at t.at) name 0 (parts_in t) (far_jump (blocks_from t.at 0 names (parts_in t))) (lowest_far (start_at t.at) 0 (parts_in t)) same
