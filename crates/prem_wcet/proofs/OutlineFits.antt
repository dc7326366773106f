-- The outline of code that ends below 2 ^ 32 fits there, and so do the arguments of its calls.
use Rattle.std.proofs.Common.{◌≡◌, ℕ, suc, ◌+◌, ◌-◌, ◌*◌, ◌<◌, ◌≤◌, ◌^◌, List, [], ◌∷◌, length, ap, arith}
use Rattle.prem_syntax.specs.Resolved.{Term, Steps, Done, SetLocal, SetScalar, SetElement, Output, Input, If, For, While, Call}
use Rattle.prem_plant.specs.declared.plant.Target.{Target}
use Rattle.prem_asm.specs.Pieces.{Pieces, no_pieces, straight, either, repeat, call_to, followed, words, size_of, skip_words}
use Rattle.prem_asm.proofs.Rows.{words-followed}
use Rattle.prem_layout.specs.Template.Frames.{counters_in}
use Rattle.prem_layout.specs.Template.Terms.{only, constant, nonzero, term_code}
use Rattle.prem_layout.specs.Template.Steps.{steps_code, store_slot, store_argument, bound_test, step_code, count_code, argument_code, target_code}
use Rattle.prem_wcet_laws.specs.Scopes.{Scene}
use Rattle.prem_wcet_laws.specs.Least.{term_of, bound_code, first_code, counter_code, turn_of}
use Rattle.prem_wcet_laws.specs.Parted.{bottom_of}
use Rattle.prem_wcet.specs.Outlines.{code_of, first_place, second_place, inner_place}
use Rattle.prem_wcet.specs.Outlined.{outline_of}
use Rattle.prem_wcet.specs.Fitting.{FitsAt}
use Rattle.prem_wcet.specs.EdgesOf.{BelowFits}
use Rattle.prem_wcet.proofs.OutlineCode.{code_is}

words_first : (code rest : Pieces) → words (followed code rest) ≡ words code + words rest
words_first code rest = words-followed code rest

module _ (e : Scene) where
  -- the words of statements, by their outline
  abbrev W : ℕ → Steps → ℕ
  W n steps = words (code_of (outline_of e n steps))

  words_are : (n : ℕ) (steps : Steps) → W n steps ≡ words (steps_code e.parts n steps)
  words_are n steps = ap words (code_is e n steps)

  -- behind the first statement
  rest_fits : (at all one rest : ℕ) → all ≡ one + rest → at + 4 * all < 2 ^ 32 → (at + 4 * one) + 4 * rest < 2 ^ 32
  rest_fits at all one rest e le = omega (arith, e, le)

  fits : (n at : ℕ) (steps : Steps) → at + 4 * W n steps < 2 ^ 32 → FitsAt at (outline_of e n steps)
  fits n at Done le = omega (arith, le)
  fits n at (SetLocal pl k value rest) le =
      let one : Pieces = steps_code e.parts n (SetLocal pl k value Done) in
      fits n (at + size_of one) rest (rest_fits at _ (words one) (W n rest) (words_first one (code_of (outline_of e n rest))) le)
  fits n at (SetScalar pl g ty value rest) le =
      let one : Pieces = steps_code e.parts n (SetScalar pl g ty value Done) in
      fits n (at + size_of one) rest (rest_fits at _ (words one) (W n rest) (words_first one (code_of (outline_of e n rest))) le)
  fits n at (SetElement pl g ty index value rest) le =
      let one : Pieces = steps_code e.parts n (SetElement pl g ty index value Done) in
      fits n (at + size_of one) rest (rest_fits at _ (words one) (W n rest) (words_first one (code_of (outline_of e n rest))) le)
  fits n at (Output pl value rest) le =
      let one : Pieces = steps_code e.parts n (Output pl value Done) in
      fits n (at + size_of one) rest (rest_fits at _ (words one) (W n rest) (words_first one (code_of (outline_of e n rest))) le)
  fits n at (Input pl k rest) le =
      let one : Pieces = steps_code e.parts n (Input pl k Done) in
      fits n (at + size_of one) rest (rest_fits at _ (words one) (W n rest) (words_first one (code_of (outline_of e n rest))) le)
  fits n at (If pl condition taken other rest) le =
      let one : Pieces = steps_code e.parts n (If pl condition taken other Done) in
      let m : ℕ = n + counters_in taken in
      let two : Pieces = steps_code e.parts m other in
      let all = words_first one (code_of (outline_of e (m + counters_in other) rest)) in
      let inner = words-followed (term_of e 10 condition) (either (nonzero 10) (steps_code e.parts n taken) two no_pieces) in (
        fits n (first_place at (term_of e 10 condition)) taken
            (first (words (term_of e 10 condition)) (words (steps_code e.parts n taken)) (skip_words two) (words two) (words one)
            (W n taken) _ _ inner (words_are n taken) all le),
        (
          fits m (second_place at (term_of e 10 condition) (outline_of e n taken) (skip_words two)) other
              (second (words (term_of e 10 condition)) (words (steps_code e.parts n taken)) (skip_words two) (words two) (words one) (W n taken)
              (W m other) _ _ inner (words_are n taken) (words_are m other) all le),
          fits (m + counters_in other) (at + size_of one) rest (rest_fits at _ (words one) (W (m + counters_in other) rest) all le),
        ),
      )
    where
      first : (c t s o one w r all : ℕ) → one ≡ c + (2 + t + s + o + 0) → w ≡ t → all ≡ one + r → at + 4 * all < 2 ^ 32 → (at + 4 * c + 8) + 4 * w < 2 ^ 32
      first c t s o one w r all inner same is le = omega (arith, inner, same, is, le)

      second : (c t s o one w u r all : ℕ) → one ≡ c + (2 + t + s + o + 0) → w ≡ t → u ≡ o → all ≡ one + r → at + 4 * all < 2 ^ 32 → (at + 4 * c + 8 + 4 * w + 4 * s) + 4 * u < 2 ^ 32
      second c t s o one w u r all inner same other is le = omega (arith, inner, same, other, is, le)
  fits n at (For pl k low closed high step turns body rest) le =
      let one : Pieces = steps_code e.parts n (For pl k low closed high step turns body Done) in
      let m : ℕ = n + counters_in body in
      let all = words_first one (code_of (outline_of e m rest)) in
      let code : Pieces = steps_code e.parts n body in
      let first = words-followed (term_of e 10 low) (only (store_slot k ∷ [])) in
      let inner = words-followed (term_of e 10 low) (straight (store_slot k ∷ []) (repeat turns (bound_code e k high) (bound_test closed) (followed code (only (step_code k step))) no_pieces)) in
      let turn = words-followed code (only (step_code k step)) in (
        fits n (inner_place at (first_code e k low) (bound_code e k high) no_pieces) body
            (inside (words (term_of e 10 low)) (words (first_code e k low)) (words (bound_code e k high)) (words code)
            (words (followed code (only (step_code k step)))) (words one) (W n body) _ _ first inner turn (words_are n body) all le),
        fits m (at + size_of one) rest (rest_fits at _ (words one) (W m rest) all le),
      )
    where
      inside : (l f h b t one w r all : ℕ) → f ≡ l + (1 + 0) → one ≡ l + (1 + (h + 3 + t + 0)) → t ≡ b + (3 + 0) → w ≡ b → all ≡ one + r →
          at + 4 * all < 2 ^ 32 → (at + 4 * f + 4 * h + 8 + 4 * 0) + 4 * w < 2 ^ 32
      inside l f h b t one w r all first inner turn same is le = omega (arith, first, inner, turn, same, is, le)
  fits n at (While pl turns condition body rest) le =
      let one : Pieces = steps_code e.parts n (While pl turns condition body Done) in
      let m : ℕ = n + 1 + counters_in body in
      let all = words_first one (code_of (outline_of e m rest)) in (
        fits (n + 1) (inner_place at (counter_code n turns) (turn_of e n condition) (only (count_code n))) body
            (inside (length (constant 10 turns)) (words (turn_of e n condition)) (words (steps_code e.parts (n + 1) body)) (W (n + 1) body) _ _ (words_are (n + 1) body) all le),
        fits m (at + size_of one) rest (rest_fits at _ (words one) (W m rest) all le),
      )
    where
      inside : (c h b w r all : ℕ) → w ≡ b → all ≡ c + (1 + (h + 3 + (3 + b) + 0)) + r → at + 4 * all < 2 ^ 32 → (at + 4 * (c + (1 + 0)) + 4 * h + 8 + 4 * (3 + 0)) + 4 * w < 2 ^ 32
      inside c h b w r all same is le = omega (arith, same, is, le)
  fits n at (Call pl target f arguments rest) le =
      let one : Pieces = steps_code e.parts n (Call pl target f arguments Done) in
      let args : Pieces = argument_code e.parts.target e.parts.global (e.parts.frame f) 0 arguments in
      let all = words_first one (code_of (outline_of e n rest)) in
      let inner = words-followed args (call_to (e.parts.link f) (e.parts.callee f) (target_code target no_pieces)) in (
        whole (words one) (words args) (words (target_code target no_pieces)) inner,
        fits n (at + size_of one) rest (rest_fits at _ (words one) (W n rest) all le),
      )
    where
      whole : (one a t : ℕ) → one ≡ a + (1 + t) → 4 * one ≡ 4 * a + 4 + 4 * t
      whole one a t e = omega (arith, e)

-- statements that end below
pub fits_outline : (e : Scene) (n at : ℕ) (steps : Steps) → at + size_of (steps_code e.parts n steps) < 2 ^ 32 → FitsAt at (outline_of e n steps)
fits_outline e n at steps le = fits e n at steps (less (W e n steps) (words (steps_code e.parts n steps)) (words_are e n steps) le) where
  less : (w c : ℕ) → w ≡ c → at + 4 * c < 2 ^ 32 → at + 4 * w < 2 ^ 32
  less w c e le = omega (arith, e, le)

-- ---- arguments of calls

args_long : (target : Target) (parts : ℕ → ℕ) (frame j : ℕ) (xs : List Term) → length xs ≤ words (argument_code target parts frame j xs)
args_long target parts frame j [] = omega arith
args_long target parts frame j (x ∷ xs) =
    let rest = args_long target parts frame (j + 1) xs in
    let all = words-followed (term_code target parts 10 x) (straight (store_argument frame j ∷ []) (argument_code target parts frame (j + 1) xs)) in
    more (length xs) (words (argument_code target parts frame (j + 1) xs)) (words (term_code target parts 10 x)) _ rest all
  where
    more : (n a t all : ℕ) → n ≤ a → all ≡ t + (1 + a) → suc n ≤ all
    more n a t all le is = omega (arith, le, is)

module _ (e v : Scene) where
  abbrev V : ℕ → Steps → ℕ
  V n steps = words (code_of (outline_of v n steps))

  code_words : (n : ℕ) (steps : Steps) → V n steps ≡ words (steps_code v.parts n steps)
  code_words n steps = ap words (code_is v n steps)

  later : (b all one rest : ℕ) → all ≡ one + rest → b + 4 + 4 * all < 2 ^ 32 → b + 4 + 4 * rest < 2 ^ 32
  later b all one rest e le = omega (arith, e, le)

  below : (n : ℕ) (steps : Steps) → bottom_of e.stack + 4 + 4 * V n steps < 2 ^ 32 → BelowFits e (outline_of v n steps)
  below n Done le = tt
  below n (SetLocal pl k value rest) le =
      let one : Pieces = steps_code v.parts n (SetLocal pl k value Done) in
      below n rest (later (bottom_of e.stack) _ (words one) (V n rest) (words_first one (code_of (outline_of v n rest))) le)
  below n (SetScalar pl g ty value rest) le =
      let one : Pieces = steps_code v.parts n (SetScalar pl g ty value Done) in
      below n rest (later (bottom_of e.stack) _ (words one) (V n rest) (words_first one (code_of (outline_of v n rest))) le)
  below n (SetElement pl g ty index value rest) le =
      let one : Pieces = steps_code v.parts n (SetElement pl g ty index value Done) in
      below n rest (later (bottom_of e.stack) _ (words one) (V n rest) (words_first one (code_of (outline_of v n rest))) le)
  below n (Output pl value rest) le =
      let one : Pieces = steps_code v.parts n (Output pl value Done) in
      below n rest (later (bottom_of e.stack) _ (words one) (V n rest) (words_first one (code_of (outline_of v n rest))) le)
  below n (Input pl k rest) le =
      let one : Pieces = steps_code v.parts n (Input pl k Done) in
      below n rest (later (bottom_of e.stack) _ (words one) (V n rest) (words_first one (code_of (outline_of v n rest))) le)
  below n (If pl condition taken other rest) le =
      let one : Pieces = steps_code v.parts n (If pl condition taken other Done) in
      let m : ℕ = n + counters_in taken in
      let two : Pieces = steps_code v.parts m other in
      let all = words_first one (code_of (outline_of v (m + counters_in other) rest)) in
      let inner = words-followed (term_of v 10 condition) (either (nonzero 10) (steps_code v.parts n taken) two no_pieces) in (
        below n taken (side (words (term_of v 10 condition)) (words (steps_code v.parts n taken)) (skip_words two) (words two) (words one) (V n taken)
            (V (m + counters_in other) rest) _ inner (code_words n taken) all le),
        (
          below m other (last (words (term_of v 10 condition)) (words (steps_code v.parts n taken)) (skip_words two) (words two) (words one)
              (V m other) (V (m + counters_in other) rest) _ inner (code_words m other) all le),
          below (m + counters_in other) rest (later (bottom_of e.stack) _ (words one) (V (m + counters_in other) rest) all le),
        ),
      )
    where
      side : (c t s o one w r all : ℕ) → one ≡ c + (2 + t + s + o + 0) → w ≡ t → all ≡ one + r → bottom_of e.stack + 4 + 4 * all < 2 ^ 32 → bottom_of e.stack + 4 + 4 * w < 2 ^ 32
      side c t s o one w r all inner same is le = omega (arith, inner, same, is, le)

      last : (c t s o one w r all : ℕ) → one ≡ c + (2 + t + s + o + 0) → w ≡ o → all ≡ one + r → bottom_of e.stack + 4 + 4 * all < 2 ^ 32 → bottom_of e.stack + 4 + 4 * w < 2 ^ 32
      last c t s o one w r all inner same is le = omega (arith, inner, same, is, le)
  below n (For pl k low closed high step turns body rest) le =
      let one : Pieces = steps_code v.parts n (For pl k low closed high step turns body Done) in
      let m : ℕ = n + counters_in body in
      let all = words_first one (code_of (outline_of v m rest)) in
      let code : Pieces = steps_code v.parts n body in
      let inner = words-followed (term_of v 10 low) (straight (store_slot k ∷ []) (repeat turns (bound_code v k high) (bound_test closed) (followed code (only (step_code k step))) no_pieces)) in
      let turn = words-followed code (only (step_code k step)) in (
        below n body (inside (words (term_of v 10 low)) (words (bound_code v k high)) (words code) (words (followed code (only (step_code k step))))
            (words one) (V n body) (V m rest) _ inner turn (code_words n body) all le),
        below m rest (later (bottom_of e.stack) _ (words one) (V m rest) all le),
      )
    where
      inside : (l h b t one w r all : ℕ) → one ≡ l + (1 + (h + 3 + t + 0)) → t ≡ b + (3 + 0) → w ≡ b → all ≡ one + r → bottom_of e.stack + 4 + 4 * all < 2 ^ 32 → bottom_of e.stack + 4 + 4 * w < 2 ^ 32
      inside l h b t one w r all inner turn same is le = omega (arith, inner, turn, same, is, le)
  below n (While pl turns condition body rest) le =
      let one : Pieces = steps_code v.parts n (While pl turns condition body Done) in
      let m : ℕ = n + 1 + counters_in body in
      let all = words_first one (code_of (outline_of v m rest)) in (
        below (n + 1) body (inside (length (constant 10 turns)) (words (turn_of v n condition)) (words (steps_code v.parts (n + 1) body))
            (V (n + 1) body) (V m rest) _ (code_words (n + 1) body) all le),
        below m rest (later (bottom_of e.stack) _ (words one) (V m rest) all le),
      )
    where
      inside : (c h b w r all : ℕ) → w ≡ b → all ≡ c + (1 + (h + 3 + (3 + b) + 0)) + r → bottom_of e.stack + 4 + 4 * all < 2 ^ 32 → bottom_of e.stack + 4 + 4 * w < 2 ^ 32
      inside c h b w r all same is le = omega (arith, same, is, le)
  below n (Call pl target f arguments rest) le =
      let one : Pieces = steps_code v.parts n (Call pl target f arguments Done) in
      let args : Pieces = argument_code v.parts.target v.parts.global (v.parts.frame f) 0 arguments in
      let all = words_first one (code_of (outline_of v n rest)) in
      let inner = words-followed args (call_to (v.parts.link f) (v.parts.callee f) (target_code target no_pieces)) in (
        room (bottom_of e.stack) (e.parts.frame f) (length arguments) (words args) (words (target_code target no_pieces)) (words one) (V n rest) _
            (args_long v.parts.target v.parts.global (v.parts.frame f) 0 arguments) inner all le,
        below n rest (later (bottom_of e.stack) _ (words one) (V n rest) all le),
      )
    where
      room : (b f k a t one r all : ℕ) → k ≤ a → one ≡ a + (1 + t) → all ≡ one + r → b + 4 + 4 * all < 2 ^ 32 → b - f + 4 + 4 * k < 2 ^ 32
      room b f k a t one r all le inner is less = omega (arith, le, inner, is, less)

-- statements with so much room above the frame's bottom
pub below_outline : (e v : Scene) (n : ℕ) (steps : Steps) → bottom_of e.stack + 4 + size_of (steps_code v.parts n steps) < 2 ^ 32 → BelowFits e (outline_of v n steps)
below_outline e v n steps le = below e v n steps (less (bottom_of e.stack) (V e v n steps) (words (steps_code v.parts n steps)) (code_words e v n steps) le) where
  less : (b w c : ℕ) → w ≡ c → b + 4 + 4 * c < 2 ^ 32 → b + 4 + 4 * w < 2 ^ 32
  less b w c e le = omega (arith, e, le)
