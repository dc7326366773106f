-- The loops of the outline of code that ends below 2 ^ 32 end there.
use Rattle.std.proofs.Common.{◌≡◌, ℕ, ◌+◌, ◌*◌, ◌<◌, ◌^◌, [], ◌∷◌, length, ap, sym, subst, ◌∙◌, arith}
use Rattle.prem_syntax.specs.Resolved.{Routine, Steps, Done, SetLocal, SetScalar, SetElement, Output, Input, If, For, While, Call}
use Rattle.prem_asm.specs.Pieces.{Pieces, no_pieces, straight, either, repeat, followed, words, size_of, skip_words}
use Rattle.prem_asm.proofs.Rows.{words-followed}
use Rattle.prem_layout.specs.Template.Frames.{counters_in, locals_of}
use Rattle.prem_layout.specs.Template.Terms.{only, constant, nonzero}
use Rattle.prem_layout.specs.Template.Steps.{function_code, steps_code, store_slot, bound_test, step_code, count_code}
use Rattle.prem_wcet_laws.specs.Scopes.{Scene}
use Rattle.prem_wcet_laws.specs.Least.{term_of, bound_code, first_code, counter_code, turn_of}
use Rattle.prem_wcet.specs.Outlines.{code_of, first_place, second_place, inner_place}
use Rattle.prem_wcet.specs.Outlined.{outline_of}
use Rattle.prem_profile.specs.Bound.Memory.{EndsAt}
use Rattle.prem_list.specs.Sequence.{items_of}
use Rattle.prem_asm.specs.PiecesOf.{pieces_of}
use Rattle.prem_wcet.specs.Cut.{IsFunction}
use Rattle.prem_wcet.specs.PartsOf.{parts_of}
use Rattle.prem_wcet.specs.declared.outline.Outline.{Outline as OutlineTree}
use Rattle.prem_wcet.proofs.FunctionFits.{function_size}
use Rattle.prem_wcet.proofs.OutlineCode.{code_is}

words_first : (code rest : Pieces) → words (followed code rest) ≡ words code + words rest
words_first code rest = words-followed code rest

module _ (e : Scene) where
  -- the words of statements, by their outline
  abbrev W : ℕ → Steps → ℕ
  W n steps = words (code_of (outline_of e n steps))

  words_are : (n : ℕ) (steps : Steps) → W n steps ≡ words (steps_code e.parts n steps)
  words_are n steps = ap words (code_is e n steps)

  -- behind the first statement
  rest_fits : (at all one rest : ℕ) → all ≡ one + rest → at + 4 * all < 2 ^ 32 → (at + 4 * one) + 4 * rest < 2 ^ 32
  rest_fits at all one rest e le = omega (arith, e, le)

  ends : (n at : ℕ) (steps : Steps) → at + 4 * W n steps < 2 ^ 32 → EndsAt at (outline_of e n steps)
  ends n at Done le = tt
  ends n at (SetLocal pl k value rest) le =
      let one : Pieces = steps_code e.parts n (SetLocal pl k value Done) in
      ends n (at + size_of one) rest (rest_fits at _ (words one) (W n rest) (words_first one (code_of (outline_of e n rest))) le)
  ends n at (SetScalar pl g ty value rest) le =
      let one : Pieces = steps_code e.parts n (SetScalar pl g ty value Done) in
      ends n (at + size_of one) rest (rest_fits at _ (words one) (W n rest) (words_first one (code_of (outline_of e n rest))) le)
  ends n at (SetElement pl g ty index value rest) le =
      let one : Pieces = steps_code e.parts n (SetElement pl g ty index value Done) in
      ends n (at + size_of one) rest (rest_fits at _ (words one) (W n rest) (words_first one (code_of (outline_of e n rest))) le)
  ends n at (Output pl value rest) le =
      let one : Pieces = steps_code e.parts n (Output pl value Done) in
      ends n (at + size_of one) rest (rest_fits at _ (words one) (W n rest) (words_first one (code_of (outline_of e n rest))) le)
  ends n at (Input pl k rest) le =
      let one : Pieces = steps_code e.parts n (Input pl k Done) in
      ends n (at + size_of one) rest (rest_fits at _ (words one) (W n rest) (words_first one (code_of (outline_of e n rest))) le)
  ends n at (If pl condition taken other rest) le =
      let one : Pieces = steps_code e.parts n (If pl condition taken other Done) in
      let m : ℕ = n + counters_in taken in
      let two : Pieces = steps_code e.parts m other in
      let all = words_first one (code_of (outline_of e (m + counters_in other) rest)) in
      let inner = words-followed (term_of e 10 condition) (either (nonzero 10) (steps_code e.parts n taken) two no_pieces) in (
        ends n (first_place at (term_of e 10 condition)) taken
            (first (words (term_of e 10 condition)) (words (steps_code e.parts n taken)) (skip_words two) (words two) (words one)
            (W n taken) _ _ inner (words_are n taken) all le),
        (
          ends m (second_place at (term_of e 10 condition) (outline_of e n taken) (skip_words two)) other
              (second (words (term_of e 10 condition)) (words (steps_code e.parts n taken)) (skip_words two) (words two) (words one) (W n taken)
              (W m other) _ _ inner (words_are n taken) (words_are m other) all le),
          ends (m + counters_in other) (at + size_of one) rest (rest_fits at _ (words one) (W (m + counters_in other) rest) all le),
        ),
      )
    where
      first : (c t s o one w r all : ℕ) → one ≡ c + (2 + t + s + o + 0) → w ≡ t → all ≡ one + r → at + 4 * all < 2 ^ 32 → (at + 4 * c + 8) + 4 * w < 2 ^ 32
      first c t s o one w r all inner same is le = omega (arith, inner, same, is, le)

      second : (c t s o one w u r all : ℕ) → one ≡ c + (2 + t + s + o + 0) → w ≡ t → u ≡ o → all ≡ one + r → at + 4 * all < 2 ^ 32 → (at + 4 * c + 8 + 4 * w + 4 * s) + 4 * u < 2 ^ 32
      second c t s o one w u r all inner same other is le = omega (arith, inner, same, other, is, le)
  ends n at (For pl k low closed high step turns body rest) le =
      let one : Pieces = steps_code e.parts n (For pl k low closed high step turns body Done) in
      let m : ℕ = n + counters_in body in
      let all = words_first one (code_of (outline_of e m rest)) in
      let code : Pieces = steps_code e.parts n body in
      let first = words-followed (term_of e 10 low) (only (store_slot k ∷ [])) in
      let inner = words-followed (term_of e 10 low) (straight (store_slot k ∷ []) (repeat turns (bound_code e k high) (bound_test closed) (followed code (only (step_code k step))) no_pieces)) in
      let turn = words-followed code (only (step_code k step)) in (
        outside (words (term_of e 10 low)) (words (first_code e k low)) (words (bound_code e k high)) (words code)
            (words (followed code (only (step_code k step)))) (words one) (W n body) _ _ first inner turn (words_are n body) all le,
        (
          ends n (inner_place at (first_code e k low) (bound_code e k high) no_pieces) body
              (inside (words (term_of e 10 low)) (words (first_code e k low)) (words (bound_code e k high)) (words code)
              (words (followed code (only (step_code k step)))) (words one) (W n body) _ _ first inner turn (words_are n body) all le),
          ends m (at + size_of one) rest (rest_fits at _ (words one) (W m rest) all le),
        ),
      )
    where
      outside : (l f h b t one w r all : ℕ) → f ≡ l + (1 + 0) → one ≡ l + (1 + (h + 3 + t + 0)) → t ≡ b + (3 + 0) → w ≡ b → all ≡ one + r →
          at + 4 * all < 2 ^ 32 → (at + 4 * f + 4 * h + 8 + 4 * 0) + 4 * w + 4 * (3 + 0) < 2 ^ 32
      outside l f h b t one w r all first inner turn same is le = omega (arith, first, inner, turn, same, is, le)

      inside : (l f h b t one w r all : ℕ) → f ≡ l + (1 + 0) → one ≡ l + (1 + (h + 3 + t + 0)) → t ≡ b + (3 + 0) → w ≡ b → all ≡ one + r →
          at + 4 * all < 2 ^ 32 → (at + 4 * f + 4 * h + 8 + 4 * 0) + 4 * w < 2 ^ 32
      inside l f h b t one w r all first inner turn same is le = omega (arith, first, inner, turn, same, is, le)
  ends n at (While pl turns condition body rest) le =
      let one : Pieces = steps_code e.parts n (While pl turns condition body Done) in
      let m : ℕ = n + 1 + counters_in body in
      let all = words_first one (code_of (outline_of e m rest)) in (
        outside (length (constant 10 turns)) (words (turn_of e n condition)) (words (steps_code e.parts (n + 1) body)) (W (n + 1) body) _ _ (words_are (n + 1) body) all le,
        (
          ends (n + 1) (inner_place at (counter_code n turns) (turn_of e n condition) (only (count_code n))) body
              (inside (length (constant 10 turns)) (words (turn_of e n condition)) (words (steps_code e.parts (n + 1) body)) (W (n + 1) body) _ _ (words_are (n + 1) body) all le),
          ends m (at + size_of one) rest (rest_fits at _ (words one) (W m rest) all le),
        ),
      )
    where
      outside : (c h b w r all : ℕ) → w ≡ b → all ≡ c + (1 + (h + 3 + (3 + b) + 0)) + r → at + 4 * all < 2 ^ 32 → (at + 4 * (c + (1 + 0)) + 4 * h + 8 + 4 * (3 + 0)) + 4 * w + 4 * 0 < 2 ^ 32
      outside c h b w r all same is le = omega (arith, same, is, le)

      inside : (c h b w r all : ℕ) → w ≡ b → all ≡ c + (1 + (h + 3 + (3 + b) + 0)) + r → at + 4 * all < 2 ^ 32 → (at + 4 * (c + (1 + 0)) + 4 * h + 8 + 4 * (3 + 0)) + 4 * w < 2 ^ 32
      inside c h b w r all same is le = omega (arith, same, is, le)
  ends n at (Call pl target f arguments rest) le =
      let one : Pieces = steps_code e.parts n (Call pl target f arguments Done) in
      ends n (at + size_of one) rest (rest_fits at _ (words one) (W n rest) (words_first one (code_of (outline_of e n rest))) le)

-- statements that end below
pub ends_outline : (e : Scene) (n at : ℕ) (steps : Steps) → at + size_of (steps_code e.parts n steps) < 2 ^ 32 → EndsAt at (outline_of e n steps)
ends_outline e n at steps le = ends e n at steps (less (W e n steps) (words (steps_code e.parts n steps)) (words_are e n steps) le) where
  less : (w c : ℕ) → w ≡ c → at + 4 * c < 2 ^ 32 → at + 4 * w < 2 ^ 32
  less w c e le = omega (arith, e, le)

-- those of a function
pub function_ends : (e : Scene) (f : Routine) (o : OutlineTree) (at : ℕ) → IsFunction e f o → at + size_of (function_code e.parts f) < 2 ^ 32 →
    EndsAt (at + size_of (pieces_of o.entry.now)) (parts_of (items_of o.body))
function_ends e f o at is h =
    let size = function_size e f o is in
    let body = ap (λ p. size_of (code_of p)) is.body ∙ ap size_of (code_is e (locals_of f) f.body) in
    subst (EndsAt (at + size_of (pieces_of o.entry.now))) (sym is.body) (ends_outline e (locals_of f) (at + size_of (pieces_of o.entry.now)) f.body (omega (arith, h, size, body)))
