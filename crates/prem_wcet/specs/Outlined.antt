-- The outline of statements, and that it counts what they count.
use Rattle.std.specs.Prelude.{◌≡◌, ℕ, ◌+◌, [], ◌∷◌, ◌++◌, length}
use Rattle.prem_syntax.specs.Resolved.{Steps, Done, SetLocal, SetScalar, SetElement, Output, Input, If, For, While, Call}
use Rattle.prem_asm.specs.Pieces.{no_pieces, size_of, skip_words}
use Rattle.prem_layout.specs.Template.Terms.{only}
use Rattle.prem_layout.specs.Template.Frames.{counters_in}
use Rattle.prem_layout.specs.Template.Steps.{step_code, count_code, argument_code, target_code, steps_code}
use Rattle.prem_wcet_laws.specs.Scopes.{Scene, globals_in_term, globals_in_terms}
use Rattle.prem_wcet_laws.specs.Least.{term_of, bound_code, first_code, counter_code, turn_of, least, apart}
use Rattle.prem_wcet_laws.specs.Parted.{Edge, parted, begins}
use Rattle.prem_wcet.specs.Outlines.{Outline, ended, plain, calling, choice, turning, least_in, apart_in, parted_in}

-- that of statements whose counters are the slots from n on
abbrev pub outline_of : Scene → (n : ℕ) → Steps → Outline
outline_of e n Done = ended
outline_of e n (SetLocal pl k value rest) = plain (steps_code e.parts n (SetLocal pl k value Done)) (globals_in_term value) (outline_of e n rest)
outline_of e n (SetScalar pl g ty value rest) = plain (steps_code e.parts n (SetScalar pl g ty value Done)) (g ∷ globals_in_term value) (outline_of e n rest)
outline_of e n (SetElement pl g ty index value rest) =
    plain (steps_code e.parts n (SetElement pl g ty index value Done)) (g ∷ (globals_in_term index ++ globals_in_term value)) (outline_of e n rest)
outline_of e n (Output pl value rest) = plain (steps_code e.parts n (Output pl value Done)) (globals_in_term value) (outline_of e n rest)
outline_of e n (Input pl k rest) = plain (steps_code e.parts n (Input pl k Done)) [] (outline_of e n rest)
outline_of e n (If pl condition taken other rest) =
    choice (steps_code e.parts n (If pl condition taken other Done)) (globals_in_term condition) (term_of e 10 condition) (skip_words (steps_code e.parts (n + counters_in taken) other))
    (outline_of e n taken) (outline_of e (n + counters_in taken) other) (outline_of e (n + counters_in taken + counters_in other) rest)
outline_of e n (For pl k low closed high step turns body rest) =
    turning (steps_code e.parts n (For pl k low closed high step turns body Done)) (globals_in_term low ++ globals_in_term high) (first_code e k low) turns (bound_code e k high) no_pieces
    (outline_of e n body) (only (step_code k step)) (outline_of e (n + counters_in body) rest)
outline_of e n (While pl turns condition body rest) =
    turning (steps_code e.parts n (While pl turns condition body Done)) (globals_in_term condition) (counter_code n turns) turns (turn_of e n condition) (only (count_code n))
    (outline_of e (n + 1) body) no_pieces (outline_of e (n + 1 + counters_in body) rest)
outline_of e n (Call pl target f arguments rest) =
    calling (steps_code e.parts n (Call pl target f arguments Done)) (globals_in_terms arguments)
    (argument_code e.parts.target e.parts.global (e.parts.frame f) 0 arguments) (length arguments) f (target_code target no_pieces)
    (outline_of e n rest)

-- one by one, in all, and with marked calls
pub record OutlinesCount : Type 0 where
  pub apart_is : (e : Scene) (n at : ℕ) (steps : Steps) → apart_in e at (outline_of e n steps) ≡ apart e n at steps
  pub least_is : (e : Scene) (n at : ℕ) (steps : Steps) → least_in e at (outline_of e n steps) ≡ least e n at steps
  pub parted_is : (e : Scene) (before last : Edge) (n at : ℕ) (steps : Steps) →
      parted_in e at before last (outline_of e n steps) ≡ parted e (begins at before) last n (at + size_of before.pieces) steps
