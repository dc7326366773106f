-- Outlines have the least charges of their statements.
use Rattle.std.proofs.Common.{◌≡◌, ℕ, ◌+◌, ◌*◌, min, refl, ap, ◌∙◌, arith}
use Rattle.prem_syntax.specs.Resolved.{Steps, Done, SetLocal, SetScalar, SetElement, Output, Input, If, For, While, Call}
use Rattle.prem_asm.specs.Pieces.{no_pieces, size_of, skip_words}
use Rattle.prem_layout.specs.Template.Frames.{counters_in}
use Rattle.prem_layout.specs.Template.Terms.{only, nonzero}
use Rattle.prem_layout.specs.Template.Steps.{steps_code, step_code, count_code, argument_code, target_code}
use Rattle.prem_wcet_laws.specs.Scopes.{Scene, charge, span_of}
use Rattle.prem_wcet_laws.specs.Least.{own, own_jump, own_turns, called_least, term_of, bound_code, first_code, counter_code, turn_of, taken_place, body_place, behind, apart, least}
use Rattle.prem_wcet.specs.Outlines.{coded_span, span_in, choice_by, inner_place, second_place, apart_in, least_in}
use Rattle.prem_wcet.specs.Outlined.{outline_of}
use Rattle.prem_wcet.proofs.OutlineCode.{code_is, names_are, callees_are, span_is}

-- that of a list by its code
pub single_is : (e : Scene) (n : ℕ) (steps : Steps) → coded_span (steps_code e.parts n steps) (outline_of e n steps) ≡ span_of e n steps
single_is e n steps = λ i. record { pieces = steps_code e.parts n steps; globals = names_are e n steps i; callees = callees_are e n steps i }

pub plus_none : (n : ℕ) → n + 0 ≡ n
plus_none n = omega arith

pub none_plus : (n : ℕ) → 0 + n ≡ n
none_plus n = omega arith

pub second_is : (e : Scene) (n : ℕ) (at : ℕ) (condition : _) (skips : ℕ) (taken : Steps) →
    second_place at condition (outline_of e n taken) skips ≡ taken_place at condition + size_of (steps_code e.parts n taken) + 4 * skips
second_is e n at condition skips taken = ap (λ ps. taken_place at condition + size_of ps + 4 * skips) (code_is e n taken)

pub apart_is : (e : Scene) (n at : ℕ) (steps : Steps) → apart_in e at (outline_of e n steps) ≡ apart e n at steps
apart_is e n at Done = refl
apart_is e n at (SetLocal pl k value rest) =
    let s : Steps = SetLocal pl k value Done in
    λ i. min (charge e at (single_is e n s i)) (own e (steps_code e.parts n s)) + apart_is e n (behind e n at s) rest i
apart_is e n at (SetScalar pl g ty value rest) =
    let s : Steps = SetScalar pl g ty value Done in
    λ i. min (charge e at (single_is e n s i)) (own e (steps_code e.parts n s)) + apart_is e n (behind e n at s) rest i
apart_is e n at (SetElement pl g ty index value rest) =
    let s : Steps = SetElement pl g ty index value Done in
    λ i. min (charge e at (single_is e n s i)) (own e (steps_code e.parts n s)) + apart_is e n (behind e n at s) rest i
apart_is e n at (Output pl value rest) =
    let s : Steps = Output pl value Done in
    λ i. min (charge e at (single_is e n s i)) (own e (steps_code e.parts n s)) + apart_is e n (behind e n at s) rest i
apart_is e n at (Input pl k rest) =
    let s : Steps = Input pl k Done in
    λ i. min (charge e at (single_is e n s i)) (own e (steps_code e.parts n s)) + apart_is e n (behind e n at s) rest i
apart_is e n at (If pl condition taken other rest) =
    let s : Steps = If pl condition taken other Done in
    let m : ℕ = n + counters_in taken in
    let skips : ℕ = skip_words (steps_code e.parts m other) in
    let first : ℕ = taken_place at (term_of e 10 condition) in
    let place = second_is e n at (term_of e 10 condition) skips taken in
    let second = apart_is e m (second_place at (term_of e 10 condition) (outline_of e n taken) skips) other ∙ ap (λ p. apart e m p other) place in
    λ i.
    min (charge e at (single_is e n s i))
    (own e (term_of e 10 condition)
    + choice_by e skips (min (charge e first (span_is e n taken i)) (apart_is e n first taken i)) (min (charge e (place i) (span_is e m other i)) (second i)))
    + apart_is e (m + counters_in other) (behind e n at s) rest i
apart_is e n at (For pl k low closed high step turns body rest) =
    let s : Steps = For pl k low closed high step turns body Done in
    let there : ℕ = body_place at (first_code e k low) (bound_code e k high) in
    let place : inner_place at (first_code e k low) (bound_code e k high) no_pieces ≡ there = plus_none there in
    let here : ℕ = inner_place at (first_code e k low) (bound_code e k high) no_pieces in
    let inside = apart_is e n here body ∙ ap (λ p. apart e n p body) place in
    let all : 0 + min (charge e here (span_in (outline_of e n body))) (apart_in e here (outline_of e n body)) ≡ min (charge e there (span_of e n body)) (apart e n there body) =
    none_plus (min (charge e here (span_in (outline_of e n body))) (apart_in e here (outline_of e n body))) ∙ (λ i. min (charge e (place i) (span_is e n body i)) (inside i)) in
    λ i.
    min (charge e at (single_is e n s i))
    (own e (first_code e k low) + own_turns e turns (nonzero 10) (own e (bound_code e k high)) (all i + own e (only (step_code k step))))
    + apart_is e (n + counters_in body) (behind e n at s) rest i
apart_is e n at (While pl turns condition body rest) =
    let s : Steps = While pl turns condition body Done in
    let there : ℕ = body_place at (counter_code n turns) (turn_of e n condition) + 12 in
    let count : ℕ = own e (only (count_code n)) in
    let inside : min (charge e there (span_in (outline_of e (n + 1) body))) (apart_in e there (outline_of e (n + 1) body))
    ≡ min (charge e there (span_of e (n + 1) body)) (apart e (n + 1) there body) =
    λ i. min (charge e there (span_is e (n + 1) body i)) (apart_is e (n + 1) there body i) in
    let all = plus_none (count + min (charge e there (span_in (outline_of e (n + 1) body))) (apart_in e there (outline_of e (n + 1) body))) ∙ ap (λ x. count + x) inside in
    λ i.
    min (charge e at (single_is e n s i)) (own e (counter_code n turns) + own_turns e turns (nonzero 10) (own e (turn_of e n condition)) (all i))
    + apart_is e (n + 1 + counters_in body) (behind e n at s) rest i
apart_is e n at (Call pl target f arguments rest) =
    let s : Steps = Call pl target f arguments Done in
    λ i.
    min (charge e at (single_is e n s i)) (own e (argument_code e.parts.target e.parts.global (e.parts.frame f) 0 arguments) + own_jump e + called_least e f + own e (target_code target no_pieces))
    + apart_is e n (behind e n at s) rest i

pub least_is : (e : Scene) (n at : ℕ) (steps : Steps) → least_in e at (outline_of e n steps) ≡ least e n at steps
least_is e n at steps = λ i. min (charge e at (span_is e n steps i)) (apart_is e n at steps i)
