-- The code of a function in memory is that of the function for which it stands.
use Rattle.std.specs.Prelude.{nat_lt, if◌then◌else◌}
use Rattle.std.specs.Option.{option_map}
use Rattle.std.proofs.Common.{◌≡◌, ℕ, ◌+◌, ◌<◌, ◌≤◌, refl, ap, ◌∙◌, sym, arith, map, length, min, true, false, subst, Option, None, Some}
use Rattle.std.proofs.lemmas.List.{length-map}
use Rattle.std.proofs.lemmas.Bool.{lt-ltb, le-ltb}
use Rattle.prem_list.specs.Sequence.{items_of}
use Rattle.prem_line.specs.declared.failing.Failing.TheVariants as term
use Rattle.prem_syntax.specs.declared.tree.Place.{Place}
use Rattle.prem_syntax.specs.SyntaxOf.{parameter_of}
use Rattle.prem_syntax.specs.Resolved.{Done}
use Rattle.prem_tree.specs.declared.resolve.resolved.Routine.{Routine}
use Rattle.prem_tree.specs.Resolve.ResolvedOf.{term_of, routine_of, step_before}
use Rattle.prem_asm.specs.Pieces.{straight, followed}
use Rattle.prem_layout.specs.Template.Terms.{only}
use Rattle.prem_layout.specs.Template.Frames.{frame_of}
use Rattle.prem_layout.specs.Template.Steps.{Parts, opening, closing, declare_code, steps_code, result_code, function_code}
use Rattle.prem_layout.specs.Template.Limits.{first_of, too_deep_among, too_deep_result, too_deep_function, frame, depth, greatest_frame, deep_excess, excess_of}
use Rattle.prem_gen.specs.Term.Deep.{TermFail, TooDeep}
use Rattle.prem_gen.specs.declared.term.fail.GenFail.{GenFail}
use Rattle.prem_gen.specs.declared.term.fail.GenFail.TheVariants.{Frame, Depth, OutOfMemory}
use Rattle.prem_gen.specs.Term.Excess.{Exceeds, gen_fail}
use Rattle.prem_gen.specs.Routine.RoutineCode.{params_in, locals_in, routine_code, routine_deep}
use Rattle.prem_gen.specs.Frame.FrameOf.{most, frame_bytes}
use Rattle.prem_gen.specs.Routine.FrameOf.{slots_in}
use Rattle.prem_gen.proofs.RoutineLemmas.Before.{code_alone, deep_alone}
use Rattle.prem_gen.proofs.FrameLemmas.Limited.{frame_small, frame_big}
use Rattle.prem_gen.proofs.RoutineLemmas.Counts.{slots_are}

pub frame_is : (turns : ℕ → ℕ) (m : ℕ) (r : Routine) → frame_of (routine_of turns m r) ≡ frame_bytes (slots_in r)
frame_is turns m r = ap frame_bytes (slots_are turns m r)

pub whole_code : (parts : Parts) (turns : ℕ → ℕ) (m : ℕ) (r : Routine) → routine_code parts turns m (frame_bytes (slots_in r)) r ≡ function_code parts (routine_of turns m r)
whole_code parts turns m r =
    let params : length (map parameter_of (items_of r.text.now.params)) ≡ params_in r = length-map (items_of r.text.now.params) parameter_of in
    let locals : length (map term_of (items_of r.locals)) ≡ length (items_of r.locals) = length-map (items_of r.locals) term_of in
    let slots : length (map parameter_of (items_of r.text.now.params)) + length (map term_of (items_of r.locals)) ≡ locals_in r = omega (arith, params, locals) in
    let f = frame_of (routine_of turns m r) in
    sym
    (ap (λ k. straight (opening f) (followed (declare_code parts.target parts.global k (map term_of (items_of r.locals)))
    (followed (steps_code parts (length (map parameter_of (items_of r.text.now.params)) + length (map term_of (items_of r.locals))) (step_before turns m r.body Done))
    (followed (result_code parts.target parts.global (option_map term_of r.result)) (only (closing f)))))) params
    ∙ ap (λ k. straight (opening f) (followed (declare_code parts.target parts.global (params_in r) (map term_of (items_of r.locals)))
    (followed (steps_code parts k (step_before turns m r.body Done))
    (followed (result_code parts.target parts.global (option_map term_of r.result)) (only (closing f)))))) slots
    ∙ ap (λ p. straight (opening f) (followed (declare_code parts.target parts.global (params_in r) (map term_of (items_of r.locals)))
    (followed p (followed (result_code parts.target parts.global (option_map term_of r.result)) (only (closing f)))))) (code_alone parts turns (locals_in r) m r.body)
    ∙ ap (λ k. routine_code parts turns m k r) (frame_is turns m r))

whole_deep : (turns : ℕ → ℕ) (m : ℕ) (r : Routine) → routine_deep r ≡ too_deep_function (routine_of turns m r)
whole_deep turns m r =
    ap (λ o. first_of (too_deep_among (map term_of (items_of r.locals))) (first_of o (too_deep_result (option_map term_of r.result)))) (sym (deep_alone turns m r.body))

-- ---- what exceeds its limit

pub frame_exceeds : (n : ℕ) (turns : ℕ → ℕ) (m : ℕ) (r : Routine) → 2032 < frame_bytes (min (slots_in r) most) → excess_of n (routine_of turns m r) ≡ Some (frame n)
frame_exceeds n turns m r h =
    let big : 2032 < frame_of (routine_of turns m r) = subst (λ k. 2032 < k) (sym (frame_is turns m r)) (frame_big (slots_in r) h) in
    let test : nat_lt greatest_frame (frame_of (routine_of turns m r)) ≡ true = lt-ltb 2032 (frame_of (routine_of turns m r)) big in
    ap (λ b. if b then Some (frame n) else deep_excess (too_deep_function (routine_of turns m r))) test

pub frame_fits : (n : ℕ) (turns : ℕ → ℕ) (m : ℕ) (r : Routine) → frame_bytes (min (slots_in r) most) ≤ 2032 → excess_of n (routine_of turns m r) ≡ deep_excess (routine_deep r)
frame_fits n turns m r h =
    let small : frame_of (routine_of turns m r) ≤ 2032 = subst (λ k. k ≤ 2032) (sym (frame_is turns m r ∙ sym (frame_small (slots_in r) h).1)) h in
    let test : nat_lt greatest_frame (frame_of (routine_of turns m r)) ≡ false = le-ltb 2032 (frame_of (routine_of turns m r)) small in
    ap (λ b. if b then Some (frame n) else deep_excess (too_deep_function (routine_of turns m r))) test
    ∙ ap deep_excess (sym (whole_deep turns m r))

pub no_excess : (found : Option Place) → found ≡ None → deep_excess found ≡ None
no_excess found e = ap deep_excess e

abbrev line_in : GenFail → ℕ
line_in (Depth line) = line
line_in _ = 0

abbrev kind_in : GenFail → ℕ
kind_in (Frame f) = 0
kind_in (Depth line) = 1
kind_in OutOfMemory = 2

pub deep_is_excess : (e : TermFail) (found : Option Place) → TooDeep e found → Exceeds (gen_fail e) (deep_excess found)
deep_is_excess (term.Refused at) found h = record {
  by_frame = λ f is. absurd (let k = ap kind_in is in omega (arith, k));
  by_depth = λ line is. ap deep_excess (h.at_place at refl) ∙ ap (λ k. Some (depth k)) (ap line_in is);
}
deep_is_excess term.OutOfMemory found h = record {
  by_frame = λ f is. absurd (let k = ap kind_in is in omega (arith, k));
  by_depth = λ line is. absurd (let k = ap kind_in is in omega (arith, k));
}
