-- Functions with marked calls run in scopes and marked calls, charged no more than their parted charge.
use Rattle.std.proofs.Common.{◌≡◌, ℕ, ◌+◌, ◌*◌, ◌%◌, ◌^◌, ◌<◌, refl, ◌∙◌, sym, subst, arith, length}
use Rattle.prem_wcet_laws.proofs.Prelude.{words-followed, straight, followed, words, size_of, Falls, run, then_ok, number_same, locals_of, slots_of, frame_of, Parts, opening, closing}
use Rattle.prem_wcet_laws.proofs.Prelude.{declare_code, result_code, steps_code, function_code, only, calls_below, ProgramState, declare, result_of, declared as declared_code, entry}
use Rattle.prem_wcet_laws.proofs.Prelude.{leaving, FunctionsCourse}
use Rattle.prem_syntax.specs.Statements.{run as run_source}
use Rattle.prem_wcet_laws.proofs.Edges.{entered}
use Rattle.prem_wcet_laws.proofs.PartedRuns.{Here, tail, fresh}
use Rattle.prem_wcet_laws.proofs.Passages.{entry_goes, leaving_goes}
use Rattle.prem_wcet_laws.specs.PartedLaws.{is_marked}

pub functions_course : FunctionsCourse
functions_course e s gs parts cs every phase c routines total_functions st may limits calls k marked mixed f at depth under fit slots_is space ws q t
    back word after len args b two top_small one back_al back_small is =
    let source = calls_below limits routines total_functions in
    let ground = mixed.works.ground in
    let p0 : ProgramState = record q { locals = ws } in
    let x = then_ok (declare may f.locals p0) _ (word, after) is in
    let y = then_ok (run_source may source f.body x.0) _ (word, after) x.1.1 in
    let z = then_ok (result_of may f.result y.0) _ (word, after) y.1.1 in
    let entering = entered s calls gs may k ground phase f at back ws q x.0 t slots_is fit.locals len args b two top_small one back_small x.1.0 in
    let goes : run s calls at (entry e f).pieces t ≡ Falls entering.to entering.trace =
    subst (λ (q : Parts). run s calls at (straight (opening (frame_of f)) (declare_code q.target q.global (length f.text.params) f.locals)) t
    ≡ Falls entering.to entering.trace) (sym st.parts_are) entering.goes in
    let at2 = at + size_of (entry e f).pieces in
    let dp = declared_code e f in
    let bp = steps_code e.parts (locals_of f) f.body in
    let rp = result_code e.parts.target e.parts.global f.result in
    let cp = only (closing (frame_of f)) in
    let s1 = words-followed dp (followed bp (followed rp cp)) in
    let s2 = words-followed bp (followed rp cp) in
    let size : at + size_of (function_code e.parts f) < 2 ^ 32 = subst (λ q. at + size_of (function_code q f) < 2 ^ 32) (sym st.parts_are) fit.ends in
    let at_al : at % 4 ≡ 0 = fit.placed in
    let same_slots : k.slots ≡ slots_of f = slots_is in
    let here : Here e s gs parts cs every phase c routines total_functions st may limits calls k (is_marked marked) mixed (locals_of f) under space
    (locals_of f) at2 f.body entering.to x.0 y.0 = record {
      slots = omega arith;
      room = omega arith;
      aligned = placed at (words dp) at_al;
      size = fitting at (words dp) (words bp) (words (followed rp cp)) _ _ s1 s2 size;
      fit = fit.body;
      matches = entering.matches;
      runs = y.1.0;
    } in
    let tailed = tail e s gs parts cs every phase c routines total_functions st may limits calls k (is_marked marked) mixed (locals_of f)
    under space f.body (locals_of f) at2 (leaving e f) entering.to x.0 y.0 here
    (λ u m home. leaving_goes s gs parts cs e st.parts_are may k ground phase f _ back z.0 u y.0 slots_is fit.result m z.1.0
    (number_same u.view entering.to.view 4 k.sp (λ a le lt. home a le lt) ∙ entering.home) top_small back_al back_small) in
    fresh e s gs parts cs every phase c routines total_functions st may limits calls k (is_marked marked) mixed (locals_of f) under space at (entry e f) t entering.to entering.trace
    (entry_goes s gs parts cs e st.parts_are may k ground phase f at back ws q x.0 t slots_is fit.locals len args b two top_small one back_small
    x.1.0) goes (leaving e f) (locals_of f) at2 f.body x.0 refl tailed where
      placed : (a d : ℕ) → a % 4 ≡ 0 → (a + 4 * (2 + d)) % 4 ≡ 0
      placed a d e = omega (arith, e)

      fitting : (a d b r w v : ℕ) → w ≡ d + v → v ≡ b + r → a + 4 * (2 + w) < 2 ^ 32 → a + 4 * (2 + d) + 4 * b < 2 ^ 32
      fitting a d b r w v e f lt = omega (arith, e, f, lt)
