use Rattle.std.proofs.Common.{◌≡◌, ◌<◌, ◌^◌, List, ℕ, ap, sym, ◌∙◌, arith, subst, Some}
use Rattle.prem_analysis.proofs.Prelude.{analysed_text, turns_are_words, turn_bounds, slice_get}
use Rattle.prem_analysis.proofs.Arguments.{got_some}
use Rattle.prem_analysis.proofs.Lookup.{got_none, number_got}
use Rattle.prem_analysis.proofs.analysed.Analysed.turns.Goals as goal

pub overflow_cast-result : goal.overflow_cast-result
overflow_cast-result c =
    let a = c.args.self.now in
    let p = analysed_text a in
    let n = c.args.n in
    let x = c.in-Some.turns.now in
    let l = c.in-Some.ensures.lookup in
    let some : slice_get (turn_bounds p) n ≡ Some x = ap (λ (xs : List ℕ). slice_get xs n) (sym (c.deref.ensures.value ∙ a.bounds)) ∙ got_some c.deref.result.now n x l.3.0 l.1 in
    let small : x < 2 ^ 32 = subst (λ (y : ℕ). y < 2 ^ 32) (number_got (turn_bounds p) n x some) (turns_are_words p a.well_formed a.words a.stays n) in
    omega arith

pub returns-in-Some : goal.returns-in-Some
returns-in-Some c =
    let n = c.args.n in
    let l = c.in-Some.ensures.lookup in
    sym (ap (λ (xs : List ℕ). slice_get xs n) (sym (c.deref.ensures.value ∙ c.args.self.now.bounds)) ∙ got_some c.deref.result.now n c.in-Some.turns.now l.3.0 l.1)

pub returns-in-None : goal.returns-in-None
returns-in-None c =
    let n = c.args.n in
    let l = c.in-None.ensures.lookup in
    sym (ap (λ (xs : List ℕ). slice_get xs n) (sym (c.deref.ensures.value ∙ c.args.self.now.bounds)) ∙ got_none c.deref.result.now n l.3)
