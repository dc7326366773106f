-- What is cut out of the code of statements is their outline.
use Rattle.std.proofs.Common.{◌≡◌, ℕ, ◌+◌, ◌-◌, List, [], ◌∷◌, ◌++◌, length, Option, None, Some, refl, ap, sym, ◌∙◌, arith}
use Rattle.prem_plant.specs.declared.plant.Target.{Target}
use Rattle.prem_plant.specs.declared.plant.Target.TheVariants.{Rv32i, Rv32im}
use Rattle.std.specs.Prelude.{pos}
use Rattle.prem_isa.specs.declared.instr.Instr.TheVariants.{OpImm}
use Rattle.prem_isa.specs.declared.instr.AluOp.TheVariants.{Add as AddI}
use Rattle.prem_word.specs.declared.kind.Kind.{Kind}
use Rattle.prem_word.specs.declared.kind.Kind.TheVariants.{Int, Unsigned}
use Rattle.prem_word.specs.declared.kind.BinOp.{BinOp}
use Rattle.prem_word.specs.declared.kind.BinOp.TheVariants.{Add, Sub, Mul, Div, Rem, Shl, Shr, Lt, Le, Gt, Ge, Eq, Ne, And, Xor, Or, AndAlso as AndAlsoOp, OrElse as OrElseOp}
use Rattle.prem_syntax.specs.Resolved.{Term, Constant, Local, Scalar, Element, Unary, Binary, AndAlso, OrElse, Steps, Done, SetLocal, SetScalar, SetElement, Output, Input, If, For, While, Call}
use Rattle.prem_asm.specs.Pieces.{Pieces, no_pieces, straight, address_of, either, repeat, call_to, followed, skip_words}
use Rattle.prem_asm.proofs.Rows.{followed_append, followed_none}
use Rattle.prem_layout.specs.Template.Terms.{only, binary_code, element_code, unary_code, truth_code, nonzero, term_code}
use Rattle.prem_layout.specs.Template.Frames.{counters_in}
use Rattle.prem_layout.specs.Template.Steps.{store_slot, scalar_store, element_store, bound_test, step_code, count_code, argument_code, target_code, store_argument, steps_code}
use Rattle.prem_wcet_laws.specs.Scopes.{Scene, globals_in_term, globals_in_terms}
use Rattle.prem_wcet_laws.specs.Least.{term_of, bound_code, first_code, counter_code, turn_of}
use Rattle.prem_wcet.specs.Outlines.{Outline, plain, calling, choice, turning, code_of}
use Rattle.prem_wcet.specs.Outlined.{outline_of}
use Rattle.prem_wcet.specs.Sliced.{tail_of, behind_pieces, spine, first_pieces, before_pieces, first_side, second_side, turns_in, head_in, body_in, operator_pieces, behind_term}
use Rattle.prem_wcet.specs.Sliced.{behind_terms, behind_target, behind_steps, sliced, SlicesAreOutlines}
use Rattle.prem_wcet.proofs.OutlineCode.{code_is}

-- ---- what stands before others

spine_followed : (p q : Pieces) → spine (followed p q) ≡ spine p + spine q
spine_followed no_pieces q = omega arith
spine_followed (straight code rest) q = omega (arith, spine_followed rest q)
spine_followed (address_of rd part more rest) q = omega (arith, spine_followed rest q)
spine_followed (either test taken other rest) q = omega (arith, spine_followed rest q)
spine_followed (repeat turns head test body rest) q = omega (arith, spine_followed rest q)
spine_followed (call_to link part rest) q = omega (arith, spine_followed rest q)

first_followed : (p q : Pieces) → first_pieces (spine p) (followed p q) ≡ p
first_followed no_pieces q = refl
first_followed (straight code rest) q = ap (straight code) (first_followed rest q)
first_followed (address_of rd part more rest) q = ap (address_of rd part more) (first_followed rest q)
first_followed (either test taken other rest) q = ap (either test taken other) (first_followed rest q)
first_followed (repeat turns head test body rest) q = ap (repeat turns head test body) (first_followed rest q)
first_followed (call_to link part rest) q = ap (call_to link part) (first_followed rest q)

before_followed : (p q : Pieces) → before_pieces (followed p q) q ≡ p
before_followed p q = let e : spine (followed p q) - spine q ≡ spine p = omega (arith, spine_followed p q) in ap (λ n. first_pieces n (followed p q)) e ∙ first_followed p q

-- the same where others are told to be the last ones
pub before_is : (all last p : Pieces) → all ≡ followed p last → before_pieces all last ≡ p
before_is all last p e = ap (λ ps. before_pieces ps last) e ∙ before_followed p last

-- ---- behind terms

operator_behind : (target : Target) (op : BinOp) (kind : Kind) (r s : ℕ) (q : Pieces) → behind_pieces (operator_pieces target op) (followed (binary_code target op kind r s) q) ≡ q
operator_behind target Add kind r s q = refl
operator_behind target Sub kind r s q = refl
operator_behind Rv32i Mul kind r s q = refl
operator_behind Rv32im Mul kind r s q = refl
operator_behind Rv32i Div Int r s q = refl
operator_behind Rv32i Div Unsigned r s q = refl
operator_behind Rv32im Div kind r s q = refl
operator_behind Rv32i Rem Int r s q = refl
operator_behind Rv32i Rem Unsigned r s q = refl
operator_behind Rv32im Rem kind r s q = refl
operator_behind target Shl kind r s q = refl
operator_behind target Shr kind r s q = refl
operator_behind target Lt kind r s q = refl
operator_behind target Le kind r s q = refl
operator_behind target Gt kind r s q = refl
operator_behind target Ge kind r s q = refl
operator_behind target Eq kind r s q = refl
operator_behind target Ne kind r s q = refl
operator_behind target And kind r s q = refl
operator_behind target Xor kind r s q = refl
operator_behind target Or kind r s q = refl
operator_behind target AndAlsoOp kind r s q = refl
operator_behind target OrElseOp kind r s q = refl

pub term_behind : (target : Target) (parts : ℕ → ℕ) (r : ℕ) (x : Term) (q : Pieces) → behind_term target x (followed (term_code target parts r x) q) ≡ q
term_behind target parts r (Constant at word kind) q = refl
term_behind target parts r (Local at number kind) q = refl
term_behind target parts r (Scalar at global ty) q = refl
term_behind target parts r (Element at global ty index) q =
    ap (λ ps. behind_pieces 3 (behind_term target index ps)) (followed_append (term_code target parts r index) (element_code (parts global) ty r) q)
    ∙ ap (behind_pieces 3) (term_behind target parts r index (followed (element_code (parts global) ty r) q))
term_behind target parts r (Unary at op operand) q =
    ap (λ ps. tail_of (behind_term target operand ps)) (followed_append (term_code target parts r operand) (only (unary_code op r)) q)
    ∙ ap tail_of (term_behind target parts r operand (followed (only (unary_code op r)) q))
term_behind target parts r (Binary at op kind left right) q =
    let code : Pieces = binary_code target op kind r (r + 1) in
    let second : Pieces = followed (term_code target parts (r + 1) right) code in
    ap (λ ps. behind_pieces (operator_pieces target op) (behind_term target right (behind_term target left ps))) (followed_append (term_code target parts r left) second q)
    ∙ ap (λ ps. behind_pieces (operator_pieces target op) (behind_term target right ps))
    (term_behind target parts r left (followed second q) ∙ followed_append (term_code target parts (r + 1) right) code q)
    ∙ ap (behind_pieces (operator_pieces target op)) (term_behind target parts (r + 1) right (followed code q))
    ∙ operator_behind target op kind r (r + 1) q
term_behind target parts r (AndAlso at left right) q =
    let code : Pieces = either (nonzero r) (followed (term_code target parts r right) (only (truth_code r))) no_pieces no_pieces in
    ap (λ ps. tail_of (behind_term target left ps)) (followed_append (term_code target parts r left) code q) ∙ ap tail_of (term_behind target parts r left (followed code q))
term_behind target parts r (OrElse at left right) q =
    ap (λ ps. tail_of (behind_term target left ps))
    (followed_append (term_code target parts r left)
    (either (nonzero r) (only (OpImm AddI r 0 (pos 1) ∷ [])) (followed (term_code target parts r right) (only (truth_code r))) no_pieces) q)
    ∙ ap tail_of (term_behind target parts r left (either (nonzero r) (only (OpImm AddI r 0 (pos 1) ∷ [])) (followed (term_code target parts r right) (only (truth_code r))) q))

pub terms_behind : (target : Target) (parts : ℕ → ℕ) (frame j : ℕ) (xs : List Term) (q : Pieces) → behind_terms target xs (followed (argument_code target parts frame j xs) q) ≡ q
terms_behind target parts frame j [] q = refl
terms_behind target parts frame j (x ∷ xs) q =
    let stored : Pieces = straight (store_argument frame j ∷ []) (argument_code target parts frame (j + 1) xs) in
    ap (λ ps. behind_terms target xs (tail_of (behind_term target x ps))) (followed_append (term_code target parts 10 x) stored q)
    ∙ ap (λ ps. behind_terms target xs (tail_of ps)) (term_behind target parts 10 x (followed stored q))
    ∙ terms_behind target parts frame (j + 1) xs q

target_behind : (to : Option ℕ) (q : Pieces) → behind_target to (followed (target_code to no_pieces) q) ≡ q
target_behind None q = refl
target_behind (Some k) q = refl

-- ---- behind one statement

module _ (e : Scene) where
  -- the code of a statement before others
  whole_is : (one all rest last : Pieces) → all ≡ followed one rest → followed all last ≡ followed one (followed rest last)
  whole_is one all rest last is = ap (λ ps. followed ps last) is ∙ followed_append one rest last

  -- a term, and what stands behind it
  after_term : (r : ℕ) (x : Term) (p q : Pieces) → behind_term e.parts.target x (followed (followed (term_of e r x) p) q) ≡ followed p q
  after_term r x p q = ap (behind_term e.parts.target x) (followed_append (term_of e r x) p q) ∙ term_behind e.parts.target e.parts.global r x (followed p q)

  element_behind : (n : ℕ) (pl : _) (g : ℕ) (ty : _) (index value : Term) (q : Pieces) →
      behind_pieces 3 (behind_term e.parts.target index (behind_term e.parts.target value (followed (steps_code e.parts n (SetElement pl g ty index value Done)) q))) ≡ q
  element_behind n pl g ty index value q =
      ap (λ ps. behind_pieces 3 (behind_term e.parts.target index ps)) (after_term 10 value (followed (term_of e 11 index) (element_store (e.parts.global g) ty no_pieces)) q)
      ∙ ap (behind_pieces 3) (after_term 11 index (element_store (e.parts.global g) ty no_pieces) q)

  call_behind : (n : ℕ) (pl : _) (to : Option ℕ) (f : ℕ) (arguments : List Term) (q : Pieces) →
      behind_terms e.parts.target arguments (followed (steps_code e.parts n (Call pl to f arguments Done)) q) ≡ call_to (e.parts.link f) (e.parts.callee f) (followed (target_code to no_pieces) q)
  call_behind n pl to f arguments q =
      ap (behind_terms e.parts.target arguments) (followed_append (argument_code e.parts.target e.parts.global (e.parts.frame f) 0 arguments) _ q)
      ∙ terms_behind e.parts.target e.parts.global (e.parts.frame f) 0 arguments _

  -- ---- behind statements

  -- what stands behind a statement
  split_is : (n m : ℕ) (one all rest : Steps) → followed (steps_code e.parts n one) (code_of (outline_of e m rest)) ≡ steps_code e.parts n all →
      steps_code e.parts n all ≡ followed (steps_code e.parts n one) (steps_code e.parts m rest)
  split_is n m one all rest is = sym is ∙ ap (followed (steps_code e.parts n one)) (code_is e m rest)

  pub steps_behind : (n : ℕ) (steps : Steps) (last : Pieces) → behind_steps e.parts.target steps (followed (steps_code e.parts n steps) last) ≡ last
  steps_behind n Done last = refl
  steps_behind n (SetLocal pl k value rest) last =
      ap (λ ps. behind_steps e.parts.target rest (tail_of ps)) (after_term 10 value (straight (store_slot k ∷ []) (steps_code e.parts n rest)) last) ∙ steps_behind n rest last
  steps_behind n (SetScalar pl g ty value rest) last =
      ap (λ ps. behind_steps e.parts.target rest (behind_pieces 2 ps)) (after_term 10 value (scalar_store (e.parts.global g) ty (steps_code e.parts n rest)) last) ∙ steps_behind n rest last
  steps_behind n (SetElement pl g ty index value rest) last =
      ap (λ ps. behind_steps e.parts.target rest (behind_pieces 3 (behind_term e.parts.target index ps)))
      (after_term 10 value (followed (term_of e 11 index) (element_store (e.parts.global g) ty (steps_code e.parts n rest))) last)
      ∙ ap (λ ps. behind_steps e.parts.target rest (behind_pieces 3 ps)) (after_term 11 index (element_store (e.parts.global g) ty (steps_code e.parts n rest)) last)
      ∙ steps_behind n rest last
  steps_behind n (Output pl value rest) last =
      ap (λ ps. behind_steps e.parts.target rest (tail_of ps)) (after_term 10 value _ last) ∙ steps_behind n rest last
  steps_behind n (Input pl k rest) last = steps_behind n rest last
  steps_behind n (If pl condition taken other rest) last =
      ap (λ ps. behind_steps e.parts.target rest (tail_of ps)) (after_term 10 condition _ last) ∙ steps_behind (n + counters_in taken + counters_in other) rest last
  steps_behind n (For pl k low closed high step turns body rest) last =
      ap (λ ps. behind_steps e.parts.target rest (behind_pieces 2 ps)) (after_term 10 low _ last) ∙ steps_behind (n + counters_in body) rest last
  steps_behind n (While pl turns condition body rest) last = steps_behind (n + 1 + counters_in body) rest last
  steps_behind n (Call pl to f arguments rest) last =
      ap (λ ps. behind_steps e.parts.target rest (behind_target to (tail_of ps)))
      (ap (behind_terms e.parts.target arguments) (followed_append (argument_code e.parts.target e.parts.global (e.parts.frame f) 0 arguments) _ last)
      ∙ terms_behind e.parts.target e.parts.global (e.parts.frame f) 0 arguments _)
      ∙ ap (behind_steps e.parts.target rest) (landed to (steps_code e.parts n rest) last)
      ∙ steps_behind n rest last
    where
      landed : (to : Option ℕ) (p q : Pieces) → behind_target to (followed (target_code to p) q) ≡ followed p q
      landed None p q = refl
      landed (Some k) p q = refl

  -- ---- outlines

  -- one statement that has no others inside, behind which others stand
  plain_is : (names : List ℕ) (rest : Steps) (o : Outline) (all one left behind : Pieces) → all ≡ followed one left → behind ≡ left → sliced e.parts.target rest left ≡ o →
      plain (before_pieces all behind) names (sliced e.parts.target rest behind) ≡ plain one names o
  plain_is names rest o all one left behind is there same =
      ap (λ ps. plain (before_pieces all ps) names (sliced e.parts.target rest ps)) there ∙ (λ i. plain (before_is all left one is i) names (same i))

  pub slices_are : (n : ℕ) (steps : Steps) (last : Pieces) → sliced e.parts.target steps (followed (steps_code e.parts n steps) last) ≡ outline_of e n steps
  slices_are n Done last = refl
  slices_are n (SetLocal pl k value rest) last =
      let s : Steps = SetLocal pl k value Done in
      let is = whole_is (steps_code e.parts n s) (steps_code e.parts n (SetLocal pl k value rest)) (steps_code e.parts n rest) last
      (split_is n n s (SetLocal pl k value rest) rest (code_is e n (SetLocal pl k value rest))) in
      plain_is (globals_in_term value) rest (outline_of e n rest) _ (steps_code e.parts n s) (followed (steps_code e.parts n rest) last) _ is
      (ap tail_of (after_term 10 value _ last)) (slices_are n rest last)
  slices_are n (SetScalar pl g ty value rest) last =
      let s : Steps = SetScalar pl g ty value Done in
      let is = whole_is (steps_code e.parts n s) (steps_code e.parts n (SetScalar pl g ty value rest)) (steps_code e.parts n rest) last
      (split_is n n s (SetScalar pl g ty value rest) rest (code_is e n (SetScalar pl g ty value rest))) in
      plain_is (g ∷ globals_in_term value) rest (outline_of e n rest) _ (steps_code e.parts n s) (followed (steps_code e.parts n rest) last) _ is
      (ap (behind_pieces 2) (after_term 10 value _ last)) (slices_are n rest last)
  slices_are n (SetElement pl g ty index value rest) last =
      let s : Steps = SetElement pl g ty index value Done in
      let is = whole_is (steps_code e.parts n s) (steps_code e.parts n (SetElement pl g ty index value rest)) (steps_code e.parts n rest) last
      (split_is n n s (SetElement pl g ty index value rest) rest (code_is e n (SetElement pl g ty index value rest))) in
      plain_is (g ∷ (globals_in_term index ++ globals_in_term value)) rest (outline_of e n rest) _ (steps_code e.parts n s) (followed (steps_code e.parts n rest) last) _ is
      (ap (λ ps. behind_pieces 3 (behind_term e.parts.target index (behind_term e.parts.target value ps))) is ∙ element_behind n pl g ty index value (followed (steps_code e.parts n rest) last))
      (slices_are n rest last)
  slices_are n (Output pl value rest) last =
      let s : Steps = Output pl value Done in
      let is = whole_is (steps_code e.parts n s) (steps_code e.parts n (Output pl value rest)) (steps_code e.parts n rest) last
      (split_is n n s (Output pl value rest) rest (code_is e n (Output pl value rest))) in
      plain_is (globals_in_term value) rest (outline_of e n rest) _ (steps_code e.parts n s) (followed (steps_code e.parts n rest) last) _ is
      (ap tail_of (after_term 10 value _ last)) (slices_are n rest last)
  slices_are n (Input pl k rest) last =
      let s : Steps = Input pl k Done in
      plain_is [] rest (outline_of e n rest) _ (steps_code e.parts n s) (followed (steps_code e.parts n rest) last) _ refl refl (slices_are n rest last)
  slices_are n (If pl condition taken other rest) last =
      let s : Steps = If pl condition taken other Done in
      let m : ℕ = n + counters_in taken in
      let l : ℕ = m + counters_in other in
      let one : Pieces = steps_code e.parts n taken in
      let two : Pieces = steps_code e.parts m other in
      let left : Pieces = followed (steps_code e.parts l rest) last in
      let all : Pieces = followed (steps_code e.parts n (If pl condition taken other rest)) last in
      let is = whole_is (steps_code e.parts n s) (steps_code e.parts n (If pl condition taken other rest)) (steps_code e.parts l rest) last
      (split_is n l s (If pl condition taken other rest) rest (code_is e n (If pl condition taken other rest))) in
      let there : behind_term e.parts.target condition all ≡ either (nonzero 10) one two left = after_term 10 condition _ last in
      ap (λ ps. choice (before_pieces all (tail_of ps)) (globals_in_term condition) (before_pieces all ps) (skip_words (second_side ps))
      (sliced e.parts.target taken (first_side ps)) (sliced e.parts.target other (second_side ps)) (sliced e.parts.target rest (tail_of ps))) there
      ∙ (λ i.
      choice (before_is all left (steps_code e.parts n s) is i) (globals_in_term condition)
      (before_is all (either (nonzero 10) one two left) (term_of e 10 condition) (followed_append (term_of e 10 condition) _ last) i) (skip_words two)
      ((ap (sliced e.parts.target taken) (sym (followed_none one)) ∙ slices_are n taken no_pieces) i) ((ap (sliced e.parts.target other) (sym (followed_none two)) ∙ slices_are m other no_pieces) i)
      (slices_are l rest last i))
  slices_are n (For pl k low closed high step turns body rest) last =
      let s : Steps = For pl k low closed high step turns body Done in
      let m : ℕ = n + counters_in body in
      let left : Pieces = followed (steps_code e.parts m rest) last in
      let all : Pieces = followed (steps_code e.parts n (For pl k low closed high step turns body rest)) last in
      let inner : Pieces = followed (steps_code e.parts n body) (only (step_code k step)) in
      let loop : Pieces = repeat turns (bound_code e k high) (bound_test closed) inner left in
      let is = whole_is (steps_code e.parts n s) (steps_code e.parts n (For pl k low closed high step turns body rest)) (steps_code e.parts m rest) last
      (split_is n m s (For pl k low closed high step turns body rest) rest (code_is e n (For pl k low closed high step turns body rest))) in
      let there : behind_term e.parts.target low all ≡ straight (store_slot k ∷ []) loop = after_term 10 low _ last in
      ap (λ ps. turning (before_pieces all (behind_pieces 2 ps)) (globals_in_term low ++ globals_in_term high) (before_pieces all (tail_of ps))
      (turns_in (tail_of ps)) (head_in (tail_of ps)) (before_pieces (body_in (tail_of ps)) (body_in (tail_of ps)))
      (sliced e.parts.target body (body_in (tail_of ps))) (behind_steps e.parts.target body (body_in (tail_of ps))) (sliced e.parts.target rest (behind_pieces 2 ps))) there
      ∙ (λ i.
      turning (before_is all left (steps_code e.parts n s) is i) (globals_in_term low ++ globals_in_term high)
      (before_is all loop (first_code e k low) (followed_append (term_of e 10 low) _ last ∙ sym (followed_append (term_of e 10 low) (only (store_slot k ∷ [])) loop)) i)
      turns (bound_code e k high) (before_is inner inner no_pieces refl i) (slices_are n body (only (step_code k step)) i) (steps_behind n body (only (step_code k step)) i) (slices_are m rest last i))
  slices_are n (While pl turns condition body rest) last =
      let s : Steps = While pl turns condition body Done in
      let m : ℕ = n + 1 + counters_in body in
      let left : Pieces = followed (steps_code e.parts m rest) last in
      let all : Pieces = followed (steps_code e.parts n (While pl turns condition body rest)) last in
      let inner : Pieces = steps_code e.parts (n + 1) body in
      let loop : Pieces = repeat turns (turn_of e n condition) (nonzero 10) (straight (count_code n) inner) left in
      λ i.
      turning (before_is all left (steps_code e.parts n s) refl i) (globals_in_term condition) (before_is all loop (counter_code n turns) refl i) turns (turn_of e n condition)
      (before_is (straight (count_code n) inner) inner (only (count_code n)) refl i) ((ap (sliced e.parts.target body) (sym (followed_none inner)) ∙ slices_are (n + 1) body no_pieces) i)
      ((ap (behind_steps e.parts.target body) (sym (followed_none inner)) ∙ steps_behind (n + 1) body no_pieces) i) (slices_are m rest last i)
  slices_are n (Call pl to f arguments rest) last =
      let s : Steps = Call pl to f arguments Done in
      let left : Pieces = followed (steps_code e.parts n rest) last in
      let all : Pieces = followed (steps_code e.parts n (Call pl to f arguments rest)) last in
      let own : Pieces = argument_code e.parts.target e.parts.global (e.parts.frame f) 0 arguments in
      let jump : Pieces = call_to (e.parts.link f) (e.parts.callee f) (followed (target_code to no_pieces) left) in
      let is = whole_is (steps_code e.parts n s) (steps_code e.parts n (Call pl to f arguments rest)) (steps_code e.parts n rest) last
      (split_is n n s (Call pl to f arguments rest) rest (code_is e n (Call pl to f arguments rest))) in
      let there : behind_terms e.parts.target arguments all ≡ jump = ap (behind_terms e.parts.target arguments) is ∙ call_behind n pl to f arguments left in
      let landed : behind_target to (followed (target_code to no_pieces) left) ≡ left = target_behind to left in
      ap (λ ps. calling (before_pieces all (behind_target to (tail_of ps))) (globals_in_terms arguments) (before_pieces all ps) (length arguments) f
      (before_pieces (tail_of ps) (behind_target to (tail_of ps)))
      (sliced e.parts.target rest (behind_target to (tail_of ps)))) there
      ∙ ap (λ ps. calling (before_pieces all ps) (globals_in_terms arguments) (before_pieces all jump) (length arguments) f
      (before_pieces (followed (target_code to no_pieces) left) ps) (sliced e.parts.target rest ps)) landed
      ∙ (λ i.
      calling (before_is all left (steps_code e.parts n s) is i) (globals_in_terms arguments) (before_is all jump own (is ∙ followed_append own _ left) i) (length arguments) f
      (before_is (followed (target_code to no_pieces) left) left (target_code to no_pieces) refl i) (slices_are n rest last i))

pub slices_are_outlines : SlicesAreOutlines
slices_are_outlines e n steps last = slices_are e n steps last
