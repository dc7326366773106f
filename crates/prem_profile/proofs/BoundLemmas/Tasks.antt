-- The bill of a job comes to what it takes at most.
use Rattle.std.specs.Prelude.{slice_index_or}
use Rattle.std.proofs.Common.{◌≡◌, ℕ, zero, suc, ◌+◌, min, Bool, true, false, cond, List, [], ◌∷◌, ◌++◌, length, refl, ap, ◌∙◌, arith}
use Rattle.prem_plant.specs.Places.{Extent}
use Rattle.prem_isa.specs.declared.instr.Instr.TheVariants.{PmDone}
use Rattle.prem_syntax.specs.Resolved.{Routine, Resolved}
use Rattle.prem_layout.specs.Template.Frames.{frame_of, locals_of}
use Rattle.prem_layout.specs.Template.Steps.{closing, opening, result_code}
use Rattle.prem_layout.specs.Template.Terms.{only}
use Rattle.prem_layout.specs.Parts.{code_part, start_part}
use Rattle.prem_layout.specs.Bounds.{job_weight}
use Rattle.prem_wcet_laws.proofs.Ordered.{weighted-followed}
use Rattle.prem_wcet_laws.specs.Scopes.{Fact, Scene, charge, fact_of, function_span, no_fact}
use Rattle.prem_wcet_laws.specs.Least.{body_at, declared, least, own, own_around, own_jump}
use Rattle.prem_wcet_laws.specs.Parted.{entry, leaving, parted_function}
use Rattle.prem_wcet_laws.specs.Wcet.{at_function, fact_at, facts_behind, job_of, known_scene, own_start, scene_of, stack_of, start_span}
use Rattle.prem_wcet.specs.Outlined.{outline_of}
use Rattle.prem_wcet.specs.Outlines.{least_in}
use Rattle.prem_wcet.proofs.OutlineParted.{outlines_count}
use Rattle.prem_profile.specs.Bound.Bills.{cheaper}
use Rattle.prem_profile.specs.Bound.Pieces.{item}
use Rattle.prem_profile.specs.Bound.Scopes.{rule_cost, scope_bill}
use Rattle.prem_profile.specs.Bound.Statements.{CallBill, call_at}
use Rattle.prem_profile.specs.Bound.Passages.{Stubs, switch_item}
use Rattle.prem_profile.specs.Bound.Tasks.{bills_of, body_begin, body_end, function_bill, job_bill, start_bill, stubs_of}
use Rattle.prem_profile.specs.Bound.Laws.{BillsAddUp}
use Rattle.prem_profile.proofs.BoundLemmas.Sums.{Comes, both, gather, led, less, none, recount, three}
use Rattle.prem_profile.proofs.BoundLemmas.Charged.{jump_first, own_comes, rule_same, scope_comes}
use Rattle.prem_profile.proofs.BoundLemmas.Statements.{least_comes}
use Rattle.prem_profile.proofs.BoundLemmas.Passages.{parted_comes}

-- ---- functions

pub record Billed (b : CallBill) (f : Fact) : Type 0 where
  pub least : Comes b.least f.least
  pub parted : Comes b.parted f.parted.total

-- in the same order
abbrev AreBilled : List CallBill → List Fact → Type 0
AreBilled [] [] = Unit {0}
AreBilled [] (f ∷ fs) = ⊥
AreBilled (b ∷ bs) [] = ⊥
AreBilled (b ∷ bs) (f ∷ fs) = Billed b f × AreBilled bs fs

billed_at : (bs : List CallBill) (fs : List Fact) → AreBilled bs fs → (n : ℕ) → Billed (call_at bs n) (slice_index_or fs n no_fact)
billed_at [] [] h zero = record { least = none; parted = none }
billed_at [] [] h (suc n) = record { least = none; parted = none }
billed_at [] (f ∷ fs) h n = absurd h
billed_at (b ∷ bs) [] h n = absurd h
billed_at (b ∷ bs) (f ∷ fs) h zero = h.0
billed_at (b ∷ bs) (f ∷ fs) h (suc n) = billed_at bs fs h.1 n

billed_more : (bs : List CallBill) (fs : List Fact) (b : CallBill) (f : Fact) → AreBilled bs fs → Billed b f → AreBilled (bs ++ b ∷ []) (fs ++ f ∷ [])
billed_more [] [] b f h one = (one, tt)
billed_more [] (g ∷ fs) b f h one = absurd h
billed_more (c ∷ bs) [] b f h one = absurd h
billed_more (c ∷ bs) (g ∷ fs) b f h one = (h.0, billed_more bs fs b f h.1 one)

module _ (e : Scene) (f : Routine) (at : ℕ) where
  -- what stands around the statements, by the rule
  around : own e (entry e f).pieces + least e (locals_of f) (body_at e f at) f.body + own e (leaving e f).pieces ≡ own_around e f + least e (locals_of f) (body_at e f at) f.body
  around =
      sum (own e (only (opening (frame_of f)))) (own e (declared e f)) (own e (entry e f).pieces) (own e (leaving e f).pieces) _ _ (least e (locals_of f) (body_at e f at) f.body) first
      (weighted-followed (job_weight e.plant) (λ part. 0) (result_code e.parts.target e.parts.global f.result) (only (closing (frame_of f))))
    where
      first : own e (entry e f).pieces ≡ own e (only (opening (frame_of f))) + own e (declared e f)
      first = omega arith

      sum : (o d a b r c l : ℕ) → a ≡ o + d → b ≡ r + c → a + l + b ≡ (o + d) + (r + c) + l
      sum o d a b r c l x y = omega (arith, x, y)

  place : body_begin e f at ≡ body_at e f at
  place = omega arith

  body_is : least_in e (body_begin e f at) (outline_of e (locals_of f) f.body) ≡ least e (locals_of f) (body_at e f at) f.body
  body_is = ap (λ k. least_in e k (outline_of e (locals_of f) f.body)) place ∙ outlines_count.least_is e (locals_of f) (body_at e f at) f.body

  billed_one : (stubs : Stubs) (known : List CallBill) → ((g : ℕ) → Billed (call_at known g) (fact_of e g)) → Billed (function_bill e stubs known f at) (fact_at e f at)
  billed_one stubs known h = record {
    least = gather (less (scope_comes e at (function_span e f))
        (recount (own_around e f + least e (locals_of f) (body_at e f at) f.body)
        (three (own_comes e at (entry e f).pieces)
        (recount (least e (locals_of f) (body_at e f at) f.body) (least_comes e known (λ g. (h g).least) (body_begin e f at) (outline_of e (locals_of f) f.body)) body_is)
        (own_comes e (body_end e f at) (leaving e f).pieces)) around));
    parted = gather (recount (parted_function e f at).total
        (parted_comes e stubs known (λ g. (h g).least) (λ g. (h g).parted) at (entry e f) (leaving e f) (outline_of e (locals_of f) f.body))
        (ap (λ c. c.total) (outlines_count.parted_is e (entry e f) (leaving e f) (locals_of f) at f.body)));
  }

module _ (e : Scene) (stubs : Stubs) (stack : ℕ → List Extent) where
  all_billed : (facts : List Fact) (known : List CallBill) (fs : List Routine) → AreBilled known facts → AreBilled (bills_of e stubs stack facts known fs) (facts_behind e stack facts fs)
  all_billed facts known [] h = h
  all_billed facts known (f ∷ fs) h =
      let here : Scene = at_function e stack facts in
      let at : ℕ = e.places (code_part (length facts)) in
      all_billed (facts ++ fact_at here f at ∷ []) (known ++ function_bill here stubs known f at ∷ []) fs
      (billed_more known facts (function_bill here stubs known f at) (fact_at here f at) h (billed_one here f at stubs known (billed_at known facts h)))

-- ---- a job

module _ (e : Scene) (known : List CallBill) (h : (f : ℕ) → Billed (call_at known f) (fact_of e f)) (program : Resolved) where
  start_comes : Comes (start_bill e) (own_start e)
  start_comes =
      recount (own_start e) (jump_first e (e.places start_part) (led (item (rule_cost e.plant) (e.places start_part + 4) PmDone) (job_weight e.plant PmDone) (rule_same e.plant (e.places start_part + 4) PmDone) none))
      (sum (own_jump e) (job_weight e.plant PmDone)) where
        sum : (j d : ℕ) → j + (d + 0) ≡ j + d
        sum j d = omega arith

  job_comes : Comes (job_bill e known program) (job_of e program)
  job_comes = by (fact_of e program.job).cuts where
    by : (t : Bool) → Comes
        (cond t (start_bill e ++ (call_at known program.job).parted) (cheaper (scope_bill e (e.places start_part) (start_span program)) (start_bill e ++ (call_at known program.job).least)))
        (cond t (own_start e + (fact_of e program.job).parted.total) (min (charge e (e.places start_part) (start_span program)) (own_start e + (fact_of e program.job).least)))
    by true = both start_comes (h program.job).parted
    by false = less (scope_comes e (e.places start_part) (start_span program)) (both start_comes (h program.job).least)

pub bills_add_up : BillsAddUp
bills_add_up p plans task program t =
    let stubs : Stubs = stubs_of task t in
    let e : Scene = known_scene p plans program t in
    let all = all_billed (scene_of p plans program t) stubs (stack_of program t) [] [] program.routines tt in
    let known : List CallBill = bills_of (scene_of p plans program t) stubs (stack_of program t) [] [] program.routines in
    (led (switch_item p task) p.switch refl (job_comes e known (billed_at known e.facts all) program)).is
