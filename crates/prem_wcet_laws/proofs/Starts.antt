-- The start of a job without marked calls is one scope with its call and the job's end.
use Rattle.std.proofs.Common.{lt-ltb, ◌≡◌, ℕ, zero, suc, ◌+◌, ◌*◌, ◌<◌, ◌≤◌, refl, ap, ◌∙◌, sym, subst, arith, cond, eq-eqb, List, [], ◌∷◌, ◌++◌, append_assoc, append-nil, length, take}
use Rattle.std.proofs.Common.{Some, None, inl, true}
use Rattle.prem_wcet_laws.proofs.Prelude.{jump_to, AllSteps, total, Did, Stay, Compatible, PmDone, line_cost, part_weight, weight_at, start_code, place_at, code_part, start_part, Extent}
use Rattle.prem_wcet_laws.proofs.Prelude.{everywhere, KeepsTo, StaysOn, weight_of, step_charge, is_held, AccessIn, IsIn, facts_in, scene_in, Fact, no_fact, fact_of, extent_of, code_ranges}
use Rattle.prem_wcet_laws.proofs.Prelude.{data_ranges, data_lines, lines_in, charge, scope_weight, is_roomy, roomy_lines, path_weight, places_behind, function_span, frame_range, below_range}
use Rattle.prem_wcet_laws.proofs.Prelude.{stack_of, known_scene, scene_of, fact_at, start_span, PlaceWeight, weighted_from, jump_from, slice_get_within, list_all, flat_map, slice_index_or}
use Rattle.prem_asm.specs.OwnRun.{done_step}
use Rattle.prem_wcet_laws.proofs.CallRuns.{frames_work}
use Rattle.prem_wcet_laws.proofs.FunctionRuns.{kept_here}
use Rattle.prem_wcet_laws.proofs.Held.{held_by, held_left, held_right, held_line}
use Rattle.prem_wcet_laws.proofs.OneScope.{line_kept, all_kept}
use Rattle.prem_wcet_laws.proofs.Scenes.{IsFact, each_fact, taken_length, facts_length, scenes_stand}
use Rattle.prem_wcet_laws.proofs.ScopeCosts.{scope_weighs, steps_less}
use Rattle.prem_wcet_laws.specs.Starts.{RunStarts, QuietStartsAreScopes}
use Rattle.std.proofs.lemmas.List.{length-append}

-- ---- weights of functions that are known

module _ (w : PlaceWeight) (functions : ℕ) (places : ℕ → ℕ) where
  abbrev weigh : List ℕ → (at : ℕ) → Fact → ℕ
  weigh known at f = weighted_from w (part_weight functions (weight_at known) (λ k. 0)) at f.pieces

  extends : (fs : List Fact) (known : List ℕ) → (more : List ℕ) × (places_behind w functions places known fs ≡ known ++ more)
  extends [] known = ([], sym (append-nil known))
  extends (f ∷ fs) known =
      let x = weigh known (places (code_part (length known))) f in
      let h = extends fs (known ++ x ∷ []) in
      (x ∷ h.0, h.1 ∙ append_assoc known (x ∷ []) h.0)

  at_seam : (known : List ℕ) (x : ℕ) (more : List ℕ) → weight_at ((known ++ x ∷ []) ++ more) (length known) ≡ x
  at_seam [] x more = refl
  at_seam (k ∷ ks) x more = at_seam ks x more

  weights_at : (fs : List Fact) (known : List ℕ) (j : ℕ) → j < length fs →
      weight_at (places_behind w functions places known fs) (length known + j)
      ≡ weigh (places_behind w functions places known (take j fs)) (places (code_part (length known + j))) (slice_index_or fs j no_fact)
  weights_at [] known j lt = absurd (omega (arith, lt))
  weights_at (f ∷ fs) known zero lt =
      let x = weigh known (places (code_part (length known))) f in
      let h = extends fs (known ++ x ∷ []) in
      let none : length known ≡ length known + 0 = omega arith in
      subst (λ n. weight_at (places_behind w functions places known (f ∷ fs)) n ≡ weigh known (places (code_part n)) f) none (ap (λ ks. weight_at ks (length known)) h.1 ∙ at_seam known x h.0)
  weights_at (f ∷ fs) known (suc j) lt =
      let x = weigh known (places (code_part (length known))) f in
      subst (λ n. weight_at (places_behind w functions places known (f ∷ fs)) n
      ≡ weigh (places_behind w functions places known (take (suc j) (f ∷ fs))) (places (code_part n)) (slice_index_or fs j no_fact))
      (longer (length known) (length (known ++ x ∷ [])) j (length-append known (x ∷ []))) (weights_at fs (known ++ x ∷ []) j (omega (arith, lt))) where
        longer : (a b j : ℕ) → b ≡ a + 1 → b + j ≡ a + suc j
        longer a b j e = omega (arith, e)

-- ---- steps in a row

all_end : (P : Did → Type 0) (xs : List Did) (d : Did) → AllSteps P xs → P d → AllSteps P (xs ++ d ∷ [])
all_end P [] d h k = (k, tt)
all_end P (x ∷ xs) d h k = (h.0, all_end P xs d h.1 k)

total_end : (f : Did → ℕ) (xs : List Did) (d : Did) → total f (xs ++ d ∷ []) ≡ total f xs + f d
total_end f [] d = omega arith
total_end f (x ∷ xs) d = omega (arith, total_end f xs d)

-- steps in ranges are in more of them
grow : (code more : List Extent) (ranges wide : List Extent) → ((a : ℕ) → is_held code a ≡ true → is_held more a ≡ true) →
    ((a : ℕ) → is_held ranges a ≡ true → is_held wide a ≡ true) → (d : Did) → IsIn code ranges d → IsIn more wide d
grow code more ranges wide h k d x = record { fetched = h d.pc x.fetched; accessed = by d.access x.accessed; accesses = x.accesses; stays = x.stays } where
  by : (a : _) → AccessIn ranges a → AccessIn wide a
  by None z = tt
  by (Some a) z = k a.address z

pub quiet_starts_are_scopes : QuietStartsAreScopes
quiet_starts_are_scopes p plans program t s gs parts cs phase c h limits calls same f is k ground stack depth under fit slots_is space words st u back
    word after len args b two top_small one al small means =
    let job = program.job in
    let scenes = scenes_stand p plans program t s gs parts cs phase c job h in
    let least_job : job ≤ job = omega arith in
    let within : job < length program.routines = slice_get_within program.routines job f is in
    let e = scene_in p plans program t job in
    let big = known_scene p plans program t in
    let stack_is : e.stack ≡ frame_range program t ∷ [] =
    ap (stack_of program t) (taken_length p plans program t job (omega (arith, within))) ∙ ap (λ b. cond b (frame_range program t) (below_range program t) ∷ []) (eq-eqb job job refl) in
    let works = frames_work (scene_in p plans program t) p (below_range program t ∷ []) s gs parts cs phase c program.routines job scenes everywhere limits calls job least_job same k ground
    (λ a le lt. subst (λ ranges. is_held ranges a ≡ true) (sym stack_is) (stack.frame a le lt)) stack.below in
    let at = s.places (c.code_part job) in
    let place : (place_at t (code_part job)).0 ≡ at = h.places_are (code_part job) ∙ ap s.places (sym (h.code_parts job)) in
    let none : 0 + job ≡ job = omega arith in
    let fact : fact_of big job ≡ fact_at e f at =
    subst (λ n. IsFact (scene_of p plans program t) (stack_of program t) (facts_in p plans program t) n f) none
    (each_fact (scene_of p plans program t) (stack_of program t) program.routines [] job f is) ∙ ap (fact_at e f) place in
    let d = kept_here e s gs parts cs phase c program.routines job (scenes.stands job least_job) everywhere limits calls k works f at depth under fit
    (h.before job f is) slots_is space words st u back word after len args b two top_small one al small means in
    let start = (place_at t start_part).0 in
    let span = start_span program in
    let code = code_ranges big start span in
    let ranges = data_ranges big span in
    let lines = lines_in big start span in
    let w = scope_weight p lines (list_all (is_roomy p lines) (data_lines big span)) in
    let weighs = scope_weighs p lines (list_all (is_roomy p lines) (data_lines big span)) in
    let jump : Did = record { pc = start; instr = jump_to 1 start at; phase = Compatible; access = None; change = Stay } in
    let steps_in : AllSteps (IsIn code ranges) d.trace =
    all_kept (IsIn (code_ranges e at (function_span e f)) (data_ranges e (function_span e f))) (IsIn code ranges)
    (λ x z. grow (code_ranges e at (function_span e f)) code (data_ranges e (function_span e f)) ranges
    (λ a held. held_right (extent_of start (start_code job) ∷ []) (flat_map (λ g. (fact_of big g).code) (job ∷ [])) a
    (held_left (fact_of big job).code [] a (subst (λ (y : Fact). is_held y.code a ≡ true) (sym fact) held)))
    (λ a held. held_left (fact_of big job).touched [] a (subst (λ (y : Fact). is_held y.touched a ≡ true) (sym fact) held)) x z) d.trace d.steps_in in
    let jump_in : IsIn code ranges jump =
    record {
      fetched = held_by (extent_of start (start_code job)) code start (inl refl) (omega arith) (omega arith);
      accessed = tt;
      accesses =
          refl;
      stays = refl;
    } in
    let done_in : is_held code (start + 4) ≡ true = held_by (extent_of start (start_code job)) code (start + 4) (inl refl) (omega arith) (omega arith) in
    let done_kept : KeepsTo p.line lines (done_step (start + 4)) = (held_line p.line (start + 4) (code ++ ranges) h.line (held_left code ranges (start + 4) done_in), tt) in
    let few : job < length big.facts = let n = facts_length p plans program t in omega (arith, n, within) in
    let part_is : part_weight big.functions (weight_at (places_behind w big.functions big.places [] big.facts)) (λ k. 0) (code_part job) ≡ path_weight e w at (function_span e f) =
    let next : code_part job ≡ suc job = omega arith in
    ap (part_weight big.functions (weight_at (places_behind w big.functions big.places [] big.facts)) (λ k. 0)) next
    ∙ ap (λ b. cond b (weight_at (places_behind w big.functions big.places [] big.facts) job) 0) (lt-ltb job big.functions within)
    ∙ ap (weight_at (places_behind w big.functions big.places [] big.facts)) (sym none)
    ∙ weights_at w big.functions big.places big.facts [] job few
    ∙ ap (λ n. weigh w big.functions big.places (places_behind w big.functions big.places [] (take job big.facts)) (big.places (code_part n)) (fact_of big job)) none
    ∙ ap (λ n. weigh w big.functions big.places (places_behind w big.functions big.places [] (take job big.facts)) n (fact_of big job)) place
    ∙ ap (λ (y : Fact). weigh w big.functions big.places (places_behind w big.functions big.places [] (take job big.facts)) at y) fact in
    let trace_less : total (step_charge p lines) d.trace ≤ total (weight_of w) d.trace = steps_less p h.line lines ranges code d.trace steps_in in
    let call_less : total (weight_of w) d.trace ≤ path_weight e w at (function_span e f) = d.weighs w weighs in
    let jump_less : step_charge p lines jump ≤ jump_from w start = omega arith in
    let done_less : step_charge p lines (done_step (start + 4)) ≤ w (start + 4) PmDone = omega arith in
    subst (RunStarts p lines (charge big start span) start at) (sym d.goes) (
      (
        line_kept p.line code ranges jump h.line jump_in,
        all_end (KeepsTo p.line lines) d.trace (done_step (start + 4))
            (all_kept (IsIn code ranges) (KeepsTo p.line lines) (λ x z. line_kept p.line code ranges x h.line z) d.trace steps_in) done_kept,
      ),
      (
        all_kept (IsIn code ranges) StaysOn (λ x z. z.stays) d.trace steps_in,
        sum (length (roomy_lines p lines) * line_cost p) _ _ _ _ _ _ _ _ _ (total_end (step_charge p lines) d.trace (done_step (start + 4))) trace_less call_less part_is jump_less done_less,
      ),
    ) where
      sum : (r all tr dn wt pw x jp j wd : ℕ) → all ≡ tr + dn → tr ≤ wt → wt ≤ pw → x ≡ pw → jp ≤ j → dn ≤ wd → r + (jp + all) ≤ r + (j + x + ((wd + 0) + 0))
      sum r all tr dn wt pw x jp j wd e a b f g m = omega (arith, e, a, b, f, g, m)
