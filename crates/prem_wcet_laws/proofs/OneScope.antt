-- A list of statements runs as one scope.
use Rattle.std.proofs.Common.{◌≡◌, ℕ, zero, suc, ◌+◌, ◌*◌, ◌^◌, ◌<◌, ◌≤◌, refl, ap, ◌∙◌, sym, subst, arith, eqb, leb, true, false, Bool, ◌&&◌, ◌||◌, List, [], ◌∷◌, ◌++◌, inl, inr, ◌⊎◌}
use Rattle.std.proofs.Common.{length, Option, None, Some, Ok}
use Rattle.prem_wcet_laws.proofs.Prelude.{guard_grows, size_of, Guard, Setting, Calls, Ending, Falls, Returns, Stuck, all_of, run, AllSteps, Holds, Same, Grows, Within, total, each_function}
use Rattle.prem_wcet_laws.proofs.Prelude.{each_steps, steps_end, functions_run, Globals, Stack, Ground, Callees, StepsFit, with_globals, CalleesAt, Matches, at_frame, Codes, one_of}
use Rattle.prem_wcet_laws.proofs.Prelude.{code_calls, TaskFits, TaskState, Did, Phase, line_cost, part_weight, weight_at, lines_of, code_part, Parts, steps_code, function_code, Extent}
use Rattle.prem_wcet_laws.proofs.Prelude.{Plant, Access, IsAmong, callees_in, Steps, Done, SetLocal, SetScalar, SetElement, Output, Input, If, For, While, Call, Routine, calls_below}
use Rattle.prem_wcet_laws.proofs.Prelude.{ProgramState, Weighs, KeepsTo, weight_of, scope_charge, StaysOn, is_held, confined_to, AccessIn, IsIn, IsNative, narrowed, AreClosed, HasExtent}
use Rattle.prem_wcet_laws.proofs.Prelude.{AreOf, Stands, StepsAreScopes, Scene, fact_of, extent_of, is_roomy, roomy_lines, scope_weight, places_behind, code_ranges, data_ranges, data_lines}
use Rattle.prem_wcet_laws.proofs.Prelude.{lines_in, path_weight, span_of, globals_in, PlaceWeight, and_parts, and_from, or_cases, or_right, leb-true, le-leb, eqb-true, list_any, list_all}
use Rattle.prem_wcet_laws.proofs.Prelude.{slice_get, map}
use Rattle.prem_syntax.specs.Statements.{run as run_source}
use Rattle.prem_wcet_laws.proofs.Calls.{steps_call, function_calls}
use Rattle.prem_wcet_laws.proofs.Held.{has_left, has_right, has_mapped, has_flat, held_by, held_left, held_right, held_line}
use Rattle.prem_wcet_laws.proofs.Keeping.{Any, confined_confines, keeps_in}
use Rattle.prem_wcet_laws.proofs.Named.{run_same, calls_same}
use Rattle.prem_wcet_laws.proofs.PlaceCost.{run_in}
use Rattle.prem_wcet_laws.proofs.ScopeCosts.{scope_weighs, steps_less, all_weigh, none_weigh}
use Rattle.prem_wcet_laws.proofs.Takes.{emits_native}

-- ---- callees may be called

pub steps_callable : (gs : Globals) (parts : Parts) (cs : Callees) (phase : Phase) (count under : ℕ) (steps : Steps) →
    StepsFit gs parts cs phase count under steps → (f : ℕ) → IsAmong f (callees_in steps) → cs.callable f ≡ true
steps_callable gs parts cs phase count under steps fit f is = by steps fit is where
  among_cases : (xs ys : List ℕ) → IsAmong f (xs ++ ys) → IsAmong f xs ⊎ IsAmong f ys
  among_cases [] ys h = inr h
  among_cases (x ∷ xs) ys (inl e) = inl (inl e)
  among_cases (x ∷ xs) ys (inr h) = further (among_cases xs ys h) where
    further : IsAmong f xs ⊎ IsAmong f ys → IsAmong f (x ∷ xs) ⊎ IsAmong f ys
    further (inl a) = inl (inr a)
    further (inr b) = inr b

  either_of : {A B C : Type 0} → A ⊎ B → (A → C) → (B → C) → C
  either_of (inl a) k l = k a
  either_of (inr b) k l = l b

  by : (steps : Steps) → StepsFit gs parts cs phase count under steps → IsAmong f (callees_in steps) → cs.callable f ≡ true
  by Done fit h = absurd h
  by (SetLocal at k value rest) fit h = by rest fit.1.1 h
  by (SetScalar at g ty value rest) fit h = by rest fit.1.1 h
  by (SetElement at g ty index value rest) fit h = by rest fit.1.1.1 h
  by (Output at value rest) fit h = by rest fit.1.1 h
  by (Input at k rest) fit h = by rest fit.1.1 h
  by (If at condition taken other rest) fit h =
      either_of (among_cases (callees_in taken) (callees_in other ++ callees_in rest) h) (λ a. by taken fit.1.0 a)
      (λ b. either_of (among_cases (callees_in other) (callees_in rest) b) (λ a. by other fit.1.1.0 a) (λ b. by rest fit.1.1.1 b))
  by (For at k low closed high step turns body rest) fit h =
      either_of (among_cases (callees_in body) (callees_in rest) h) (λ a. by body fit.1.1.1.1.0 a) (λ b. by rest fit.1.1.1.1.1 b)
  by (While at turns condition body rest) fit h = either_of (among_cases (callees_in body) (callees_in rest) h) (λ a. by body fit.1.1.0 a) (λ b. by rest fit.1.1.1 b)
  by (Call at target g arguments rest) fit (inl e) = subst (λ n. cs.callable n ≡ true) e fit.0.callable
  by (Call at target g arguments rest) fit (inr h) = by rest fit.1 h

-- ---- guards

all_confined : (p q : ℕ → Bool) (n a : ℕ) → ((b : ℕ) → a ≤ b → b < a + n → p b ≡ true) → all_of q a n ≡ true → all_of (λ a. p a && q a) a n ≡ true
all_confined p q zero a h k = refl
all_confined p q (suc n) a h k =
    let x = and_parts (q a) (all_of q (a + 1) n) k in
    and_from _ _ (and_from _ _ (h a (omega arith) (omega arith)) x.0) (all_confined p q n (a + 1) (λ b le lt. h b (omega (arith, le)) (omega (arith, lt))) x.1)

-- a range that one of these covers
pub covers : List Extent → Extent → Bool
covers ranges x = list_any (λ (r : Extent). leb r.0 x.0 && leb x.1 r.1) ranges

pub covered_has : (x : Extent) (ranges : List Extent) → HasExtent x ranges → covers ranges x ≡ true
unfolding covers
covered_has x [] h = absurd h
covered_has x (r ∷ rs) (inl e) =
    let is : (leb r.0 x.0 && leb x.1 r.1) ≡ true = subst (λ (r : Extent). (leb r.0 x.0 && leb x.1 r.1) ≡ true) (sym e) (and_from _ _ (le-leb x.0 x.0 (omega arith)) (le-leb x.1 x.1 (omega arith))) in
    ap (λ b. b || covers rs x) is
covered_has x (r ∷ rs) (inr h) = or_right _ _ (covered_has x rs h)

covered_held : (x : Extent) (ranges : List Extent) (a : ℕ) → covers ranges x ≡ true → x.0 ≤ a → a < x.1 → is_held ranges a ≡ true
unfolding covers
covered_held x [] a h le lt = cc
covered_held x (r ∷ rs) a h le lt = by (or_cases (leb r.0 x.0 && leb x.1 r.1) (covers rs x) h) (λ k. covered_held x rs a k le lt) where
  by : ((leb r.0 x.0 && leb x.1 r.1) ≡ true) ⊎ (covers rs x ≡ true) → (covers rs x ≡ true → is_held rs a ≡ true) → is_held (r ∷ rs) a ≡ true
  by (inl k) again =
      let p = and_parts (leb r.0 x.0) (leb x.1 r.1) k in
      let low : r.0 ≤ x.0 = leb-true r.0 x.0 p.0 in
      let high : x.1 ≤ r.1 = leb-true x.1 r.1 p.1 in
      held_by r (r ∷ rs) a (inl refl) (omega (arith, low, le)) (omega (arith, high, lt))
  by (inr k) again = or_right _ _ (again k)

-- ---- what doesn't depend on the guard

module _ (s : Setting) (h : Guard) (gs : Globals) (parts : Parts) (cs : Callees) (phase : Phase) where
  abbrev under_guard : Setting
  under_guard = record s { guard = h }

  pub task_fits : (c : Codes) (routines : List Routine) (total : ℕ) → TaskFits s gs parts cs phase c routines total → TaskFits under_guard gs parts cs phase c routines total
  task_fits c routines total x = record {
    apart = x.apart;
    below = x.below;
    plain = x.plain;
    functions = λ n f callable is. let y = x.functions n f callable is in record {
      under = y.under;
      fits = y.fits;
      code = y.code;
      callee = y.callee;
      link = y.link;
      frame = y.frame;
      params = y.params;
      returns = y.returns;
    };
    callees = x.callees;
  }

  pub matches_guard : (k : Stack) (count : ℕ) (p : ProgramState) (t : TaskState) → Matches s gs k phase count p t → Matches under_guard gs k phase count p t
  matches_guard k count p t m = record {
    globals = record { shaped = m.globals.shaped; stands = m.globals.stands; word = m.globals.word };
    locals = m.locals;
    words = m.words;
    stack = m.stack;
    count_is = m.count_is;
    phase_is = m.phase_is;
    left = m.left;
    used = m.used;
    outputs = m.outputs;
    inputs = m.inputs;
  }

-- ---- calls under a smaller guard

pub same_trans : (o p q : Ending) → Same o p → Same p q → Same o q
same_trans (Falls t trace) p q h k = subst (λ x. Same x q) h k
same_trans (Returns to t trace) p q h k = subst (λ x. Same x q) h k
same_trans Stuck p q h k = tt

same_one : (b : Bool) (this other this' other' : Ending) → Same this this' → Same other other' → Same (one_of b this other) (one_of b this' other')
same_one true this other this' other' h k = h
same_one false this other this' other' h k = k

pub calls_grow : (s : Setting) (g : Guard) → Grows g s.guard → (c : Codes) (n part : ℕ) (t : TaskState) → Same (code_calls (record s { guard = g }) c n part t) (code_calls s c n part t)
unfolding code_calls
calls_grow s g w c zero part t = tt
calls_grow s g w c (suc n) part t =
    same_one (eqb part (c.code_part n)) _ _ _ _
    (guard_grows (record s { guard = g }) s.guard w (code_calls (record s { guard = g }) c n) (code_calls s c n) (calls_grow s g w c n) (c.code n) (s.places (c.code_part n)) t)
    (calls_grow s g w c n part t)

pub confined_grows : (ranges : List Extent) (g : Guard) → Grows (confined_to ranges g) g
confined_grows ranges g = record { loads = λ a h. (and_parts (is_held ranges a) (g.load a) h).1; stores = λ a h. (and_parts (is_held ranges a) (g.store a) h).1 }

-- ---- the scope

module _ (e : Scene) (s : Setting) (gs : Globals) (parts : Parts) (cs : Callees) (phase : Phase) (c : Codes) (routines : List Routine)
    (total_functions : ℕ) (st : Stands e s gs parts cs phase c routines total_functions)
    (code ranges : List Extent) where
  abbrev small : Setting
  small = record s { guard = confined_to ranges s.guard }

  abbrev inside : ℕ → Bool
  inside g = covers ranges (e.global g)

  -- what calls of a function touch is in the ranges
  pub record Reached (f : ℕ) : Type 0 where
    pub less : f < total_functions
    pub callable : cs.callable f ≡ true
    pub code_in : AreOf (fact_of e f).code code
    pub touched_in : AreOf (fact_of e f).touched ranges

  reached_next : (f : ℕ) (r : Routine) → Reached f → slice_get routines f ≡ Some r → (x : ℕ) → IsAmong x (callees_in r.body) → Reached x
  reached_next f r h is x among =
      let stands = st.facts f r h.less h.callable is in
      let fits = (st.task.functions f r h.callable is).fits in
      record {
        less = omega (arith, h.less, stands.before x among);
        callable = steps_callable gs parts cs phase _ _ r.body fits.body x among;
        code_in = λ y there. h.code_in y (stands.callee_code x among y there);
        touched_in = λ y there. h.touched_in y (stands.callee_touched x among y there);
      }

  pub closed : AreClosed inside routines Reached
  closed f r h is =
      let stands = st.facts f r h.less h.callable is in
      ((λ g among. covered_has (e.global g) ranges (h.touched_in (e.global g) (stands.globals g among))), (λ x among. reached_next f r h is x among))

  -- the ground under the smaller guard
  pub ground_small : (may : Access) (k : Stack) → Ground s gs may k → ((a : ℕ) → k.low ≤ a → a < k.top → is_held ranges a ≡ true) → Ground small gs (narrowed inside may) k
  ground_small may k ground stack = record {
    target = ground.target;
    small = ground.small;
    ends = ground.ends;
    aligned = ground.aligned;
    floor = ground.floor;
    room = ground.room;
    loads = λ a le lt. and_from (is_held ranges a) (s.guard.load a) (stack a le lt) (ground.loads a le lt);
    stores = λ a le lt. and_from (is_held ranges a) (s.guard.store a) (stack a le lt) (ground.stores a le lt);
    elements = λ g j lt. let x = ground.elements g j lt in record { aligned = x.aligned; within = x.within; outside = x.outside };
    allowed = λ g j lt is.
        let both = and_parts (may g j) (inside g) is in
        let x = ground.allowed g j lt both.0 in
        let lies = st.elements g j lt in
        let held = λ (b : ℕ) (le : _ ≤ b) (less : b < _). covered_held (e.global g) ranges b both.1 (omega (arith, lies.begins, le)) (omega (arith, lies.ends, less)) in
        record { loads = all_confined (is_held ranges) s.guard.load _ _ held x.loads; stores = all_confined (is_held ranges) s.guard.store _ _ held x.stores };
    apart = ground.apart;
  }

  -- calls keep to the ranges
  pub calls_keep : (n : ℕ) → n ≤ total_functions → (f : ℕ) → Reached f → (t : TaskState) → Holds (IsIn code ranges) Any (code_calls small c n (c.code_part f) t)
  unfolding code_calls
  calls_keep zero le f h t = tt
  calls_keep (suc n) le f h t =
      by (eqb (c.code_part f) (c.code_part n)) refl (λ g reached u. calls_keep n (omega (arith, le)) g reached u) where
        body : Reached n → ((g : ℕ) → Reached g → (u : TaskState) → Holds (IsIn code ranges) Any (code_calls small c n (c.code_part g) u)) →
            Holds (IsIn code ranges) Any (run small (code_calls small c n) (s.places (c.code_part n)) (c.code n) t)
        body reached again =
            let r = st.there n reached.callable in
            let stands = st.facts n r.0 reached.less reached.callable r.1 in
            let plain = st.task.functions n r.0 reached.callable r.1 in
            let own : c.code n ≡ function_code e.parts r.0 = plain.code ∙ ap (λ q. function_code q r.0) (sym st.parts_are) in
            let place : e.places (code_part n) ≡ s.places (c.code_part n) = st.places_are (code_part n) ∙ ap s.places (sym (st.code_parts n)) in
            let extent = extent_of (e.places (code_part n)) (function_code e.parts r.0) in
            subst (λ q. Holds (IsIn code ranges) Any (run small (code_calls small c n) q (c.code n) t)) place
            (subst (λ q. Holds (IsIn code ranges) Any (run small (code_calls small c n) (e.places (code_part n)) q t)) (sym own)
            (keeps_in code ranges small (code_calls small c n) (confined_confines ranges s.guard) (function_code e.parts r.0) (e.places (code_part n))
            (λ a ge lt. held_by extent code a (reached.code_in extent stands.code) ge lt) (each_function IsNative emits_native refl e.parts r.0)
            (function_calls (λ part. (u : TaskState) → Any u → Holds (IsIn code ranges) Any (code_calls small c n part u)) e.parts r.0
            (λ x among u j. let next = reached_next n r.0 reached r.1 x among in
            subst (λ q. Holds (IsIn code ranges) Any (code_calls small c n q u)) (sym (called_by x next.callable)) (again x next u)))
            t)) where
              called_by : (x : ℕ) → cs.callable x ≡ true → e.parts.callee x ≡ c.code_part x
              called_by x callable = ap (λ (q : Parts). q.callee x) st.parts_are ∙ st.task.callees x callable

        by : (b : Bool) → eqb (c.code_part f) (c.code_part n) ≡ b → ((g : ℕ) → Reached g → (u : TaskState) → Holds (IsIn code ranges) Any (code_calls small c n (c.code_part g) u)) →
            Holds (IsIn code ranges) Any (one_of b (run small (code_calls small c n) (s.places (c.code_part n)) (c.code n) t) (code_calls small c n (c.code_part f) t))
        by true is again =
            let same : f ≡ n = st.task.apart f n (st.task.below f h.callable) (omega (arith, le, st.some)) (eqb-true (c.code_part f) (c.code_part n) is) in
            body (subst Reached same h) again
        by false is again = again f h t

-- a step that keeps to ranges keeps to their lines
pub line_kept : (line : ℕ) (code ranges : List Extent) (d : Did) → 0 < line → IsIn code ranges d → KeepsTo line (lines_of line (code ++ ranges)) d
line_kept line code ranges d pos h =
    (held_line line d.pc (code ++ ranges) pos (held_left code ranges d.pc h.fetched), by d.access h.accessed) where
      by : (x : Option _) → AccessIn ranges x → Rattle.prem_wcet_laws.specs.Divided.AreAmong (lines_of line (code ++ ranges)) (Rattle.prem_wcet_laws.specs.Divided.access_lines line x)
      by None h = tt
      by (Some a) h = (held_line line a.address (code ++ ranges) pos (held_right code ranges a.address h), tt)

pub all_kept : (P Q : Did → Type 0) → ((d : Did) → P d → Q d) → (ds : List Did) → AllSteps P ds → AllSteps Q ds
all_kept P Q h [] k = tt
all_kept P Q h (d ∷ ds) k = (h d k.0, all_kept P Q h ds k.1)

-- a run that keeps to ranges and weighs so much is a scope
pub scope_charged : (p : Plant) (line : 0 < p.line) (lines : List ℕ) (code ranges : List Extent) (n : ℕ) (ds : List Did) → AllSteps (IsIn code ranges) ds →
    total (weight_of (scope_weight p lines (list_all (is_roomy p lines) (lines_of p.line ranges)))) ds ≤ n →
    scope_charge p lines ds ≤ length (roomy_lines p lines) * line_cost p + n
scope_charged p line lines code ranges n ds h le = both (length (roomy_lines p lines) * line_cost p) _ _ n (steps_less p line lines ranges code ds h) le where
  both : (a b c n : ℕ) → b ≤ c → c ≤ n → a + b ≤ a + n
  both a b c n le more = omega (arith, le, more)

-- calls of functions weigh what is known of them
pub called_weigh : (e : Scene) (s : Setting) (gs : Globals) (parts : Parts) (cs : Callees) (phase : Phase) (c : Codes) (routines : List Routine)
    (total_functions : ℕ) → Stands e s gs parts cs phase c routines total_functions →
    (h : Guard) (w : PlaceWeight) → Weighs w → (part : ℕ) (t : TaskState) →
    Within (weight_of w) (part_weight e.functions (weight_at (places_behind w e.functions e.places [] e.facts)) (λ k. 0) part) (code_calls (record s { guard = h }) c total_functions part t)
called_weigh e s gs parts cs phase c routines total_functions st h w weighs part t =
    subst (λ n. Within (weight_of w) (part_weight e.functions (weight_at (places_behind w e.functions e.places [] e.facts)) (λ k. 0) part)
    (code_calls (record s { guard = h }) c n part t)) (none _ _ st.known)
    (all_weigh w weighs (record s { guard = h }) c e.functions e.places st.places_are st.code_parts e.facts [] (few _ _ _ st.known st.functions)
    (λ i lt. st.pieces i (below i _ _ lt st.known) ∙ ap c.code (zero_first i)) (none_weigh w weighs (record s { guard = h }) c e.functions e.places st.places_are st.code_parts) part t) where
      none : (a b : ℕ) → a ≡ b → 0 + a ≡ b
      none a b e = omega (arith, e)

      few : (a b n : ℕ) → a ≡ b → b ≤ n → 0 + a ≤ n
      few a b n e le = omega (arith, e, le)

      below : (i a b : ℕ) → i < a → a ≡ b → i < b
      below i a b lt e = omega (arith, lt, e)

      zero_first : (i : ℕ) → i ≡ 0 + i
      zero_first i = omega arith

pub steps_are_scopes : StepsAreScopes
steps_are_scopes e s gs parts cs phase c routines total_functions st may k limits calls ground same_calls count under space steps n at t p after le room al size fit known stack m is =
    let span = span_of e n steps in
    let ranges = data_ranges e span in
    let code = code_ranges e at span in
    let lines = lines_in e at span in
    let sm : Setting = record s { guard = confined_to ranges s.guard } in
    let inner : Calls = code_calls sm c total_functions in
    let inside = λ (g : ℕ). covers ranges (e.global g) in
    let own_code : steps_code e.parts n steps ≡ steps_code (with_globals gs parts) n steps = ap (λ q. steps_code q n steps) st.parts_are in
    let reached : (f : ℕ) → IsAmong f (callees_in steps) → Reached e s gs parts cs phase c routines total_functions st code ranges f = λ f among. record {
      less = known f among;
      callable = steps_callable gs parts cs phase count under steps fit f among;
      code_in = λ x there. inr (has_flat (λ f. (fact_of e f).code) f (callees_in steps) x among there);
      touched_in = λ x there. has_right x e.stack _ (has_right x (map e.global (globals_in steps)) _ (has_flat (λ f. (fact_of e f).touched) f (callees_in steps) x among there));
    } in
    let source : run_source (narrowed inside may) (calls_below limits routines total_functions) steps p ≡ Ok after =
    run_same inside may (calls_below limits routines total_functions) steps p
    (λ g among. covered_has (e.global g) ranges (has_right (e.global g) e.stack _ (has_left (e.global g) (map e.global (globals_in steps)) _ (has_mapped e.global g (globals_in steps) among))))
    (λ f among. calls_same inside limits routines (Reached e s gs parts cs phase c routines total_functions st code ranges)
    (closed e s gs parts cs phase c routines total_functions st code ranges) total_functions may f (reached f among))
    ∙ is in
    let callees : CalleesAt sm gs (narrowed inside may) k inner parts cs phase (calls_below limits routines total_functions) =
    λ f callable. at_frame sm gs (narrowed inside may) k phase (inner (parts.callee f)) (parts.link f) (parts.frame f) (cs.depth f) (cs.params f)
    (cs.returns f) (λ words q. calls_below limits routines total_functions (narrowed inside may) f words q)
    (functions_run sm gs parts cs phase c limits routines st.all (narrowed inside may)
    (task_fits s (confined_to ranges s.guard) gs parts cs phase c routines st.all st.task) total_functions st.some f callable) in
    let d = steps_end sm inner gs (narrowed inside may) k
    (ground_small e s gs parts cs phase c routines total_functions st code ranges may k ground stack) parts cs phase
    (calls_below limits routines total_functions) callees count under space
    steps n at t p after le room al (subst (λ q. at + size_of q < 2 ^ 32) own_code size) fit (matches_guard s (confined_to ranges s.guard) gs parts cs phase k count p t m) source in
    let goes_small : run sm inner at (steps_code e.parts n steps) t ≡ Falls d.to d.trace = ap (λ q. run sm inner at q t) own_code ∙ d.goes in
    let grown : Same (run sm inner at (steps_code e.parts n steps) t) (run s calls at (steps_code e.parts n steps) t) =
    guard_grows sm s.guard (confined_grows ranges s.guard) inner calls
    (λ part u. same_trans _ _ _ (calls_grow s (confined_to ranges s.guard) (confined_grows ranges s.guard) c total_functions part u) (same_calls part u)) (steps_code e.parts n steps) at t in
    let kept : Holds (IsIn code ranges) Any (run sm inner at (steps_code e.parts n steps) t) =
    keeps_in code ranges sm inner (confined_confines ranges s.guard) (steps_code e.parts n steps) at
    (λ a ge lt. held_by (extent_of at (steps_code e.parts n steps)) code a (inl refl) ge lt) (each_steps IsNative emits_native e.parts n steps)
    (steps_call (λ part. (u : TaskState) → Any u → Holds (IsIn code ranges) Any (inner part u)) e.parts n steps
    (λ f among u j. let next = reached f among in
    subst (λ q. Holds (IsIn code ranges) Any (inner q u)) (sym (ap (λ (q : Parts). q.callee f) st.parts_are ∙ st.task.callees f next.callable))
    (calls_keep e s gs parts cs phase c routines total_functions st code ranges total_functions (omega arith) f next u)))
    t in
    let steps_in : AllSteps (IsIn code ranges) d.trace = (subst (Holds (IsIn code ranges) Any) goes_small kept).0 in
    let w = scope_weight e.plant lines (list_all (is_roomy e.plant lines) (data_lines e span)) in
    let weighs = scope_weighs e.plant lines (list_all (is_roomy e.plant lines) (data_lines e span)) in
    let within : Within (weight_of w) (path_weight e w at span) (run sm inner at (steps_code e.parts n steps) t) =
    run_in w weighs sm inner _ (called_weigh e s gs parts cs phase c routines total_functions st (confined_to ranges s.guard) w weighs) (steps_code e.parts n steps) at t in
    record {
      to = d.to;
      trace = d.trace;
      goes = subst (λ o. Same o (run s calls at (steps_code e.parts n steps) t)) goes_small grown;
      keeps = all_kept (IsIn code ranges) (KeepsTo e.plant.line lines) (λ x h. line_kept e.plant.line code ranges x st.line h) d.trace steps_in;
      stays = all_kept (IsIn code ranges) StaysOn (λ x h. h.stays) d.trace steps_in;
      charged = scope_charged e.plant st.line lines code ranges (path_weight e w at span) d.trace steps_in (subst (Within (weight_of w) (path_weight e w at span)) goes_small within);
    }
