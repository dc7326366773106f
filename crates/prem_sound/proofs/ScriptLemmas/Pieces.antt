-- The pieces of a run keep its calls.
use Rattle.std.proofs.Common.{◌≡◌, ℕ, ◌+◌, ◌-◌, ◌*◌, ◌≤◌, refl, ap, ◌∙◌, sym, subst, arith, true, false, None, List, [], ◌∷◌, ◌++◌, append_assoc, append-nil, length, get_or, IfSome, suc}
use Rattle.prem_sound.proofs.Prelude.{is_predictable, cost_of, TaskRun, Did, plain_run, Loads, Change, Stay, Memory, Execute, End, Job, Phase, Compatible, Execution, AllIn, Plant}
use Rattle.prem_sound.proofs.Prelude.{begun_behind, KeepsCalls, GoesOrDone, IsStretch, GoesOrEnds, PiecesJoin, StretchesKeep, MemoryBegins, CallsKeep, AtMark, KeepsMarks, NoMark, MarksJoin}
use Rattle.prem_sound.proofs.Prelude.{MarksRest, due_behind, DuesJoin, CallsAreDueBefore, lines_of_did, lines_of_dids, cost_of_dids, Begun, steps_after, begun_after, Call, call_at, call_of}
use Rattle.prem_sound.proofs.Prelude.{Opens, StoresNothing, IsStep, Script, did_due, Reading, Mark, All-head, All-tail, sum_by-append, sum_by-cons, All}
use Rattle.prem_isa.specs.declared.effect.Phase.TheVariants.{Memory as MemoryPhase}
use Rattle.prem_sound.proofs.Paces.{cost-last}
use Rattle.prem_sound.proofs.ScriptLemmas.Residency.{lines_of_dids-append}

pub pieces_join : PiecesJoin
pieces_join plant passes s b [] ys h k = k
pieces_join plant passes s b (x ∷ xs) ys h k = (h.0, pieces_join plant passes s (begun_after x.change x b) xs ys h.1 k)

pub begun_behind-append : (xs ys : List Did) (b : Begun) → begun_behind (xs ++ ys) b ≡ begun_behind ys (begun_behind xs b)
begun_behind-append [] ys b = refl
begun_behind-append (x ∷ xs) ys b = begun_behind-append xs ys (begun_after x.change x b)

-- ---- stretches

still : (c : Change) (d : Did) (b : Begun) → d.phase ≡ Compatible → GoesOrDone c → begun_after c d b ≡ b
still Stay d b e g = ap (λ ph. record { calls = b.calls; steps = steps_after ph d b.steps }) e
still Memory d b e g = absurd g
still (Execute stated) d b e g = absurd g
still End d b e g = absurd g
still Job d b e g = ap (λ ph. record { calls = b.calls; steps = steps_after ph d b.steps }) e

compatible_free : (plant : Plant) (passes : ℕ → ℕ) (c : Call) (ds : List Did) (d : Did) → d.phase ≡ Compatible → is_predictable d.phase ≡ true → IsStep plant passes c ds d
compatible_free plant passes c ds d e h = absurd (let x : false ≡ true = sym (ap is_predictable e) ∙ h in cc)

pub stretches_keep : StretchesKeep
stretches_keep plant passes s b [] all = (tt, refl)
stretches_keep plant passes s b (d ∷ ds) all =
    let h : IsStretch d = All-head IsStretch d ds all in
    let same : begun_after d.change d b ≡ b = still d.change d b h.phase h.goes_on in
    let r : KeepsCalls plant passes s b ds × (begun_behind ds b ≡ b) = stretches_keep plant passes s b ds (All-tail IsStretch d ds all) in
    ((compatible_free plant passes (call_of s b) b.steps d h.phase, subst (λ x. KeepsCalls plant passes s x ds) (sym same) r.0), ap (begun_behind ds) same ∙ r.1)

pub memory_begins : MemoryBegins
memory_begins plant passes s b d e m = ((compatible_free plant passes (call_of s b) b.steps d e, tt), ap (λ c. begun_after c d b) m)

-- ---- calls

-- an instruction of a call behind those before it
record InCall (plant : Plant) (passes : ℕ → ℕ) (c : Call) (before : List Did) (d : Did) : Type 0 where
  predictable : is_predictable d.phase ≡ true
  goes_on : d.change ≡ Memory → ⊥
  step : IsStep plant passes c before d

abbrev AreInCall : Plant → (ℕ → ℕ) → Call → List Did → List Did → Type 0
AreInCall plant passes c before [] = Unit {0}
AreInCall plant passes c before (d ∷ ds) = InCall plant passes c before d × AreInCall plant passes c (before ++ d ∷ []) ds

in_call-append : (plant : Plant) (passes : ℕ → ℕ) (c : Call) (before xs ys : List Did) → AreInCall plant passes c before xs →
    AreInCall plant passes c (before ++ xs) ys → AreInCall plant passes c before (xs ++ ys)
in_call-append plant passes c before [] ys h k = subst (λ zs. AreInCall plant passes c zs ys) (append-nil before) k
in_call-append plant passes c before (x ∷ xs) ys h k =
    (h.0, in_call-append plant passes c (before ++ x ∷ []) xs ys h.1 (subst (λ zs. AreInCall plant passes c zs ys) (sym (append_assoc before (x ∷ []) xs)) k))

steps_in : (ph : Phase) (d : Did) (ds : List Did) → is_predictable ph ≡ true → steps_after ph d ds ≡ ds ++ d ∷ []
steps_in Compatible d ds h = absurd (let x : false ≡ true = h in cc)
steps_in MemoryPhase d ds h = refl
steps_in Execution d ds h = refl

more : (c : Change) (n : ℕ) (d : Did) (ds : List Did) → is_predictable d.phase ≡ true → (c ≡ Memory → ⊥) →
    begun_after c d (record { calls = n + 1; steps = ds }) ≡ record { calls = n + 1; steps = ds ++ d ∷ [] }
more Stay n d ds h ne = ap (λ zs. record { calls = n + 1; steps = zs }) (steps_in d.phase d ds h)
more Memory n d ds h ne = absurd (ne refl)
more (Execute stated) n d ds h ne = ap (λ zs. record { calls = n + 1; steps = zs }) (steps_in d.phase d ds h)
more End n d ds h ne = ap (λ zs. record { calls = n + 1; steps = zs }) (steps_in d.phase d ds h)
more Job n d ds h ne = ap (λ zs. record { calls = n + 1; steps = zs }) (steps_in d.phase d ds h)

walk : (plant : Plant) (passes : ℕ → ℕ) (s : Script) (n : ℕ) (before ds : List Did) → AreInCall plant passes (call_at s n) before ds →
    KeepsCalls plant passes s (record { calls = n + 1; steps = before }) ds
    × (begun_behind ds (record { calls = n + 1; steps = before }) ≡ record { calls = n + 1; steps = before ++ ds })
walk plant passes s n before [] h = (tt, ap (λ zs. record { calls = n + 1; steps = zs }) (sym (append-nil before)))
walk plant passes s n before (d ∷ ds) h =
    let at : n + 1 - 1 ≡ n = omega arith in
    let next : begun_after d.change d (record { calls = n + 1; steps = before }) ≡ record { calls = n + 1; steps = before ++ d ∷ [] } = more d.change n d before h.0.predictable h.0.goes_on in
    let r : KeepsCalls plant passes s (record { calls = n + 1; steps = before ++ d ∷ [] }) ds
    × (begun_behind ds (record { calls = n + 1; steps = before ++ d ∷ [] }) ≡ record { calls = n + 1; steps = (before ++ d ∷ []) ++ ds }) =
    walk plant passes s n (before ++ d ∷ []) ds h.1 in (
      (λ p. subst (λ k. IsStep plant passes (call_at s k) before d) (sym at) h.0.step, subst (λ b. KeepsCalls plant passes s b ds) (sym next) r.0),
      ap (begun_behind ds) next ∙ r.1 ∙ ap (λ zs. record { calls = n + 1; steps = zs }) (append_assoc before (d ∷ []) ds),
    )

goes_free : (plant : Plant) (passes : ℕ → ℕ) (c : Call) (before : List Did) (ch : Change) → GoesOrEnds ch → Opens plant passes c before ch × (ch ≡ Memory → ⊥)
goes_free plant passes c before Stay g = (tt, λ e. let x : Stay ≡ Memory = e in cc)
goes_free plant passes c before End g = (tt, λ e. let x : End ≡ Memory = e in cc)
goes_free plant passes c before Memory g = absurd g
goes_free plant passes c before (Execute stated) g = absurd g
goes_free plant passes c before Job g = absurd g

-- instructions that neither begin the execution phase nor a call
abbrev Plain : Did → Type 0
Plain d = (is_predictable d.phase ≡ true) × GoesOrEnds d.change × StoresNothing d.phase d.access

all_in_left : (c xs ys : List ℕ) → AllIn c (xs ++ ys) → AllIn c xs
all_in_left c [] ys h = tt
all_in_left c (x ∷ xs) ys h = (h.0, all_in_left c xs ys h.1)

all_in_right : (c xs ys : List ℕ) → AllIn c (xs ++ ys) → AllIn c ys
all_in_right c [] ys h = h
all_in_right c (x ∷ xs) ys h = all_in_right c xs ys h.1

plain_steps_in : (plant : Plant) (passes : ℕ → ℕ) (c : Call) (before ds : List Did) → All Plain ds → AllIn c.members (lines_of_dids plant.line ds) →
    cost_of_dids before + cost_of_dids ds + length c.members * (plant.fill + plant.back) ≤ c.stated → AreInCall plant passes c before ds
plain_steps_in plant passes c before [] all lines fits = tt
plain_steps_in plant passes c before (d ∷ ds) all lines fits =
    let h : Plain d = All-head Plain d ds all in
    let g : Opens plant passes c before d.change × (d.change ≡ Memory → ⊥) = goes_free plant passes c before d.change h.1 in
    let sum : cost_of_dids (d ∷ ds) ≡ cost_of d.instr + cost_of_dids ds = sum_by-cons (λ (x : Did). cost_of x.instr) d ds in
    let last : cost_of_dids (before ++ d ∷ []) ≡ cost_of_dids before + cost_of d.instr = cost-last before d in (
      record {
        predictable = h.0;
        goes_on = g.1;
        step = record {
          within = all_in_left c.members (lines_of_did plant.line d) (lines_of_dids plant.line ds) lines;
          stores = h.2;
          opens = g.0;
          fits = bound (cost_of_dids before) (cost_of d.instr) (cost_of_dids ds) (cost_of_dids (d ∷ ds)) (length c.members * (plant.fill + plant.back)) c.stated sum fits;
        };
      },
      plain_steps_in plant passes c (before ++ d ∷ []) ds (All-tail Plain d ds all) (all_in_right c.members (lines_of_did plant.line d) (lines_of_dids plant.line ds) lines)
          (next (cost_of_dids before) (cost_of d.instr) (cost_of_dids ds) (cost_of_dids (d ∷ ds)) (cost_of_dids (before ++ d ∷ []))
          (length c.members * (plant.fill + plant.back)) c.stated sum last fits),
    ) where
      bound : (a x y z w t : ℕ) → z ≡ x + y → a + z + w ≤ t → a + x + w ≤ t
      bound a x y z w t e h = omega (arith, e, h)

      next : (a x y z b w t : ℕ) → z ≡ x + y → b ≡ a + x → a + z + w ≤ t → b + y + w ≤ t
      next a x y z b w t e f h = omega (arith, e, f, h)

pub calls_keep : CallsKeep
calls_keep plant passes s n before exec rest h =
    let c : Call = call_at s n in
    let w : ℕ = length c.members * (plant.fill + plant.back) in
    let f : Did → ℕ = λ d. cost_of d.instr in
    let lines : lines_of_dids plant.line (before ++ exec ∷ rest) ≡ lines_of_dids plant.line before
    ++ (lines_of_did plant.line exec ++ lines_of_dids plant.line rest) = lines_of_dids-append plant.line before (exec ∷ rest) in
    let within : AllIn c.members (lines_of_dids plant.line before ++ (lines_of_did plant.line exec ++ lines_of_dids plant.line rest)) = subst (AllIn c.members) lines h.within in
    let behind : AllIn c.members (lines_of_did plant.line exec ++ lines_of_dids plant.line rest) =
    all_in_right c.members (lines_of_dids plant.line before) (lines_of_did plant.line exec ++ lines_of_dids plant.line rest) within in
    let sum : cost_of_dids (before ++ exec ∷ rest) ≡ cost_of_dids before + cost_of_dids (exec ∷ rest) = sum_by-append f before (exec ∷ rest) in
    let cons : cost_of_dids (exec ∷ rest) ≡ cost_of exec.instr + cost_of_dids rest = sum_by-cons f exec rest in
    let last : cost_of_dids (before ++ exec ∷ []) ≡ cost_of_dids before + cost_of exec.instr = cost-last before exec in
    let opening : AreInCall plant passes c [] before =
    plain_steps_in plant passes c [] before
    (λ k d lt. let x : (get_or before k d).phase ≡ MemoryPhase = (h.fetching k d lt).0 in
    (ap is_predictable x, (h.fetching k d lt).1, stores_memory (get_or before k d) x (h.fetching k d lt).2))
    (all_in_left c.members (lines_of_dids plant.line before) (lines_of_did plant.line exec ++ lines_of_dids plant.line rest) within) (omega (arith, sum, cons, h.fits)) in
    let exec_in : InCall plant passes c before exec = record {
      predictable = ap is_predictable h.opens.0;
      goes_on = λ e. let x : Execute c.stated ≡ Memory = sym h.opens.1 ∙ e in cc;
      step = record {
        within = all_in_left c.members (lines_of_did plant.line exec) (lines_of_dids plant.line rest) behind;
        stores = stores_none exec h.opens.0 h.opens.2;
        opens = subst (Opens plant passes c before) (sym h.opens.1) (refl, h.covered);
        fits = omega (arith, sum, cons, h.fits);
      };
    } in
    let running : AreInCall plant passes c (before ++ exec ∷ []) rest =
    plain_steps_in plant passes c (before ++ exec ∷ []) rest
    (λ k d lt. let x : (get_or rest k d).phase ≡ Execution = (h.running k d lt).0 in
    (ap is_predictable x, (h.running k d lt).1, stores_execution (get_or rest k d) x))
    (all_in_right c.members (lines_of_did plant.line exec) (lines_of_dids plant.line rest) behind) (omega (arith, sum, cons, last, h.fits)) in
    walk plant passes s n [] (before ++ exec ∷ rest) (in_call-append plant passes c [] before (exec ∷ rest) opening (exec_in, running)) where
      stores_memory : (d : Did) → d.phase ≡ MemoryPhase → IfSome d.access (λ a. a.kind ≡ Loads) → StoresNothing d.phase d.access
      stores_memory d e h = subst (λ ph. StoresNothing ph d.access) (sym e) h

      stores_none : (d : Did) → d.phase ≡ MemoryPhase → d.access ≡ None → StoresNothing d.phase d.access
      stores_none d e n = subst (λ ph. StoresNothing ph d.access) (sym e) (subst (λ o. IfSome o (λ a. a.kind ≡ Loads)) (sym n) tt)

      stores_execution : (d : Did) → d.phase ≡ Execution → StoresNothing d.phase d.access
      stores_execution d e = subst (λ ph. StoresNothing ph d.access) (sym e) tt

-- ---- marks

pub marks_join : MarksJoin
marks_join reads marks run n b [] ys h k = subst (λ m. KeepsMarks reads marks run m b ys) (omega arith) k
marks_join reads marks run n b (x ∷ xs) ys h k =
    let e : n + suc (length xs) ≡ n + 1 + length xs = omega arith in
    (h.0, marks_join reads marks run (n + 1) (begun_after x.change x b) xs ys h.1 (subst (λ m. KeepsMarks reads marks run m (begun_behind xs (begun_after x.change x b)) ys) e k))

no_mark_at : (reads : Reading) (marks : List Mark) (c : Change) (view : ℕ → ℕ) (b : Begun) → NoMark c → AtMark reads marks c view b
no_mark_at reads marks Stay view b h = tt
no_mark_at reads marks Memory view b h = absurd h
no_mark_at reads marks (Execute stated) view b h = tt
no_mark_at reads marks End view b h = absurd h
no_mark_at reads marks Job view b h = tt

pub marks_rest : MarksRest
marks_rest reads marks run n b [] all = tt
marks_rest reads marks run n b (d ∷ ds) all = (
  no_mark_at reads marks d.change (plain_run run (n + 1)).task.view b (All-head (λ (x : Did). NoMark x.change) d ds all),
  marks_rest reads marks run (n + 1) (begun_after d.change d b) ds (All-tail (λ (x : Did). NoMark x.change) d ds all),
)

-- at a place of the list
pub marks_at : (reads : Reading) (marks : List Mark) (run : TaskRun) (n : ℕ) (b : Begun) (xs : List Did) (d : Did) (ys : List Did) →
    KeepsMarks reads marks run n b (xs ++ d ∷ ys) → AtMark reads marks d.change (plain_run run (n + length xs + 1)).task.view (begun_behind xs b)
marks_at reads marks run n b [] d ys h = let e : n + 1 ≡ n + 0 + 1 = omega arith in subst (λ m. AtMark reads marks d.change (plain_run run m).task.view b) e h.0
marks_at reads marks run n b (x ∷ xs) d ys h =
    let e : n + 1 + length xs + 1 ≡ n + suc (length xs) + 1 = omega arith in
    subst (λ m. AtMark reads marks d.change (plain_run run m).task.view (begun_behind xs (begun_after x.change x b))) e (marks_at reads marks run (n + 1) (begun_after x.change x b) xs d ys h.1)

-- ---- what is due

pub dues_join : DuesJoin
dues_join plant s b [] ys = omega arith
dues_join plant s b (x ∷ xs) ys =
    let r : due_behind plant s (begun_after x.change x b) (xs ++ ys)
    ≡ due_behind plant s (begun_after x.change x b) xs + due_behind plant s (begun_behind xs (begun_after x.change x b)) ys =
    dues_join plant s (begun_after x.change x b) xs ys in
    sum (did_due plant (call_at s b.calls).stated x.phase x) _ _ _ r where
      sum : (a t u v : ℕ) → t ≡ u + v → a + t ≡ a + u + v
      sum a t u v e = omega (arith, e)

none_due : (plant : Plant) (stated : ℕ) (ph : Phase) (d : Did) → is_predictable ph ≡ true → did_due plant stated ph d ≡ 0
none_due plant stated Compatible d h = absurd (let x : false ≡ true = h in cc)
none_due plant stated MemoryPhase d h = refl
none_due plant stated Execution d h = refl

pub calls_are_due_before : CallsAreDueBefore
calls_are_due_before plant s b [] all = refl
calls_are_due_before plant s b (d ∷ ds) all =
    ap (λ n. n + due_behind plant s (begun_after d.change d b) ds) (none_due plant (call_at s b.calls).stated d.phase d (All-head (λ (x : Did). is_predictable x.phase ≡ true) d ds all))
    ∙ (let r : due_behind plant s (begun_after d.change d b) ds ≡ 0 =
    calls_are_due_before plant s (begun_after d.change d b) ds (All-tail (λ (x : Did). is_predictable x.phase ≡ true) d ds all) in omega (arith, r))
