-- Courses along weaves are strands.
use Rattle.std.specs.Prelude.{All, slice_index_or}
use Rattle.std.proofs.Common.{◌≡◌, ℕ, suc, ◌+◌, ◌*◌, ◌≤◌, refl, ap, ◌∙◌, sym, subst, arith, true, false, ◌&&◌, leb, List, [], ◌∷◌, ◌++◌, append_assoc, length, max, pos}
use Rattle.std.proofs.lemmas.Bool.{and_parts, leb-true}
use Rattle.std.proofs.lemmas.List.Elements.{All-nil, All-cons, All-append}
use Rattle.prem_plant.specs.declared.plant.Plant.{Plant}
use Rattle.prem_isa.specs.declared.effect.Change.{Change}
use Rattle.prem_isa.specs.declared.effect.Change.TheVariants.{Stay, Memory, Execute, End, Job}
use Rattle.prem_isa.specs.declared.effect.Phase.TheVariants.{Compatible}
use Rattle.prem_isa.specs.Plain.{Did}
use Rattle.prem_cycle.specs.Core.{is_predictable}
use Rattle.prem_cycle.specs.Runs.Position.Finish.{due_of}
use Rattle.prem_sound.specs.Script.Script.{change_due, Call, call_at, Script}
use Rattle.prem_sound.specs.Script.Conforms.{GoesOrDone}
use Rattle.prem_asm.specs.Steps.{AllSteps}
use Rattle.prem_sets_sound.specs.Weave.Weave.{Section, segment_of, section_dids, IsSection, Weave, ends, goes, calls, dids_of, calls_of, IsWeave}
use Rattle.prem_sound.specs.Scopes.Scopes.{Scope, charge_of, single}
use Rattle.prem_sound.specs.Scopes.Strands.{Strand, runs, GoesTo, IsWithinInterval, change_behind, last_change, calls_begun, scope_due, begun_along}
use Rattle.prem_sound.specs.Scopes.Strands.{charges_along, StretchesWithin}
use Rattle.prem_sound.specs.Scopes.Strands as S
use Rattle.prem_sound.proofs.ScopesLemmas.Alone.{singles_are_due}
use Rattle.prem_wcet_laws.specs.Divided.{Division, alone, together, section, steps_of, lone_charge, scope_charge, StaysOn, AreLoose, IsCourse, path_of}
use Rattle.prem_wcet_laws.specs.Divided as D
use Rattle.prem_wcet_laws.specs.PartedLaws.{is_marked}
use Rattle.prem_latency.specs.Wcet.Marked.{is_memory, is_stay, returns, goes_by, goes_to_end, is_call, is_marked_call, first_within, last_within, last_due as due_of_last, call_due}
use Rattle.prem_latency.specs.Wcet.Openings.{up_to_end, counts_of}
use Rattle.prem_latency.specs.Wcet.Aligned.{StateWithin, CourseStrand, CoursesAreStrands}
use Rattle.prem_latency.proofs.WcetLemmas.Openings.{section_ends, last_is}
use Rattle.prem_latency.proofs.WcetLemmas.Partings.{scopes_agree, lones_agree, steps_in}
use Rattle.prem_layout.specs.Stretch.Paths.{Path, Takes, Cuts, longest_from}
use Rattle.prem_layout.specs.Bounds.{job_weight}
use Rattle.prem_isa.specs.declared.instr.Instr.TheVariants.{Jalr, PmMem}
use Rattle.prem_latency.proofs.WcetLemmas.Marked.{last_end}
use Rattle.prem_sound.specs.Paced.Paced.{within_stretch}

-- ---- lists

head_is : (x y : Did) (xs ys : List Did) → x ∷ xs ≡ y ∷ ys → x ≡ y
head_is x y xs ys e = cc

tail_is : (x y : Did) (xs ys : List Did) → x ∷ xs ≡ y ∷ ys → xs ≡ ys
tail_is x y xs ys e = cc

none_some : (y : Did) (ys : List Did) → [] ≡ y ∷ ys → ⊥
none_some y ys e = cc

-- ---- changes

memory_stays : Memory ≡ Stay → ⊥
memory_stays e = cc

stay_job : Stay ≡ Job → ⊥
stay_job e = cc

memory_job : Memory ≡ Job → ⊥
memory_job e = cc

false_true : false ≡ true → ⊥
false_true e = cc

stays_so : (c : Change) → is_stay c ≡ true → c ≡ Stay
stays_so Stay e = refl
stays_so Memory e = absurd (false_true e)
stays_so (Execute stated) e = absurd (false_true e)
stays_so End e = absurd (false_true e)
stays_so Job e = absurd (false_true e)

no_memory : (c : Change) → GoesOrDone c → is_memory c ≡ true → ⊥
no_memory Stay g e = false_true e
no_memory Memory g e = g
no_memory (Execute stated) g e = g
no_memory End g e = g
no_memory Job g e = false_true e

none_begun : (begun : ℕ) (c : Change) → c ≡ Stay → begun + calls_begun c ≡ begun
none_begun begun c e = ap (λ c. begun + calls_begun c) e ∙ same begun where
  same : (n : ℕ) → n + 0 ≡ n
  same n = omega arith

-- ---- loose steps

pub record Taken (p : Plant) (passes : ℕ → ℕ) (counts : List Did → ℕ) (w : Weave) (steps more : List Did) : Type 0 where
  pub rest : Weave
  pub is_weave : IsWeave p passes rest
  pub dids : dids_of rest ≡ more
  pub calls_are : calls_of w ≡ calls_of rest
  pub counts_are : counts_of counts w ≡ counts_of counts rest
  pub quiet : IsWithinInterval steps
  pub last : change_behind Stay steps ≡ Stay

module _ (p : Plant) (passes : ℕ → ℕ) (counts : List Did → ℕ) where
  pub take : (steps more : List Did) (w : Weave) → IsWeave p passes w → AllSteps StaysOn steps → dids_of w ≡ steps ++ more → Taken p passes counts w steps more
  take [] more w h st e = record { rest = w; is_weave = h; dids = e; calls_are = refl; counts_are = refl; quiet = tt; last = refl }
  take (d ∷ ds) more ends h st e = absurd (none_some d (ds ++ more) e)
  take (d ∷ ds) more (goes x w) h st e =
      let head : x ≡ d = head_is x d (dids_of w) (ds ++ more) e in
      let r = take ds more w h.1 st.1 (tail_is x d (dids_of w) (ds ++ more) e) in
      record {
        rest = r.rest;
        is_weave = r.is_weave;
        dids = r.dids;
        calls_are = r.calls_are;
        counts_are = r.counts_are;
        quiet = (subst (λ (z : Did). z.phase ≡ Compatible) head h.0.phase, subst (λ c. GoesTo c ds) (sym st.0) tt, r.quiet);
        last = ap (λ c. change_behind c ds) st.0 ∙ r.last;
      }
  take (d ∷ ds) more (calls m w) h st e =
      let head : m.begin ≡ d = head_is m.begin d (segment_of m ++ dids_of w) (ds ++ more) e in
      absurd (memory_stays (sym h.0.begins.1 ∙ ap (λ (z : Did). z.change) head ∙ st.0))

-- ---- the steps of a marked call

record Peeled (xs ys ds more : List Did) : Type 0 where
  rest : List Did
  on : goes_to_end rest ≡ true
  left : ys ≡ rest ++ more
  is : ds ≡ xs ++ rest

peel : (xs ys ds more : List Did) → All StaysOn xs → goes_to_end ds ≡ true → xs ++ ys ≡ ds ++ more → Peeled xs ys ds more
peel [] ys ds more h g e = record { rest = ds; on = g; left = e; is = refl }
peel (x ∷ xs) ys [] more h g e = absurd (false_true g)
peel (x ∷ xs) ys (d ∷ ds) more h g e =
    let same : d ≡ x = sym (head_is x d (xs ++ ys) (ds ++ more) e) in
    let stay : d.change ≡ Stay = ap (λ (z : Did). z.change) same ∙ h 0 x (omega arith) in
    let r = peel xs ys ds more (λ k d lt. h (suc k) d (omega (arith, lt))) (sym (ap (λ c. goes_by c ds (goes_to_end ds)) stay) ∙ g) (tail_is x d (xs ++ ys) (ds ++ more) e) in
    record { rest = r.rest; on = r.on; left = r.left; is = ap (λ zs. d ∷ zs) r.is ∙ ap (λ z. z ∷ (xs ++ r.rest)) same }

peel_exec : (x : Did) (stated : ℕ) (ys ds more : List Did) → x.change ≡ Execute stated → goes_to_end ds ≡ true → x ∷ ys ≡ ds ++ more → Peeled (x ∷ []) ys ds more
peel_exec x stated ys [] more h g e = absurd (false_true g)
peel_exec x stated ys (d ∷ ds) more h g e =
    let same : d ≡ x = sym (head_is x d ys (ds ++ more) e) in
    let opens : d.change ≡ Execute stated = ap (λ (z : Did). z.change) same ∙ h in
    record { rest = ds; on = sym (ap (λ c. goes_by c ds (goes_to_end ds)) opens) ∙ g; left = tail_is x d ys (ds ++ more) e; is = ap (λ z. z ∷ ds) same }

record Ended (x : Did) (ys ds more : List Did) : Type 0 where
  ret : Did
  stays : ret.change ≡ Stay
  left : ys ≡ ret ∷ more
  is : ds ≡ x ∷ ret ∷ []

peel_return : (x d : Did) (ys ds more : List Did) → d ≡ x → returns ds ≡ true → ys ≡ ds ++ more → Ended x ys (d ∷ ds) more
peel_return x d ys [] more same g e = absurd (false_true g)
peel_return x d ys (r ∷ []) more same g e = record { ret = r; stays = stays_so r.change g; left = e; is = ap (λ z. z ∷ r ∷ []) same }
peel_return x d ys (r ∷ q ∷ ds) more same g e = absurd (false_true g)

peel_end : (x : Did) (ys ds more : List Did) → x.change ≡ End → goes_to_end ds ≡ true → x ∷ ys ≡ ds ++ more → Ended x ys ds more
peel_end x ys [] more h g e = absurd (false_true g)
peel_end x ys (d ∷ ds) more h g e =
    let same : d ≡ x = sym (head_is x d ys (ds ++ more) e) in
    let over : d.change ≡ End = ap (λ (z : Did). z.change) same ∙ h in
    peel_return x d ys ds more same (sym (ap (λ c. goes_by c ds (goes_to_end ds)) over) ∙ g) (tail_is x d ys (ds ++ more) e)

record CallTaken (m : Section) (ys ds more : List Did) : Type 0 where
  ret : Did
  stays : ret.change ≡ Stay
  left : ys ≡ ret ∷ more
  is : ds ≡ segment_of m ++ ret ∷ []

call_taken : (p : Plant) (passes : ℕ → ℕ) (m : Section) (ys ds more : List Did) → IsSection p passes m → goes_to_end ds ≡ true → segment_of m ++ ys ≡ ds ++ more → CallTaken m ys ds more
call_taken p passes m ys ds more h g e =
    let a = peel m.before (m.exec ∷ ((m.body ++ m.last ∷ []) ++ ys)) ds more (λ k d lt. (h.fetching k d lt).1) g (sym (append_assoc m.before (m.exec ∷ (m.body ++ m.last ∷ [])) ys) ∙ e) in
    let b = peel_exec m.exec m.call.stated ((m.body ++ m.last ∷ []) ++ ys) a.rest more h.opens.1 a.on a.left in
    let c = peel m.body (m.last ∷ ys) b.rest more (λ k d lt. (h.running k d lt).1) b.on (sym (append_assoc m.body (m.last ∷ []) ys) ∙ b.left) in
    let d = peel_end m.last ys c.rest more h.lasts.1 c.on c.left in
    record {
      ret = d.ret;
      stays = d.stays;
      left = d.left;
      is = a.is
          ∙ ap (λ zs. m.before ++ zs) (b.is ∙ ap (λ zs. m.exec ∷ zs) (c.is ∙ ap (λ zs. m.body ++ zs) d.is ∙ sym (append_assoc m.body (m.last ∷ []) (d.ret ∷ []))))
          ∙ sym (append_assoc m.before (m.exec ∷ (m.body ++ m.last ∷ [])) (d.ret ∷ []));
    }

-- ---- the calls of a script

first_state : (s : Script) (begun n : ℕ) (ns : List ℕ) → StateWithin s begun (n ∷ ns) → (call_at s begun).stated ≤ n
first_state s begun n ns h = let e : begun + 0 ≡ begun = omega arith in subst (λ i. (call_at s i).stated ≤ n) e (h 0 (omega arith))

next_states : (s : Script) (begun n : ℕ) (ns : List ℕ) → StateWithin s begun (n ∷ ns) → StateWithin s (begun + 1) ns
next_states s begun n ns h i lt = let e : begun + suc i ≡ begun + 1 + i = omega arith in subst (λ j. (call_at s j).stated ≤ slice_index_or ns i 0) e (h (suc i) (omega (arith, lt)))

-- ---- the strand

module _ (p : Plant) (passes : ℕ → ℕ) (s : Script) (counts : List Did → ℕ) where
  abbrev IsMarked : Did → Type 0
  IsMarked d = is_predictable d.phase ≡ true

  segment_marked : (m : Section) → IsSection p passes m → All IsMarked (segment_of m)
  segment_marked m h =
      All-append IsMarked m.before (m.exec ∷ (m.body ++ m.last ∷ [])) (λ k d lt. ap is_predictable (h.fetching k d lt).0)
      (All-cons IsMarked m.exec (m.body ++ m.last ∷ []) (ap is_predictable h.opens.0)
      (All-append IsMarked m.body (m.last ∷ []) (λ k d lt. ap is_predictable (h.running k d lt).0)
      (All-cons IsMarked m.last [] (ap is_predictable h.lasts.0) (All-nil IsMarked))))

  sum : (a b x y : ℕ) → a ≡ x → b ≤ y → a + b ≤ x + y
  sum a b x y e le = omega (arith, e, le)

  -- a scope that goes on is due its charge
  due_on : (begun : ℕ) (x : Scope) (n : ℕ) → last_change x.dids ≡ Stay → charge_of p x ≡ n → scope_due p s begun x ≡ n
  due_on begun x n e is =
      let free : change_due p (call_at s begun).stated (last_change x.dids) ≡ 0 = ap (change_due p (call_at s begun).stated) e in
      omega (arith, free, is)

  -- a scope that goes on, before a strand
  before : (begun : ℕ) (x : Scope) (n : ℕ) (w : Weave) (v : Division) (all : List Did) (most : ℕ) (r : CourseStrand p s begun w v) → last_change x.dids ≡ Stay → charge_of p x ≡ n →
      (begun_along begun (runs x r.strand) ≡ begun + length (calls_of w)) × (charges_along p s begun (runs x r.strand) ≤ n + D.charge_of p v)
  before begun x n w v all most r e is =
      let count : begun + calls_begun (last_change x.dids) ≡ begun = none_begun begun (last_change x.dids) e in (
        ap (λ b. begun_along b r.strand) count ∙ r.begun_is,
        sum (scope_due p s begun x) (charges_along p s (begun + calls_begun (last_change x.dids)) r.strand) n (D.charge_of p v) (due_on begun x n e is)
            (subst (λ b. charges_along p s b r.strand ≤ D.charge_of p v) (sym count) r.charged),
      )

  low_of : {a b : ℕ} → a ≡ b → a ≤ b
  low_of e = omega (arith, e)

  further : (a b c : ℕ) → a ≤ b → b ≤ c → a ≤ c
  further a b c h k = omega (arith, h, k)

  sum_less : (n a b : ℕ) → a ≤ b → n + a ≤ n + b
  sum_less n a b h = omega (arith, h)

  -- a path's stretches are at least what has been taken, and grow with it
  at_least : (n : ℕ) (es : Path) → n ≤ longest_from n es
  at_least n [] = omega arith
  at_least n (Takes a ∷ es) = further n (n + a) (longest_from (n + a) es) (omega arith) (at_least (n + a) es)
  at_least n (Cuts ∷ es) = omega arith

  from_less : (m n : ℕ) (es : Path) → m ≤ n → longest_from m es ≤ longest_from n es
  from_less m n [] le = le
  from_less m n (Takes a ∷ es) le = from_less (m + a) (n + a) es (omega (arith, le))
  from_less m n (Cuts ∷ es) le = omega (arith, le)

  first_fits : (stretch d : ℕ) (es : Path) (most : ℕ) {c : ℕ} → c ≤ d → longest_from stretch (Takes d ∷ es) ≤ most → stretch + c ≤ most
  first_fits stretch d es most {c} le fits =
      further (stretch + c) (stretch + d) most (sum_less stretch c d le)
      (further (stretch + d) (longest_from (stretch + d) es) most (at_least (stretch + d) es) fits)

  -- a scope that goes on
  one_stretch : (most stretch : ℕ) (x : Scope) (n : ℕ) (es : Path) (w : Strand) (z : Scope) → last_change x.dids ≡ Stay → charge_of p x ≤ n → longest_from stretch (Takes n ∷ es) ≤ most →
      ((st2 : ℕ) → longest_from st2 es ≤ most → StretchesWithin p most st2 (S.joined w (runs z S.ends))) → StretchesWithin p most stretch (runs x (S.joined w (runs z S.ends)))
  one_stretch most stretch x n es w z stays le fits again = (
    first_fits stretch n es most le fits,
    subst (λ c. StretchesWithin p most (within_stretch c (stretch + charge_of p x)) (S.joined w (runs z S.ends))) (sym stays)
        (again (stretch + charge_of p x) (further _ (longest_from (stretch + n) es) most (from_less (stretch + charge_of p x) (stretch + n) es (sum_less stretch (charge_of p x) n le)) fits)),
  )

  -- a marked call between its first step and its return
  call_stretches : (most stretch : ℕ) (x : Scope) (ds : List Did) (y : Scope) (es : Path) (w : Strand) (z : Scope) → last_change x.dids ≡ Memory →
      last_change y.dids ≡ Stay → charge_of p x ≤ job_weight p PmMem → charge_of p y ≤ job_weight p (Jalr 0 4 (pos 0)) →
      longest_from stretch (Takes (job_weight p PmMem) ∷ Cuts ∷ Takes (job_weight p (Jalr 0 4 (pos 0))) ∷ es) ≤ most →
      ((st2 : ℕ) → longest_from st2 es ≤ most → StretchesWithin p most st2 (S.joined w (runs z S.ends))) → StretchesWithin p most stretch (runs x (S.calls ds (runs y (S.joined w (runs z S.ends)))))
  call_stretches most stretch x ds y es w z memory stays le more fits again =
      let rest = Takes (job_weight p (Jalr 0 4 (pos 0))) ∷ es in (
        further _ (longest_from (stretch + job_weight p PmMem) (Cuts ∷ rest)) most
            (further _ (stretch + job_weight p PmMem) _ (sum_less stretch _ _ le) (at_least (stretch + job_weight p PmMem) (Cuts ∷ rest))) fits,
        subst (λ c. StretchesWithin p most (within_stretch c (stretch + charge_of p x)) (runs y (S.joined w (runs z S.ends)))) (sym memory)
            (one_stretch most 0 y (job_weight p (Jalr 0 4 (pos 0))) es w z stays more (right_most (stretch + job_weight p PmMem) (longest_from 0 rest) most fits) again),
      ) where
        right_most : (a b n : ℕ) → max a b ≤ n → b ≤ n
        right_most a b n h = omega (arith, h)

  first_due : (d : Did) → due_of p d ≤ job_weight p PmMem → charge_of p (single p d) ≤ job_weight p PmMem
  first_due d le = let e = (singles_are_due p d).1 in omega (arith, e, le)

  last_due : (d : Did) → due_of p d ≤ job_weight p (Jalr 0 4 (pos 0)) → charge_of p (single p d) ≤ job_weight p (Jalr 0 4 (pos 0))
  last_due d le = let e = (singles_are_due p d).1 in omega (arith, e, le)

  strands : (v : Division) (w : Weave) (begun : ℕ) → IsWeave p passes w → IsCourse (is_marked (is_marked_call p counts)) p.line v → AreLoose v →
      dids_of w ≡ steps_of v → StateWithin s begun (counts_of counts w) → CourseStrand p s begun w v
  strands D.ends ends begun h k st e c =
      record {
        strand = S.ends;
        dids_are = refl;
        is_strand = tt;
        no_job = tt;
        begun_is = omega arith;
        charged = omega arith;
        stretches = λ most stretch d last le fits. (first_fits stretch d [] most le fits, tt);
      }
  strands D.ends (goes x w) begun h k st e c = absurd (none_some x (dids_of w) (sym e))
  strands D.ends (calls m w) begun h k st e c = absurd (none_some m.begin (segment_of m ++ dids_of w) (sym e))
  strands (alone d_ rest) w begun h k st e c =
      let t = take p passes counts (d_ ∷ []) (steps_of rest) w h (st.0, tt) e in
      let r = strands rest t.rest begun t.is_weave k st.1 t.dids (subst (StateWithin s begun) t.counts_are c) in
      let b = before begun (single p d_) (lone_charge p d_) t.rest rest [] 0 r t.last ((singles_are_due p d_).1 ∙ lones_agree p d_) in
      record {
        strand = runs (single p d_) r.strand;
        dids_are = ap (λ ds. d_ ∷ ds) r.dids_are;
        is_strand = (t.quiet, (singles_are_due p d_).0, r.is_strand);
        no_job = ((λ j. stay_job (sym st.0 ∙ j)), r.no_job);
        begun_is = b.0 ∙ ap (λ (cs : List Call). begun + length cs) (sym t.calls_are);
        charged = b.1;
        stretches = λ most stretch d z le fits. one_stretch most stretch (single p d_) (lone_charge p d_) (path_of p rest ++ Takes d ∷ [])
            r.strand z t.last (low_of ((singles_are_due p d_).1 ∙ lones_agree p d_)) fits (λ st2 low. r.stretches most st2 d z le low);
      }
  strands (together lines steps rest) w begun h k st e c =
      let t = take p passes counts steps (steps_of rest) w h st.0 e in
      let r = strands rest t.rest begun t.is_weave k.1 st.1 t.dids (subst (StateWithin s begun) t.counts_are c) in
      let x : Scope = record { lines = lines; dids = steps } in
      let b = before begun x (scope_charge p lines steps) t.rest rest [] 0 r t.last (scopes_agree p lines steps) in
      record {
        strand = runs x r.strand;
        dids_are = ap (λ ds. steps ++ ds) r.dids_are;
        is_strand = (t.quiet, steps_in p.line lines steps k.0, r.is_strand);
        no_job = ((λ j. stay_job (sym t.last ∙ j)), r.no_job);
        begun_is = b.0 ∙ ap (λ (cs : List Call). begun + length cs) (sym t.calls_are);
        charged = b.1;
        stretches = λ most stretch d z le fits. one_stretch most stretch x (scope_charge p lines steps) (path_of p rest ++ Takes d ∷ [])
            r.strand z t.last (low_of (scopes_agree p lines steps)) fits (λ st2 low. r.stretches most st2 d z le low);
      }
  strands (section [] weight rest) w begun h k st e c = absurd (false_true (and_parts (is_call []) (leb (call_due p counts []) weight && (first_within p [] && last_within p [])) k.0).0)
  strands (section (b ∷ ds) weight rest) ends begun h k st e c = absurd (none_some b (ds ++ steps_of rest) e)
  strands (section (b ∷ ds) weight rest) (goes x w) begun h k st e c =
      let call : is_call (b ∷ ds) ≡ true = (and_parts (is_call (b ∷ ds)) (leb (call_due p counts (b ∷ ds)) weight && (first_within p (b ∷ ds) && last_within p (b ∷ ds))) k.0).0 in
      let opens : is_memory b.change ≡ true = (and_parts (is_memory b.change) (goes_to_end ds) call).0 in
      let head : x ≡ b = head_is x b (dids_of w) (ds ++ steps_of rest) e in
      absurd (no_memory x.change h.0.goes_on (ap (λ (z : Did). is_memory z.change) head ∙ opens))
  strands (section (b ∷ ds) weight rest) (calls m w) begun h k st e c =
      let two = and_parts (is_call (b ∷ ds)) (leb (call_due p counts (b ∷ ds)) weight && (first_within p (b ∷ ds) && last_within p (b ∷ ds))) k.0 in
      let costs = and_parts (leb (call_due p counts (b ∷ ds)) weight) (first_within p (b ∷ ds) && last_within p (b ∷ ds)) two.1 in
      let ruled = and_parts (first_within p (b ∷ ds)) (last_within p (b ∷ ds)) costs.1 in
      let on : goes_to_end ds ≡ true = (and_parts (is_memory b.change) (goes_to_end ds) two.0).1 in
      let head : m.begin ≡ b = head_is m.begin b (segment_of m ++ dids_of w) (ds ++ steps_of rest) e in
      let q = call_taken p passes m (dids_of w) ds (steps_of rest) h.0 on (tail_is m.begin b (segment_of m ++ dids_of w) (ds ++ steps_of rest) e) in
      let t = take p passes counts (q.ret ∷ []) (steps_of rest) w h.1 (q.stays, tt) q.left in
      let later : StateWithin s (begun + 1) (counts_of counts t.rest) = subst (StateWithin s (begun + 1)) t.counts_are (next_states s begun (counts (segment_of m)) (counts_of counts w) c) in
      let r = strands rest t.rest (begun + 1) t.is_weave k.1 st t.dids later in
      let memory : b.change ≡ Memory = ap (λ (z : Did). z.change) (sym head) ∙ h.0.begins.1 in
      let count : begun + calls_begun b.change ≡ begun + 1 = ap (λ c. begun + calls_begun c) memory in
      let f = before (begun + 1) (single p q.ret) (due_of p q.ret) t.rest rest [] 0 r t.last (singles_are_due p q.ret).1 in
      let this : (call_at s begun).stated ≤ counts (segment_of m) = first_state s begun (counts (segment_of m)) (counts_of counts w) c in
      let first : scope_due p s begun (single p b) ≤ due_of p b + (2 * p.switch + counts (segment_of m)) =
      begins (charge_of p (single p b)) (change_due p (call_at s begun).stated b.change) (due_of p b) (2 * p.switch) (call_at s begun).stated (counts (segment_of m)) (singles_are_due p b).1
      (ap (change_due p (call_at s begun).stated) memory) this in
      let steps_are : b ∷ ds ≡ section_dids m ++ q.ret ∷ [] = ap (λ zs. b ∷ zs) q.is ∙ ap (λ z. z ∷ (segment_of m ++ q.ret ∷ [])) (sym head) in
      let inner_is : counts (up_to_end ds) ≡ counts (segment_of m) = ap (λ zs. counts (up_to_end zs)) q.is ∙ ap counts (section_ends p passes m h.0 (q.ret ∷ [])) in
      let ret_is : due_of_last p ds ≡ due_of p q.ret = ap (due_of_last p) q.is ∙ last_is p (segment_of m) q.ret in
      record {
        strand = runs (single p b) (S.calls (segment_of m) (runs (single p q.ret) r.strand));
        dids_are = ap (λ zs. b ∷ zs)
            (ap (λ zs. segment_of m ++ q.ret ∷ zs) r.dids_are ∙ sym (append_assoc (segment_of m) (q.ret ∷ []) (steps_of rest)) ∙ ap (λ zs. zs ++ steps_of rest) (sym q.is));
        is_strand = (
          (subst (λ (z : Did). z.phase ≡ Compatible) head h.0.begins.0, subst (λ c. GoesTo c []) (sym memory) refl, tt),
          (singles_are_due p b).0,
          (segment_marked m h.0, (t.quiet, (singles_are_due p q.ret).0, r.is_strand)),
        );
        no_job = ((λ j. memory_job (sym memory ∙ j)), ((λ j. stay_job (sym q.stays ∙ j)), r.no_job));
        begun_is = ap (λ n. begun_along n (runs (single p q.ret) r.strand)) count ∙ f.0
            ∙ longer begun (length (calls_of t.rest)) (length (calls_of w)) (ap (λ (cs : List Call). length cs) (sym t.calls_are));
        charged = within (scope_due p s begun (single p b)) (charges_along p s (begun + calls_begun b.change) (runs (single p q.ret) r.strand))
            (due_of p b) (2 * p.switch) (counts (segment_of m)) (counts (up_to_end ds)) (due_of p q.ret) (due_of_last p ds)
            (D.charge_of p rest) (call_due p counts (b ∷ ds)) weight first
            (subst (λ n. charges_along p s n (runs (single p q.ret) r.strand) ≤ due_of p q.ret + D.charge_of p rest) (sym count) f.1) inner_is ret_is refl
            (leb-true _ _ costs.0);
        stretches = λ most stretch d z le fits. call_stretches most stretch (single p b) (segment_of m) (single p q.ret) (path_of p rest ++ Takes d ∷ []) r.strand z memory t.last
            (first_due b (leb-true _ _ ruled.0)) (last_due q.ret (leb-true _ _ (sym (ap (last_within p) steps_are ∙ last_end p (section_dids m) q.ret) ∙ ruled.1))) fits
            (λ st2 low. r.stretches most st2 d z le low);
      }
    where
      begins : (a b x w n m : ℕ) → a ≡ x → b ≡ w + n → n ≤ m → a + b ≤ x + (w + m)
      begins a b x w n m e f le = omega (arith, e, f, le)

      longer : (n a b : ℕ) → a ≡ b → n + 1 + a ≡ n + suc b
      longer n a b e = omega (arith, e)

      within : (first more due switches inner up ret last rest all weight : ℕ) → first ≤ due + (switches + inner) → more ≤ ret + rest → up ≡ inner →
          last ≡ ret → all ≡ due + (switches + up) + last → all ≤ weight → first + more ≤ weight + rest
      within first more due switches inner up ret last rest all weight a b c d e f = omega (arith, a, b, c, d, e, f)

pub courses_are_strands : CoursesAreStrands
courses_are_strands p passes s counts begun v w h k st e c = strands p passes s counts v w begun h k st e c
