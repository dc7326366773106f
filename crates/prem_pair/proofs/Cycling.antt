-- How the parts of a cycle make up the cycle of two cores.
use Rattle.std.proofs.Common.{◌≡◌, ◌≢◌, ℕ, ◌+◌, refl, ap, ◌∙◌, sym, arith, cond, leb, Some, None, Option, true, false, Bool, List, subst}
use Rattle.std.specs.Prelude.{◌&&◌, is_some}
use Rattle.prem_pair.proofs.Prelude.{want_of, Arrivals, arrivals_at, with_clash, Setup, rule_in, Counts, MachineState, CoreState, GatesState, Turned, startable, taken, ends, goes_on}
use Rattle.prem_pair.proofs.Prelude.{carries, starts, bus_free, bus_with, bus_turn, wants, Carried, CoreWant, No, New, Held, Window, Request, holder_in, bus_in, PairState, bus_first}
use Rattle.prem_pair.proofs.Prelude.{first_acted, second_acted, ended_in_place, both_ticked, second_done, pair_cycle, holder_after, is_first, is_second, window_given, want_with, bus_done}
use Rattle.prem_pair.proofs.Prelude.{core_done, move_had, Holder, Nobody, First, Second, Gates, cond_both}

-- ---- the cores

pub first_is : (p : Setup) (h : Holder) (a : Arrivals) (b : Turned) (s : PairState) (x y : MachineState) (holds had : Bool) →
    x ≡ bus_done a (bus_first h b s) s.first → holds ≡ is_first h → had ≡ (b.turn.core && is_first h) →
    y ≡ core_done p (move_had holds had p x.now x.sched x.work x.core) x → y ≡ first_acted (rule_in p) p h a b s
first_is p h a b s x y holds had ex eh ea ey =
    ey ∙ ap (λ (z : MachineState). core_done p (move_had holds had p z.now z.sched z.work z.core) z) ex
    ∙ ap (λ v. core_done p (move_had v had p s.first.now s.first.sched (bus_done a (bus_first h b s) s.first).work s.first.core) (bus_done a (bus_first h b s) s.first)) eh
    ∙ ap (λ v. core_done p (move_had (is_first h) v p s.first.now s.first.sched (bus_done a (bus_first h b s) s.first).work s.first.core) (bus_done a (bus_first h b s) s.first)) ea

no_more : (n : Counts) → n ≡ with_clash false n
no_more n = let e : n.clashes ≡ n.clashes + 0 = omega arith in λ i. record n { clashes = e i }

pub second_is : (p : Setup) (h : Holder) (b : Turned) (s : PairState) (x y : MachineState) (holds had : Bool) → x ≡ s.second → holds ≡ is_second h →
    had ≡ (b.turn.core && is_second h) → y ≡ core_done p (move_had holds had p x.now x.sched x.work x.core) x → y ≡ second_acted (rule_in p) p h b s
second_is p h b s x y holds had ex eh ea ey =
    ey ∙ ap (λ (z : MachineState). core_done p (move_had holds had p z.now z.sched z.work z.core) z) ex
    ∙ ap (λ v. core_done p (move_had v had p s.second.now s.second.sched s.second.work s.second.core) s.second) eh
    ∙ ap (λ v. core_done p (move_had (is_second h) v p s.second.now s.second.sched s.second.work s.second.core) s.second) ea
    ∙ ap (λ (n : Counts). core_done p (move_had (is_second h) (b.turn.core && is_second h) p s.second.now s.second.sched s.second.work s.second.core)
    (record s.second { log = record s.second.log { counts = n } })) (no_more s.second.log.counts)

-- ---- the cycle

module _ (p q : Setup) (requests : List Request) (s : PairState) where
  abbrev h : Holder
  h = holder_in requests s

  abbrev b : Turned
  b = bus_in requests s

  abbrev f : MachineState
  f = first_acted (rule_in p) p h (arrivals_at requests s.first) b s

  abbrev g : MachineState
  g = second_acted (rule_in q) q h b s

  pub cycle_traps : is_some f.trapped ≡ false → is_some g.trapped ≡ true → record { first = ended_in_place f; second = g; holder = h } ≡ pair_cycle (rule_in p) (rule_in q) p q requests s
  cycle_traps e1 e2 =
      let all : PairState = both_ticked h b f g in
      sym (ap (λ v. cond v (record { first = f; second = s.second; holder = h }) (second_done h b f g)) e1
      ∙ ap (λ v. cond v (record { first = ended_in_place f; second = g; holder = h }) all) e2)

  pub cycle_goes : is_some f.trapped ≡ false → is_some g.trapped ≡ false → both_ticked h b f g ≡ pair_cycle (rule_in p) (rule_in q) p q requests s
  cycle_goes e1 e2 =
      let all : PairState = both_ticked h b f g in
      sym (ap (λ v. cond v (record { first = f; second = s.second; holder = h }) (second_done h b f g)) e1
      ∙ ap (λ v. cond v (record { first = ended_in_place f; second = g; holder = h }) all) e2)

pub same_pair : (x x' y y' : MachineState) (h h' : Holder) (P : PairState → Type 0) → x ≡ x' → y ≡ y' → h ≡ h' →
    P (record { first = x'; second = y'; holder = h' }) → P (record { first = x; second = y; holder = h })
same_pair x x' y y' h h' P ex ey eh r =
    subst (λ v. P (record { first = v; second = y; holder = h })) (sym ex)
    (subst (λ v. P (record { first = x'; second = v; holder = h })) (sym ey) (subst (λ v. P (record { first = x'; second = y'; holder = v })) (sym eh) r))

-- ---- the token behind it

pub after_free : (h : Holder) (c d : CoreState) (x : Bool) (P : Type 0) → holder_after h c d x ≢ Gates → (h ≢ Gates → P) → (x ≡ true → P) → P
after_free Nobody c d x P ne free over = free (λ y. cc)
after_free First c d x P ne free over = free (λ y. cc)
after_free Second c d x P ne free over = free (λ y. cc)
after_free Gates c d true P ne free over = over refl
after_free Gates c d false P ne free over = absurd (ne refl)

-- where a transfer ends, none is carried
abbrev EndsFree : Turned → Type 0
EndsFree t = is_some t.turn.ended ≡ true → t.gates.carried ≡ None

carries_free : (clash : Bool) (c : Carried) (s : GatesState) (memory : List ℕ) → EndsFree (carries clash c s memory)
carries_free clash c s memory = cond_both (leb c.left 1) (ends clash c s memory) (goes_on clash c s memory) EndsFree (λ _ e. refl) (λ _ e. absurd (let x : false ≡ true = e in cc))

starts_free : (core : Bool) (o : Option Carried) (s : GatesState) (memory : List ℕ) → EndsFree (starts core o s memory)
starts_free core None s memory = λ e. absurd (let x : false ≡ true = e in cc)
starts_free core (Some c) s memory = carries_free core c (taken c.device s) memory

free_free : (core : CoreWant) (o : Option Carried) (s : GatesState) (memory : List ℕ) → EndsFree (bus_free core o s memory)
free_free No o s memory = starts_free false o s memory
free_free New o s memory = starts_free true o s memory
free_free Held o s memory = λ e. absurd (let x : false ≡ true = e in cc)

with_free : (core : CoreWant) (carried o : Option Carried) (s : GatesState) (memory : List ℕ) → EndsFree (bus_with core carried o s memory)
with_free core (Some c) o s memory = carries_free (wants core) c s memory
with_free core None o s memory = free_free core o s memory

pub turn_free : (now : ℕ) (w : Window) (core : CoreWant) (s : GatesState) (memory : List ℕ) →
    is_some (bus_turn now w core s memory).turn.ended ≡ true → (bus_turn now w core s memory).gates.carried ≡ None
turn_free now w core s memory = with_free core s.carried (startable now w s) s memory

pub bus_frees : (requests : List Request) (s : PairState) → is_some (bus_in requests s).turn.ended ≡ true → (bus_in requests s).gates.carried ≡ None
bus_frees requests s =
    turn_free s.first.now (window_given s.first.now s.holder (holder_in requests s))
    (want_with (holder_in requests s) (want_of s.first.core.debt) (want_of s.second.core.debt)) (arrivals_at requests s.first).gates s.first.work.memory
