-- What arrivals, the token and the bus come to.
use Rattle.std.proofs.Common.{◌≡◌, ◌≢◌, ℕ, zero, suc, ◌+◌, refl, ap, ◌∙◌, arith, cond, leb, Some, None, Option, true, false, Bool, List, [], ◌∷◌}
use Rattle.std.specs.Prelude.{◌&&◌}
use Rattle.prem_pair.proofs.Prelude.{GateState, GatesState, fits, start_of, first_of, startable_from, startable, bus_with, bus_turn, wants, Carried, CoreWant, No, New, Held, Window, Request}
use Rattle.prem_pair.proofs.Prelude.{holder_with, empty_window, window_given, want_with, two_want, is_gates, Holder, Nobody, First, Second, Gates, lt-leb}

pub same_bus : (now : ℕ) (before h h' : Holder) (w : Window) (v x y x' y' : CoreWant) (g g' : GatesState) (memory : List ℕ) → h ≡ h' →
    w ≡ window_given now before h → v ≡ want_with h x y → x ≡ x' → y ≡ y' → g ≡ g' →
    bus_turn now w v g memory ≡ bus_turn now (window_given now before h') (want_with h' x' y') g' memory
same_bus now before h h' w v x y x' y' g g' memory eh ew ev ex ey eg =
    ap (λ z. bus_turn now z v g memory) ew ∙ ap (λ z. bus_turn now (window_given now before h) z g memory) ev
    ∙ ap (λ z. bus_turn now (window_given now before z) (want_with z x y) g memory) eh
    ∙ ap (λ z. bus_turn now (window_given now before h') (want_with h' z y) g memory) ex
    ∙ ap (λ z. bus_turn now (window_given now before h') (want_with h' x' z) g memory) ey
    ∙ ap (λ z. bus_turn now (window_given now before h') (want_with h' x' y') z memory) eg

pub same_clash : (b r s t : Bool) (x y x' y' : CoreWant) (h h' : Holder) → b ≡ two_want r s t → r ≡ wants x → s ≡ wants y → t ≡ is_gates h → x ≡ x' →
    y ≡ y' → h ≡ h' → b ≡ two_want (wants x') (wants y') (is_gates h')
same_clash b r s t x y x' y' h h' eb er es et ex ey eh =
    eb ∙ ap (λ z. two_want z s t) (er ∙ ap wants ex) ∙ ap (λ z. two_want (wants x') z t) (es ∙ ap wants ey) ∙ ap (λ z. two_want (wants x') (wants y') z) (et ∙ ap is_gates eh)

-- ---- nothing starts in an empty window

no_fit : (now cost : ℕ) → fits now empty_window cost ≡ false
no_fit zero cost = refl
no_fit (suc n) cost = and_no (leb 1 (suc n)) (leb (suc n + cost) 0) (lt-leb (suc n + cost) 0 (omega arith)) where
  and_no : (a b : Bool) → b ≡ false → (a && b) ≡ false
  and_no true b e = e
  and_no false b e = refl

no_start : (now d cost : ℕ) (q : List Request) → start_of now empty_window d cost q ≡ None
no_start now d cost [] = refl
no_start now d cost (r ∷ q) =
    let one : Option Carried = Some (record { left = cost; device = d; first = now; request = r }) in
    ap (λ b. cond b one None) (no_fit now cost)

none_startable : (now d : ℕ) (gates : List GateState) → startable_from now empty_window d gates ≡ None
none_startable now d [] = refl
none_startable now d (g ∷ gates) = ap (λ o. first_of o (startable_from now empty_window (d + 1) gates)) (no_start now d g.cost g.queue) ∙ none_startable now (d + 1) gates

none_carried : (core : CoreWant) (s : GatesState) (memory : List ℕ) → (bus_with core None None s memory).gates.carried ≡ s.carried
none_carried No s memory = refl
none_carried New s memory = refl
none_carried Held s memory = refl

closed : (now : ℕ) (core : CoreWant) (s : GatesState) (memory : List ℕ) → s.carried ≡ None → (bus_turn now empty_window core s memory).gates.carried ≡ None
closed now core s memory none =
    ap (λ o. (bus_with core o (startable now empty_window s) s memory).gates.carried) none
    ∙ ap (λ o. (bus_with core None o s memory).gates.carried) (none_startable now 0 s.gates) ∙ none_carried core s memory ∙ none

-- nothing is carried behind a cycle in which the gates don't hold the token
pub still_free : (now : ℕ) (before h : Holder) (a b x : Bool) (core : CoreWant) (s : GatesState) (memory : List ℕ) → h ≡ holder_with before a b x →
    h ≢ Gates → (before ≢ Gates → s.carried ≡ None) → (bus_turn now (window_given now before h) core s memory).gates.carried ≡ None
still_free now Gates h a b x core s memory e ne free = absurd (ne e)
still_free now First h a b x core s memory e ne free = closed now core s memory (free (λ y. cc))
still_free now Second h a b x core s memory e ne free = closed now core s memory (free (λ y. cc))
still_free now Nobody Gates a b x core s memory e ne free = absurd (ne refl)
still_free now Nobody First a b x core s memory e ne free = closed now core s memory (free (λ y. cc))
still_free now Nobody Second a b x core s memory e ne free = closed now core s memory (free (λ y. cc))
still_free now Nobody Nobody a b x core s memory e ne free = closed now core s memory (free (λ y. cc))
