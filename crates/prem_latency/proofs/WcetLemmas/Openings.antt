-- The steps of a marked call: what stands before its `pm.exec`, what it states, and the lines that it touches, each once.
use Rattle.std.specs.Prelude.{All, filter}
use Rattle.std.specs.List.{concat}
use Rattle.std.proofs.Common.{◌≡◌, ℕ, suc, ◌+◌, ◌*◌, ◌%◌, ◌≤◌, refl, ap, ◌∙◌, sym, subst, arith, cond, eqb, true, false, Bool, List, [], ◌∷◌, ◌++◌, append_assoc, append-nil, length}
use Rattle.std.proofs.lemmas.Bool.{eqb-true, cond_both}
use Rattle.std.proofs.lemmas.Nat.{mul-le}
use Rattle.prem_plant.specs.declared.plant.Plant.{Plant}
use Rattle.prem_plant.specs.Order.Order.{is_in, AllIn, AreOnce, ArePasses, of_set, HaveRoom}
use Rattle.prem_plant.proofs.OrderLemmas.Members.{no_more, all_by, all_in_through}
use Rattle.prem_isa.specs.declared.effect.Change.TheVariants.{Stay, Execute}
use Rattle.prem_isa.specs.Plain.{Did}
use Rattle.prem_cycle.specs.Runs.Position.Finish.{due_of}
use Rattle.prem_sound.specs.Script.Script.{lines_of_dids, cost_of_dids, IsCovered}
use Rattle.prem_sound.proofs.ScopesLemmas.Misses.{filter_all_in}
use Rattle.prem_sets_sound.specs.Weave.Weave.{Section, segment_of, IsSection}
use Rattle.prem_latency.specs.Wcet.Openings.{goes_first, before_exec, ends_with, up_to_end, states_or, stated_of, once, touched_by, opening_of}
use Rattle.prem_latency.specs.Wcet.Marked.{last_due}

-- ---- numbers, each once

in_once : (x : ℕ) (ys : List ℕ) → is_in x (once ys) ≡ is_in x ys
in_once x [] = refl
in_once x (y ∷ ys) = by (is_in y ys) refl (in_once x ys) where
  here : (c : Bool) → eqb y x ≡ c → is_in y ys ≡ true → is_in x (once ys) ≡ is_in x ys → is_in x (once ys) ≡ cond c true (is_in x ys)
  here false f e again = again
  here true f e again = again ∙ ap (λ n. is_in n ys) (sym (eqb-true y x f)) ∙ e

  by : (b : Bool) → is_in y ys ≡ b → is_in x (once ys) ≡ is_in x ys → is_in x (cond b (once ys) (y ∷ once ys)) ≡ is_in x (y ∷ ys)
  by false e again = ap (λ c. cond (eqb y x) true c) again
  by true e again = here (eqb y x) refl e again

pub once_once : (xs : List ℕ) → AreOnce (once xs)
once_once [] = tt
once_once (x ∷ xs) = by (is_in x xs) refl (once_once xs) where
  by : (b : Bool) → is_in x xs ≡ b → AreOnce (once xs) → AreOnce (cond b (once xs) (x ∷ once xs))
  by true e again = again
  by false e again = (in_once x xs ∙ e, again)

-- they are the same ones
pub once_all : (xs : List ℕ) → AllIn (once xs) xs
once_all xs = all_by (once xs) xs (λ x h. in_once x xs ∙ h)

pub all_once : (xs : List ℕ) → AllIn xs (once xs)
all_once xs = all_by xs (once xs) (λ x h. sym (in_once x xs) ∙ h)

-- and no more than a list has in which they all are
pub touched_few : (xs lines : List ℕ) → AllIn lines xs → length (once xs) ≤ length lines
touched_few xs lines h = no_more (once xs) lines (once_once xs) (all_in_through lines xs (once xs) h (all_once xs))

module _ (f : ℕ → Bool) where
  absent : (x : ℕ) (xs : List ℕ) → is_in x xs ≡ false → is_in x (filter f xs) ≡ false
  absent x [] e = refl
  absent x (y ∷ ys) e = by (eqb y x) refl e (absent x ys) where
    by : (b : Bool) → eqb y x ≡ b → cond b true (is_in x ys) ≡ false → (is_in x ys ≡ false → is_in x (filter f ys) ≡ false) → is_in x (filter f (y ∷ ys)) ≡ false
    by true is e again = cc
    by false is e again =
        cond_both (f y) (y ∷ filter f ys) (filter f ys) (λ zs. is_in x zs ≡ false) (λ _. ap (λ b. cond b true (is_in x (filter f ys))) is ∙ again e) (λ _. again e)

  filter_once : (xs : List ℕ) → AreOnce xs → AreOnce (filter f xs)
  filter_once [] h = tt
  filter_once (x ∷ xs) h =
      let r = filter_once xs h.1 in
      cond_both (f x) (x ∷ filter f xs) (filter f xs) AreOnce (λ _. (absent x xs h.0, r)) (λ _. r)

-- so they have room where the list has
pub touched_room : (n room : ℕ) (xs members : List ℕ) → AllIn members xs → HaveRoom n room members → HaveRoom n room (once xs)
touched_room n room xs members all h i =
    let few = no_more (of_set n i (once xs)) (of_set n i members) (filter_once (λ x. eqb (x % n) i) (once xs) (once_once xs))
    (filter_all_in (λ x. eqb (x % n) i) members (once xs) (all_in_through members xs (once xs) all (all_once xs))) in
    let room_ = h i in
    omega (arith, few, room_)

-- and are covered where all of the list is
pub left_in : (c xs ys : List ℕ) → AllIn c (xs ++ ys) → AllIn c xs
left_in c [] ys h = tt
left_in c (x ∷ xs) ys h = (h.0, left_in c xs ys h.1)

right_in : (c xs ys : List ℕ) → AllIn c (xs ++ ys) → AllIn c ys
right_in c [] ys h = h
right_in c (x ∷ xs) ys h = right_in c xs ys h.1

module _ (xs members : List ℕ) (all : AllIn members xs) where
  passes_over : (parts : List (List ℕ)) → AllIn (once xs) (concat parts) → ArePasses members parts → ArePasses (once xs) parts
  passes_over [] own h = tt
  passes_over (part ∷ parts) own h = (
    left_in (once xs) part (concat parts) own,
    all_in_through part members (once xs) h.1 (all_in_through members xs (once xs) all (all_once xs)),
    passes_over parts (right_in (once xs) part (concat parts) own) h.2,
  )

  pub touched_covered : (n : ℕ) (touches : List ℕ) → AllIn (once xs) touches → IsCovered n members touches → IsCovered n (once xs) touches
  touched_covered n touches own h =
      let parted : AllIn (once xs) (concat h.parts ++ h.later) = subst (AllIn (once xs)) h.touches_are own in
      record {
        parts = h.parts;
        later = h.later;
        touches_are = h.touches_are;
        count_is = h.count_is;
        passes = passes_over h.parts (left_in (once xs) (concat h.parts) h.later parted) h.passes;
        within = right_in (once xs) (concat h.parts) h.later parted;
      }

-- ---- steps that change nothing

stays_before : (xs ys : List Did) → All (λ (d : Did). d.change ≡ Stay) xs → before_exec (xs ++ ys) ≡ xs ++ before_exec ys
stays_before [] ys h = refl
stays_before (x ∷ xs) ys h = ap (λ c. goes_first c x (before_exec (xs ++ ys))) (h 0 x (omega arith)) ∙ ap (λ zs. x ∷ zs) (stays_before xs ys (λ k d lt. h (suc k) d (omega (arith, lt))))

stays_up : (xs ys : List Did) → All (λ (d : Did). d.change ≡ Stay) xs → up_to_end (xs ++ ys) ≡ xs ++ up_to_end ys
stays_up [] ys h = refl
stays_up (x ∷ xs) ys h = ap (λ c. x ∷ ends_with c (up_to_end (xs ++ ys))) (h 0 x (omega arith)) ∙ ap (λ zs. x ∷ zs) (stays_up xs ys (λ k d lt. h (suc k) d (omega (arith, lt))))

stays_state : (xs ys : List Did) → All (λ (d : Did). d.change ≡ Stay) xs → stated_of (xs ++ ys) ≡ stated_of ys
stays_state [] ys h = refl
stays_state (x ∷ xs) ys h = ap (λ c. states_or c (stated_of (xs ++ ys))) (h 0 x (omega arith)) ∙ stays_state xs ys (λ k d lt. h (suc k) d (omega (arith, lt)))

-- before the first that opens an interval
pub exec_first : (xs : List Did) (d : Did) (stated : ℕ) (ys : List Did) → All (λ (d : Did). d.change ≡ Stay) xs → d.change ≡ Execute stated → before_exec (xs ++ d ∷ ys) ≡ xs
exec_first xs d stated ys h e = stays_before xs (d ∷ ys) h ∙ ap (λ c. xs ++ goes_first c d (before_exec ys)) e ∙ append-nil xs

-- ---- those of a section

module _ (p : Plant) (passes : ℕ → ℕ) (m : Section) (h : IsSection p passes m) where
  pub section_before : before_exec (segment_of m) ≡ m.before
  section_before = exec_first m.before m.exec m.call.stated (m.body ++ m.last ∷ []) (λ k d lt. (h.fetching k d lt).1) h.opens.1

  pub section_states : stated_of (segment_of m) ≡ m.call.stated
  section_states =
      stays_state m.before (m.exec ∷ (m.body ++ m.last ∷ [])) (λ k d lt. (h.fetching k d lt).1)
      ∙ ap (λ c. states_or c (stated_of (m.body ++ m.last ∷ []))) h.opens.1

  -- with what stands behind its end
  pub section_ends : (more : List Did) → up_to_end (segment_of m ++ more) ≡ segment_of m
  section_ends more =
      let body : up_to_end ((m.body ++ m.last ∷ []) ++ more) ≡ m.body ++ m.last ∷ [] =
      ap up_to_end (append_assoc m.body (m.last ∷ []) more) ∙ stays_up m.body (m.last ∷ more) (λ k d lt. (h.running k d lt).1)
      ∙ ap (λ c. m.body ++ m.last ∷ ends_with c (up_to_end more)) h.lasts.1 in
      ap up_to_end (append_assoc m.before (m.exec ∷ (m.body ++ m.last ∷ [])) more)
      ∙ stays_up m.before (m.exec ∷ ((m.body ++ m.last ∷ []) ++ more)) (λ k d lt. (h.fetching k d lt).1)
      ∙ ap (λ c. m.before ++ m.exec ∷ ends_with c (up_to_end ((m.body ++ m.last ∷ []) ++ more))) h.opens.1
      ∙ ap (λ zs. m.before ++ m.exec ∷ zs) body

  -- it opens within what stands before its `pm.exec` costs, with the lines of a list of which it touches no others
  pub section_opening : (lines : List ℕ) (cost : ℕ) → AllIn lines (lines_of_dids p.line (segment_of m)) → cost_of_dids m.before ≤ cost →
      opening_of p (segment_of m) ≤ cost + length lines * (p.fill + p.back)
  section_opening lines cost all le =
      let few = touched_few (lines_of_dids p.line (segment_of m)) lines all in
      let costs = mul-le (length (touched_by p (segment_of m))) (p.fill + p.back) (length lines) (p.fill + p.back) few (omega arith) in
      let same : cost_of_dids (before_exec (segment_of m)) ≡ cost_of_dids m.before = ap cost_of_dids section_before in
      sum _ _ _ _ _ same le costs where
        sum : (a b c x y : ℕ) → a ≡ b → b ≤ c → x ≤ y → a + x ≤ c + y
        sum a b c x y e f g = omega (arith, e, f, g)

pub last_is : (p : Plant) (xs : List Did) (r : Did) → last_due p (xs ++ r ∷ []) ≡ due_of p r
last_is p [] r = refl
last_is p (x ∷ []) r = refl
last_is p (x ∷ y ∷ ys) r = last_is p (y ∷ ys) r
