-- Weights at places: of pieces one behind another, of calls that are told alike, and of functions one after another.
use Rattle.std.specs.Prelude.{nat_lt}
use Rattle.std.proofs.Common.{◌≡◌, ℕ, zero, suc, ◌+◌, ◌*◌, ◌<◌, Bool, true, false, cond, List, [], ◌∷◌, ◌++◌, refl, ap, sym, ◌∙◌, arith, length, take, get_or, slice_set, map}
use Rattle.std.proofs.lemmas.List.{length-take, take_more}
use Rattle.prem_asm.specs.Pieces.{Pieces, no_pieces, straight, address_of, either, repeat, call_to, followed, size_of, branch_of, skip_words, skip_at, other_at, either_end}
use Rattle.prem_asm.specs.Pieces.{test_at, back_at, repeat_end}
use Rattle.prem_asm.proofs.Rows.{words-followed}
use Rattle.prem_layout.specs.Parts.{code_part}
use Rattle.prem_layout.specs.Bounds.{part_weight, weight_at}
use Rattle.prem_bounds.specs.Scale.{clipped}
use Rattle.prem_bounds.specs.Told.{Tells}
use Rattle.prem_bounds.proofs.Calls.{set_tells}
use Rattle.prem_wcet_laws.specs.Weights.{PlaceWeight, weight_from, jump_from, address_from, weighted_from}
use Rattle.prem_wcet_laws.specs.Scopes.{Fact, places_behind}
use Rattle.prem_wcet.proofs.AlikeScopes.{Alike, alike_sum, alike_max, alike_product}
use Rattle.prem_wcet.specs.Known.{pieces_behind, known_before}

-- ---- calls that are told alike

pub from_alike : (w : PlaceWeight) (c d : ℕ → ℕ) → ((p : ℕ) → Alike (c p) (d p)) → (at : ℕ) (ps : Pieces) → Alike (weighted_from w c at ps) (weighted_from w d at ps)
from_alike w c d h at no_pieces = refl
from_alike w c d h at (straight code rest) = alike_sum (weight_from w at code) (weight_from w at code) _ _ refl (from_alike w c d h (at + 4 * length code) rest)
from_alike w c d h at (address_of rd part more rest) = alike_sum (address_from w at) (address_from w at) _ _ refl (from_alike w c d h (at + 8) rest)
from_alike w c d h at (either test taken other rest) =
    let j : ℕ = jump_from w (at + 4) in
    let skip : ℕ = skip_words other * jump_from w (skip_at at taken) in
    alike_sum _ _ _ _
    (alike_sum (w at (branch_of test)) (w at (branch_of test)) _ _ refl
    (alike_max _ _ _ _ (alike_sum _ _ skip skip (from_alike w c d h (at + 8) taken) refl) (alike_sum j j _ _ refl (from_alike w c d h (other_at at taken other) other))))
    (from_alike w c d h (either_end at taken other) rest)
from_alike w c d h at (repeat turns head test body rest) =
    let b : ℕ = w (test_at at head) (branch_of test) in
    let j : ℕ = jump_from w (back_at at head body) in
    let out : ℕ = jump_from w (test_at at head + 4) in
    let start = alike_sum _ _ b b (from_alike w c d h at head) refl in
    let turn = alike_sum _ _ j j (alike_sum _ _ _ _ start (from_alike w c d h (test_at at head + 8) body)) refl in
    let last = alike_sum _ _ out out start refl in
    alike_sum _ _ _ _ (alike_sum _ _ _ _ (alike_product turns _ _ turn) last) (from_alike w c d h (repeat_end at head body) rest)
from_alike w c d h at (call_to link part rest) =
    alike_sum _ _ _ _ (alike_sum (jump_from w at) (jump_from w at) (c part) (d part) refl (h part)) (from_alike w c d h (at + 4) rest)

-- ---- pieces one behind another

pub from_followed : (w : PlaceWeight) (c : ℕ → ℕ) (at : ℕ) (ps qs : Pieces) → weighted_from w c at (followed ps qs) ≡ weighted_from w c at ps + weighted_from w c (at + size_of ps) qs
from_followed w c at no_pieces qs = let e = ap (λ k. weighted_from w c k qs) (let f : at ≡ at + size_of no_pieces = omega arith in f) in omega (arith, e)
from_followed w c at (straight code rest) qs =
    let e = from_followed w c (at + 4 * length code) rest qs in
    let f = ap (λ k. weighted_from w c k qs) (let g : at + 4 * length code + size_of rest ≡ at + size_of (straight code rest) = omega arith in g) in omega (arith, e, f)
from_followed w c at (address_of rd part more rest) qs =
    let e = from_followed w c (at + 8) rest qs in
    let f = ap (λ k. weighted_from w c k qs) (let g : at + 8 + size_of rest ≡ at + size_of (address_of rd part more rest) = omega arith in g) in omega (arith, e, f)
from_followed w c at (either test taken other rest) qs =
    let e = from_followed w c (either_end at taken other) rest qs in
    let f = ap (λ k. weighted_from w c k qs) (let g : either_end at taken other + size_of rest ≡ at + size_of (either test taken other rest) = omega arith in g) in omega (arith, e, f)
from_followed w c at (repeat turns head test body rest) qs =
    let e = from_followed w c (repeat_end at head body) rest qs in
    let f = ap (λ k. weighted_from w c k qs) (let g : repeat_end at head body + size_of rest ≡ at + size_of (repeat turns head test body rest) = omega arith in g) in omega (arith, e, f)
from_followed w c at (call_to link part rest) qs =
    let e = from_followed w c (at + 4) rest qs in
    let f = ap (λ k. weighted_from w c k qs) (let g : at + 4 + size_of rest ≡ at + size_of (call_to link part rest) = omega arith in g) in omega (arith, e, f)

-- ---- functions one after another

pub by_pieces : (w : PlaceWeight) (functions : ℕ) (places : ℕ → ℕ) (known : List ℕ) (fs : List Fact) →
    places_behind w functions places known fs ≡ pieces_behind w functions places known (map (λ (f : Fact). f.pieces) fs)
by_pieces w functions places known [] = refl
by_pieces w functions places known (f ∷ fs) =
    by_pieces w functions places (known ++ weighted_from w (part_weight functions (weight_at known) (λ k. 0)) (places (code_part (length known))) f.pieces ∷ []) fs

behind-append : (w : PlaceWeight) (functions : ℕ) (places : ℕ → ℕ) (known : List ℕ) (pss qss : List Pieces) →
    pieces_behind w functions places known (pss ++ qss) ≡ pieces_behind w functions places (pieces_behind w functions places known pss) qss
behind-append w functions places known [] qss = refl
behind-append w functions places known (ps ∷ pss) qss =
    behind-append w functions places (known ++ weighted_from w (part_weight functions (weight_at known) (λ k. 0)) (places (code_part (length known))) ps ∷ []) pss qss

put_long : (xs : List ℕ) (x : ℕ) → length (xs ++ x ∷ []) ≡ length xs + 1
put_long [] x = omega arith
put_long (y ∷ ys) x = omega (arith, put_long ys x)

behind_long : (w : PlaceWeight) (functions : ℕ) (places : ℕ → ℕ) (known : List ℕ) (pss : List Pieces) → length (pieces_behind w functions places known pss) ≡ length known + length pss
behind_long w functions places known [] = omega arith
behind_long w functions places known (ps ∷ pss) =
    let x : ℕ = weighted_from w (part_weight functions (weight_at known) (λ k. 0)) (places (code_part (length known))) ps in
    omega (arith, behind_long w functions places (known ++ x ∷ []) pss, put_long known x)

put_last : (xs : List ℕ) (n x k : ℕ) → length xs ≡ n → (k ≡ n → ⊥) → weight_at xs k ≡ weight_at (xs ++ x ∷ []) k
put_last [] n x zero e other = absurd (other e)
put_last [] n x (suc k) e other = refl
put_last (y ∷ ys) n x zero e other = refl
put_last (y ∷ ys) n x (suc k) e other = put_last ys (length ys) x k refl (λ same. other (let f : suc k ≡ suc (length ys) = ap suc same in f ∙ e))

at_last : (xs : List ℕ) (n x : ℕ) → length xs ≡ n → weight_at (xs ++ x ∷ []) n ≡ x
at_last [] n x e = ap (λ k. weight_at (x ∷ []) k) (sym e)
at_last (y ∷ ys) n x e = ap (λ k. weight_at (y ∷ (ys ++ x ∷ [])) k) (sym e) ∙ at_last ys (length ys) x refl

pub part_alike : (functions : ℕ) (array known : List ℕ) → Tells 256 array (weight_at known) → (p : ℕ) →
    Alike (part_weight functions (weight_at array) (λ k. 0) p) (part_weight functions (weight_at known) (λ k. 0) p)
part_alike functions array known t zero = refl
part_alike functions array known t (suc m) = by_test (nat_lt m functions) where
  by_test : (b : Bool) → Alike (cond b (weight_at array m) 0) (cond b (weight_at known m) 0)
  by_test true = let f = t.each m in omega (arith, f)
  by_test false = refl

-- one more function is told
pub function_more : (w : PlaceWeight) (functions : ℕ) (places : ℕ → ℕ) (pss : List Pieces) (ps : Pieces) (n value : ℕ) (array : List ℕ) → n < length pss → n < 256 → get_or pss n no_pieces ≡ ps →
    Tells 256 array (weight_at (known_before w functions places pss n)) →
    value ≡ clipped (weighted_from w (part_weight functions (weight_at array) (λ k. 0)) (places (code_part n)) ps) →
    Tells 256 (slice_set array n value) (weight_at (known_before w functions places pss (n + 1)))
function_more w functions places pss ps n value array inside lt is t e =
    let known : List ℕ = known_before w functions places pss n in
    let long : length known ≡ n = omega (arith, behind_long w functions places [] (take n pss), length-take n pss) in
    let one : ℕ = weighted_from w (part_weight functions (weight_at known) (λ k. 0)) (places (code_part (length known))) (get_or pss n no_pieces) in
    let more : known_before w functions places pss (n + 1) ≡ known ++ one ∷ [] =
    ap (pieces_behind w functions places []) (take_more pss n no_pieces inside) ∙ behind-append w functions places [] (take n pss) (get_or pss n no_pieces ∷ []) in
    let same : clipped (weighted_from w (part_weight functions (weight_at array) (λ k. 0)) (places (code_part n)) ps) ≡ clipped one =
    from_alike w (part_weight functions (weight_at array) (λ k. 0)) (part_weight functions (weight_at known) (λ k. 0)) (part_alike functions array known t) (places (code_part n)) ps
    ∙ (λ i. clipped (weighted_from w (part_weight functions (weight_at known) (λ k. 0)) (places (code_part (sym long i))) (sym is i))) in
    set_tells 256 n value array (weight_at known) (weight_at (known_before w functions places pss (n + 1))) lt t
    (e ∙ same ∙ ap clipped (sym (ap (λ ks. weight_at ks n) more ∙ at_last known n one long)))
    (λ k other. put_last known n one k long other ∙ ap (λ ks. weight_at ks k) (sym more))

-- ---- walks that go on

-- behind the first pieces
pub begun : (w : PlaceWeight) (c : ℕ → ℕ) (at sum end : ℕ) (ps qs : Pieces) → sum ≡ clipped (weighted_from w c at ps) → end ≡ at + size_of ps →
    clipped (sum + weighted_from w c end qs) ≡ clipped (weighted_from w c at (followed ps qs))
begun w c at sum end ps qs is place = let f = from_followed w c at ps qs in let g = ap (λ k. weighted_from w c k qs) place in omega (arith, f, g, is)

-- behind more
pub gone : (w : PlaceWeight) (c : ℕ → ℕ) (sum end more next : ℕ) (ps qs : Pieces) → more ≡ clipped (sum + weighted_from w c end ps) → next ≡ end + size_of ps →
    clipped (more + weighted_from w c next qs) ≡ clipped (sum + weighted_from w c end (followed ps qs))
gone w c sum end more next ps qs is place = let f = from_followed w c end ps qs in let g = ap (λ k. weighted_from w c k qs) place in omega (arith, f, g, is)

pub size_followed : (ps qs : Pieces) → size_of (followed ps qs) ≡ size_of ps + size_of qs
size_followed ps qs = let e = words-followed ps qs in omega (arith, e)
