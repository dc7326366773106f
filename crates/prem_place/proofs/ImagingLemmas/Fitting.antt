-- One more task.
use Rattle.std.proofs.Common.{◌≡◌, ℕ, zero, suc, ◌+◌, ◌<◌, List, [], ◌∷◌, refl, ap, sym, ◌∙◌, subst, arith, length, map, drop, get_or}
use Rattle.std.proofs.lemmas.List.{at_drop_more}
use Rattle.prem_layout.specs.Placed.{blocks_of}
use Rattle.prem_layout.specs.Image.{with_blocks, with_globals, with_tasks}
use Rattle.prem_place.specs.declared.content.content.Block.{Block}
use Rattle.prem_place.specs.Placed.PlacedOf.{placed_of}
use Rattle.prem_place.specs.declared.placed.PlacedTask.{PlacedTask}
use Rattle.prem_place.specs.Imaging.Standing.{Fits, AllFit}

none_left : (end : ℕ) (tasks : List PlacedTask) (n : ℕ) → n < length tasks → AllFit end (drop n tasks) [] → ⊥
none_left end [] n lt h = absurd (omega arith)
none_left end (x ∷ xs) zero lt h = h
none_left end (x ∷ xs) (suc n) lt h = none_left end xs n (omega arith) h

drop_none : {B : Type 0} (f : B → List Block) (n : ℕ) → map f (drop n []) ≡ []
drop_none f zero = refl
drop_none f (suc n) = refl

-- the task with a number fits with its blocks, and so do those behind it
pub fits_at : {B : Type 0} (f : B → List Block) (end : ℕ) (tasks : List PlacedTask) (bss : List B) (n : ℕ) (t : PlacedTask) (bs : B) →
    AllFit end (drop n tasks) (map f (drop n bss)) → n < length tasks → t ≡ get_or tasks n t → bs ≡ get_or bss n bs →
    Fits end t (f bs) × AllFit end (drop (suc n) tasks) (map f (drop (suc n) bss))
fits_at f end [] bss n t bs h lt it ib = absurd (omega arith)
fits_at f end (x ∷ xs) [] n t bs h lt it ib = absurd (none_left end (x ∷ xs) n lt (subst (λ l. AllFit end (drop n (x ∷ xs)) l) (drop_none f n) h))
fits_at f end (x ∷ xs) (y ∷ ys) zero t bs h lt it ib = (subst (λ q. Fits end q (f bs)) (sym it) (subst (λ c. Fits end x (f c)) (sym ib) h.0), h.1)
fits_at f end (x ∷ xs) (y ∷ ys) (suc n) t bs h lt it ib = fits_at f end xs ys n t bs h (omega arith) it ib

pub fits_next : {B : Type 0} (f : B → List Block) (end : ℕ) (tasks : List PlacedTask) (bss : List B) (n : ℕ) →
    AllFit end (drop (suc n) tasks) (map f (drop (suc n) bss)) → AllFit end (drop (n + 1) tasks) (map f (drop (n + 1) bss))
fits_next f end tasks bss n h =
    let z : suc n ≡ n + 1 = omega arith in
    subst (λ k. AllFit end (drop k tasks) (map f (drop k bss))) z h

pub content_turn : (tasks : List PlacedTask) (n : ℕ) (t : PlacedTask) (content new whole : List ℕ) → n < length tasks → t ≡ get_or tasks n t →
    new ≡ with_globals t.places 0 (placed_of t).task.program.globals (with_blocks (blocks_of (placed_of t)) content) →
    with_tasks (map placed_of (drop n tasks)) content ≡ whole → with_tasks (map placed_of (drop (n + 1) tasks)) new ≡ whole
content_turn tasks n t content new whole lt is en e =
    ap (with_tasks (map placed_of (drop (n + 1) tasks))) en
    ∙ ap (λ (q : PlacedTask). with_tasks (map placed_of (drop (n + 1) tasks)) (with_globals q.places 0 (placed_of q).task.program.globals (with_blocks (blocks_of (placed_of q)) content))) is
    ∙ sym (at_drop_more (λ (ts : List PlacedTask). with_tasks (map placed_of ts) content) tasks n t lt) ∙ e
