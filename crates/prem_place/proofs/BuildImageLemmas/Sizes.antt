-- How long code and globals are, and that a stack is of whole frames.
use Rattle.std.specs.Prelude.{max, unwrap_or, ◌==◌, if◌then◌else◌}
use Rattle.std.specs.Int.{w32, to_le_bytes, next_multiple_of}
use Rattle.std.specs.List.{flat_map}
use Rattle.std.proofs.Common.{◌≡◌, ℕ, zero, suc, ◌+◌, ◌*◌, ◌%◌, ◌≤◌, Bool, true, false, refl, ◌∙◌, arith, List, [], ◌∷◌, ◌++◌, length, take, length-append, Option, None, Some, slice_get}
use Rattle.std.proofs.lemmas.List.{length-take}
use Rattle.std.proofs.lemmas.Nat.{mul-le}
use Rattle.prem_isa.specs.declared.instr.Instr.{Instr}
use Rattle.prem_syntax.specs.Syntax.{GlobalVariable}
use Rattle.prem_syntax.specs.Source.{initial_words}
use Rattle.prem_syntax.specs.Resolved.{Steps, Done, SetLocal, SetScalar, SetElement, Output, Input, If, For, While, Call, Routine, Resolved}
use Rattle.prem_syntax.specs.Statements.{is_marked}
use Rattle.prem_asm.specs.Pieces.{Pieces, no_pieces, straight, address_of, either, repeat, call_to, words, skip_words, skip_code, code_of, skip_at, other_at, either_end, test_at, repeat_end}
use Rattle.prem_layout.specs.Template.Frames.{slots_of, frame_of, frame_if_there, frame_at, deepest, depth_if_there, depth_below, depth_of, deepest_marked, deepest_called, stack_size}
use Rattle.prem_layout.specs.Parts.{element_size, global_size}
use Rattle.prem_layout.specs.Image.{global_bytes}
use Rattle.prem_layout.proofs.TaskParts.{multiple_above}

-- ---- code

skip_long : (other : Pieces) (from to : ℕ) → length (skip_code (skip_words other) from to) ≡ skip_words other
skip_long no_pieces from to = refl
skip_long (straight code rest) from to = refl
skip_long (address_of rd part more rest) from to = refl
skip_long (either test taken other rest) from to = refl
skip_long (repeat turns head test body rest) from to = refl
skip_long (call_to link part rest) from to = refl

four_long : (a b c d : List Instr) → length (a ++ (b ++ (c ++ d))) ≡ length a + length b + length c + length d
four_long a b c d =
    let x = length-append a (b ++ (c ++ d)) in
    let y = length-append b (c ++ d) in
    let z = length-append c d in
    omega (arith, x, y, z)

repeat_long : (a b d : List Instr) (i j k : Instr) → length (a ++ (i ∷ j ∷ (b ++ (k ∷ d)))) ≡ length a + 3 + length b + length d
repeat_long a b d i j k =
    let x = length-append a (i ∷ j ∷ (b ++ (k ∷ d))) in
    let y = length-append b (k ∷ d) in
    omega (arith, x, y)

pub code_long : (places : ℕ → ℕ) (at : ℕ) (ps : Pieces) → length (code_of places at ps) ≡ words ps
code_long places at no_pieces = refl
code_long places at (straight code rest) =
    let a = length-append code (code_of places (at + 4 * length code) rest) in
    let b = code_long places (at + 4 * length code) rest in
    omega (arith, a, b)
code_long places at (address_of rd part more rest) = let a = code_long places (at + 8) rest in omega (arith, a)
code_long places at (either test taken other rest) =
    let s = skip_long other (skip_at at taken) (either_end at taken other) in
    let a = code_long places (at + 8) taken in
    let b = code_long places (other_at at taken other) other in
    let c = code_long places (either_end at taken other) rest in
    let l = four_long (code_of places (at + 8) taken) (skip_code (skip_words other) (skip_at at taken) (either_end at taken other))
    (code_of places (other_at at taken other) other) (code_of places (either_end at taken other) rest) in
    omega (arith, s, a, b, c, l)
code_long places at (repeat turns head test body rest) =
    let a = code_long places at head in
    let b = code_long places (test_at at head + 8) body in
    let c = code_long places (repeat_end at head body) rest in
    repeat_long (code_of places at head) (code_of places (test_at at head + 8) body) (code_of places (repeat_end at head body) rest) _ _ _ ∙ omega (arith, a, b, c)
code_long places at (call_to link part rest) = let a = code_long places (at + 4) rest in omega (arith, a)

-- ---- globals

chunk_short : (size w : ℕ) → length (take size (to_le_bytes w32 w)) ≤ size
chunk_short size w = let l = length-take size (to_le_bytes w32 w) in omega (arith, l)

chunks_short : (size : ℕ) (ws : List ℕ) → length (flat_map (λ w. take size (to_le_bytes w32 w)) ws) ≤ length ws * size
chunks_short size [] = omega arith
chunks_short size (w ∷ ws) =
    let a = length-append (take size (to_le_bytes w32 w)) (flat_map (λ k. take size (to_le_bytes w32 k)) ws) in
    let b = chunk_short size w in
    let c = chunks_short size ws in
    omega (arith, a, b, c)

taken_short : {A : Type 0} (n : ℕ) (xs : List A) → length (take n xs) ≤ n
taken_short n xs = let l = length-take n xs in omega (arith, l)

pub global_long : (g : GlobalVariable) → length (global_bytes g) ≤ global_size g
global_long g =
    let size = element_size g.ty in
    let count = unwrap_or g.len 1 in
    let a : length (global_bytes g) ≤ length (initial_words g) * size = chunks_short size (initial_words g) in
    let b : length (initial_words g) ≤ count = taken_short count _ in
    let c : length (initial_words g) * size ≤ count * size = mul-le (length (initial_words g)) size count size b (omega arith) in
    let d = multiple_above (size * count) in
    omega (arith, a, c, d)

-- ---- the stack

abbrev Whole : ℕ → Type 0
Whole n = n % 16 ≡ 0

max_whole : (a b : ℕ) → Whole a → Whole b → Whole (max a b)
max_whole a b x y = omega (arith, x, y)

sum_whole : (a b : ℕ) → Whole a → Whole b → Whole (a + b)
sum_whole a b x y = omega (arith, x, y)

if_whole : (b : Bool) (x y : ℕ) → Whole x → Whole y → Whole (if b then x else y)
if_whole true x y h k = h
if_whole false x y h k = k

frame_whole : (f : Routine) → Whole (frame_of f)
frame_whole f = by (slots_of f) where
  by : (n : ℕ) → Whole (next_multiple_of (4 + 4 * n) 16)
  by n = omega arith

frame_there_whole : (f : Option Routine) → Whole (frame_if_there f)
frame_there_whole None = refl
frame_there_whole (Some f) = frame_whole f

deepest_whole : (depth : ℕ → ℕ) → ((n : ℕ) → Whole (depth n)) → (s : Steps) → Whole (deepest depth s)
deepest_whole depth h Done = refl
deepest_whole depth h (SetLocal at number value rest) = deepest_whole depth h rest
deepest_whole depth h (SetScalar at global ty value rest) = deepest_whole depth h rest
deepest_whole depth h (SetElement at global ty index value rest) = deepest_whole depth h rest
deepest_whole depth h (Output at value rest) = deepest_whole depth h rest
deepest_whole depth h (Input at number rest) = deepest_whole depth h rest
deepest_whole depth h (If at condition taken other rest) =
    max_whole (max (deepest depth taken) (deepest depth other)) (deepest depth rest)
    (max_whole (deepest depth taken) (deepest depth other) (deepest_whole depth h taken) (deepest_whole depth h other)) (deepest_whole depth h rest)
deepest_whole depth h (For at number low closed high step turns body rest) = max_whole (deepest depth body) (deepest depth rest) (deepest_whole depth h body) (deepest_whole depth h rest)
deepest_whole depth h (While at turns condition body rest) = max_whole (deepest depth body) (deepest depth rest) (deepest_whole depth h body) (deepest_whole depth h rest)
deepest_whole depth h (Call at target callee arguments rest) = max_whole (depth callee) (deepest depth rest) (h callee) (deepest_whole depth h rest)

there_whole : (depth : ℕ → ℕ) → ((n : ℕ) → Whole (depth n)) → (f : Option Routine) → Whole (depth_if_there depth f)
there_whole depth h None = refl
there_whole depth h (Some f) = sum_whole (frame_of f) (deepest depth f.body) (frame_whole f) (deepest_whole depth h f.body)

below_whole : (routines : List Routine) (n f : ℕ) → Whole (depth_below routines n f)
below_whole routines zero f = refl
below_whole routines (suc n) f =
    if_whole (f == n) (depth_if_there (depth_below routines n) (slice_get routines n)) (depth_below routines n f)
    (there_whole (depth_below routines n) (below_whole routines n) (slice_get routines n)) (below_whole routines n f)

marked_whole : (depth : ℕ → ℕ) → ((n : ℕ) → Whole (depth n)) → (n : ℕ) (fs : List Routine) → Whole (deepest_marked depth n fs)
marked_whole depth h n [] = refl
marked_whole depth h n (f ∷ fs) = max_whole (if is_marked f then depth n else 0) (deepest_marked depth (n + 1) fs) (if_whole (is_marked f) (depth n) 0 (h n) refl) (marked_whole depth h (n + 1) fs)

called_whole : (depth : ℕ → ℕ) → ((n : ℕ) → Whole (depth n)) → (f : Option Routine) → Whole (deepest_called depth f)
called_whole depth h None = refl
called_whole depth h (Some f) = deepest_whole depth h f.body

pub stack_whole : (p : Resolved) → stack_size p % 16 ≡ 0
stack_whole p =
    let d = depth_of p.routines in
    let h : (n : ℕ) → Whole (d n) = below_whole p.routines (length p.routines) in
    let called = deepest_called d (slice_get p.routines p.job) in
    let marked = deepest_marked d 0 p.routines in
    sum_whole (frame_at p.routines p.job) (max called marked) (frame_there_whole (slice_get p.routines p.job))
    (max_whole called marked (called_whole d h (slice_get p.routines p.job)) (marked_whole d h 0 p.routines))
