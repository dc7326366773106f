-- Sums of counts that end at a limit; frames of so many slots.
use Rattle.std.specs.Prelude.{◌^◌}
use Rattle.std.proofs.Common.{◌≡◌, ℕ, ◌+◌, ◌≤◌, ◌<◌, ap, arith, min}
use Rattle.prem_gen.specs.Frame.FrameOf.{most, frame_bytes}

pub capped_sum : (x y : ℕ) → min (min x most + min y most) most ≡ min (x + y) most
capped_sum x y = omega arith

pub capped_next : (y : ℕ) → min (1 + min y most) most ≡ min (1 + y) most
capped_next y = omega arith

-- a frame that may be, has its very number of slots
pub frame_small : (s : ℕ) → frame_bytes (min s most) ≤ 2032 → (s < 2 ^ 16) × (frame_bytes (min s most) ≡ frame_bytes s)
frame_small s h = let below : s < 2 ^ 16 = omega arith in let same : min s most ≡ s = omega (arith, below) in (below, ap frame_bytes same)

pub frame_big : (s : ℕ) → 2032 < frame_bytes (min s most) → 2032 < frame_bytes s
frame_big s h = omega (arith, h)
