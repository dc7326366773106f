-- A text that has tokens is no longer than a text may be.
use Rattle.std.proofs.Common.{◌≡◌, ◌≤◌, ℕ, List, length, Ok}
use Rattle.prem_annotating.proofs.Prelude.{sound, Seen, tokens_of}

pub fits : (text : List ℕ) (all : List Seen) → tokens_of text ≡ Ok all → length text ≤ 1048576
fits text all is = (sound text all is).size
