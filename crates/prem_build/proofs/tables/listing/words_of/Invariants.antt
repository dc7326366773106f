use Rattle.std.proofs.Common.{◌≡◌, ◌+◌, ◌*◌, ◌≤◌, ◌++◌, length}
use Rattle.prem_build.specs.Tables.Listing.{words_of}
use Rattle.prem_build.proofs.tables.listing.words_of.Given as goal

abbrev pub invariant-loop-word : goal.invariant-loop-word
invariant-loop-word l =
    record {
      words : l.words.items ++ words_of l.rest ≡ words_of l.bytes;
      size : 4 * length l.words.items + length l.rest ≤ length l.bytes;
    }

abbrev pub decreases-loop-word : goal.decreases-loop-word
decreases-loop-word l = length l.rest
