-- The definitions at given values.
use Rattle.std.proofs.Common.{◌≡◌, ℕ, ◌-◌, ◌^◌, List, [], ◌∷◌, None, Some, Ok, Err, codes, inl, inr, refl, arith}
use Rattle.prem_io.specs.Counts.{counted, Rose}
use Rattle.prem_io.specs.Files.{Files, stored}
use Rattle.prem_io.specs.MemorySink.{SinkState, taken_of, after_write}
use Rattle.prem_io.specs.MemoryStore.{StoreState, after_read}
use Rattle.prem_io.specs.declared.store.StoreFail.TheVariants.{Missing, Failed}

counts_up : counted 4 ≡ 5
counts_up = refl

stays_at_the_last : counted (2 ^ 64 - 1) ≡ 2 ^ 64 - 1
stays_at_the_last = refl

never_rose : Rose 0 0 → ⊥
never_rose h = elim h [ inl less ↦ omega arith | inr last ↦ omega arith ]

rose_by_one : Rose 0 1
rose_by_one = inl (omega arith)

rose_at_the_last : Rose (2 ^ 64 - 1) (2 ^ 64 - 1)
rose_at_the_last = inr refl

two_files : Files
two_files = (codes "a.c", codes "out") ∷ (codes "empty", []) ∷ []

finds : stored two_files (codes "a.c") ≡ Some (codes "out")
unfolding two_files
finds = refl

finds_an_empty_file : stored two_files (codes "empty") ≡ Some []
unfolding two_files
finds_an_empty_file = refl

doesnt_find_a_part : stored two_files (codes "a.") ≡ None
unfolding two_files
doesnt_find_a_part = refl

store : ℕ → ℕ → StoreState
store calls faults = record { files = []; failing = 2 ∷ []; calls = calls; faults = faults }

missing_is_no_fault : after_read (store 0 0) (Err Missing) ≡ store 1 0
unfolding store
missing_is_no_fault = refl

fault_is_counted : after_read (store 1 0) (Err Failed) ≡ store 2 1
unfolding store
fault_is_counted = refl

-- a sink of piece 4 that fails at its second call
sink : List ℕ → ℕ → ℕ → SinkState
sink bytes calls faults = record { bytes = bytes; room = 100; piece = 4; failing = 2 ∷ []; calls = calls; faults = faults }

takes_four : taken_of (sink [] 0 0) (codes "out 5\n") ≡ 4
unfolding sink
takes_four = refl

takes_what_has_room : taken_of (record (sink (codes "out") 0 0) { room = 5 }) (codes " 5\n") ≡ 2
unfolding sink
takes_what_has_room = refl

holds_what_it_took : after_write (sink [] 0 0) (codes "out 5\n") (Ok 4) ≡ sink (codes "out ") 1 0
unfolding sink
holds_what_it_took = refl

holds_no_more_where_it_fails : after_write (sink (codes "out ") 1 0) (codes "5\n") (Err record {}) ≡ sink (codes "out ") 2 1
unfolding sink
holds_no_more_where_it_fails = refl
