-- The parts of the first task at places that are apart.
use Rattle.std.specs.Prelude.{min, slice_index}
use Rattle.std.proofs.Common.{◌≡◌, ℕ, ◌+◌, ◌≤◌, ap, ◌∙◌, subst, arith, ◌++◌, length, map, take, drop, length-append}
use Rattle.std.proofs.lemmas.List.{length-map, length-take}
use Rattle.prem_asm.specs.Pieces.{size_of}
use Rattle.prem_layout.specs.Plans.{plans_of}
use Rattle.prem_layout.specs.Parts.{task_parts, part_count}
use Rattle.prem_layout.specs.Stubs.{stub_of}
use Rattle.prem_layout.specs.Placed.{task_places}
use Rattle.prem_layout.proofs.TaskParts.{parts_counted, parts_fours, parts_sized}
use Rattle.prem_place.specs.Flat.Blocks.{start_at, code_parts as code_in}
use Rattle.prem_place.specs.Stand.Lying.{EachLies, Lie, starts_of, FirstStands, OthersLie}
use Rattle.prem_place.proofs.StandLemmas.Lying.{lie_left, lie_right, lie_long, are_parts, IsAddress, addresses, index_same, taken_same, first_byte, Agrees, code_apart, code_within}

pub first_stands : FirstStands
first_stands passes line memory task p code rest places long small lie =
    let sizes = map size_of code in
    let parts = task_parts passes task sizes p in
    let t = task_places p places in
    let stubs = map (stub_of passes line t) (plans_of p) in
    let sized : length sizes ≡ length p.routines = length-map code size_of ∙ long in
    let count : length parts ≡ part_count p = parts_counted passes task sizes p sized in
    let here : EachLies memory parts places = lie_left memory parts rest places lie.each in
    let there : length parts ≤ length places = lie_long memory parts places here in
    let taken : length t.places ≡ min (part_count p) (length places) = length-take (part_count p) places in
    let starts : length (starts_of t) ≡ length t.places = length-map t.places first_byte in
    let address : (n : ℕ) → IsAddress memory (slice_index (starts_of t) n) = λ n. subst
    (λ k. IsAddress memory (slice_index (map first_byte (take k places)) n)) count
    (addresses memory parts places (parts_fours passes task sizes p) here n) in
    let code_count : length (code_in p.job code stubs) ≤ part_count p =
    (let a : length (code ++ stubs) ≡ length code + length stubs = length-append code stubs in
    let b : length stubs ≡ length (plans_of p) = length-map (plans_of p) (stub_of passes line t) in
    omega (arith, a, b, long)) in
    let agrees : Agrees (start_at t) 0 (length (code_in p.job code stubs)) places =
    λ i lt. let z : 0 + i ≡ i = omega arith in ap (start_at t) z ∙ ap first_byte (taken_same (part_count p) i places (omega (arith, lt, code_count))) in
    let have = parts_sized passes line task t p code in
    record {
      parts = are_parts memory parts places here;
      addresses = record {
        count = omega (arith, starts, taken, count, there);
        aligned = λ n. (address n).aligned;
        small = λ n. let s = (address n).small in omega (arith, s, small);
      };
      same = λ j n. index_same t.places n j;
      apart = code_apart (start_at t) memory 0 (code_in p.job code stubs) parts places have here lie.disjoint agrees;
      within = code_within (start_at t) memory 0 (code_in p.job code stubs) parts places small have here agrees;
    }

pub others_lie : OthersLie
others_lie passes memory task p sizes rest places long lie =
    subst (λ k. Lie memory rest (drop k places)) (parts_counted passes task sizes p long) (lie_right memory (task_parts passes task sizes p) rest places lie)
