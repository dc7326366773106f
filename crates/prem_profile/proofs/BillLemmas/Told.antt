-- The profile of a set's bound, as it is told.
use Rattle.std.proofs.Common.{◌≡◌, ℕ, ◌+◌, ◌/◌, List, length, ap, ◌∙◌}
use Rattle.prem_list.specs.Sequence.{items_of}
use Rattle.prem_tasks.specs.Broken.{TaskSet}
use Rattle.prem_tasks.specs.Compiled.{CompiledText, compiled}
use Rattle.prem_compile.specs.CompiledOf.{compiled_of}
use Rattle.prem_profile.specs.declared.bound.set.BilledSet.{BilledSet}
use Rattle.prem_profile.specs.declared.callgrind.Source.{Source}
use Rattle.prem_profile.specs.Account.{each_row}
use Rattle.prem_profile.specs.Answer.{bound_text}
use Rattle.prem_profile.specs.Callgrind.{no_calls_at, profile_text}
use Rattle.prem_profile.specs.Sets.{set_lines, strips_of}
use Rattle.prem_profile.specs.Strips.{Strip, first_row, rows_of, strip_words}
use Rattle.prem_profile.specs.Bound.Billed.{IsBilled}
use Rattle.prem_profile.specs.Bound.Bills.{Bill, total}
use Rattle.prem_profile.specs.Bound.Booked.{bill_row}

abbrev text_of : List Source → List Strip → (size : ℕ) → Bill → List ℕ
text_of sources strips size bill =
    profile_text sources strips (total bill) (each_row (bill_row (length sources) (rows_of (length sources) size strips) bill) 0 (first_row (length sources) + strip_words strips)) no_calls_at

pub bound_told : (sources : List Source) (set : TaskSet) (b : BilledSet) (bill : Bill) (strips : List Strip) (size : ℕ) → IsBilled set b → bill ≡ b.bill.items →
    strips ≡ strips_of (set_lines set) (compiled_of b.compiled) → size ≡ length (items_of b.compiled.image.content) / 4 →
    profile_text sources strips (total bill) (each_row (bill_row (length sources) (rows_of (length sources) size strips) bill) 0 (first_row (length sources) + strip_words strips)) no_calls_at ≡ bound_text sources set
bound_told sources set b bill strips size is told lines long =
    let same : compiled_of b.compiled ≡ compiled set = is.compiled.compiled in
    let strips_are = lines ∙ ap (strips_of (set_lines set)) same in
    let size_is = long ∙ ap (λ (c : CompiledText). length c.image.content / 4) same in
    let bill_is = told ∙ is.bill in
    λ i. text_of sources (strips_are i) (size_is i) (bill_is i)
