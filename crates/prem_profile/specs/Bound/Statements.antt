-- The bills of statements without marked calls, as one scope or one by one, whichever is cheaper: those of least charges.
use Rattle.std.specs.Prelude.{ℕ, ◌+◌, if◌then◌else◌, List, [], ◌∷◌, ◌++◌, slice_index_or}
use Rattle.prem_asm.specs.Pieces.{Pieces, size_of}
use Rattle.prem_wcet_laws.specs.Scopes.{Scene}
use Rattle.prem_wcet.specs.Outlines.{Outline, ended, plain, calling, choice, turning, code_of, coded_span, span_in, first_place, second_place, inner_place}
use Rattle.prem_profile.specs.Bound.Bills.{Bill, bill_times, cheaper, dearer}
use Rattle.prem_profile.specs.Bound.Scopes.{own_bill, own_jump_item, own_test_item, scope_bill}

-- what a call of a function is billed that isn't a marked one: where no marked call is in it, and where one is
pub record CallBill : Type 0 where
  pub least : Bill
  pub parted : Bill

abbrev pub no_call : CallBill
no_call = record { least = []; parted = [] }

abbrev pub call_at : List CallBill → ℕ → CallBill
call_at known f = slice_index_or known f no_call

-- ---- parts of statements

abbrev pub called_bill : Scene → List CallBill → ℕ → Bill
called_bill e known f = if e.marked f then [] else (call_at known f).least

-- a choice whose test stands at a place, with the bills of its sides; there are so many jumps over the other side
abbrev pub choice_bill : Scene → (at skip_at skips : ℕ) → (taken other : Bill) → Bill
choice_bill e at skip_at skips taken other =
    own_test_item e at ∷ dearer (taken ++ bill_times skips (own_jump_item e skip_at ∷ [])) (own_jump_item e (at + 4) ∷ other)

-- a loop whose test stands at a place, with the bills of its head and of its body
abbrev pub turns_bill : Scene → (at back_at turns : ℕ) → (head body : Bill) → Bill
turns_bill e at back_at turns head body =
    bill_times turns (head ++ (own_test_item e at ∷ (body ++ own_jump_item e back_at ∷ []))) ++ (head ++ own_test_item e at ∷ own_jump_item e (at + 4) ∷ [])

-- where the jump stands over the other side of a choice; where the test of a loop stands, and where the statements of its body end
abbrev pub over_place : (at : ℕ) → Pieces → (taken : Outline) → ℕ
over_place at condition taken = first_place at condition + size_of (code_of taken)

abbrev pub head_end : (at : ℕ) → (first head : Pieces) → ℕ
head_end at first head = at + size_of first + size_of head

abbrev pub inner_end : (at : ℕ) → (first head before : Pieces) → (body : Outline) → ℕ
inner_end at first head before body = inner_place at first head before + size_of (code_of body)

-- ---- statements

-- one by one, each as one scope or by its parts
abbrev pub apart_bill : Scene → List CallBill → (at : ℕ) → Outline → Bill
apart_bill e known at ended = []
apart_bill e known at (plain code names rest) =
    cheaper (scope_bill e at (coded_span code (plain code names ended))) (own_bill e at code) ++ apart_bill e known (at + size_of code) rest
apart_bill e known at (calling code names arguments count callee landing rest) =
    cheaper (scope_bill e at (coded_span code (calling code names arguments count callee landing ended)))
    (own_bill e at arguments ++ (own_jump_item e (at + size_of arguments) ∷ (called_bill e known callee ++ own_bill e (at + size_of arguments + 4) landing)))
    ++ apart_bill e known (at + size_of code) rest
apart_bill e known at (choice code names condition skips taken other rest) =
    cheaper (scope_bill e at (coded_span code (choice code names condition skips taken other ended)))
    (own_bill e at condition
    ++ choice_bill e (at + size_of condition) (over_place at condition taken) skips
    (cheaper (scope_bill e (first_place at condition) (span_in taken)) (apart_bill e known (first_place at condition) taken))
    (cheaper (scope_bill e (second_place at condition taken skips) (span_in other)) (apart_bill e known (second_place at condition taken skips) other)))
    ++ apart_bill e known (at + size_of code) rest
apart_bill e known at (turning code names first turns head before body behind rest) =
    cheaper (scope_bill e at (coded_span code (turning code names first turns head before body behind ended)))
    (own_bill e at first
    ++ turns_bill e (head_end at first head) (inner_end at first head before body + size_of behind) turns (own_bill e (at + size_of first) head)
    (own_bill e (head_end at first head + 8) before
    ++ (cheaper (scope_bill e (inner_place at first head before) (span_in body)) (apart_bill e known (inner_place at first head before) body)
    ++ own_bill e (inner_end at first head before body) behind)))
    ++ apart_bill e known (at + size_of code) rest

abbrev pub least_bill : Scene → List CallBill → (at : ℕ) → Outline → Bill
least_bill e known at o = cheaper (scope_bill e at (span_in o)) (apart_bill e known at o)
