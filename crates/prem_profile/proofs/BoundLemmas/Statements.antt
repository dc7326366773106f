-- The bills of statements come to their least charges.
use Rattle.std.proofs.Common.{◌≡◌, ℕ, ◌+◌, Bool, true, false, cond, List, [], ◌∷◌, ◌++◌, arith}
use Rattle.prem_asm.specs.Pieces.{branch_of, size_of}
use Rattle.prem_layout.specs.Template.Terms.{nonzero}
use Rattle.prem_layout.specs.Bounds.{job_weight}
use Rattle.prem_wcet_laws.specs.Scopes.{Scene, fact_of}
use Rattle.prem_wcet_laws.specs.Least.{called_least, own_jump, own_turns}
use Rattle.prem_wcet.specs.Outlines.{Outline, ended, plain, calling, choice, turning, apart_in, choice_by, coded_span, first_place, inner_place, least_in, second_place, span_in}
use Rattle.prem_profile.specs.Bound.Bills.{Bill}
use Rattle.prem_profile.specs.Bound.Scopes.{own_jump_item}
use Rattle.prem_profile.specs.Bound.Statements.{CallBill, apart_bill, call_at, called_bill, choice_bill, head_end, inner_end, least_bill, over_place, turns_bill}
use Rattle.prem_profile.proofs.BoundLemmas.Sums.{Comes, both, less, more, none, recount, same_then, three, times}
use Rattle.prem_profile.proofs.BoundLemmas.Charged.{jump_first, jumps_come, last_jump, own_comes, scope_comes, test_first}

module _ (e : Scene) where
  pub choice_comes : {taken other : Bill} {x y : ℕ} (at skip_at skips : ℕ) → Comes taken x → Comes other y →
      Comes (choice_bill e at skip_at skips taken other) (choice_by e skips x y)
  choice_comes at skip_at skips c d = test_first e at (more (both c (jumps_come e skips skip_at)) (jump_first e (at + 4) d))

  turn_sum : (h t b j : ℕ) → h + (t + (b + j)) ≡ h + t + b + j
  turn_sum h t b j = omega arith

  pub turns_come : {head body : Bill} {h b : ℕ} (at back_at turns : ℕ) → Comes head h → Comes body b →
      Comes (turns_bill e at back_at turns head body) (own_turns e turns (nonzero 10) h b)
  turns_come {head} {body} {h} {b} at back_at turns c d =
      let w : ℕ = job_weight e.plant (branch_of (nonzero 10)) in
      let turn = recount (h + w + b + own_jump e) (both c (test_first e at (both d (last_jump e back_at)))) (turn_sum h w b (own_jump e)) in
      let out = recount (h + w + own_jump e) (both c (test_first e at (last_jump e (at + 4)))) (same_then h w (own_jump e)) in
      both (times turns turn) out

  call_sum : (a j c l : ℕ) → a + (j + (c + l)) ≡ a + j + c + l
  call_sum a j c l = omega arith

  call_comes : {first called last : Bill} {a c l : ℕ} (at : ℕ) → Comes first a → Comes called c → Comes last l →
      Comes (first ++ (own_jump_item e at ∷ (called ++ last))) (a + own_jump e + c + l)
  call_comes {first} {called} {last} {a} {c} {l} at x y z =
      recount (a + own_jump e + c + l) (both x (jump_first e at (both y z))) (call_sum a (own_jump e) c l)

  -- ---- where calls come to what functions count

  module _ (known : List CallBill) (calls : (f : ℕ) → Comes (call_at known f).least (fact_of e f).least) where
    called_comes : (f : ℕ) → Comes (called_bill e known f) (called_least e f)
    called_comes f = by (e.marked f) where
      by : (t : Bool) → Comes (cond t [] (call_at known f).least) (cond t 0 (fact_of e f).least)
      by true = none
      by false = calls f

    apart_comes : (at : ℕ) (o : Outline) → Comes (apart_bill e known at o) (apart_in e at o)
    apart_comes at ended = none
    apart_comes at (plain code names rest) =
        both (less (scope_comes e at (coded_span code (plain code names ended))) (own_comes e at code)) (apart_comes (at + size_of code) rest)
    apart_comes at (calling code names arguments count callee landing rest) =
        both
        (less (scope_comes e at (coded_span code (calling code names arguments count callee landing ended)))
        (call_comes (at + size_of arguments) (own_comes e at arguments) (called_comes callee) (own_comes e (at + size_of arguments + 4) landing)))
        (apart_comes (at + size_of code) rest)
    apart_comes at (choice code names condition skips taken other rest) =
        let one : ℕ = first_place at condition in
        let two : ℕ = second_place at condition taken skips in
        both
        (less (scope_comes e at (coded_span code (choice code names condition skips taken other ended)))
        (both (own_comes e at condition)
        (choice_comes (at + size_of condition) (over_place at condition taken) skips (less (scope_comes e one (span_in taken)) (apart_comes one taken))
        (less (scope_comes e two (span_in other)) (apart_comes two other)))))
        (apart_comes (at + size_of code) rest)
    apart_comes at (turning code names first turns head before body behind rest) =
        let one : ℕ = inner_place at first head before in
        both
        (less (scope_comes e at (coded_span code (turning code names first turns head before body behind ended)))
        (both (own_comes e at first)
        (turns_come (head_end at first head) (inner_end at first head before body + size_of behind) turns (own_comes e (at + size_of first) head)
        (three (own_comes e (head_end at first head + 8) before) (less (scope_comes e one (span_in body)) (apart_comes one body))
        (own_comes e (inner_end at first head before body) behind)))))
        (apart_comes (at + size_of code) rest)

    pub least_comes : (at : ℕ) (o : Outline) → Comes (least_bill e known at o) (least_in e at o)
    least_comes at o = less (scope_comes e at (span_in o)) (apart_comes at o)
