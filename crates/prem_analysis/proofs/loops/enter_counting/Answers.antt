use Rattle.std.proofs.Common.{◌≡◌, List, ap, ◌∙◌, ◌∷◌, arith, to_z, of_z}
use Rattle.prem_analysis.proofs.Prelude.{plain, site_of, targets, span_of, env_of, found_of, saves_of, seen_of, Known, turn_bound, body_range, range_behind, at_local, with_range}
use Rattle.prem_analysis.proofs.Prelude.{in_counting_loop, range_of, first_of, saved_few, term_of, ints, w64}
use Rattle.prem_analysis.proofs.Heads.{head, body_known, behind_saved, head_seen}
use Rattle.prem_analysis.proofs.loops.enter_counting.Goals as goal

pub returns : goal.returns
returns c =
    let l = c.args.l.now in let low = term_of l.low.now in let high = term_of l.high.now in let first = span_of c.range_of-first.result in
    let least = c.end_of-end.ensures.least in let greatest = c.end_of-end.ensures.greatest in
    let end : to_z w64 (of_z w64 c.end_of-end.result) ≡ c.end_of-end.result = omega (arith, ints) in
    let known = env_of c.see_counting.new.env.items in let ks = l.number ∷ targets l.body.now in
    let h = head (env_of c.args.env.now.items) (env_of c.find.new.env.items) (env_of c.at_counting.new.env.items) known l.number low l.closed high l.step (plain l.body.now) c.args.around
    first (span_of c.range_of.result) c.end_of-end.result c.turn_bound-bound.result c.times-product.result
    (c.range_of-first.ensures ∙ ap (λ (ls : List Known). range_of (env_of ls) low) c.deref.ensures.value) c.in_ok-in_low.ensures.env c.at_counting.ensures
    (c.range_of.ensures ∙ ap (λ (ls : List Known). range_of (env_of ls) high) c.deref-2.ensures.value) c.end_of-end.ensures.end
    (c.turn_bound-bound.ensures ∙ ap (λ z. turn_bound first.lo z l.step) end) c.times-product.ensures c.in_ok-see_counting.ensures.env in
    record {
      around = h.product_is;
      behind = behind_saved ks (saves_of c.in_ok-behind.behind.items) h
          (c.in_ok-behind.ensures.behind ∙ ap (λ z. saved_few (at_local l.number (with_range (range_behind first z l.step)) known) ks) end);
      env = body_known (env_of c.enter_body.new.env.items) h (c.in_ok-behind.ensures.env ∙ ap (λ z. at_local l.number (with_range (body_range first z)) known) end);
      seen = head_seen (site_of c.args.site.now) l.at (found_of c.in_counting_loop-own.result) (found_of c.in_ok-in_low.in_low)
          (env_of c.at_counting.new.env.items) (seen_of c.args.seen.now) (seen_of c.see_counting.new.seen)
          h c.in_ok-see_counting.ensures.env
          (c.in_counting_loop-own.ensures ∙ ap (λ z. first_of (in_counting_loop l.at z l.step c.times-product.result)) end)
          c.in_ok-in_low.ensures.found c.in_ok-see_counting.ensures.seen;
    }
