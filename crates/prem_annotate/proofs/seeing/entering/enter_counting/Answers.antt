use Rattle.std.proofs.Common.{◌≡◌, List, ap, refl, ◌∙◌, ◌∷◌, arith, to_z, of_z}
use Rattle.prem_annotate.proofs.Prelude.{plain, span_of, env_of, saves_of, sight_of, turn_bound, body_range, range_behind, at_local, with_range, range_of, saved_few, term_of, ints, w64}
use Rattle.prem_analysis.proofs.Heads.{head, body_known, behind_saved}
use Rattle.prem_analysis.specs.Arms.{capped}
use Rattle.prem_analysis.specs.Ranging.Targets.{targets}
use Rattle.prem_analysis.specs.declared.ranging.found.Known.{Known}
use Rattle.prem_annotate.proofs.Arms.{head_sight}
use Rattle.prem_annotate.proofs.seeing.entering.enter_counting.Goals as goal

pub returns : goal.returns
returns c =
    let l = c.args.l.now in let low = term_of l.low.now in let high = term_of l.high.now in let first = span_of c.range_of-first.result in
    let least = c.end_of-end.ensures.least in let greatest = c.end_of-end.ensures.greatest in
    let end : to_z w64 (of_z w64 c.end_of-end.result) ≡ c.end_of-end.result = omega (arith, ints) in
    let known = env_of c.look-2.new.env.items in let ks = l.number ∷ targets l.body.now in
    let bound = turn_bound first.lo c.end_of-end.result l.step in
    let h = head (env_of c.args.env.now.items) (env_of c.look.new.env.items) (env_of c.at_counting.new.env.items) known l.number low l.closed high l.step (plain l.body.now) 0
    first (span_of c.range_of.result) c.end_of-end.result bound (capped 0 bound)
    (c.range_of-first.ensures ∙ ap (λ (ls : List Known). range_of (env_of ls) low) c.deref.ensures.value) c.in_ok-look.ensures.env c.at_counting.ensures
    (c.range_of.ensures ∙ ap (λ (ls : List Known). range_of (env_of ls) high) c.deref-2.ensures.value) c.end_of-end.ensures.end refl refl c.in_ok-look-2.ensures.env in
    record {
      behind = behind_saved ks (saves_of c.in_ok-behind.behind.items) h
          (c.in_ok-behind.ensures.behind ∙ ap (λ z. saved_few (at_local l.number (with_range (range_behind first z l.step)) known) ks) end);
      env = body_known (env_of c.enter_body.new.env.items) h (c.in_ok-behind.ensures.env ∙ ap (λ z. at_local l.number (with_range (body_range first z)) known) end);
      sight = head_sight (env_of c.args.env.now.items) (env_of c.look.new.env.items) (env_of c.at_counting.new.env.items) l.number low high
          (plain l.body.now) (sight_of c.args.sight.now) (sight_of c.look.new.sight) (sight_of c.look-2.new.sight)
          c.in_ok-look.ensures.env c.at_counting.ensures c.in_ok-look.ensures.sight c.in_ok-look-2.ensures.sight;
    }
