use Rattle.std.proofs.Common.{ap, ◌∙◌, map, drop, Option, arith, ◌+◌}
use Rattle.prem_analysis.proofs.Prelude.{in_given, site_of, env_of, found_of, in_arguments, in_term, RangeBreach, first, first_of, parameter_of, term_of, option_map, slice_get}
use Rattle.prem_analysis.proofs.Arguments.{next_argument}
use Rattle.prem_analysis.proofs.call.in_arguments.Goals as goal

pub loop-i-preserved : goal.loop-i-preserved
loop-i-preserved c =
    let site = site_of c.args.site.now in let env = env_of c.args.env.now in let es = c.args.es.now in let ps = c.args.ps.now in let i = c.loop-i.i in let at = c.args.at in
    let e = c.index-es-i.result in let o = found_of c.loop-i.found in let same = c.loop-i.invariant.known in
    let rest = first_of (in_arguments at site env (map term_of (drop (i + 1) es)) (map parameter_of (drop (i + 1) ps))) in
    let p = option_map parameter_of (slice_get ps i) in
    record {
      known = c.in_ok-in_term.ensures.env ∙ same;
      seen = ap (λ (x : Option RangeBreach). first x rest)
          (c.earlier-found-in-loop-i.ensures
          ∙ ap (λ (x : Option RangeBreach). first x (found_of c.in_ok-in_term.field-0))
          (c.earlier-found.ensures ∙ ap (first o) (c.in_given.ensures ∙ ap (λ v. first_of (in_given at v (term_of e) p)) same))
          ∙ ap (first (first o (first_of (in_given at env (term_of e) p)))) (c.in_ok-in_term.ensures.found ∙ ap (λ v. first_of (in_term site v (term_of e))) same))
          ∙ next_argument at site env es ps i e o (omega arith) c.index-es-i.is ∙ c.loop-i.invariant.seen;
    }
