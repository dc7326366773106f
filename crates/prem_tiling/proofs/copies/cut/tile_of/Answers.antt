use Rattle.std.proofs.Common.{rules, ◌≡◌, map, option_map, ap, ◌∙◌}
use Rattle.prem_tiling.proofs.Prelude.{parameter_of, local_of, mark_of, cut_in, narrowed_mark}
use Rattle.prem_tiling.proofs.copies.cut.tile_of.Goals as goal

pub returns : goal.returns
returns c =
    let cut = cut_in c.args.c.now in
    let f = c.args.c.now.function.now in
    let copied : option_map mark_of c.in_ok-mark.mark ≡ option_map (narrowed_mark cut c.low_of.result c.last_of.result) (option_map mark_of f.mark) = search rules in
    let mark = copied ∙ (λ i. option_map (narrowed_mark cut (c.low_of.ensures i) (c.last_of.ensures.last i)) (option_map mark_of f.mark)) in
    let name = c.in_ok-name.ensures ∙ c.requires.named in
    let params = c.in_ok-params.ensures ∙ ap (map parameter_of) c.items.ensures in
    let locals = c.in_ok-locals.ensures ∙ ap (map local_of) c.items-2.ensures in
    λ i. record {
      at = f.at;
      mark = mark i;
      ty = f.ty;
      name = name i;
      params = params i;
      locals = locals i;
      body = c.in_ok-body.ensures i;
      result = c.in_ok-result.ensures i;
    }
