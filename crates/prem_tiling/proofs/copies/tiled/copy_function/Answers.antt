use Rattle.prem_tiling.proofs.Prelude.{items_of, name_bytes, parameter_of, local_of, statements_of, all_with_calls, map, ap, ◌∙◌}
use Rattle.prem_tiling.proofs.CopiesLemmas.Bridge.{all_calls_are_tiles}
use Rattle.prem_tiling.proofs.copies.tiled.copy_function.Goals as goal

pub returns : goal.returns
returns c =
    let f = c.args.f.now in
    let name = name_bytes c.args.c.now.function.now.name in
    let params = c.in_ok-params.ensures ∙ ap (map parameter_of) c.items.ensures in
    let locals = c.in_ok-locals.ensures ∙ ap (map local_of) c.items-2.ensures in
    let body =
    c.in_ok-body.ensures ∙ (λ i. all_with_calls name (c.requires.named i) (statements_of (c.items-3.ensures i)))
    ∙ all_calls_are_tiles name c.args.c.now.tiles (statements_of (items_of f.body)) in
    λ i. record {
      at = f.at;
      mark = c.in_ok-mark.ensures i;
      ty = f.ty;
      name = c.in_ok-name.ensures i;
      params = params i;
      locals = locals i;
      body = body i;
      result = c.in_ok-result.ensures i;
    }
