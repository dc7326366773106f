use Rattle.std.proofs.Common.{◌≡◌, Option, ℕ, IfOk, None, length, map, refl, subst, sym, ◌∙◌}
use Rattle.prem_tiling.proofs.Prelude.{LocalVariable, statement_of, local_of, Walk, names_of, length-map}
use Rattle.prem_tiling.proofs.CopiesLemmas.WalkLaws.{carried_is}
use Rattle.prem_tiling.proofs.copies.carried.carried_in.Goals as goal

pub returns : goal.returns
returns c =
    let locals = c.args.locals.now in
    let w : Walk = record { flags = c.in_ok-flags.flags.items; trail = c.new.result.items; line = None } in
    subst (λ (x : Option ℕ). IfOk c.carried_by.result (λ line. line ≡ x))
    (carried_is c.in_ok-names.names (names_of (map local_of locals)) w (length locals) (statement_of c.args.body.now) c.in_ok-names.ensures (c.in_ok-flags.ensures.items_if_clones_equal (λ y e. cc))
    (sym (length-map (map local_of locals) (λ (l : LocalVariable). l.name) ∙ length-map locals local_of)) refl)
    c.carried_by.ensures
