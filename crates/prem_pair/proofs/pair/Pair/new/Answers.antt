use Rattle.std.proofs.Common.{◌≡◌, List, sym, ◌∙◌, subst, arith}
use Rattle.prem_pair.proofs.Prelude.{Request, items_of, setting_first, stands_first, IsSetting, Stands}
use Rattle.prem_pair.proofs.Beginning.{pair_first, goes_first}
use Rattle.prem_pair.proofs.pair.Pair.new.Goals as goal

pub invariant_of-result : goal.invariant_of-result
invariant_of-result g c =
    let image = c.args.first.now in
    let run = c.args.run.now in
    let behind = c.args.second.now in
    let other = c.args.other.now in
    let x = c.in_ok-parts.parts in
    let y = c.in_ok-behind.behind in
    let one = c.in_ok-one.one in
    let two = c.in_ok-two.two in
    let start = c.in_ok-parts.ensures in
    let start' = c.in_ok-behind.ensures in
    let same : c.in_ok-requests.requests.items ≡ items_of run.requests = c.in_ok-requests.ensures ∙ c.items.ensures in
    let S : List Request → Type 0 = λ rs. IsSetting one rs in
    let S' : List Request → Type 0 = λ rs. IsSetting two rs in
    let T : List Request → Type 0 = λ rs. Stands one rs x in
    let T' : List Request → Type 0 = λ rs. Stands two rs y in
    record {
      one = subst S (sym same) (setting_first image run one c.in_ok-one.ensures c.requires.one);
      two = subst S' c.requires.none (setting_first behind other two c.in_ok-two.ensures c.requires.two);
      stands = record {
        first = subst T (sym same) (stands_first image run one x c.in_ok-one.ensures c.requires.one start);
        second = subst T' c.requires.none (stands_first behind other two y c.in_ok-two.ensures c.requires.two start');
        same_now = start'.now ∙ sym start.now;
      };
      goes = λ none. goes_first image behind run other c.in_ok-requests.requests.items x y same start start';
      time = omega (arith, start.now);
    }

pub returns-clause-state : goal.returns-clause-state
returns-clause-state g c =
    pair_first c.args.first.now c.args.second.now c.args.run.now c.args.other.now c.in_ok-parts.parts c.in_ok-behind.behind c.in_ok-parts.ensures c.in_ok-behind.ensures
