-- What is told of the first rule on ranges but for regions.
use Rattle.std.specs.Option.{option_map}
use Rattle.std.proofs.Common.{◌≡◌, ℕ, Option, None, Some, refl, ap, sym, ◌∙◌}
use Rattle.prem_syntax.specs.Resolved.{Resolved}
use Rattle.prem_syntax.specs.Syntax.{ProgramText}
use Rattle.prem_ranges.specs.RangeRules.{RangeRule, LoopBound, TooLarge, ZeroDivisor, IndexOutside, RegionOutside, ArgRange, RangeBreach}
use Rattle.prem_ranges.specs.RangesKept.{resolved}
use Rattle.prem_layout.specs.Rules.{refused_by}
use Rattle.prem_tasks.specs.Broken.{range_told}
use Rattle.prem_tasks.specs.Told.{Told, of_ranges}
use Rattle.prem_tasks.specs.Stops.{Stop, Stops}
use Rattle.prem_stages.proofs.Passing.{told_stops}
use Rattle.prem_annotating.specs.Annotated.{first_other}
use Rattle.prem_annotate.specs.Rules.First.{Tellable}
use Rattle.prem_annotate_answer.specs.Written.{other_ranges}
use Rattle.prem_annotate_answer.specs.Steps.{nameless, told_nameless}

no_names : (p : Resolved) (line : ℕ) (rule : RangeRule) → Tellable rule → nameless line rule ≡ range_told p line rule
no_names p line LoopBound h = refl
no_names p line TooLarge h = refl
no_names p line (ZeroDivisor divisor) h = refl
no_names p line (IndexOutside index length) h = refl
no_names p line (RegionOutside function elements global) h = absurd h
no_names p line (ArgRange argument stated) h = refl

-- a program with such a rule is refused by it
pub other_stops : (p : ProgramText) (b : RangeBreach) (rule : Told) (stop : Stop) (n : ℕ) → Some b ≡ first_other p → Tellable b.rule →
    rule ≡ told_nameless b → Stops stop (Some (record { task = Some n; rule = rule })) →
    Stops stop (refused_by (Some n) (other_ranges p))
other_stops p b rule stop n is tellable told s =
    let here : told_nameless b ≡ of_ranges (range_told (resolved p) b.at.line b.rule) = ap of_ranges (no_names (resolved p) b.at.line b.rule tellable) in
    let all : other_ranges p ≡ Some rule =
    ap (λ (o : Option RangeBreach). option_map (λ (x : RangeBreach). of_ranges (range_told (resolved p) x.at.line x.rule)) o) (sym is) ∙ ap Some (sym here ∙ sym told) in
    told_stops (other_ranges p) rule stop n all s

pub none_refused : (p : ProgramText) (n : ℕ) → None ≡ first_other p → refused_by (Some n) (other_ranges p) ≡ None
none_refused p n is = ap (λ (o : Option RangeBreach). refused_by (Some n) (option_map (λ (x : RangeBreach). of_ranges (range_told (resolved p) x.at.line x.rule)) o)) (sym is)
