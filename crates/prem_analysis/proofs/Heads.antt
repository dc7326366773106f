-- The head of a counting loop, from what its calls give.
use Rattle.std.proofs.Common.{◌≡◌, ℕ, Bool, List, Option, ap, sym, ◌∙◌}
use Rattle.prem_analysis.proofs.Prelude.{capped, at_term, at_counting, bound_of, Seen, noted, counted, end_of, turn_bound, loop_end, in_counting, body_range, range_behind, in_body}
use Rattle.prem_analysis.proofs.Prelude.{behind_loop, with_range, Environment, at_local, Site, in_term, in_counting_loop, range_of, RangeBreach, first_of, Saved, saved_few, Term, Steps}
use Rattle.prem_analysis.proofs.Prelude.{Place, Span, ℤ}

-- the numbers of a loop's head are the defined ones
pub record Head (env : Environment) (k : ℕ) (low : Term) (closed : Bool) (high : Term) (step : ℕ) (body : Steps) (around : ℕ) (known : Environment)
    (start : Span) (end : ℤ) (bound product : ℕ) : Type 0 where
  pub known_is : known ≡ in_counting k body env
  pub start_is : start ≡ range_of env low
  pub end_is : end ≡ loop_end env k closed high body
  pub bound_is : bound ≡ bound_of env k low closed high step body
  pub product_is : product ≡ capped around (bound_of env k low closed high step body)

pub head : (env e1 e2 e3 : Environment) (k : ℕ) (low : Term) (closed : Bool) (high : Term) (step : ℕ) (body : Steps) (around : ℕ) (start top : Span) (end : ℤ) (bound product : ℕ) →
    start ≡ range_of env low → e1 ≡ env → e2 ≡ in_counting k body e1 → top ≡ range_of e2 high → end ≡ end_of closed top →
    bound ≡ turn_bound start.lo end step → product ≡ capped around bound → e3 ≡ e2 →
    Head env k low closed high step body around e3 start end bound product
head env e1 e2 e3 k low closed high step body around start top end bound product start_is is1 is2 top_is end_is bound_is product_is is3 =
    let known : e2 ≡ in_counting k body env = is2 ∙ ap (in_counting k body) is1 in
    let last : end ≡ loop_end env k closed high body = end_is ∙ ap (end_of closed) (top_is ∙ ap (λ e. range_of e high) known) in
    let turns : bound ≡ bound_of env k low closed high step body = bound_is ∙ ap (λ (r : Span). turn_bound r.lo end step) start_is ∙ ap (λ z. turn_bound (range_of env low).lo z step) last in
    record { known_is = is3 ∙ known; start_is = start_is; end_is = last; bound_is = turns; product_is = product_is ∙ ap (capped around) turns }

pub body_known : {env : Environment} {k : ℕ} {low : Term} {closed : Bool} {high : Term} {step : ℕ} {body : Steps} {around : ℕ} {known : Environment}
    {start : Span} {end : ℤ} {bound product : ℕ} (inner : Environment) →
    Head env k low closed high step body around known start end bound product → inner ≡ at_local k (with_range (body_range start end)) known →
    inner ≡ in_body env k low (loop_end env k closed high body) body
body_known {env = env} {k = k} {low = low} {closed = closed} {high = high} {body = body} {known = known} {start = start} {end = end} inner h is =
    is ∙ ap (λ (r : Span). at_local k (with_range (body_range r end)) known) h.start_is ∙ ap (λ z. at_local k (with_range (body_range (range_of env low) z)) known) h.end_is
    ∙ ap (at_local k (with_range (body_range (range_of env low) (loop_end env k closed high body)))) h.known_is

pub behind_saved : {env : Environment} {k : ℕ} {low : Term} {closed : Bool} {high : Term} {step : ℕ} {body : Steps} {around : ℕ} {known : Environment}
    {start : Span} {end : ℤ} {bound product : ℕ} (ks : List ℕ) (behind : List Saved) →
    Head env k low closed high step body around known start end bound product → behind ≡ saved_few (at_local k (with_range (range_behind start end step)) known) ks →
    behind ≡ saved_few (behind_loop env k low (loop_end env k closed high body) step body) ks
behind_saved {env = env} {k = k} {low = low} {closed = closed} {high = high} {step = step} {body = body} {known = known} {start = start} {end = end} ks behind h is =
    is ∙ ap (λ (r : Span). saved_few (at_local k (with_range (range_behind r end step)) known) ks) h.start_is
    ∙ ap (λ z. saved_few (at_local k (with_range (range_behind (range_of env low) z step)) known) ks) h.end_is
    ∙ ap (λ e. saved_few (at_local k (with_range (range_behind (range_of env low) (loop_end env k closed high body) step)) e) ks) h.known_is

pub head_seen : {env : Environment} {k : ℕ} {low : Term} {closed : Bool} {high : Term} {step : ℕ} {body : Steps} {around : ℕ} {known : Environment}
    {start : Span} {end : ℤ} {bound product : ℕ} (site : Site) (at : Place) (own in_low : Option RangeBreach) (e2 : Environment) (s s' : Seen) →
    Head env k low closed high step body around known start end bound product → known ≡ e2 → own ≡ first_of (in_counting_loop at end step product) → in_low ≡ first_of (in_term site env low) →
    s' ≡ counted bound (at_term site e2 high (noted in_low (noted own s))) →
    s' ≡ at_counting site around env at k low high (loop_end env k closed high body) step (bound_of env k low closed high step body) body s
head_seen {env = env} {k = k} {low = low} {closed = closed} {high = high} {step = step} {body = body} {around = around} {known = known} {end = end}
    {bound = bound} {product = product} site at own in_low e2 s s' h same own_is low_is is =
    let found : own ≡ first_of (in_counting_loop at (loop_end env k closed high body) step (capped around (bound_of env k low closed high step body))) =
    own_is ∙ ap (λ z. first_of (in_counting_loop at z step product)) h.end_is ∙ ap (λ n. first_of (in_counting_loop at (loop_end env k closed high body) step n)) h.product_is in
    is ∙ ap (λ n. counted n (at_term site e2 high (noted in_low (noted own s)))) h.bound_is
    ∙ ap (counted (bound_of env k low closed high step body))
    (ap (λ e. at_term site e high (noted in_low (noted own s))) (sym same ∙ h.known_is)
    ∙ ap (at_term site (in_counting k body env) high) (ap (λ o. noted o (noted own s)) low_is ∙ ap (λ o. at_term site env low (noted o s)) found))
