-- Sums of least charges as they are told.
use Rattle.std.proofs.Common.{◌≡◌, ℕ, zero, suc, ◌+◌, ◌*◌, ◌<◌, ◌^◌, min, max, List, [], ◌∷◌, refl, ap, sym, ◌∙◌, arith, length, drop, take, get_or}
use Rattle.prem_asm.specs.Pieces.{size_of, branch_of}
use Rattle.prem_asm.specs.PiecesOf.{pieces_of}
use Rattle.prem_asm.proofs.Rows.{followed_none}
use Rattle.prem_layout.specs.Bounds.{job_weight}
use Rattle.prem_layout.specs.Template.Terms.{nonzero}
use Rattle.prem_bounds.specs.Scale.{clipped}
use Rattle.prem_bounds.proofs.Sums.{clipped_times}
use Rattle.prem_wcet_laws.specs.Scopes.{Scene, charge}
use Rattle.prem_wcet_laws.specs.Least.{own_jump, own_turns}
use Rattle.prem_wcet.specs.declared.outline.Part.{Part}
use Rattle.prem_wcet.specs.declared.outline.Part.TheVariants.{Plain, Calling, Choice', Turning'}
use Rattle.prem_wcet.specs.Outlines.{Outline, ended, plain, calling, choice, turning, code_of, coded_span, span_in, choice_by, apart_in}
use Rattle.prem_wcet.specs.PartsOf.{part_before, part_of, parts_of, part_code}
use Rattle.prem_wcet.specs.Fitting.{FitsAt, divided_in}
use Rattle.prem_wcet.proofs.PartRows.{drop_part}
use Rattle.prem_wcet.proofs.PlaceWeights.{size_followed}

-- ---- the first statement

-- its code alone
single_code : (p : Part) → code_of (part_of p) ≡ part_code p
single_code (Plain code names) = followed_none (pieces_of code.now)
single_code (Calling code names arguments count callee landing) = followed_none (pieces_of code.now)
single_code (Choice' code names condition skips p taken q other) = followed_none (pieces_of code.now)
single_code (Turning' code names first turns head before p body behind) = followed_none (pieces_of code.now)

pub apart_before : (e : Scene) (at : ℕ) (p : Part) (rest : Outline) →
    apart_in e at (part_before p rest) ≡ min (charge e at (span_in (part_of p))) (divided_in e at (part_of p)) + apart_in e (at + size_of (part_code p)) rest
apart_before e at p rest = by_part p ∙ ap (λ ps. min (charge e at (coded_span ps (part_of p))) (divided_in e at (part_of p)) + apart_in e (at + size_of (part_code p)) rest) (sym (single_code p)) where
  by_part : (p : Part) → apart_in e at (part_before p rest) ≡ min (charge e at (coded_span (part_code p) (part_of p))) (divided_in e at (part_of p)) + apart_in e (at + size_of (part_code p)) rest
  by_part (Plain code names) = refl
  by_part (Calling code names arguments count callee landing) = refl
  by_part (Choice' code names condition skips p taken q other) = refl
  by_part (Turning' code names first turns head before p body behind) = refl

-- the one of this number
pub taken_one : (ps : List Part) (i : ℕ) (p : Part) → i < length ps → p ≡ get_or ps i p → parts_of (take 1 (drop i ps)) ≡ part_of p
taken_one [] i p h is = absurd (omega arith)
taken_one (x ∷ xs) zero p h is = ap part_of (sym is)
taken_one (x ∷ xs) (suc i) p h is = taken_one xs i p (omega arith) is

-- ---- places

-- a place is below what is there
pub fits_all : (at : ℕ) (o : Outline) → FitsAt at o → at + size_of (code_of o) < 2 ^ 32
fits_all at ended f = omega (arith, f)
fits_all at (plain code names rest) f = let e = fits_all (at + size_of code) rest f in omega (arith, e, size_followed code (code_of rest))
fits_all at (calling code names arguments count callee landing rest) f = let e = fits_all (at + size_of code) rest (f.1) in omega (arith, e, size_followed code (code_of rest))
fits_all at (choice code names condition skips taken other rest) f = let e = fits_all (at + size_of code) rest (f.1.1) in omega (arith, e, size_followed code (code_of rest))
fits_all at (turning code names first turns head before body behind rest) f = let e = fits_all (at + size_of code) rest (f.1) in omega (arith, e, size_followed code (code_of rest))

-- behind the first, and the first alone
pub fits_behind : (at : ℕ) (p : Part) (rest : Outline) → FitsAt at (part_before p rest) → FitsAt (at + size_of (part_code p)) rest
fits_behind at (Plain code names) rest f = f
fits_behind at (Calling code names arguments count callee landing) rest f = f.1
fits_behind at (Choice' code names condition skips p taken q other) rest f = f.1.1
fits_behind at (Turning' code names first turns head before p body behind) rest f = f.1

pub fits_one : (at : ℕ) (p : Part) (rest : Outline) → FitsAt at (part_before p rest) → FitsAt at (part_of p)
fits_one at (Plain code names) rest f = let e = fits_all (at + size_of (pieces_of code.now)) rest f in omega (arith, e)
fits_one at (Calling code names arguments count callee landing) rest f = (f.0, let e = fits_all (at + size_of (pieces_of code.now)) rest f.1 in omega (arith, e))
fits_one at (Choice' code names condition skips p taken q other) rest f = (f.0, (f.1.0, let e = fits_all (at + size_of (pieces_of code.now)) rest f.1.1 in omega (arith, e)))
fits_one at (Turning' code names first turns head before p body behind) rest f = (f.0, let e = fits_all (at + size_of (pieces_of code.now)) rest f.1 in omega (arith, e))

-- ---- one by one

pub first_fits : (ps : List Part) (n at : ℕ) → n < length ps → FitsAt at (parts_of (drop n ps)) → at + size_of (code_of (parts_of (take 1 (drop n ps)))) < 2 ^ 32
first_fits [] n at h f = absurd (omega arith)
first_fits (x ∷ xs) zero at h f = fits_all at (part_of x) (fits_one at x (parts_of xs) f)
first_fits (x ∷ xs) (suc n) at h f = first_fits xs n at (omega arith) f

same_item : (ps : List Part) (n : ℕ) (p q : Part) → n < length ps → p ≡ get_or ps n p → q ≡ get_or ps n q → p ≡ q
same_item [] n p q h e f = absurd (omega arith)
same_item (x ∷ xs) zero p q h e f = e ∙ sym f
same_item (x ∷ xs) (suc n) p q h e f = same_item xs n p q (omega arith) e f

one_more : (whole divided smaller next sum w d x y a : ℕ) → whole ≡ clipped w → divided ≡ clipped d → smaller ≡ min whole divided →
    next ≡ clipped (sum + smaller) → a ≡ min w d + y → x ≡ y → clipped (next + x) ≡ clipped (sum + a)
one_more whole divided smaller next sum w d x y a e f g h i j = omega arith

pub apart_step : (e : Scene) (place sum whole divided smaller next stand : ℕ) (ps : List Part) (n : ℕ) (p q : Part) → n < length ps → p ≡ get_or ps n p → q ≡ get_or ps n q →
    whole ≡ clipped (charge e place (span_in (parts_of (take 1 (drop n ps))))) → divided ≡ clipped (divided_in e place (part_of p)) → smaller ≡ min whole divided → next ≡ clipped (sum + smaller) →
    stand ≡ place + size_of (part_code q) → clipped (next + apart_in e stand (parts_of (drop (n + 1) ps))) ≡ clipped (sum + apart_in e place (parts_of (drop n ps)))
apart_step e place sum whole divided smaller next stand ps n p q lt isp isq one two three four five =
    let rest : Outline = parts_of (drop (n + 1) ps) in
    one_more whole divided smaller next sum (charge e place (span_in (part_of p))) (divided_in e place (part_of p)) (apart_in e stand rest)
    (apart_in e (place + size_of (part_code p)) rest) (apart_in e place (parts_of (drop n ps)))
    (one ∙ ap (λ o. clipped (charge e place (span_in o))) (taken_one ps n p lt isp)) two three four
    (ap (apart_in e place) (drop_part ps n p lt isp) ∙ apart_before e place p rest)
    (ap (λ k. apart_in e k rest) (five ∙ ap (λ x. place + size_of (part_code x)) (same_item ps n q p lt isq isp)))

-- ---- sums of parts

choice_parts : (w p j a b x y : ℕ) → a ≡ clipped x → b ≡ clipped y → clipped (w + max (a + p) (j + b)) ≡ clipped (w + max (x + p) (j + y))
choice_parts w p j a b x y e f = omega arith

both_told : (r o q big one two : ℕ) → r ≡ clipped (o + q) → o ≡ clipped one → q ≡ clipped big → clipped big ≡ clipped two → r ≡ clipped (one + two)
both_told r o q big one two e f g h = omega arith

pub choice_told : (e : Scene) (skips first second x y condition own_one result sides : ℕ) → first ≡ clipped x → second ≡ clipped y →
    result ≡ clipped (own_one + sides) → own_one ≡ clipped condition → sides ≡ clipped (choice_by e skips first second) →
    result ≡ clipped (condition + choice_by e skips x y)
choice_told e skips first second x y condition own_one result sides f s r o c =
    both_told result own_one sides (choice_by e skips first second) condition (choice_by e skips x y) r o c
    (choice_parts (job_weight e.plant (branch_of (nonzero 10))) (skips * own_jump e) (own_jump e) first second x y f s)

turn_parts : (w j head body x h : ℕ) → head ≡ clipped h → clipped body ≡ clipped x → clipped (head + w + body + j) ≡ clipped (h + w + x + j)
turn_parts w j head body x h e f = omega arith

pub turns_told : (e : Scene) (turns head body h x first own_first all result : ℕ) → head ≡ clipped h → clipped body ≡ clipped x →
    all ≡ clipped (own_turns e turns (nonzero 10) head body) → own_first ≡ clipped first → result ≡ clipped (own_first + all) →
    result ≡ clipped (first + own_turns e turns (nonzero 10) h x)
turns_told e turns head body h x first own_first all result f b a o r =
    let w : ℕ = job_weight e.plant (branch_of (nonzero 10)) in
    let j : ℕ = own_jump e in
    let product : clipped (turns * (head + w + body + j)) ≡ clipped (turns * (h + w + x + j)) =
    sym (clipped_times turns (head + w + body + j) (2 ^ 41)) ∙ ap (λ k. clipped (turns * k)) (turn_parts w j head body x h f b) ∙ clipped_times turns (h + w + x + j) (2 ^ 41) in
    both_told result own_first all (own_turns e turns (nonzero 10) head body) first (own_turns e turns (nonzero 10) h x) r o a
    (last (turns * (head + w + body + j)) (turns * (h + w + x + j)) product) where
      last : (y z : ℕ) → clipped y ≡ clipped z →
          clipped (y + (head + job_weight e.plant (branch_of (nonzero 10)) + own_jump e))
          ≡ clipped (z + (h + job_weight e.plant (branch_of (nonzero 10)) + own_jump e))
      last y z e' = omega (arith, e', f)

pub body_told : (before inside behind one two b i c : ℕ) → before ≡ clipped b → inside ≡ clipped i → behind ≡ clipped c →
    one ≡ clipped (before + inside) → two ≡ clipped (one + behind) → clipped two ≡ clipped (b + i + c)
body_told before inside behind one two b i c e f g h k = omega arith

pub function_sum : (whole entry leaving around inside divided least c a b l : ℕ) → whole ≡ clipped c → entry ≡ clipped a → leaving ≡ clipped b →
    around ≡ clipped (entry + leaving) → inside ≡ clipped l → divided ≡ clipped (around + inside) → least ≡ min whole divided →
    least ≡ clipped (min c (a + b + l))
function_sum whole entry leaving around inside divided least c a b l e f g h i j k = omega arith
