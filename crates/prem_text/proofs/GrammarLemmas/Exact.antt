-- The readers of expressions and of statements against the grammar.
use Rattle.std.proofs.Common.{◌≡◌, ◌≤◌, ℕ, List, [], ◌∷◌, ◌++◌, Option, None, Some, Bool, true, false, refl, ap, sym, subst, ◌∙◌, append_assoc}
use Rattle.prem_text.proofs.Prelude.{Expression, Statement, Place, bottom, State, wants, has, Move, goes, ends, stops, move, moves, is_closer, body_begins, turns, limits, ends_body, Phrase}
use Rattle.prem_text.proofs.Prelude.{spelled, tree, level, IsExpression, is_else, in_body, Point, between, Turn, on, leaves, wrong, turn, is_past, StatementPhrases, no_phrases}
use Rattle.prem_text.proofs.Prelude.{AreStatements, all_written, all_meant, all_past, Lexeme, word, mark, Seen, append-nil}
use Rattle.prem_text.proofs.GrammarLemmas.Complete.{reads_phrase}
use Rattle.prem_text.proofs.GrammarLemmas.Fill.{fill_point}
use Rattle.prem_text.proofs.GrammarLemmas.Nested.{Frame, reads_statements}
use Rattle.prem_text.proofs.GrammarLemmas.Sound.{StandsIn, wanting, at_bottom, Fine, move_fine, begins_expression}
use Rattle.prem_text.proofs.GrammarLemmas.Stand.{body_opened, StandsAt, at_between, FineTurn}
use Rattle.prem_text.proofs.GrammarLemmas.Steps.{Goes, done, more, Same}
use Rattle.prem_text.proofs.GrammarLemmas.Taken.{Turns, stay, go}
use Rattle.prem_text.proofs.GrammarLemmas.Turns.{turn_fine}
use Rattle.prem_text.specs.Grammar.Law.{goes_on}
use Rattle.prem_text.specs.Grammar.Phrases.{Spells}
use Rattle.prem_text.specs.declared.lexing.token.token.Mark.TheVariants as m
use Rattle.prem_text.specs.declared.lexing.token.token.Word.TheVariants as w

-- ---- expressions

abbrev moves_by : ℕ → List Seen → Move → Option State
moves_by least ts (goes next) = moves least next ts
moves_by least ts (ends e) = None
moves_by least ts stops = None

moves_step : (least : ℕ) (s : State) (t : Seen) (ts : List Seen) → moves least s (t ∷ ts) ≡ moves_by least ts (move least s t)
moves_step least s t ts = by (move least s t)
  where
    by : (x : Move) → (elim x [ goes next ↦ moves least next ts | ends e ↦ None | stops ↦ None ]) ≡ moves_by least ts x
    by (goes next) = refl
    by (ends e) = refl
    by stops = refl

moves_goes : (least : ℕ) (s end : State) (ts : List Seen) → Goes least s ts end → moves least s ts ≡ Some end
moves_goes least s _ _ (done _) = refl
moves_goes least s end _ (more _ mid _ t ts is later) = moves_step least s t ts ∙ ap (moves_by least ts) is ∙ moves_goes least mid end ts later

moves_split : (least : ℕ) (s : State) (xs ys : List Seen) (q : State) → moves least s xs ≡ Some q → moves least s (xs ++ ys) ≡ moves least q ys
moves_split least s [] ys q is = let same : s ≡ q = cc in ap (λ (x : State). moves least x ys) same
moves_split least s (t ∷ ts) ys q is = by (move least s t) refl (λ next is'. moves_split least next ts ys q is')
  where
    by : (x : Move) → move least s t ≡ x → ((next : State) → moves least next ts ≡ Some q → moves least next (ts ++ ys) ≡ moves least q ys) → moves least s (t ∷ (ts ++ ys)) ≡ moves least q ys
    by (goes next) step go_on = moves_step least s t (ts ++ ys) ∙ ap (moves_by least (ts ++ ys)) step ∙ go_on next (sym (moves_step least s t ts ∙ ap (moves_by least ts) step) ∙ is)
    by (ends e) step go_on = let no_state : None ≡ Some q = sym (moves_step least s t ts ∙ ap (moves_by least ts) step) ∙ is in absurd cc
    by stops step go_on = let no_state : None ≡ Some q = sym (moves_step least s t ts ∙ ap (moves_by least ts) step) ∙ is in absurd cc

stands_after : (least : ℕ) (ts : List Seen) (s q : State) (pre : List Seen) → least ≤ 11 → StandsIn least s pre → moves least s ts ≡ Some q → StandsIn least q (pre ++ ts)
unfolding Fine
stands_after least [] s q pre h stands is =
    let same : s ≡ q = cc in subst (λ (x : State). StandsIn least x (pre ++ [])) same (subst (λ (l : List Seen). StandsIn least s l) (sym (append-nil pre)) stands)
stands_after least (t ∷ ts) s q pre h stands is = by (move least s t) refl (move_fine least s pre t h stands) (λ next stands' is'. stands_after least ts next q (pre ++ t ∷ []) h stands' is')
  where
    by : (x : Move) → move least s t ≡ x → Fine least pre t x →
        ((next : State) → StandsIn least next (pre ++ t ∷ []) → moves least next ts ≡ Some q → StandsIn least q (pre ++ t ∷ [] ++ ts)) →
        StandsIn least q (pre ++ t ∷ ts)
    by (goes next) step fine go_on =
        subst (λ (l : List Seen). StandsIn least q l) (append_assoc pre (t ∷ []) ts) (go_on next fine (sym (moves_step least s t ts ∙ ap (moves_by least ts) step) ∙ is))
    by (ends e) step fine go_on = let no_state : None ≡ Some q = sym (moves_step least s t ts ∙ ap (moves_by least ts) step) ∙ is in absurd cc
    by stops step fine go_on = let no_state : None ≡ Some q = sym (moves_step least s t ts ∙ ap (moves_by least ts) step) ∙ is in absurd cc

closer_ends : (least : ℕ) (p : Phrase) (x : Lexeme) (at : Place) (end : State) → is_closer x ≡ true → Same least (level p) end (has (tree p) bottom) → move least end (x, at) ≡ ends (tree p)
closer_ends least p (mark m.CloseParenthesis) at end is same = same (mark m.CloseParenthesis) at (refl, tt)
closer_ends least p (mark m.CloseBracket) at end is same = same (mark m.CloseBracket) at (refl, tt)
closer_ends least p (mark m.Semicolon) at end is same = same (mark m.Semicolon) at (refl, tt)
closer_ends least p (mark m.Comma) at end is same = same (mark m.Comma) at (refl, tt)
closer_ends least p (mark _) at end is same = absurd cc
closer_ends least p _ at end is same = absurd cc

pub expressions_read : (least : ℕ) (p : Phrase) (t : Seen) → IsExpression least p → is_closer t.0 ≡ true →
    (s : State) × (moves least (wants bottom) (spelled p) ≡ Some s) × (move least s t ≡ ends (tree p))
expressions_read least p t short closes =
    let r = reads_phrase least p bottom short.1 short.0 in
    (r.end, moves_goes least (wants bottom) r.end (spelled p) r.goes, closer_ends least p t.0 t.1 r.end closes r.same)

pub expressions_sound : (least : ℕ) (ts : List Seen) (s : State) (t : Seen) (e : Expression) → least ≤ 11 → moves least (wants bottom) ts ≡ Some s → move least s t ≡ ends e → Spells least ts e
unfolding Fine
expressions_sound least ts s t e h is step = by (move least s t) step (move_fine least s ts t h (stands_after least ts (wants bottom) s [] h (wanting bottom [] at_bottom) is))
  where
    by : (x : Move) → x ≡ ends e → Fine least ts t x → Spells least ts e
    by (ends v) step fine = let same : v ≡ e = cc in subst (λ (y : Expression). Spells least ts y) same fine
    by (goes next) step fine = absurd cc
    by stops step fine = absurd cc

pub expressions_begun : (least : ℕ) (ts : List Seen) (s : State) → least ≤ 11 → moves least (wants bottom) ts ≡ Some s → (rest : List Seen) × (e : Expression) × Spells least (ts ++ rest) e
expressions_begun least ts s h is =
    let w = begins_expression least s ts h (stands_after least ts (wants bottom) s [] h (wanting bottom [] at_bottom) is) in
    (w.rest, tree w.phrase, (w.phrase, w.levels, w.binds, w.spells, refl))

pub expressions_end : (least : ℕ) (ts : List Seen) (s : State) (t : Seen) → moves least (wants bottom) ts ≡ Some s → move least s t ≡ stops →
    (rest : List Seen) (e : Expression) → Spells least (ts ++ t ∷ rest) e → ⊥
expressions_end least ts s t is step rest e q =
    let r = reads_phrase least q.0 bottom q.2 q.1 in
    let whole : moves least (wants bottom) (ts ++ t ∷ rest) ≡ Some r.end =
    subst (λ (l : List Seen). moves least (wants bottom) l ≡ Some r.end) q.3 (moves_goes least (wants bottom) r.end (spelled q.0) r.goes) in
    let stuck : None ≡ Some r.end = sym (moves_split least (wants bottom) ts (t ∷ rest) s is ∙ moves_step least s t rest ∙ ap (moves_by least rest) step) ∙ whole in
    absurd cc

-- ---- statements

abbrev turns_by : List Seen → Turn → Option Point
turns_by ts (on next) = turns next ts
turns_by ts (leaves statements) = None
turns_by ts wrong = None

abbrev limits_by : List Seen → Turn → List Bool
limits_by ts (on next) = is_past next ∷ limits next ts
limits_by ts (leaves statements) = []
limits_by ts wrong = []

turns_step : (p : Point) (t : Seen) (ts : List Seen) → turns p (t ∷ ts) ≡ turns_by ts (turn p t)
turns_step p t ts = by (turn p t)
  where
    by : (x : Turn) → (elim x [ on next ↦ turns next ts | leaves statements ↦ None | wrong ↦ None ]) ≡ turns_by ts x
    by (on next) = refl
    by (leaves statements) = refl
    by wrong = refl

limits_step : (p : Point) (t : Seen) (ts : List Seen) → limits p (t ∷ ts) ≡ limits_by ts (turn p t)
limits_step p t ts = by (turn p t)
  where
    by : (x : Turn) → (elim x [ on next ↦ is_past next ∷ limits next ts | leaves statements ↦ [] | wrong ↦ [] ]) ≡ limits_by ts x
    by (on next) = refl
    by (leaves statements) = refl
    by wrong = refl

turns_taken : (p end : Point) (ts : List Seen) (bs : List Bool) → Turns p ts bs end → (turns p ts ≡ Some end) × (limits p ts ≡ bs)
turns_taken p _ _ _ (stay _) = (refl, refl)
turns_taken p end _ _ (go _ mid _ t ts b bs is flag later) =
    let rest = turns_taken mid end ts bs later in
    (turns_step p t ts ∙ ap (turns_by ts) is ∙ rest.0, limits_step p t ts ∙ ap (limits_by ts) is ∙ ap (λ (x : Bool). x ∷ limits mid ts) flag ∙ ap (λ (l : List Bool). b ∷ l) rest.1)

turns_split : (p : Point) (xs ys : List Seen) (q : Point) → turns p xs ≡ Some q → turns p (xs ++ ys) ≡ turns q ys
turns_split p [] ys q is = let same : p ≡ q = cc in ap (λ (x : Point). turns x ys) same
turns_split p (t ∷ ts) ys q is = by (turn p t) refl (λ next is'. turns_split next ts ys q is')
  where
    by : (x : Turn) → turn p t ≡ x → ((next : Point) → turns next ts ≡ Some q → turns next (ts ++ ys) ≡ turns q ys) → turns p (t ∷ (ts ++ ys)) ≡ turns q ys
    by (on next) step go_on = turns_step p t (ts ++ ys) ∙ ap (turns_by (ts ++ ys)) step ∙ go_on next (sym (turns_step p t ts ∙ ap (turns_by ts) step) ∙ is)
    by (leaves statements) step go_on = let no_point : None ≡ Some q = sym (turns_step p t ts ∙ ap (turns_by ts) step) ∙ is in absurd cc
    by wrong step go_on = let no_point : None ≡ Some q = sym (turns_step p t ts ∙ ap (turns_by ts) step) ∙ is in absurd cc

point_after : (ts : List Seen) (p q : Point) (pre : List Seen) → StandsAt p pre → turns p ts ≡ Some q → StandsAt q (pre ++ ts)
point_after [] p q pre stands is =
    let same : p ≡ q = cc in subst (λ (x : Point). StandsAt x (pre ++ [])) same (subst (λ (l : List Seen). StandsAt p l) (sym (append-nil pre)) stands)
point_after (t ∷ ts) p q pre stands is = by (turn p t) refl (turn_fine p pre t stands) (λ next stands' is'. point_after ts next q (pre ++ t ∷ []) stands' is')
  where
    by : (x : Turn) → turn p t ≡ x → FineTurn pre (pre ++ t ∷ []) x →
        ((next : Point) → StandsAt next (pre ++ t ∷ []) → turns next ts ≡ Some q → StandsAt q (pre ++ t ∷ [] ++ ts)) → StandsAt q (pre ++ t ∷ ts)
    by (on next) step fine go_on = subst (λ (l : List Seen). StandsAt q l) (append_assoc pre (t ∷ []) ts) (go_on next fine (sym (turns_step p t ts ∙ ap (turns_by ts) step) ∙ is))
    by (leaves statements) step fine go_on = let no_point : None ≡ Some q = sym (turns_step p t ts ∙ ap (turns_by ts) step) ∙ is in absurd cc
    by wrong step fine go_on = let no_point : None ≡ Some q = sym (turns_step p t ts ∙ ap (turns_by ts) step) ∙ is in absurd cc

pub body_frame : Frame (λ before. in_body before) 0
body_frame = record { adds = λ s before t. refl; deep = λ before. refl }

body_stands : (ts : List Seen) (p : Point) → turns body_begins ts ≡ Some p → StandsAt p ts
body_stands ts p is = point_after ts body_begins p [] (at_between (in_body []) [] (body_opened no_phrases tt)) is

pub no_else : (x : Lexeme) → ends_body x ≡ true → is_else x ≡ false
no_else (mark x) h = refl
no_else (word w.Return) h = refl
no_else (word _) h = absurd cc
no_else _ h = refl

pub body_left : (statements : List Statement) (x : Lexeme) (at : Place) → ends_body x ≡ true → turn (between (in_body statements)) (x, at) ≡ leaves statements
body_left statements (mark m.CloseBrace) at h = refl
body_left statements (word w.Return) at h = refl
body_left statements (mark _) at h = absurd cc
body_left statements (word _) at h = absurd cc
body_left statements _ at h = absurd cc

pub statements_read : (ss : StatementPhrases) (t : Seen) → AreStatements ss → ends_body t.0 ≡ true → (p : Point) × (turns body_begins (all_written ss) ≡ Some p) × (turn p t ≡ leaves (all_meant ss))
statements_read ss t right h =
    let r = reads_statements ss (λ before. in_body before) 0 [] body_frame right in
    (r.end, (turns_taken body_begins r.end (all_written ss) _ r.turns).0, r.same t (no_else t.0 h) ∙ body_left (all_meant ss) t.0 t.1 h)

pub statements_limited : (ss : StatementPhrases) → AreStatements ss → limits body_begins (all_written ss) ≡ all_past 1 ss
statements_limited ss right =
    let r = reads_statements ss (λ before. in_body before) 0 [] body_frame right in
    (turns_taken body_begins r.end (all_written ss) _ r.turns).1

pub statements_sound : (ts : List Seen) (p : Point) (t : Seen) (statements : List Statement) → turns body_begins ts ≡ Some p → turn p t ≡ leaves statements →
    (ss : StatementPhrases) × AreStatements ss × (all_meant ss ≡ statements) × (all_written ss ≡ ts)
statements_sound ts p t statements is step = by (turn p t) step (turn_fine p ts t (body_stands ts p is))
  where
    by : (x : Turn) → x ≡ leaves statements → FineTurn ts (ts ++ t ∷ []) x → (ss : StatementPhrases) × AreStatements ss × (all_meant ss ≡ statements) × (all_written ss ≡ ts)
    by (leaves found) step fine = let same : found ≡ statements = cc in (fine.0, fine.1, fine.2 ∙ same, fine.3)
    by (on next) step fine = absurd cc
    by wrong step fine = absurd cc

pub statements_begun : (ts : List Seen) (p : Point) → turns body_begins ts ≡ Some p → (rest : List Seen) × (ss : StatementPhrases) × AreStatements ss × (all_written ss ≡ ts ++ rest)
statements_begun ts p is = let b = fill_point p ts (body_stands ts p is) in (b.more, b.phrases, b.right, b.spells)

pub statements_end : (ts : List Seen) (p : Point) (t : Seen) → turns body_begins ts ≡ Some p → goes_on (turn p t) ≡ false →
    (rest : List Seen) (ss : StatementPhrases) → AreStatements ss → all_written ss ≡ ts ++ t ∷ rest → ⊥
statements_end ts p t is stuck rest ss right spells = by (turn p t) refl stuck
  where
    by : (x : Turn) → turn p t ≡ x → goes_on x ≡ false → ⊥
    by (on next) step stuck = absurd cc
    by (leaves statements) step stuck =
        let r = reads_statements ss (λ before. in_body before) 0 [] body_frame right in
        let whole : turns body_begins (ts ++ t ∷ rest) ≡ Some r.end = subst (λ (l : List Seen). turns body_begins l ≡ Some r.end) spells (turns_taken body_begins r.end (all_written ss) _ r.turns).0 in
        let none : None ≡ Some r.end = sym (turns_split body_begins ts (t ∷ rest) p is ∙ turns_step p t rest ∙ ap (turns_by rest) step) ∙ whole in absurd cc
    by wrong step stuck =
        let r = reads_statements ss (λ before. in_body before) 0 [] body_frame right in
        let whole : turns body_begins (ts ++ t ∷ rest) ≡ Some r.end = subst (λ (l : List Seen). turns body_begins l ≡ Some r.end) spells (turns_taken body_begins r.end (all_written ss) _ r.turns).0 in
        let none : None ≡ Some r.end = sym (turns_split body_begins ts (t ∷ rest) p is ∙ turns_step p t rest ∙ ap (turns_by rest) step) ∙ whole in absurd cc
