-- Which tokens are refused: those that stand in no program, and the first ones past a limit.
use Rattle.std.proofs.Common.{◌≡◌, ◌<◌, ℕ, List, [], ◌∷◌, ◌++◌, None, Some, Err, Bool, true, false, refl, ap, sym, subst, ◌∙◌, append_assoc, arith}
use Rattle.prem_text.proofs.Prelude.{ItemText, Stage, outside, finished, ItemStep, ahead, made, refused, step, is_too_deep, stages, depths, IsUnexpected, IsPast, quiet, ProgramPhrase}
use Rattle.prem_text.proofs.Prelude.{IsProgram, program_tokens, program_tree, program_past, unless_deep, at_end, read_on, read, Seen, too_deep, FrontFail, Syntax, TooDeep}
use Rattle.prem_text.proofs.GrammarLemmas.Program.{Reached, reached, read_by, stages_step, depths_step, read_step, shallow, deep, stages_split, some_same, program_stages, programs_deep}
use Rattle.prem_text.proofs.GrammarLemmas.ProgramBegun.{begins_after}

-- ---- tokens that are taken

depths_split : (xs ys : List Seen) (items : List ItemText) (s : Stage) (q : Reached) → stages items s xs ≡ Some q → depths s (xs ++ ys) ≡ depths s xs ++ depths q.1 ys
depths_split [] ys items s q went = ap (λ (r : Reached). depths r.1 ys) (some_same items s q went)
depths_split (t ∷ ts) ys items s q went = by (step s t) refl (λ more next went'. depths_split ts ys more next q went')
  where
    by : (x : ItemStep) → step s t ≡ x →
        ((more : List ItemText) (next : Stage) → stages more next ts ≡ Some q → depths next (ts ++ ys) ≡ depths next ts ++ depths q.1 ys) →
        depths s (t ∷ (ts ++ ys)) ≡ depths s (t ∷ ts) ++ depths q.1 ys
    by (ahead next) is go_on =
        depths_step s t (ts ++ ys) (ahead next) is ∙ ap (λ (l : List Bool). is_too_deep next ∷ l) (go_on items next (sym (stages_step items s t ts (ahead next) is) ∙ went))
        ∙ ap (λ (l : List Bool). l ++ depths q.1 ys) (sym (depths_step s t ts (ahead next) is))
    by (made item) is go_on =
        depths_step s t (ts ++ ys) (made item) is ∙ ap (λ (l : List Bool). false ∷ l) (go_on (items ++ item ∷ []) outside (sym (stages_step items s t ts (made item) is) ∙ went))
        ∙ ap (λ (l : List Bool). l ++ depths q.1 ys) (sym (depths_step s t ts (made item) is))
    by refused is go_on = let none : None ≡ Some q = sym (stages_step items s t ts refused is) ∙ went in absurd cc

quiet_more : (good : List Seen) (t : Seen) → quiet (good ++ t ∷ []) ≡ quiet good ++ false ∷ []
quiet_more [] t = refl
quiet_more (g ∷ good) t = ap (λ (l : List Bool). false ∷ l) (quiet_more good t)

-- the reader takes tokens, none of them past a limit
record Took (good : List Seen) (items : List ItemText) (s : Stage) : Type 0 where
  went : stages [] outside good ≡ Some (reached items s)
  within : depths outside good ≡ quiet good

took_more : (good : List Seen) (items more : List ItemText) (s next : Stage) (t : Seen) → Took good items s →
    stages items s (t ∷ []) ≡ Some (reached more next) → depths s (t ∷ []) ≡ false ∷ [] → Took (good ++ t ∷ []) more next
took_more good items more s next t h went within = record {
  went = stages_split good (t ∷ []) [] outside (reached items s) h.went ∙ went;
  within = depths_split good (t ∷ []) [] outside (reached items s) h.went ∙ ap (λ (l : List Bool). l ++ depths s (t ∷ [])) h.within
      ∙ ap (λ (l : List Bool). quiet good ++ l) within ∙ sym (quiet_more good t);
}

took_ahead : (good : List Seen) (items : List ItemText) (s next : Stage) (t : Seen) → Took good items s → step s t ≡ ahead next → is_too_deep next ≡ false → Took (good ++ t ∷ []) items next
took_ahead good items s next t h is flag =
    took_more good items items s next t h (stages_step items s t [] (ahead next) is) (depths_step s t [] (ahead next) is ∙ ap (λ (x : Bool). x ∷ []) flag)

took_made : (good : List Seen) (items : List ItemText) (s : Stage) (item : ItemText) (t : Seen) → Took good items s → step s t ≡ made item → Took (good ++ t ∷ []) (items ++ item ∷ []) outside
took_made good items s item t h is = took_more good items (items ++ item ∷ []) s outside t h (stages_step items s t [] (made item) is) (depths_step s t [] (made item) is)

-- the flags of a program that begins with them
flags_behind : (good : List Seen) (items : List ItemText) (s : Stage) (p : ProgramPhrase) (more : List Seen) → Took good items s → IsProgram p →
    program_tokens p ≡ good ++ more → program_past p ≡ quiet good ++ depths s more
flags_behind good items s p more h right tokens =
    sym (program_stages p right).1 ∙ ap (λ (l : List Seen). depths outside l) tokens ∙ depths_split good more [] outside (reached items s) h.went ∙ ap (λ (l : List Bool). l ++ depths s more) h.within

-- ---- what is refused

no_program_has : (items : List ItemText) (s : Stage) (good : List Seen) (t : Seen) → stages [] outside good ≡ Some (reached items s) →
    step s t ≡ refused → (more : List Seen) (p : ProgramPhrase) → IsProgram p → program_tokens p ≡ good ++ t ∷ more → ⊥
no_program_has items s good t is stuck more p right spells =
    let r = program_stages p right in
    let whole : stages [] outside (good ++ t ∷ more) ≡ Some (reached (program_tree p) finished) =
    subst (λ (l : List Seen). stages [] outside l ≡ Some (reached (program_tree p) finished)) spells r.0 in
    let none : None ≡ Some (reached (program_tree p) finished) = sym (stages_split good (t ∷ more) [] outside (reached items s) is ∙ stages_step items s t more refused stuck) ∙ whole in
    absurd cc

unexpected_here : (good : List Seen) (items : List ItemText) (s : Stage) (t : Seen) (ts : List Seen) → Took good items s → step s t ≡ refused → IsUnexpected (good ++ t ∷ ts) t.1.line t.1.col
unexpected_here good items s t ts h is =
    let b = begins_after good items s h.went in
    record {
      good = good;
      token = t;
      rest = ts;
      parts = refl;
      line_is = refl;
      col_is = refl;
      begun = b;
      later = depths s b.more;
      within = flags_behind good items s b.phrase b.more h b.right b.tokens;
      none = λ more p right spells. no_program_has items s good t h.went is more p right spells;
    }

past_here : (good : List Seen) (items : List ItemText) (s next : Stage) (t : Seen) (ts : List Seen) → Took good items s → step s t ≡ ahead next →
    is_too_deep next ≡ true → IsPast (good ++ t ∷ ts) t.1.line
past_here good items s next t ts h is flag =
    let b = begins_after (good ++ t ∷ []) items next (stages_split good (t ∷ []) [] outside (reached items s) h.went ∙ stages_step items s t [] (ahead next) is) in
    let tokens : program_tokens b.phrase ≡ good ++ t ∷ b.more = b.tokens ∙ append_assoc good (t ∷ []) b.more in
    record {
      good = good;
      token = t;
      rest = ts;
      parts = refl;
      line_is = refl;
      phrase = b.phrase;
      right = b.right;
      more = b.more;
      tokens = tokens;
      later = depths next b.more;
      past = flags_behind good items s b.phrase (t ∷ b.more) h b.right tokens
          ∙ ap (λ (l : List Bool). quiet good ++ l) (depths_step s t b.more (ahead next) is ∙ ap (λ (x : Bool). x ∷ depths next b.more) flag);
    }

-- why tokens are refused: a program's reader has no other answers
abbrev pub Reason : FrontFail → List Seen → Type 0
Reason (Syntax line col) ts = 0 < line → IsUnexpected ts line col
Reason (TooDeep line) ts = IsPast ts line
Reason _ ts = ⊥

end_reason : (items : List ItemText) (s : Stage) (fail : FrontFail) (ts : List Seen) → at_end items s ≡ Err fail → Reason fail ts
end_reason items finished fail ts e = absurd cc
end_reason items _ fail ts e = let same : Syntax 0 0 ≡ fail = cc in subst (λ (f : FrontFail). Reason f ts) same (λ lt. absurd (omega (arith, lt)))

ahead_reason : (b : Bool) (good : List Seen) (items : List ItemText) (s next : Stage) (t : Seen) (ts : List Seen) (fail : FrontFail) →
    Took good items s → step s t ≡ ahead next → is_too_deep next ≡ b → unless_deep next t.1 (read_on items next ts) ≡ Err fail →
    ((more : List ItemText) (after : Stage) → Took (good ++ t ∷ []) more after → read_on more after ts ≡ Err fail → Reason fail ((good ++ t ∷ []) ++ ts)) → Reason fail (good ++ t ∷ ts)
ahead_reason true good items s next t ts fail h is flag e go_on =
    let too : too_deep t.1 ≡ Err fail = sym (deep next t.1 (read_on items next ts) flag) ∙ e in
    let same : TooDeep t.1.line ≡ fail = cc in
    subst (λ (f : FrontFail). Reason f (good ++ t ∷ ts)) same (past_here good items s next t ts h is flag)
ahead_reason false good items s next t ts fail h is flag e go_on =
    subst (λ (l : List Seen). Reason fail l) (append_assoc good (t ∷ []) ts) (go_on items next (took_ahead good items s next t h is flag) (sym (shallow next t.1 (read_on items next ts) flag) ∙ e))

step_reason : (x : ItemStep) (good : List Seen) (items : List ItemText) (s : Stage) (t : Seen) (ts : List Seen) (fail : FrontFail) →
    Took good items s → step s t ≡ x → read_by items t ts x ≡ Err fail →
    ((more : List ItemText) (after : Stage) → Took (good ++ t ∷ []) more after → read_on more after ts ≡ Err fail → Reason fail ((good ++ t ∷ []) ++ ts)) → Reason fail (good ++ t ∷ ts)
step_reason (ahead next) good items s t ts fail h is e go_on = ahead_reason (is_too_deep next) good items s next t ts fail h is refl e go_on
step_reason (made item) good items s t ts fail h is e go_on =
    subst (λ (l : List Seen). Reason fail l) (append_assoc good (t ∷ []) ts) (go_on (items ++ item ∷ []) outside (took_made good items s item t h is) e)
step_reason refused good items s t ts fail h is e go_on =
    let same : Syntax t.1.line t.1.col ≡ fail = cc in
    subst (λ (f : FrontFail). Reason f (good ++ t ∷ ts)) same (λ some. unexpected_here good items s t ts h is)

reason : (ts good : List Seen) (items : List ItemText) (s : Stage) (fail : FrontFail) → Took good items s → read_on items s ts ≡ Err fail → Reason fail (good ++ ts)
reason [] good items s fail h e = end_reason items s fail (good ++ []) e
reason (t ∷ ts) good items s fail h e =
    step_reason (step s t) good items s t ts fail h refl (sym (read_step items s t ts (step s t) refl) ∙ e) (λ more after h' e'. reason ts (good ++ t ∷ []) more after fail h' e')

pub refused_for : (ts : List Seen) (fail : FrontFail) → read ts ≡ Err fail → Reason fail ts
refused_for ts fail is = reason ts [] [] outside fail record { went = refl; within = refl } is

-- ---- what there is a reason for is refused

-- reading gets past tokens with which a program begins, where none of them is past a limit
record Passes (good : List Seen) (items : List ItemText) (s : Stage) : Type 0 where
  made_items : List ItemText
  stage : Stage
  went : stages items s good ≡ Some (reached made_items stage)
  reads : (ys : List Seen) → read_on items s (good ++ ys) ≡ read_on made_items stage ys

passes : (good more : List Seen) (items : List ItemText) (s : Stage) (q : Reached) (later : List Bool) → stages items s (good ++ more) ≡ Some q →
    depths s (good ++ more) ≡ quiet good ++ later → Passes good items s
passes [] more items s q later went within = record { made_items = items; stage = s; went = refl; reads = λ ys. refl }
passes (t ∷ ts) more items s q later went within = by (step s t) refl (λ items' next went' within'. passes ts more items' next q later went' within')
  where
    by : (x : ItemStep) → step s t ≡ x →
        ((items' : List ItemText) (next : Stage) → stages items' next (ts ++ more) ≡ Some q → depths next (ts ++ more) ≡ quiet ts ++ later →
        Passes ts items' next) → Passes (t ∷ ts) items s
    by (ahead next) is go_on =
        let same : is_too_deep next ∷ depths next (ts ++ more) ≡ false ∷ (quiet ts ++ later) = sym (depths_step s t (ts ++ more) (ahead next) is) ∙ within in
        let flag : is_too_deep next ≡ false = cc in
        let others : depths next (ts ++ more) ≡ quiet ts ++ later = cc in
        let r = go_on items next (sym (stages_step items s t (ts ++ more) (ahead next) is) ∙ went) others in
        record {
          made_items = r.made_items;
          stage = r.stage;
          went = stages_step items s t ts (ahead next) is ∙ r.went;
          reads = λ ys. read_step items s t (ts ++ ys) (ahead next) is ∙ shallow next t.1 (read_on items next (ts ++ ys)) flag ∙ r.reads ys;
        }
    by (made item) is go_on =
        let same : false ∷ depths outside (ts ++ more) ≡ false ∷ (quiet ts ++ later) = sym (depths_step s t (ts ++ more) (made item) is) ∙ within in
        let others : depths outside (ts ++ more) ≡ quiet ts ++ later = cc in
        let r = go_on (items ++ item ∷ []) outside (sym (stages_step items s t (ts ++ more) (made item) is) ∙ went) others in
        record {
          made_items = r.made_items;
          stage = r.stage;
          went = stages_step items s t ts (made item) is ∙ r.went;
          reads = λ ys. read_step items s t (ts ++ ys) (made item) is ∙ r.reads ys;
        }
    by refused is go_on = let none : None ≡ Some q = sym (stages_step items s t (ts ++ more) refused is) ∙ went in absurd cc

-- a token that the reader takes stands in a program
no_more_has : (good : List Seen) (items more : List ItemText) (s next : Stage) (t : Seen) → stages [] outside good ≡ Some (reached items s) → stages items s (t ∷ []) ≡ Some (reached more next) →
    ((rest : List Seen) (p : ProgramPhrase) → IsProgram p → program_tokens p ≡ good ++ t ∷ rest → ⊥) → ⊥
no_more_has good items more s next t went taken none =
    let b = begins_after (good ++ t ∷ []) more next (stages_split good (t ∷ []) [] outside (reached items s) went ∙ taken) in
    none b.more b.phrase b.right (b.tokens ∙ append_assoc good (t ∷ []) b.more)

passed_good : (ts : List Seen) (line col : ℕ) (u : IsUnexpected ts line col) → Passes u.good [] outside
passed_good ts line col u =
    let whole = program_stages u.begun.phrase u.begun.right in
    passes u.good u.begun.more [] outside (reached (program_tree u.begun.phrase) finished) u.later
    (ap (λ (l : List Seen). stages [] outside l) (sym u.begun.tokens) ∙ whole.0) (ap (λ (l : List Seen). depths outside l) (sym u.begun.tokens) ∙ whole.1 ∙ u.within)

refused_next : (ts : List Seen) (line col : ℕ) (u : IsUnexpected ts line col) (p : Passes u.good [] outside) (x : ItemStep) →
    step p.stage u.token ≡ x → read_on p.made_items p.stage (u.token ∷ u.rest) ≡ Err (Syntax line col)
refused_next ts line col u p (ahead next) is =
    absurd (no_more_has u.good p.made_items p.made_items p.stage next u.token p.went (stages_step p.made_items p.stage u.token [] (ahead next) is) u.none)
refused_next ts line col u p (made item) is =
    absurd (no_more_has u.good p.made_items (p.made_items ++ item ∷ []) p.stage outside u.token p.went (stages_step p.made_items p.stage u.token [] (made item) is) u.none)
refused_next ts line col u p refused is =
    read_step p.made_items p.stage u.token u.rest refused is ∙ ap (λ (k : ℕ). Err (Syntax k u.token.1.col)) u.line_is ∙ ap (λ (k : ℕ). Err (Syntax line k)) u.col_is

pub unexpected_refused : (ts : List Seen) (line col : ℕ) → IsUnexpected ts line col → read ts ≡ Err (Syntax line col)
unexpected_refused ts line col u =
    let p = passed_good ts line col u in
    ap read u.parts ∙ p.reads (u.token ∷ u.rest) ∙ refused_next ts line col u p (step p.stage u.token) refl

pub past_refused : (ts : List Seen) (line : ℕ) → IsPast ts line → read ts ≡ Err (TooDeep line)
past_refused ts line p =
    ap read p.parts ∙ programs_deep p.phrase p.good p.token p.more p.rest p.later p.right p.tokens p.past ∙ ap (λ (k : ℕ). Err (TooDeep k)) p.line_is
