-- Programs are read as the grammar says, up to the first token past a limit.
use Rattle.std.proofs.Common.{◌≡◌, List, [], ◌∷◌, ◌++◌, Option, None, Some, Result, Ok, Bool, true, false, refl, ap, sym, subst, ◌∙◌, append_assoc}
use Rattle.prem_text.proofs.Prelude.{ItemText, ProgramText, Place, Stage, outside, finished, ItemStep, ahead, made, refused, step, is_too_deep, stages, depths, are_within, IsRow, quiet}
use Rattle.prem_text.proofs.Prelude.{ItemPhrase, of_global, of_function, IsItem, item_tokens, item_tree, item_past, AreItems, items_tokens, items_tree, items_past, ProgramPhrase, IsProgram}
use Rattle.prem_text.proofs.Prelude.{program_tokens, program_tree, program_past, unless_deep, at_end, read_on, read, the_end, fits, Seen, no_program, too_deep, FrontFail, append-nil}
use Rattle.prem_text.proofs.GrammarLemmas.FunctionWhole.{function_read}
use Rattle.prem_text.proofs.GrammarLemmas.ItemTaken.{Runs, rest, forth}
use Rattle.prem_text.proofs.GrammarLemmas.ItemWhole.{ItemRead, global_read}

abbrev pub Reached : Type 0
Reached = List ItemText × Stage

abbrev pub stages_by : List ItemText → List Seen → ItemStep → Option Reached
stages_by items ts (ahead next) = stages items next ts
stages_by items ts (made item) = stages (items ++ item ∷ []) outside ts
stages_by items ts refused = None

abbrev pub depths_by : List Seen → ItemStep → List Bool
depths_by ts (ahead next) = is_too_deep next ∷ depths next ts
depths_by ts (made item) = false ∷ depths outside ts
depths_by ts refused = []

abbrev pub read_by : List ItemText → Seen → List Seen → ItemStep → Result ProgramText FrontFail
read_by items t ts (ahead next) = unless_deep next t.1 (read_on items next ts)
read_by items t ts (made item) = read_on (items ++ item ∷ []) outside ts
read_by items t ts refused = no_program t.1

pub stages_step : (items : List ItemText) (s : Stage) (t : Seen) (ts : List Seen) (x : ItemStep) → step s t ≡ x → stages items s (t ∷ ts) ≡ stages_by items ts x
stages_step items s t ts x is = by (step s t) ∙ ap (stages_by items ts) is
  where
    by : (y : ItemStep) → (elim y [ ahead next ↦ stages items next ts | made item ↦ stages (items ++ item ∷ []) outside ts | refused ↦ None ]) ≡ stages_by items ts y
    by (ahead next) = refl
    by (made item) = refl
    by refused = refl

pub depths_step : (s : Stage) (t : Seen) (ts : List Seen) (x : ItemStep) → step s t ≡ x → depths s (t ∷ ts) ≡ depths_by ts x
depths_step s t ts x is = by (step s t) ∙ ap (depths_by ts) is
  where
    by : (y : ItemStep) → (elim y [ ahead next ↦ is_too_deep next ∷ depths next ts | made item ↦ false ∷ depths outside ts | refused ↦ [] ]) ≡ depths_by ts y
    by (ahead next) = refl
    by (made item) = refl
    by refused = refl

pub read_step : (items : List ItemText) (s : Stage) (t : Seen) (ts : List Seen) (x : ItemStep) → step s t ≡ x → read_on items s (t ∷ ts) ≡ read_by items t ts x
read_step items s t ts x is = by (step s t) ∙ ap (read_by items t ts) is
  where
    by : (y : ItemStep) → (elim y [ ahead next ↦ unless_deep next t.1 (read_on items next ts) | made item ↦ read_on (items ++ item ∷ []) outside ts | refused ↦ no_program t.1 ]) ≡ read_by items t ts y
    by (ahead next) = refl
    by (made item) = refl
    by refused = refl

-- ---- programs of the grammar

runs_stages : (items : List ItemText) (s end : Stage) (ts ys : List Seen) (bs : List Bool) → Runs s ts bs end →
    (stages items s (ts ++ ys) ≡ stages items end ys) × (depths s (ts ++ ys) ≡ bs ++ depths end ys)
runs_stages items s _ _ ys _ (rest _) = (refl, refl)
runs_stages items s end _ ys _ (forth _ mid _ t ts b bs is flag later) =
    let r = runs_stages items mid end ts ys bs later in (
      stages_step items s t (ts ++ ys) (ahead mid) is ∙ r.0,
      depths_step s t (ts ++ ys) (ahead mid) is ∙ ap (λ (x : Bool). x ∷ depths mid (ts ++ ys)) flag ∙ ap (λ (l : List Bool). b ∷ l) r.1,
    )

item_read : (i : ItemPhrase) → IsItem i → ItemRead i
item_read (of_global g) is = global_read g is
item_read (of_function f) is = function_read f is

item_stages : (items : List ItemText) (i : ItemPhrase) (ys : List Seen) → IsItem i →
    (stages items outside (item_tokens i ++ ys) ≡ stages (items ++ item_tree i ∷ []) outside ys) × (depths outside (item_tokens i ++ ys) ≡ item_past i ++ depths outside ys)
item_stages items i ys is =
    let r = item_read i is in
    let parts : item_tokens i ++ ys ≡ r.front ++ (r.last ∷ ys) = ap (λ (l : List Seen). l ++ ys) r.tokens ∙ append_assoc r.front (r.last ∷ []) ys in
    let both = runs_stages items outside r.stage r.front (r.last ∷ ys) r.flags r.runs in (
      ap (λ (l : List Seen). stages items outside l) parts ∙ both.0 ∙ stages_step items r.stage r.last ys (made (item_tree i)) r.ends,
      ap (λ (l : List Seen). depths outside l) parts ∙ both.1 ∙ ap (λ (l : List Bool). r.flags ++ l) (depths_step r.stage r.last ys (made (item_tree i)) r.ends)
          ∙ sym (append_assoc r.flags (false ∷ []) (depths outside ys)) ∙ ap (λ (l : List Bool). l ++ depths outside ys) (sym r.limits),
    )

items_stages : (items : List ItemText) (all : List ItemPhrase) (ys : List Seen) → AreItems all →
    (stages items outside (items_tokens all ++ ys) ≡ stages (items ++ items_tree all) outside ys) × (depths outside (items_tokens all ++ ys) ≡ items_past all ++ depths outside ys)
items_stages items [] ys are = (ap (λ (l : List ItemText). stages l outside ys) (sym (append-nil items)), refl)
items_stages items (i ∷ all) ys are =
    let one = item_stages items i (items_tokens all ++ ys) are.0 in
    let later = items_stages (items ++ item_tree i ∷ []) all ys are.1 in
    let parts : (item_tokens i ++ items_tokens all) ++ ys ≡ item_tokens i ++ (items_tokens all ++ ys) = append_assoc (item_tokens i) (items_tokens all) ys in (
      ap (λ (l : List Seen). stages items outside l) parts ∙ one.0 ∙ later.0 ∙ ap (λ (l : List ItemText). stages l outside ys) (append_assoc items (item_tree i ∷ []) (items_tree all)),
      ap (λ (l : List Seen). depths outside l) parts ∙ one.1 ∙ ap (λ (l : List Bool). item_past i ++ l) later.1 ∙ sym (append_assoc (item_past i) (items_past all) (depths outside ys)),
    )

end_read : (t : Seen) → fits the_end t.0 ≡ true → step outside t ≡ ahead finished
end_read t h = rw h refl

abbrev pub reached : List ItemText → Stage → Reached
reached items s = (items, s)

pub program_stages : (p : ProgramPhrase) → IsProgram p → (stages [] outside (program_tokens p) ≡ Some (reached (program_tree p) finished)) × (depths outside (program_tokens p) ≡ program_past p)
program_stages p is = ending p.end is.1 (items_stages [] p.items p.end is.0)
  where
    ending : (ts : List Seen) → IsRow (the_end ∷ []) ts →
        (stages [] outside (items_tokens p.items ++ ts) ≡ stages (items_tree p.items) outside ts)
        × (depths outside (items_tokens p.items ++ ts) ≡ items_past p.items ++ depths outside ts) →
        (stages [] outside (items_tokens p.items ++ ts) ≡ Some (reached (items_tree p.items) finished)) × (depths outside (items_tokens p.items ++ ts) ≡ items_past p.items ++ quiet ts)
    ending [] fit both = absurd fit
    ending (t ∷ u ∷ ts) fit both = absurd fit.1
    ending (t ∷ []) fit both = (
      both.0 ∙ stages_step (items_tree p.items) outside t [] (ahead finished) (end_read t fit.0),
      both.1 ∙ ap (λ (l : List Bool). items_past p.items ++ l) (depths_step outside t [] (ahead finished) (end_read t fit.0)),
    )

-- ---- reading

pub shallow : (s : Stage) (at : Place) (later : Result ProgramText FrontFail) → is_too_deep s ≡ false → unless_deep s at later ≡ later
shallow s at later is = rw is refl

pub deep : (s : Stage) (at : Place) (later : Result ProgramText FrontFail) → is_too_deep s ≡ true → unless_deep s at later ≡ too_deep at
deep s at later is = rw is refl

pub first_within : (b : Bool) (bs : List Bool) → are_within (b ∷ bs) ≡ true → (b ≡ false) × (are_within bs ≡ true)
first_within true bs is = absurd cc
first_within false bs is = (refl, is)

pub some_same : (items : List ItemText) (s : Stage) (q : Reached) → Some (reached items s) ≡ Some q → reached items s ≡ q
some_same items s q is = cc

pub read_whole : (ts : List Seen) (items : List ItemText) (s : Stage) (q : Reached) → stages items s ts ≡ Some q → are_within (depths s ts) ≡ true → read_on items s ts ≡ at_end q.0 q.1
read_whole [] items s q is within = ap (λ (r : Reached). at_end r.0 r.1) (some_same items s q is)
read_whole (t ∷ ts) items s q is within = by (step s t) refl (λ items' next is' inside. read_whole ts items' next q is' inside)
  where
    by : (x : ItemStep) → step s t ≡ x →
        ((items' : List ItemText) (next : Stage) → stages items' next ts ≡ Some q → are_within (depths next ts) ≡ true →
        read_on items' next ts ≡ at_end q.0 q.1) → read_on items s (t ∷ ts) ≡ at_end q.0 q.1
    by (ahead next) is' go_on =
        let inside : are_within (is_too_deep next ∷ depths next ts) ≡ true = sym (ap are_within (depths_step s t ts (ahead next) is')) ∙ within in
        let both = first_within (is_too_deep next) (depths next ts) inside in
        read_step items s t ts (ahead next) is' ∙ shallow next t.1 (read_on items next ts) both.0 ∙ go_on items next (sym (stages_step items s t ts (ahead next) is') ∙ is) both.1
    by (made item) is' go_on =
        let inside : are_within (false ∷ depths outside ts) ≡ true = sym (ap are_within (depths_step s t ts (made item) is')) ∙ within in
        read_step items s t ts (made item) is' ∙ go_on (items ++ item ∷ []) outside (sym (stages_step items s t ts (made item) is') ∙ is) inside
    by refused is' go_on = let none : None ≡ Some q = sym (stages_step items s t ts refused is') ∙ is in absurd cc

pub programs_read : (p : ProgramPhrase) → IsProgram p → are_within (program_past p) ≡ true → read (program_tokens p) ≡ Ok (program_tree p)
programs_read p is within =
    let r = program_stages p is in
    read_whole (program_tokens p) [] outside (reached (program_tree p) finished) r.0 (ap are_within r.1 ∙ within)

-- ---- lists of tokens in two parts

pub stages_split : (xs ys : List Seen) (items : List ItemText) (s : Stage) (q : Reached) → stages items s xs ≡ Some q → stages items s (xs ++ ys) ≡ stages q.0 q.1 ys
stages_split [] ys items s q is = ap (λ (r : Reached). stages r.0 r.1 ys) (some_same items s q is)
stages_split (t ∷ ts) ys items s q is = by (step s t) refl (λ items' next is'. stages_split ts ys items' next q is')
  where
    by : (x : ItemStep) → step s t ≡ x →
        ((items' : List ItemText) (next : Stage) → stages items' next ts ≡ Some q → stages items' next (ts ++ ys) ≡ stages q.0 q.1 ys) →
        stages items s (t ∷ (ts ++ ys)) ≡ stages q.0 q.1 ys
    by (ahead next) is' go_on = stages_step items s t (ts ++ ys) (ahead next) is' ∙ go_on items next (sym (stages_step items s t ts (ahead next) is') ∙ is)
    by (made item) is' go_on = stages_step items s t (ts ++ ys) (made item) is' ∙ go_on (items ++ item ∷ []) outside (sym (stages_step items s t ts (made item) is') ∙ is)
    by refused is' go_on = let none : None ≡ Some q = sym (stages_step items s t ts refused is') ∙ is in absurd cc

-- ---- the first token past a limit

deep_at : (good : List Seen) (items : List ItemText) (s : Stage) (t : Seen) (more later : List Seen) (bs : List Bool) →
    depths s (good ++ t ∷ more) ≡ quiet good ++ true ∷ bs → read_on items s (good ++ t ∷ later) ≡ too_deep t.1
deep_at [] items s t more later bs is = by (step s t) refl
  where
    by : (x : ItemStep) → step s t ≡ x → read_on items s (t ∷ later) ≡ too_deep t.1
    by (ahead next) is' =
        let same : is_too_deep next ∷ depths next more ≡ true ∷ bs = sym (depths_step s t more (ahead next) is') ∙ is in
        let flag : is_too_deep next ≡ true = cc in
        read_step items s t later (ahead next) is' ∙ deep next t.1 (read_on items next later) flag
    by (made item) is' = let same : false ∷ depths outside more ≡ true ∷ bs = sym (depths_step s t more (made item) is') ∙ is in absurd cc
    by refused is' = let same : [] ≡ true ∷ bs = sym (depths_step s t more refused is') ∙ is in absurd cc
deep_at (g ∷ good) items s t more later bs is = by (step s g) refl (λ items' next is'. deep_at good items' next t more later bs is')
  where
    by : (x : ItemStep) → step s g ≡ x →
        ((items' : List ItemText) (next : Stage) → depths next (good ++ t ∷ more) ≡ quiet good ++ true ∷ bs →
        read_on items' next (good ++ t ∷ later) ≡ too_deep t.1) → read_on items s (g ∷ (good ++ t ∷ later)) ≡ too_deep t.1
    by (ahead next) is' go_on =
        let same : is_too_deep next ∷ depths next (good ++ t ∷ more) ≡ false ∷ (quiet good ++ true ∷ bs) = sym (depths_step s g (good ++ t ∷ more) (ahead next) is') ∙ is in
        let flag : is_too_deep next ≡ false = cc in
        let others : depths next (good ++ t ∷ more) ≡ quiet good ++ true ∷ bs = cc in
        read_step items s g (good ++ t ∷ later) (ahead next) is' ∙ shallow next g.1 (read_on items next (good ++ t ∷ later)) flag ∙ go_on items next others
    by (made item) is' go_on =
        let same : false ∷ depths outside (good ++ t ∷ more) ≡ false ∷ (quiet good ++ true ∷ bs) = sym (depths_step s g (good ++ t ∷ more) (made item) is') ∙ is in
        let others : depths outside (good ++ t ∷ more) ≡ quiet good ++ true ∷ bs = cc in
        read_step items s g (good ++ t ∷ later) (made item) is' ∙ go_on (items ++ item ∷ []) outside others
    by refused is' go_on = let same : [] ≡ false ∷ (quiet good ++ true ∷ bs) = sym (depths_step s g (good ++ t ∷ more) refused is') ∙ is in absurd cc

pub programs_deep : (p : ProgramPhrase) (good : List Seen) (t : Seen) (more later : List Seen) (bs : List Bool) → IsProgram p →
    program_tokens p ≡ good ++ t ∷ more → program_past p ≡ quiet good ++ true ∷ bs → read (good ++ t ∷ later) ≡ too_deep t.1
programs_deep p good t more later bs is spells past =
    deep_at good [] outside t more later bs (subst (λ (l : List Seen). depths outside l ≡ quiet good ++ true ∷ bs) spells ((program_stages p is).1 ∙ past))
