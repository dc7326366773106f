-- What is read as a program is one, within the limits.
use Rattle.std.proofs.Common.{◌≡◌, List, [], ◌∷◌, ◌++◌, Ok, Bool, true, false, refl, ap, sym, subst, ◌∙◌, append_assoc}
use Rattle.prem_text.proofs.Prelude.{ItemText, ProgramText, Stage, outside, finished, ItemStep, ahead, made, refused, step, is_too_deep, depths, are_within, ItemPhrase, IsItem, item_tokens}
use Rattle.prem_text.proofs.Prelude.{item_tree, AreItems, items_tokens, items_tree, ProgramPhrase, IsProgram, program_tokens, program_tree, program_past, at_end, read_on, read, Seen}
use Rattle.prem_text.proofs.Prelude.{no_program, too_deep, append-nil}
use Rattle.prem_text.proofs.GrammarLemmas.ItemStand.{StageIs, is_outside, is_finished, FineStep, Whole, step_fine}
use Rattle.prem_text.proofs.GrammarLemmas.Program.{depths_step, read_step, shallow, deep, program_stages}

pub record IsSpelled (ts : List Seen) (items : ProgramText) : Type 0 where
  pub phrase : ProgramPhrase
  pub right : IsProgram phrase
  pub tokens : program_tokens phrase ≡ ts
  pub tree_is : program_tree phrase ≡ items

more_items : (all : List ItemPhrase) (i : ItemPhrase) → items_tree (all ++ i ∷ []) ≡ items_tree all ++ item_tree i ∷ []
more_items [] i = refl
more_items (x ∷ rest) i = ap (λ (l : List ItemText). item_tree x ∷ l) (more_items rest i)

pub more_item_tokens : (all : List ItemPhrase) (i : ItemPhrase) → items_tokens (all ++ i ∷ []) ≡ items_tokens all ++ item_tokens i
more_item_tokens [] i = append-nil (item_tokens i)
more_item_tokens (x ∷ rest) i = ap (λ (l : List Seen). item_tokens x ++ l) (more_item_tokens rest i) ∙ sym (append_assoc (item_tokens x) (items_tokens rest) (item_tokens i))

pub more_are_items : (all : List ItemPhrase) (i : ItemPhrase) → AreItems all → IsItem i → AreItems (all ++ i ∷ [])
more_are_items [] i are is = (is, tt)
more_are_items (x ∷ rest) i are is = (are.0, more_are_items rest i are.1 is)

-- items that are whole, and the tokens of the next one so far
pub record SoFar (items : List ItemText) (s : Stage) (pre : List Seen) : Type 0 where
  pub phrases : List ItemPhrase
  pub right : AreItems phrases
  pub tree_is : items_tree phrases ≡ items
  pub mid : List Seen
  pub stage : StageIs s mid
  pub tokens : items_tokens phrases ++ mid ≡ pre

ends_spelled : (items items' : List ItemText) (s : Stage) (ts : List Seen) → SoFar items s ts → at_end items s ≡ Ok items' → IsSpelled ts items'
ends_spelled items items' finished ts far is = by far.mid far.stage far.tokens
  where
    by : (mid : List Seen) → StageIs finished mid → items_tokens far.phrases ++ mid ≡ ts → IsSpelled ts items'
    by _ (is_finished t h) tokens = let same : items ≡ items' = cc in
        record { phrase = record { items = far.phrases; end = t ∷ [] }; right = (far.right, (h, tt)); tokens = tokens; tree_is = far.tree_is ∙ same }
ends_spelled items items' _ ts far is = absurd cc

pub far_ahead : (items : List ItemText) (s next : Stage) (pre : List Seen) (t : Seen) → SoFar items s pre → step s t ≡ ahead next → SoFar items next (pre ++ t ∷ [])
far_ahead items s next pre t far is = record {
  phrases = far.phrases;
  right = far.right;
  tree_is = far.tree_is;
  mid = far.mid ++ t ∷ [];
  stage = subst (λ (y : ItemStep). FineStep (far.mid ++ t ∷ []) y) is (step_fine s far.mid t far.stage);
  tokens = sym (append_assoc (items_tokens far.phrases) far.mid (t ∷ [])) ∙ ap (λ (l : List Seen). l ++ t ∷ []) far.tokens;
}

pub far_made : (items : List ItemText) (item : ItemText) (s : Stage) (pre : List Seen) (t : Seen) → SoFar items s pre → step s t ≡ made item → SoFar (items ++ item ∷ []) outside (pre ++ t ∷ [])
far_made items item s pre t far is = by (subst (λ (y : ItemStep). FineStep (far.mid ++ t ∷ []) y) is (step_fine s far.mid t far.stage))
  where
    by : Whole item (far.mid ++ t ∷ []) → SoFar (items ++ item ∷ []) outside (pre ++ t ∷ [])
    by w = record {
      phrases = far.phrases ++ w.phrase ∷ [];
      right = more_are_items far.phrases w.phrase far.right w.right;
      tree_is = more_items far.phrases w.phrase ∙ ap (λ (l : List ItemText). l ++ item_tree w.phrase ∷ []) far.tree_is ∙ ap (λ (i : ItemText). items ++ i ∷ []) w.tree_is;
      mid = [];
      stage = is_outside;
      tokens = append-nil (items_tokens (far.phrases ++ w.phrase ∷ [])) ∙ more_item_tokens far.phrases w.phrase ∙ ap (λ (l : List Seen). items_tokens far.phrases ++ l) w.tokens
          ∙ sym (append_assoc (items_tokens far.phrases) far.mid (t ∷ [])) ∙ ap (λ (l : List Seen). l ++ t ∷ []) far.tokens;
    }

step_far : (items items' : List ItemText) (s : Stage) (pre : List Seen) (t : Seen) (ts : List Seen) (x : ItemStep) → step s t ≡ x → SoFar items s pre → read_on items s (t ∷ ts) ≡ Ok items' →
    ((more : List ItemText) (next : Stage) → SoFar more next (pre ++ t ∷ []) → read_on more next ts ≡ Ok items' → IsSpelled ((pre ++ t ∷ []) ++ ts) items') → IsSpelled (pre ++ t ∷ ts) items'
step_far items items' s pre t ts (ahead next) is far read' go_on = by (is_too_deep next) refl
  where
    by : (b : Bool) → is_too_deep next ≡ b → IsSpelled (pre ++ t ∷ ts) items'
    by true flag = let same : too_deep t.1 ≡ Ok items' = sym (deep next t.1 (read_on items next ts) flag) ∙ (sym (read_step items s t ts (ahead next) is) ∙ read') in absurd cc
    by false flag =
        subst (λ (l : List Seen). IsSpelled l items') (append_assoc pre (t ∷ []) ts)
        (go_on items next (far_ahead items s next pre t far is) (sym (shallow next t.1 (read_on items next ts) flag) ∙ (sym (read_step items s t ts (ahead next) is) ∙ read')))
step_far items items' s pre t ts (made item) is far read' go_on =
    subst (λ (l : List Seen). IsSpelled l items') (append_assoc pre (t ∷ []) ts)
    (go_on (items ++ item ∷ []) outside (far_made items item s pre t far is) (sym (read_step items s t ts (made item) is) ∙ read'))
step_far items items' s pre t ts refused is far read' go_on = let same : no_program t.1 ≡ Ok items' = sym (read_step items s t ts refused is) ∙ read' in absurd cc

spelled_on : (ts : List Seen) (items items' : List ItemText) (s : Stage) (pre : List Seen) → SoFar items s pre → read_on items s ts ≡ Ok items' → IsSpelled (pre ++ ts) items'
spelled_on [] items items' s pre far read' = subst (λ (l : List Seen). IsSpelled l items') (sym (append-nil pre)) (ends_spelled items items' s pre far read')
spelled_on (t ∷ ts) items items' s pre far read' =
    step_far items items' s pre t ts (step s t) refl far read' (λ more next far' read''. spelled_on ts more items' next (pre ++ t ∷ []) far' read'')

-- ---- limits

pub within_by : (items items' : List ItemText) (s : Stage) (t : Seen) (ts : List Seen) (x : ItemStep) → step s t ≡ x → read_on items s (t ∷ ts) ≡ Ok items' →
    ((more : List ItemText) (next : Stage) → read_on more next ts ≡ Ok items' → are_within (depths next ts) ≡ true) → are_within (depths s (t ∷ ts)) ≡ true
within_by items items' s t ts (ahead next) is read' go_on = ap are_within (depths_step s t ts (ahead next) is) ∙ by (is_too_deep next) refl
  where
    by : (b : Bool) → is_too_deep next ≡ b → are_within (is_too_deep next ∷ depths next ts) ≡ true
    by true flag = let same : too_deep t.1 ≡ Ok items' = sym (deep next t.1 (read_on items next ts) flag) ∙ (sym (read_step items s t ts (ahead next) is) ∙ read') in absurd cc
    by false flag =
        ap (λ (b : Bool). are_within (b ∷ depths next ts)) flag ∙ go_on items next (sym (shallow next t.1 (read_on items next ts) flag) ∙ (sym (read_step items s t ts (ahead next) is) ∙ read'))
within_by items items' s t ts (made item) is read' go_on = ap are_within (depths_step s t ts (made item) is) ∙ go_on (items ++ item ∷ []) outside (sym (read_step items s t ts (made item) is) ∙ read')
within_by items items' s t ts refused is read' go_on = let same : no_program t.1 ≡ Ok items' = sym (read_step items s t ts refused is) ∙ read' in absurd cc

pub read_within : (ts : List Seen) (items items' : List ItemText) (s : Stage) → read_on items s ts ≡ Ok items' → are_within (depths s ts) ≡ true
read_within [] items items' s read' = refl
read_within (t ∷ ts) items items' s read' = within_by items items' s t ts (step s t) refl read' (λ more next read''. read_within ts more items' next read'')

pub programs_sound : (ts : List Seen) (items : ProgramText) → read ts ≡ Ok items →
    (p : ProgramPhrase) × IsProgram p × (program_tokens p ≡ ts) × (program_tree p ≡ items) × (are_within (program_past p) ≡ true)
programs_sound ts items is =
    let s = spelled_on ts [] items outside [] record { phrases = []; right = tt; tree_is = refl; mid = []; stage = is_outside; tokens = refl } is in
    let within : are_within (depths outside ts) ≡ true = read_within ts [] items outside is in
    let past : are_within (program_past s.phrase) ≡ true = ap are_within (sym (program_stages s.phrase s.right).1) ∙ ap (λ (l : List Seen). are_within (depths outside l)) s.tokens ∙ within in
    (s.phrase, s.right, s.tokens, s.tree_is, past)
