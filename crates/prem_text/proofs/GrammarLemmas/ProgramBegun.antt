-- What the reader has taken begins a program, also where it refuses the next token.
use Rattle.std.proofs.Common.{◌⊎◌, ◌≡◌, inl, inr, List, [], ◌∷◌, ◌++◌, None, Some, refl, ap, sym, subst, ◌∙◌, append_assoc}
use Rattle.prem_text.proofs.Prelude.{ItemText, Stage, outside, ItemStep, ahead, made, refused, step, stages, Begins, IsRow, items_tokens, the_end, Seen, append-nil}
use Rattle.prem_text.proofs.GrammarLemmas.Fill.{samples}
use Rattle.prem_text.proofs.GrammarLemmas.ItemFill.{ItemBegins, fill_stage}
use Rattle.prem_text.proofs.GrammarLemmas.ItemStand.{is_outside}
use Rattle.prem_text.proofs.GrammarLemmas.Program.{Reached, reached, stages_step, some_same}
use Rattle.prem_text.proofs.GrammarLemmas.ProgramSound.{SoFar, far_ahead, far_made, more_item_tokens, more_are_items}

begins_far : (items : List ItemText) (s : Stage) (pre : List Seen) → SoFar items s pre → Begins pre
begins_far items s pre far = by (fill_stage s far.mid far.stage)
  where
    by : ItemBegins far.mid ⊎ IsRow (the_end ∷ []) far.mid → Begins pre
    by (inl b) = record {
      more = b.more ++ samples (the_end ∷ []);
      phrase = record { items = far.phrases ++ b.phrase ∷ []; end = samples (the_end ∷ []) };
      right = (more_are_items far.phrases b.phrase far.right b.right, (refl, tt));
      tokens = ap (λ (l : List Seen). l ++ samples (the_end ∷ []))
          (more_item_tokens far.phrases b.phrase ∙ ap (λ (l : List Seen). items_tokens far.phrases ++ l) b.tokens
          ∙ sym (append_assoc (items_tokens far.phrases) far.mid b.more)
          ∙ ap (λ (l : List Seen). l ++ b.more) far.tokens) ∙ append_assoc pre b.more (samples (the_end ∷ []));
    }
    by (inr row) = record { more = []; phrase = record { items = far.phrases; end = far.mid }; right = (far.right, row); tokens = far.tokens ∙ sym (append-nil pre) }

far_by : (items : List ItemText) (s : Stage) (pre : List Seen) (t : Seen) (ts : List Seen) (q : Reached) (x : ItemStep) → step s t ≡ x → SoFar items s pre → stages items s (t ∷ ts) ≡ Some q →
    ((more : List ItemText) (next : Stage) → SoFar more next (pre ++ t ∷ []) → stages more next ts ≡ Some q → SoFar q.0 q.1 ((pre ++ t ∷ []) ++ ts)) → SoFar q.0 q.1 (pre ++ t ∷ ts)
far_by items s pre t ts q (ahead next) is far went go_on =
    subst (λ (l : List Seen). SoFar q.0 q.1 l) (append_assoc pre (t ∷ []) ts) (go_on items next (far_ahead items s next pre t far is) (sym (stages_step items s t ts (ahead next) is) ∙ went))
far_by items s pre t ts q (made item) is far went go_on =
    subst (λ (l : List Seen). SoFar q.0 q.1 l) (append_assoc pre (t ∷ []) ts)
    (go_on (items ++ item ∷ []) outside (far_made items item s pre t far is) (sym (stages_step items s t ts (made item) is) ∙ went))
far_by items s pre t ts q refused is far went go_on = let none : None ≡ Some q = sym (stages_step items s t ts refused is) ∙ went in absurd cc

far_on : (ts : List Seen) (items : List ItemText) (s : Stage) (pre : List Seen) (q : Reached) → SoFar items s pre → stages items s ts ≡ Some q → SoFar q.0 q.1 (pre ++ ts)
far_on [] items s pre q far went =
    subst (λ (r : Reached). SoFar r.0 r.1 (pre ++ [])) (some_same items s q went) (subst (λ (l : List Seen). SoFar items s l) (sym (append-nil pre)) far)
far_on (t ∷ ts) items s pre q far went = far_by items s pre t ts q (step s t) refl far went (λ more next far' went'. far_on ts more next (pre ++ t ∷ []) q far' went')

pub begins_after : (good : List Seen) (items : List ItemText) (s : Stage) → stages [] outside good ≡ Some (reached items s) → Begins good
begins_after good items s went =
    begins_far items s good (far_on good [] outside [] (reached items s) record { phrases = []; right = tt; tree_is = refl; mid = []; stage = is_outside; tokens = refl } went)
