use Rattle.std.proofs.Common.{◌≡◌, ℕ, ◌-◌, List, [], length, take, ap, sym, subst, ◌∙◌, map, vec_len}
use Rattle.prem_syntax.specs.SyntaxOf.{item_of, program_of}
use Rattle.prem_text.specs.Texts.{reads}
use Rattle.prem_text.specs.Canonical.Canonical.{program_lexemes}
use Rattle.prem_text.specs.Canonical.Printed.{printed}
use Rattle.prem_text.specs.Canonical.Law.{IsTextOf, ReadBack}
use Rattle.prem_text.proofs.CanonicalLemmas.Read.{canonical_divided, canonical_read}
use Rattle.prem_print.specs.Written.{written}
use Rattle.prem_print.proofs.Writing.{last_taken}
use Rattle.prem_print.proofs.printer.print.Goals as goal

pub returns : goal.returns
returns c =
    let items = program_of c.args.p.now in
    let xs = program_lexemes items in
    let bytes = c.push_items.new.text.items in
    let is : bytes ≡ written [] xs =
    c.in_ok-push_items.ensures ∙ (λ i. written (c.new-text.ensures.items i) (program_lexemes (map item_of (c.items.ensures i)))) in
    let count = vec_len c.push_items.new.text in
    let size : count ≡ length (written [] xs) = c.push_items.new.text.ok.0 ∙ ap (λ (u : List ℕ). length u) is in
    let text : c.pop.new.self.items ≡ printed items = c.pop.ensures.rest ∙ ap (λ (u : List ℕ). take (count - 1) u) is ∙ last_taken xs count size in
    record {
      spelling = text;
      tokens = λ is. subst (IsTextOf items) (sym text) (canonical_divided items is);
      reading = λ is. subst (λ (bytes : List ℕ). ReadBack items (reads bytes)) (sym text) (canonical_read items is);
    }
