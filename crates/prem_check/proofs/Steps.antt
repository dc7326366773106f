-- One more part, behind what is found already.
use Rattle.std.proofs.Common.{◌≡◌, List, ◌++◌, Option, ap, ◌∙◌, sym}
use Rattle.prem_syntax.specs.Rules.{Breach, first, first_of}
use Rattle.prem_check.proofs.First.{first_assoc, first_of_append}

pub next : (old new : Option Breach) (part rest : List Breach) → new ≡ first old (first_of part) → first new (first_of rest) ≡ first old (first_of (part ++ rest))
next old new part rest is =
    ap (λ n. first n (first_of rest)) is ∙ first_assoc old (first_of part) (first_of rest) ∙ ap (first old) (sym (first_of_append part rest))

two : (a b : List Breach) (u w x : Option Breach) → u ≡ first_of a → w ≡ first_of b → x ≡ first u w → x ≡ first_of (a ++ b)
two a b u w x s t is = is ∙ ap (λ o. first o w) s ∙ ap (first (first_of a)) t ∙ sym (first_of_append a b)

-- what is found in parts one after another is found in all of them
pub in_three : (a b c : List Breach) (p q r pq all : Option Breach) → p ≡ first_of a → q ≡ first_of b → r ≡ first_of c → pq ≡ first p q → all ≡ first pq r → all ≡ first_of (a ++ b ++ c)
in_three a b c p q r pq all is_a is_b is_c is_pq is_all = two (a ++ b) c pq r all (two a b p q pq is_a is_b is_pq) is_c is_all

pub in_four : (a b c d : List Breach) (p q r s pq pqr all : Option Breach) → p ≡ first_of a → q ≡ first_of b → r ≡ first_of c → s ≡ first_of d →
    pq ≡ first p q → pqr ≡ first pq r → all ≡ first pqr s → all ≡ first_of (a ++ b ++ c ++ d)
in_four a b c d p q r s pq pqr all is_a is_b is_c is_d is_pq is_pqr is_all =
    two (a ++ b ++ c) d pqr s all (in_three a b c p q r pq pqr is_a is_b is_c is_pq is_pqr) is_d is_all

pub in_five : (a b c d e : List Breach) (p q r s t pq pqr pqrs all : Option Breach) → p ≡ first_of a → q ≡ first_of b → r ≡ first_of c → s ≡ first_of d → t ≡ first_of e →
    pq ≡ first p q → pqr ≡ first pq r → pqrs ≡ first pqr s → all ≡ first pqrs t → all ≡ first_of (a ++ b ++ c ++ d ++ e)
in_five a b c d e p q r s t pq pqr pqrs all is_a is_b is_c is_d is_e is_pq is_pqr is_pqrs is_all =
    two (a ++ b ++ c ++ d) e pqrs t all (in_four a b c d p q r s pq pqr pqrs is_a is_b is_c is_d is_pq is_pqr is_pqrs) is_e is_all

pub in_six : (a b c d e f : List Breach) (p q r s t u pq pqr pqrs pqrst all : Option Breach) →
    p ≡ first_of a → q ≡ first_of b → r ≡ first_of c → s ≡ first_of d → t ≡ first_of e → u ≡ first_of f →
    pq ≡ first p q → pqr ≡ first pq r → pqrs ≡ first pqr s → pqrst ≡ first pqrs t → all ≡ first pqrst u → all ≡ first_of (a ++ b ++ c ++ d ++ e ++ f)
in_six a b c d e f p q r s t u pq pqr pqrs pqrst all is_a is_b is_c is_d is_e is_f is_pq is_pqr is_pqrs is_pqrst is_all =
    two (a ++ b ++ c ++ d ++ e) f pqrst u all (in_five a b c d e p q r s t pq pqr pqrs pqrst is_a is_b is_c is_d is_e is_pq is_pqr is_pqrs is_pqrst) is_f is_all
