-- Small texts with annotations put in, computed by the checker.
use Rattle.std.proofs.Common.{◌≡◌, ℕ, List, [], ◌∷◌, Some, refl}
use Rattle.prem_annotating.proofs.Prelude.{constant_bytes, text_with, RegionText, Place, used_word, is_unused, reserved_word, longest_mark, first_token, lex, tokens_of, codes, pos, negsuc}
use Rattle.prem_text.specs.Lexing.Literal.{literal_word}
use Rattle.prem_text.specs.Lexing.Tokens.{start, step}
use Rattle.std.specs.Fmt.{digits}

abbrev here : Place
here = record { line = 1; col = 1 }

abbrev region : List ℕ → RegionText
region x = record { at = here; name = x; low = 0; high = 3 }

-- a length, two regions in place of another one, and a RANGE; what stands beside them stays
all_put : text_with ((Some (record { stated = 90; regions = region (codes "a") ∷ region (codes "b") ∷ [] }), Some (negsuc 4, pos 3000000000) ∷ [])
    ∷ []) (codes "int a[4]; PREDICTABLE( 1 ) REGION(b, 1, 2)/**/ void f(int x /* x */) { x = (1); }") ≡
    codes "int a[4]; PREDICTABLE( 90 ) REGION(a, 0, 3) REGION(b, 0, 3)/**/ void f(int x RANGE(-5, 3000000000u) /* x */) { x = (1); }"
unfolding digits constant_bytes tokens_of lex step start first_token reserved_word used_word is_unused longest_mark literal_word
all_put = refl
