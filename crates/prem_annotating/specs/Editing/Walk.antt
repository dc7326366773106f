-- A walk over the bytes of a text, some of which begin its tokens, that puts annotations in their places.
use Rattle.std.specs.Prelude.{ℕ, zero, suc, ◌+◌, ◌==◌, Bool, true, false, ◌&&◌, if◌then◌else◌, List, [], ◌∷◌, ◌++◌, drop, Option, None, Some}
use Rattle.prem_annotating.specs.Prelude.{Text, Place, Lexeme, name, number, word, mark, Seen, is_name_byte, Mark}
use Rattle.prem_annotating.specs.declared.editing.walk.Behind.{Behind}
use Rattle.prem_annotating.specs.declared.editing.walk.GapMode.{GapMode}
use Rattle.prem_annotating.specs.declared.editing.walk.GapMode.TheVariants.{Copying, Dropping, Skipping}
use Rattle.prem_annotating.specs.declared.editing.walk.TokenPlace.{TokenPlace}
use Rattle.prem_annotating.specs.declared.editing.walk.TokenPlace.TheVariants.{Elsewhere, BehindType, BehindName, InMark, AmongRegions, InParameters, InRange}
use Rattle.prem_text.specs.declared.lexing.token.token.Word.{Word}
use Rattle.prem_text.specs.declared.lexing.token.token.Mark.TheVariants as m
use Rattle.prem_text.specs.declared.lexing.token.token.Word.TheVariants as w

-- what is done at one place for annotations: in the order of the text these places are the literal of a mark, its `)`, and the name of each parameter
pub data Order : Type 0 where
  -- nothing
  leave : Order
  -- bytes in place of a literal, or behind a name
  put : (bytes : List ℕ) → Order
  -- bytes behind a `)`, in place of so many regions
  put_for : (regions : ℕ) (bytes : List ℕ) → Order

-- ---- one token

-- what a byte gives, where the walk stands behind it, and whether an order was for it
pub record Step : Type 0 where
  pub bytes : List ℕ
  pub behind : Behind

abbrev pub step : List ℕ → TokenPlace → GapMode → Bool → Step
step bytes spot mode done = record { bytes = bytes; behind = record { spot = spot; mode = mode; done = done } }

-- the byte stays, and so does the rest of its token
abbrev pub kept : ℕ → TokenPlace → Step
kept b spot = step (b ∷ []) spot Copying false

abbrev pub is_type : Word → Bool
is_type w.Void = true
is_type w.Int = true
is_type w.Short = true
is_type w.Signed = true
is_type w.Char = true
is_type w.Unsigned = true
is_type _ = false

abbrev pub is_predictable : Word → Bool
is_predictable w.Predictable = true
is_predictable _ = false

abbrev pub is_range : Word → Bool
is_range w.Range = true
is_range _ = false

abbrev pub is_open : Mark → Bool
is_open m.OpenParenthesis = true
is_open _ = false

abbrev pub is_close : Mark → Bool
is_close m.CloseParenthesis = true
is_close _ = false

abbrev pub type_or : Word → TokenPlace
type_or k = if is_type k then BehindType else Elsewhere

-- a function's mark begins, or a type, which may be that of a function
abbrev pub elsewhere : Lexeme → TokenPlace
elsewhere (word k) = if is_predictable k then InMark else type_or k
elsewhere _ = Elsewhere

abbrev pub behind_type : Lexeme → TokenPlace
behind_type (word k) = type_or k
behind_type (name x) = BehindName
behind_type _ = Elsewhere

-- a type, a name and `(` begin the parameters of a function
abbrev pub behind_name : Lexeme → TokenPlace
behind_name (mark k) = if is_open k then InParameters else Elsewhere
behind_name _ = Elsewhere

abbrev pub in_range : Lexeme → TokenPlace
in_range (mark k) = if is_close k then InParameters else InRange
in_range _ = InRange

abbrev pub at_literal : ℕ → Option Order → Step
at_literal b (Some (put bytes)) = step bytes InMark Skipping true
at_literal b _ = step (b ∷ []) InMark Copying true

-- behind the `)` of a mark, or of a region that goes, where so many more of these go
abbrev pub behind_close : ℕ → TokenPlace
behind_close zero = Elsewhere
behind_close (suc more) = AmongRegions more

abbrev pub mode_of : TokenPlace → GapMode
mode_of (AmongRegions more) = Dropping
mode_of _ = Copying

abbrev pub at_close : ℕ → Option Order → Step
at_close b (Some (put_for regions bytes)) = step (b ∷ bytes) (behind_close regions) (mode_of (behind_close regions)) true
at_close b _ = step (b ∷ []) Elsewhere Copying true

abbrev pub in_mark : ℕ → Option Order → Lexeme → Step
in_mark b o (number value kind) = at_literal b o
in_mark b o (mark k) = if is_close k then at_close b o else kept b InMark
in_mark b o _ = kept b InMark

-- bytes go, and the walk stands at a spot
abbrev pub gone : TokenPlace → Step
gone spot = step [] spot (mode_of spot) false

-- a token of a region that goes
abbrev pub among_regions : ℕ → Lexeme → Step
among_regions more (mark k) = gone (if is_close k then behind_close more else AmongRegions more)
among_regions more _ = gone (AmongRegions more)

abbrev pub at_name : ℕ → Text → Option Order → Step
at_name b x (Some (put bytes)) = step (x ++ bytes) InParameters Skipping true
at_name b x _ = step (b ∷ []) InParameters Copying true

abbrev pub in_parameters : ℕ → Option Order → Lexeme → Step
in_parameters b o (name x) = at_name b x o
in_parameters b o (word k) = kept b (if is_range k then InRange else InParameters)
in_parameters b o (mark k) = kept b (if is_close k then Elsewhere else InParameters)
in_parameters b o _ = kept b InParameters

-- a token begins with a byte, and an order comes next
abbrev pub at_token : TokenPlace → Option Order → Lexeme → ℕ → Step
at_token Elsewhere o t b = kept b (elsewhere t)
at_token BehindType o t b = kept b (behind_type t)
at_token BehindName o t b = kept b (behind_name t)
at_token InMark o t b = in_mark b o t
at_token (AmongRegions more) o t b = among_regions more t
at_token InParameters o t b = in_parameters b o t
at_token InRange o t b = kept b (in_range t)

-- ---- any other byte: one of a token behind its first, or of a gap

abbrev pub skipped : ℕ → Bool → List ℕ × GapMode
skipped b true = ([], Skipping)
skipped b false = (b ∷ [], Copying)

-- what is skipped is a run of name bytes
abbrev pub at_byte : GapMode → ℕ → List ℕ × GapMode
at_byte Copying b = (b ∷ [], Copying)
at_byte Dropping b = ([], Dropping)
at_byte Skipping b = skipped b (is_name_byte b)

-- ---- all bytes, each with the token that begins with it

abbrev pub Marked : Type 0
Marked = ℕ × Option Lexeme

abbrev pub first_order : List Order → Option Order
first_order [] = None
first_order (o ∷ os) = Some o

abbrev pub rest_if : Bool → List Order → List Order
rest_if true os = drop 1 os
rest_if false os = os

abbrev pub walked : TokenPlace → GapMode → List Order → List Marked → List ℕ
walked spot mode os [] = []
walked spot mode os ((b, None) ∷ rest) = (at_byte mode b).0 ++ walked spot (at_byte mode b).1 os rest
walked spot mode os ((b, Some t) ∷ rest) =
    (at_token spot (first_order os) t b).bytes
    ++ walked (at_token spot (first_order os) t b).behind.spot (at_token spot (first_order os) t b).behind.mode (rest_if (at_token spot (first_order os) t b).behind.done os) rest

-- ---- which bytes begin tokens

abbrev pub behind : Place → ℕ → Place
behind at b = record { line = if b == 10 then at.line + 1 else at.line; col = if b == 10 then 1 else at.col + 1 }

abbrev pub same_place : Place → Place → Bool
same_place a b = (a.line == b.line) && (a.col == b.col)

abbrev pub tokens_behind : Bool → List Seen → List Seen
tokens_behind true ts = drop 1 ts
tokens_behind false ts = ts

abbrev pub begins : Place → List Seen → Bool
begins at [] = false
begins at (t ∷ ts) = same_place t.1 at

abbrev pub first_if : Bool → List Seen → Option Lexeme
first_if true (t ∷ ts) = Some t.0
first_if _ _ = None

-- the bytes of a text from a place on, with the tokens from there on
abbrev pub marked : Place → List Seen → List ℕ → List Marked
marked at ts [] = []
marked at ts (b ∷ rest) = (b, first_if (begins at ts) ts) ∷ marked (behind at b) (tokens_behind (begins at ts) ts) rest

abbrev pub beginning : Place
beginning = record { line = 1; col = 1 }

-- a text whose tokens are these, with orders carried out
abbrev pub edited : List Order → List Seen → List ℕ → List ℕ
edited os ts text = walked Elsewhere Copying os (marked beginning ts text)
