-- The grammar of value change dumps (IEEE 1364-2005, clause 18.2), as far as waves need it: declarations, each with `$end`, and behind them value
-- changes at times that grow, each of a declared variable and of no more bits than it has. A relation on texts: none of it says how one is made.
use Rattle.std.specs.Prelude.{◌≡◌, ℕ, suc, ◌<◌, ◌≤◌, ◌==◌, ◌||◌, ◌&&◌, not, nat_le, Bool, true, List, [], ◌∷◌, ◌++◌, Option, Some, None, length, slice_get, codes, decimal}
use Rattle.std.specs.List.{list_all}

abbrev pub is_between : ℕ → ℕ → ℕ → Bool
is_between low high b = nat_le low b && nat_le b high

-- ---- words

abbrev pub starts_identifier : ℕ → Bool
starts_identifier b = is_between 97 122 b || is_between 65 90 b || b == 95

abbrev pub is_in_identifier : ℕ → Bool
is_in_identifier b = is_between 97 122 b || is_between 65 90 b || is_between 48 57 b || b == 95

-- a simple identifier: a letter or `_`, and then letters, digits and `_`
abbrev pub IsIdentifier : List ℕ → Type 0
IsIdentifier [] = ⊥
IsIdentifier (b ∷ bytes) = (starts_identifier b ≡ true) × (list_all is_in_identifier bytes ≡ true)

-- printed bytes, one at least
abbrev pub IsPrinted : List ℕ → Type 0
IsPrinted [] = ⊥
IsPrinted (b ∷ bytes) = (is_between 33 126 b ≡ true) × (list_all (is_between 33 126) bytes ≡ true)

-- a byte of a comment: one that is printed, but for `$`, or a blank
abbrev pub is_in_comment : ℕ → Bool
is_in_comment b = is_between 32 126 b && not (b == 36)

-- 0, 1 or z
abbrev pub is_bit : ℕ → Bool
is_bit b = b == 48 || b == 49 || b == 122

-- a value of a variable of so many bits
abbrev pub IsValue : ℕ → List ℕ → Type 0
IsValue bits [] = ⊥
IsValue bits (b ∷ bytes) = (list_all is_bit (b ∷ bytes) ≡ true) × (length (b ∷ bytes) ≤ bits)

-- ---- declarations

-- a variable with its identifier code
pub record Variable : Type 0 where
  pub code : List ℕ
  pub bits : ℕ

-- declarations of these variables, in order, behind which so many scopes are open
pub data Declares : (open_scopes : ℕ) → List Variable → List ℕ → Type 0 where
  none : Declares 0 [] []
  comment : {depth : ℕ} {variables : List Variable} {text : List ℕ} (words : List ℕ) → list_all is_in_comment words ≡ true → Declares depth variables text →
      Declares depth variables (text ++ (codes "$comment " ++ (words ++ codes " $end\n")))
  version : {depth : ℕ} {variables : List Variable} {text : List ℕ} (words : List ℕ) → list_all is_in_comment words ≡ true → Declares depth variables text →
      Declares depth variables (text ++ (codes "$version " ++ (words ++ codes " $end\n")))
  timescale : {depth : ℕ} {variables : List Variable} {text : List ℕ} → Declares depth variables text →
      Declares depth variables (text ++ codes "$timescale 1 ns $end\n")
  scope : {depth : ℕ} {variables : List Variable} {text : List ℕ} (name : List ℕ) → IsIdentifier name → Declares depth variables text →
      Declares (suc depth) variables (text ++ (codes "$scope module " ++ (name ++ codes " $end\n")))
  upscope : {depth : ℕ} {variables : List Variable} {text : List ℕ} → Declares (suc depth) variables text →
      Declares depth variables (text ++ codes "$upscope $end\n")
  variable : {depth : ℕ} {variables : List Variable} {text : List ℕ} (v : Variable) (name : List ℕ) → 1 ≤ v.bits → IsPrinted v.code → IsIdentifier name →
      Declares depth variables text →
      Declares depth (variables ++ v ∷ []) (text ++ (codes "$var wire " ++ (decimal v.bits ++ (codes " " ++ (v.code ++ (codes " " ++ (name ++ codes " $end\n")))))))

-- ---- simulation

-- the time comes behind the one before, if there is one
abbrev pub IsLater : Option ℕ → ℕ → Type 0
IsLater None t = Unit {0}
IsLater (Some before) t = before < t

-- value changes of these variables at growing times, of which the last one is this
pub data Simulates : List Variable → Option ℕ → List ℕ → Type 0 where
  nothing : {variables : List Variable} → Simulates variables None []
  time : {variables : List Variable} {before : Option ℕ} {text : List ℕ} (t : ℕ) → IsLater before t → Simulates variables before text →
      Simulates variables (Some t) (text ++ (codes "#" ++ (decimal t ++ codes "\n")))
  change : {variables : List Variable} {t : ℕ} {text : List ℕ} (k : ℕ) (v : Variable) (value : List ℕ) → slice_get variables k ≡ Some v → IsValue v.bits value →
      Simulates variables (Some t) text →
      Simulates variables (Some t) (text ++ (codes "b" ++ (value ++ (codes " " ++ (v.code ++ codes "\n")))))

-- ---- dumps

-- declarations with all scopes closed, and then value changes
pub record IsDump (text : List ℕ) : Type 0 where
  pub variables : List Variable
  pub last : Option ℕ
  pub header : List ℕ
  pub body : List ℕ
  pub declares : Declares 0 variables header
  pub simulates : Simulates variables last body
  pub is : text ≡ header ++ (codes "$enddefinitions $end\n" ++ body)
