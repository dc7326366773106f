-- Code as words.
use Rattle.std.specs.Int.{w32, to_le_bytes}
use Rattle.std.specs.List.{flat_map}
use Rattle.std.proofs.Common.{◌≡◌, ℕ, List, [], ◌∷◌, ◌++◌, refl, ap, ◌∙◌, map}
use Rattle.prem_isa.specs.declared.instr.Instr.{Instr}
use Rattle.prem_isa.specs.Decode.{word_of}
use Rattle.prem_asm.specs.Bytes.{code_bytes}
use Rattle.prem_layout.specs.Placed.{Block}
use Rattle.prem_layout.specs.Image.{patched, with_blocks}
use Rattle.prem_place.specs.Content.Blocks.{Words, with_words}
use Rattle.prem_place.specs.Flat.Blocks.{words_of}

bytes_same : (code : List Instr) → flat_map (to_le_bytes w32) (map word_of code) ≡ code_bytes code
bytes_same [] = refl
bytes_same (i ∷ is) = ap (λ bytes. to_le_bytes w32 (word_of i) ++ bytes) (bytes_same is)

-- the words of code are put as the code itself
pub words_same : (blocks : List Block) (content : List ℕ) → with_words (map words_of blocks) content ≡ with_blocks blocks content
words_same [] content = refl
words_same (b ∷ bs) content =
    ap (λ bytes. with_words (map words_of bs) (patched b.at bytes content)) (bytes_same b.code) ∙ words_same bs (patched b.at (code_bytes b.code) content)

pub words_are : (words : List Words) (blocks : List Block) (content : List ℕ) → words ≡ map words_of blocks → with_words words content ≡ with_blocks blocks content
words_are words blocks content e = ap (λ ws. with_words ws content) e ∙ words_same blocks content
