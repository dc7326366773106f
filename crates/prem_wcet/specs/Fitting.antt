-- Outlines whose code lies below 2 ^ 32 at a place, with the places within.
use Rattle.std.specs.Prelude.{◌≡◌, ℕ, ◌+◌, ◌<◌, ◌^◌}
use Rattle.prem_asm.specs.Pieces.{size_of}
use Rattle.prem_wcet_laws.specs.Scopes.{Scene}
use Rattle.prem_wcet_laws.specs.Least.{own, own_jump, own_turns, called_least}
use Rattle.prem_layout.specs.Template.Terms.{nonzero}
use Rattle.prem_wcet.specs.Outlines.{Outline, ended, plain, calling, choice, turning, first_place, second_place, inner_place, choice_by, least_in}

abbrev pub FitsAt : ℕ → Outline → Type 0
FitsAt at ended = at < 2 ^ 32
FitsAt at (plain code names rest) = FitsAt (at + size_of code) rest
FitsAt at (calling code names arguments count callee landing rest) = (size_of code ≡ size_of arguments + 4 + size_of landing) × FitsAt (at + size_of code) rest
FitsAt at (choice code names condition skips taken other rest) =
    FitsAt (first_place at condition) taken × (FitsAt (second_place at condition taken skips) other × FitsAt (at + size_of code) rest)
FitsAt at (turning code names first turns head before body behind rest) = FitsAt (inner_place at first head before) body × FitsAt (at + size_of code) rest

-- the first statement by its parts
abbrev pub divided_in : Scene → (at : ℕ) → Outline → ℕ
divided_in e at ended = 0
divided_in e at (plain code names rest) = own e code
divided_in e at (calling code names arguments count callee landing rest) = own e arguments + own_jump e + called_least e callee + own e landing
divided_in e at (choice code names condition skips taken other rest) =
    own e condition + choice_by e skips (least_in e (first_place at condition) taken) (least_in e (second_place at condition taken skips) other)
divided_in e at (turning code names first turns head before body behind rest) =
    own e first + own_turns e turns (nonzero 10) (own e head) (own e before + least_in e (inner_place at first head before) body + own e behind)
