-- Runs that keep to ranges of bytes: what they fetch, load and store lies in these.
use Rattle.std.specs.Prelude.{◌≡◌, ◌<◌, ◌≤◌, ⊤, ℕ, zero, suc, ◌+◌, nat_le, nat_lt, Bool, true, false, ◌&&◌, List, Option, None, Some}
use Rattle.prem_wcet_laws.specs.Prelude.{Pieces, size_of, Guard, Did, Instr, Load, Store, Ecall, Ebreak, PmMem, PmExec, PmEnd, PmDone, Extent, list_any}
use Rattle.prem_isa.specs.declared.effect.Access.{Access}
use Rattle.prem_wcet_laws.specs.Divided.{StaysOn}

-- a byte of one of the ranges
abbrev pub is_held : List Extent → ℕ → Bool
is_held ranges a = list_any (λ (r : Extent). nat_le r.0 a && nat_lt a r.1) ranges

-- what a guard allows, but in these ranges alone
abbrev pub confined_to : List Extent → Guard → Guard
confined_to ranges g = record { load = λ a. is_held ranges a && g.load a; store = λ a. is_held ranges a && g.store a }

-- what the code of functions doesn't have: loads into register 0, which no guard watches, traps, and what changes the phase or ends the job
abbrev pub is_foreign : Instr → Bool
is_foreign (Load op zero rs1 offset) = true
is_foreign (Load op (suc rd) rs1 offset) = false
is_foreign Ecall = true
is_foreign Ebreak = true
is_foreign PmMem = true
is_foreign (PmExec rs1) = true
is_foreign PmEnd = true
is_foreign PmDone = true
is_foreign _ = false

abbrev pub IsNative : Instr → Type 0
IsNative i = is_foreign i ≡ false

abbrev pub AccessIn : List Extent → Option Access → Type 0
AccessIn ranges None = ⊤
AccessIn ranges (Some a) = is_held ranges a.address ≡ true

-- loads and stores alone access bytes
abbrev pub Accesses : Instr → Option Access → Type 0
Accesses (Load op rd rs1 offset) x = ⊤
Accesses (Store op rs1 rs2 offset) x = ⊤
Accesses i x = x ≡ None

-- a step is fetched from such ranges, and what it accesses begins in such
pub record IsIn (code ranges : List Extent) (d : Did) : Type 0 where
  pub fetched : is_held code d.pc ≡ true
  pub accessed : AccessIn ranges d.access
  pub accesses : Accesses d.instr d.access
  pub stays : StaysOn d

-- pieces at a place stand in such ranges
abbrev pub StandIn : List Extent → (at : ℕ) → Pieces → Type 0
StandIn code at ps = (a : ℕ) → at ≤ a → a < at + size_of ps → is_held code a ≡ true
