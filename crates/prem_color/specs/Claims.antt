-- The ranges of wants, by the parts in which they lie.
use Rattle.std.specs.Prelude.{ℕ, zero, suc, ◌+◌, ◌==◌, if◌then◌else◌, List, [], ◌∷◌, ◌++◌, filter, map}
use Rattle.prem_color.specs.declared.claims.Claim.{Claim}
use Rattle.prem_color.specs.declared.claims.Share.{Share as ShareInMemory}
use Rattle.prem_color.specs.Offsets.{PartRange}
use Rattle.prem_color.specs.Rooms.{ranges_of_part}

-- ---- ranges with the numbers of their wants

abbrev pub claim : ℕ → PartRange → Claim
claim k r = record { want = k; range = r }

-- those of wants from number k on, in the order of wants
abbrev pub claims_from : ℕ → List (List PartRange) → List Claim
claims_from k [] = []
claims_from k (w ∷ ws) = map (claim k) w ++ claims_from (k + 1) ws

-- those in part number n
abbrev pub claims_in : ℕ → List Claim → List Claim
claims_in n claims = filter (λ c. c.range.0 == n) claims

-- by parts, so many from number n on
abbrev pub by_parts_from : ℕ → ℕ → List Claim → List (List Claim)
by_parts_from n zero claims = []
by_parts_from n (suc count) claims = claims_in n claims ∷ by_parts_from (n + 1) count claims

abbrev pub by_parts : ℕ → List Claim → List (List Claim)
by_parts count claims = by_parts_from 0 count claims

-- ---- lists by parts that grow

-- one claim more in the list of this number
abbrev pub with_claim : ℕ → Claim → List (List Claim) → List (List Claim)
with_claim n c [] = []
with_claim zero c (own ∷ owns) = (own ++ c ∷ []) ∷ owns
with_claim (suc n) c (own ∷ owns) = own ∷ with_claim n c owns

-- each range of a want in the list of its part
abbrev pub with_claims : ℕ → List PartRange → List (List Claim) → List (List Claim)
with_claims k [] owns = owns
with_claims k (r ∷ rs) owns = with_claims k rs (with_claim r.0 (claim k r) owns)

abbrev pub with_wants : ℕ → List (List PartRange) → List (List Claim) → List (List Claim)
with_wants k [] owns = owns
with_wants k (w ∷ ws) owns = with_wants (k + 1) ws (with_claims k w owns)

-- ---- the ranges of a part, by wants

-- a want with ranges in a part
pub record Share : Type 0 where
  pub want : ℕ
  pub own : List PartRange

abbrev pub share : ℕ → List PartRange → Share
share k own = record { want = k; own = own }

abbrev pub share_of : ShareInMemory → Share
share_of s = record { want = s.want; own = s.own.items }

abbrev pub share_before : ℕ → List PartRange → List Share → List Share
share_before k [] rest = rest
share_before k (r ∷ rs) rest = share k (r ∷ rs) ∷ rest

-- of the wants from number k on, those with ranges in part number n
abbrev pub shares_from : ℕ → ℕ → List (List PartRange) → List Share
shares_from n k [] = []
shares_from n k (w ∷ ws) = share_before k (ranges_of_part n w) (shares_from n (k + 1) ws)

-- a claim joins the share behind it, where that is of the same want
abbrev pub joined : Claim → List Share → List Share
joined c [] = share c.want (c.range ∷ []) ∷ []
joined c (s ∷ ss) = if s.want == c.want then share c.want (c.range ∷ s.own) ∷ ss else share c.want (c.range ∷ []) ∷ s ∷ ss

abbrev pub grouped : List Claim → List Share
grouped [] = []
grouped (c ∷ cs) = joined c (grouped cs)

-- the ranges of the claims of one want at the head
abbrev pub leading : ℕ → List Claim → List PartRange
leading k [] = []
leading k (c ∷ cs) = if c.want == k then c.range ∷ leading k cs else []
