-- Worked texts, computed.
use Rattle.std.specs.Prelude.{codes}
use Rattle.std.specs.Fmt.{digits}
use Rattle.std.proofs.Common.{◌≡◌, refl, ℕ, [], ◌∷◌}
use Rattle.prem_resp.specs.declared.busy.load.Load.{Load}
use Rattle.prem_resp.specs.declared.busy.length.Busy.TheVariants.{Within, Past}
use Rattle.prem_resp.specs.Lines.{fit_text}

abbrev load : ℕ → Load
load period = record { period = period; cost = 975; longest = 511 }

one_text : fit_text (codes "m" ∷ []) (load 1000 ∷ []) (Within 975 ∷ []) ≡ codes "task m cost 975 blocks 0 length 975\nfits\n"
unfolding digits
one_text = refl

two_text : fit_text (codes "a" ∷ codes "b" ∷ []) (load 10000 ∷ load 10000 ∷ []) (Within 1486 ∷ Within 1950 ∷ [])
    ≡ codes "task a cost 975 blocks 511 length 1486\ntask b cost 975 blocks 0 length 1950\nfits\n"
unfolding digits
two_text = refl

short_text : fit_text (codes "a" ∷ codes "b" ∷ []) (load 1486 ∷ load 10000 ∷ []) (Within 1486 ∷ Within 2925 ∷ [])
    ≡ codes "task a cost 975 blocks 511 length 1486\ntask b cost 975 blocks 0 length 2925\nfits\n"
unfolding digits
short_text = refl

late_text : fit_text (codes "a" ∷ codes "b" ∷ []) (load 1485 ∷ load 10000 ∷ []) (Past ∷ Within 2925 ∷ []) ≡ codes "task a cost 975 blocks 511 past\ntask b cost 975 blocks 0 length 2925\nlate\n"
unfolding digits
late_text = refl
