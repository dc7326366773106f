-- One more task, device or part.
use Rattle.std.specs.Prelude.{max, unwrap_or}
use Rattle.std.proofs.Common.{◌≡◌, ℕ, ◌+◌, ◌<◌, refl, ap, sym, ◌∙◌, arith, List, [], ◌∷◌, ◌++◌, length, take, drop, get_or, Option, slice_get}
use Rattle.std.proofs.lemmas.List.{drop_more}
use Rattle.std.proofs.lemmas.Option.{unwrap_or-slice_get}
use Rattle.prem_plant.specs.declared.plant.Device.{Device}
use Rattle.prem_plant.specs.Places.{Extent}
use Rattle.prem_image.specs.declared.image.DeviceRecord.{DeviceRecord}
use Rattle.prem_layout.specs.Footprint.{no_place}
use Rattle.prem_layout.specs.Image.{greatest_end, device_records}
use Rattle.prem_layout.proofs.TaskParts.{place_in}
use Rattle.prem_place.proofs.BuildImageLemmas.Ground.{greatest_more}

pub greatest_turn : (n greatest new : ℕ) (places : List Extent) (found : Option Extent) (q : Extent) → greatest ≡ greatest_end (take n places) →
    found ≡ slice_get places n → q ≡ unwrap_or found (0, 0) → new ≡ max greatest q.1 →
    new ≡ greatest_end (take (n + 1) places)
greatest_turn n greatest new places found q e f here en =
    let same : q ≡ place_in places n = here ∙ ap (λ o. unwrap_or o no_place) f ∙ unwrap_or-slice_get places n no_place in
    en ∙ ap (λ g. max g q.1) e
    ∙ ap (λ (k : Extent). max (greatest_end (take n places)) k.1) same
    ∙ sym (greatest_more n places)

push_rest : {A : Type 0} (xs : List A) (r : A) (rest : List A) → (xs ++ r ∷ []) ++ rest ≡ xs ++ (r ∷ rest)
push_rest [] r rest = refl
push_rest (x ∷ xs) r rest = ap (λ l. x ∷ l) (push_rest xs r rest)

abbrev area_record : Device → Extent → DeviceRecord
area_record d q = record { device = d; area = q.0 }

pub area_turn : (devices : List Device) (places : List Extent) (first n : ℕ) (d : Device) (found : Option Extent) (at : Extent)
    (old new whole : List DeviceRecord) (r : DeviceRecord) → length places ≡ first + length devices → n < length devices → d ≡ get_or devices n d →
    found ≡ slice_get places (first + n) → at ≡ unwrap_or found (0, 0) → r ≡ record { device = d; area = at.0 } → new ≡ old ++ r ∷ [] →
    old ++ device_records (drop n devices) (drop (first + n) places) ≡ whole → new ++ device_records (drop (n + 1) devices) (drop (first + (n + 1)) places) ≡ whole
area_turn devices places first n d found at old new whole r long lt is ef ea er en e =
    let rest = device_records (drop (n + 1) devices) (drop (first + (n + 1)) places) in
    let q = place_in places (first + n) in
    let here : at ≡ q = ea ∙ ap (λ o. unwrap_or o no_place) ef ∙ unwrap_or-slice_get places (first + n) no_place in
    let z : first + n + 1 ≡ first + (n + 1) = omega arith in
    let behind : drop (first + n) places ≡ q ∷ drop (first + (n + 1)) places = drop_more places (first + n) no_place (omega (arith, long, lt)) ∙ ap (λ k. q ∷ drop k places) z in
    let devices_here : drop n devices ≡ d ∷ drop (n + 1) devices = drop_more devices n d lt ∙ ap (λ k. k ∷ drop (n + 1) devices) (sym is) in
    let both : device_records (drop n devices) (drop (first + n) places) ≡ area_record d q ∷ rest =
    ap (λ ds. device_records ds (drop (first + n) places)) devices_here ∙ ap (λ ps. device_records (d ∷ drop (n + 1) devices) ps) behind in
    ap (λ l. l ++ rest) en ∙ push_rest old r rest
    ∙ ap (λ k. old ++ (k ∷ rest)) (er ∙ ap (area_record d) here)
    ∙ ap (λ l. old ++ l) (sym both) ∙ e
