-- What words ask for.
use Rattle.std.specs.Prelude.{map, string_bytes}
use Rattle.std.proofs.Common.{◌≡◌, ◌≤◌, ℕ, refl, ap, ◌∙◌, sym, subst, arith, cond, Bool, true, false, List, [], ◌∷◌, length, Option, None, Some}
use Rattle.prem_plant.specs.declared.plant.Device.{Device}
use Rattle.prem_gate.specs.declared.request.Request.{Request}
use Rattle.prem_syntax.specs.Syntax.{Text}
use Rattle.prem_tasks.specs.Broken.{TaskSet}
use Rattle.prem_command.specs.Chart.{ChartAsked, chart_of}
use Rattle.prem_time.specs.declared.words.Distance.{Distance as DistanceIn}
use Rattle.prem_time.specs.Words.{AreDistances, Distance, distances_behind}
use Rattle.prem_time.specs.Asked.{distances_in}
use Rattle.prem_time.specs.Devices.{unknown_in}
use Rattle.prem_time.specs.Promises.{promises_in}
use Rattle.prem_time.proofs.WordsAre.{behind_are}
use Rattle.prem_chart.specs.declared.words.Parted.{Parted as PartedIn}
use Rattle.prem_chart.specs.Words.{Asked, asked_by, asked_of, asked_parted, parted_from, start, with_chart}
use Rattle.prem_chart.specs.Asked.{parted_in}
use Rattle.prem_chart.specs.Keeping.{stray_in}
use Rattle.prem_chart.specs.Answer.{promised, reply_by}

-- ---- in memory

pub asked_same : {o : Option Asked} (words : List Text) (p : PartedIn) (plain every : List Text) → parted_in p ≡ parted_from start words → plain ≡ map string_bytes p.plain.items →
    every ≡ map string_bytes p.every.items → o ≡ asked_by plain every p.behind → asked_of words ≡ o
asked_same words p plain every parted plain_is every_is is =
    sym (is ∙ ap (λ ws. asked_by ws every p.behind) plain_is ∙ ap (λ ws. asked_by (map string_bytes p.plain.items) ws p.behind) every_is ∙ ap asked_parted parted)

-- the answer is by the distances, the devices and the requests that are lent
pub reply_same : (ds es : List DistanceIn) (devices others : List Device) (requests rs : List Request) (picture : List ℕ) → ds ≡ es → devices ≡ others → requests ≡ rs →
    reply_by (unknown_in (distances_in ds) devices) (stray_in (distances_in ds) devices requests) picture
    ≡ reply_by (unknown_in (distances_in es) others) (stray_in (distances_in es) others rs) picture
reply_same ds es devices others requests rs picture d v r =
    ap (λ (xs : List DistanceIn). reply_by (unknown_in (distances_in xs) devices) (stray_in (distances_in xs) devices requests) picture) d
    ∙ ap (λ (xs : List Device). reply_by (unknown_in (distances_in es) xs) (stray_in (distances_in es) xs requests) picture) v
    ∙ ap (λ (xs : List Request). reply_by (unknown_in (distances_in es) others) (stray_in (distances_in es) others xs) picture) r

-- where a distance is told
pub promised_some : (set : TaskSet) (ds : List DistanceIn) → 1 ≤ length ds → promised set (distances_in ds) ≡ promises_in set (distances_in ds)
promised_some set [] h = absurd (omega (arith, h))
promised_some set (d ∷ ds) h = refl

-- ---- the distances are such as words tell

chart_ranges : (every : List Text) (chart : Option ChartAsked) (o : Option (List Distance)) (asked : Asked) → distances_behind every [] ≡ o →
    with_chart chart o ≡ Some asked → AreDistances asked.distances
chart_ranges every None o asked is e = absurd cc
chart_ranges every (Some chart) None asked is e = absurd cc
chart_ranges every (Some chart) (Some ds) asked is e = let same : ds ≡ asked.distances = cc in subst (λ (xs : List Distance). AreDistances xs) same (behind_are every [] ds tt is)

pub asked_ranges : (words : List Text) (asked : Asked) → asked_of words ≡ Some asked → AreDistances asked.distances
asked_ranges words asked e = by (parted_from start words).behind e where
  by : (b : Bool) → cond b None (with_chart (chart_of (parted_from start words).plain) (distances_behind (parted_from start words).every [])) ≡ Some asked → AreDistances asked.distances
  by true h = absurd cc
  by false h =
      chart_ranges (parted_from start words).every (chart_of (parted_from start words).plain) (distances_behind (parted_from start words).every []) asked refl h
