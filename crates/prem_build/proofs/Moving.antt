-- What is told of a set with moved parts is the answer.
use Rattle.std.specs.Prelude.{nat_lt, slice_index_or}
use Rattle.std.specs.List.{AllByRecursion}
use Rattle.std.proofs.Common.{◌≡◌, ◌<◌, ◌≤◌, ℕ, Bool, true, false, cond, List, [], ◌∷◌, Option, None, Some, Result, Ok, Err, map, refl, ap, ◌∙◌, sym, subst}
use Rattle.std.proofs.lemmas.Bool.{lt-ltb, le-ltb}
use Rattle.prem_list.specs.Sequence.{items_of}
use Rattle.prem_plant.specs.declared.plant.Plant.{Plant}
use Rattle.prem_plant.specs.declared.layout.PartSize.{PartSize}
use Rattle.prem_plant.specs.Places.{Extent, last_end}
use Rattle.prem_plant.specs.Ranges.{IsPlant}
use Rattle.prem_syntax.specs.Name.{name_bytes}
use Rattle.prem_layout.specs.Rules.{Refusal}
use Rattle.prem_foot.specs.declared.want.Want.{Want as WantInMemory}
use Rattle.prem_color.specs.Offsets.{PartRange, moved_places}
use Rattle.prem_color.specs.Rooms.{LiesIn, no_part}
use Rattle.prem_color.specs.Told.{ArePlaced, IsFull}
use Rattle.prem_color.specs.WantOf.{ranges_in, want_of}
use Rattle.prem_color.specs.Wants.{ranges_of}
use Rattle.prem_color.proofs.Sets.{wants_lie}
use Rattle.prem_tasks.specs.Told.{Told}
use Rattle.prem_tasks.specs.Broken.{TaskSet, TaskText}
use Rattle.prem_tasks.specs.Compiled.{coded_in, parts_in}
use Rattle.prem_tasks.specs.At.{AreLawfulFor, broken_early, broken_at}
use Rattle.prem_compile.specs.PartsOf.{HasParts, ranges_wanted}
use Rattle.prem_compile.specs.Colors.{AreColored}
use Rattle.prem_compile.specs.declared.parts.Parts.{Parts}
use Rattle.prem_compile.proofs.Colored.{colors_are_lawful}
use Rattle.prem_answer.specs.declared.status.Status.TheVariants.{Refused}
use Rattle.prem_answer.specs.Refusal.Texts.{refused_reply}
use Rattle.prem_answer.specs.Stages.{Reply, Reads, Stage, IsFine}
use Rattle.prem_answer.specs.Tool.{IsSettled}
use Rattle.prem_exec.proofs.SourcesLemmas.Fine.{set_fine}
use Rattle.prem_build.specs.Colors.{stuck_line, memory_refusal, judged_reply, placed_reply, moved_reply, found_places, early_reply, color_reply, color_stages}

abbrev refused_text : List ℕ → Reply
refused_text text = (Refused, text)

-- ---- places

-- as sizes, wants and plant are lent
module _ (set : TaskSet) (parts : Parts) (h : HasParts set parts) (sizes : List PartSize) (wants : List WantInMemory) (p : Plant)
    (es : sizes ≡ items_of parts.sizes) (ew : wants ≡ items_of parts.wants) (ep : p ≡ set.plant) where
  sizes_are : sizes ≡ parts_in set
  sizes_are = es ∙ h.parts.sizes

  ranges_same : (ws : List WantInMemory) → ranges_in ws ≡ ranges_of (map want_of ws)
  ranges_same [] = refl
  ranges_same (w ∷ ws) = ap (λ (rs : List (List PartRange)). items_of w.ranges ∷ rs) (ranges_same ws)

  ranges_are : ranges_in wants ≡ ranges_wanted set
  ranges_are = ranges_same wants ∙ ap (λ (ws : List WantInMemory). ranges_of (map want_of ws)) ew ∙ ap ranges_of h.parts.wants

  pub ranges_lie : AllByRecursion (AllByRecursion (LiesIn sizes)) (ranges_in wants)
  ranges_lie =
      subst (λ (ps : List PartSize). AllByRecursion (AllByRecursion (LiesIn ps)) (ranges_in wants)) (sym sizes_are)
      (subst (λ (rs : List (List PartRange)). AllByRecursion (AllByRecursion (LiesIn (parts_in set))) rs) (sym ranges_are) (wants_lie (parts_in set) (coded_in set) h.parts.stand))

  found_is : moved_places p (ranges_in wants) sizes ≡ found_places set
  found_is =
      ap (λ (q : Plant). moved_places q (ranges_in wants) sizes) ep ∙ ap (λ (rs : List (List PartRange)). moved_places set.plant rs sizes) ranges_are
      ∙ ap (λ (ps : List PartSize). moved_places set.plant (ranges_wanted set) ps) sizes_are

  are_colored : (places : List Extent) → IsPlant p → ArePlaced p.memory places (moved_places p (ranges_in wants) sizes) → AreColored set places
  are_colored places plant are = record {
    plant = subst IsPlant ep plant;
    moved = sym found_is ∙ are.found_is;
    within = subst (λ (q : Plant). last_end places ≤ q.memory) ep are.within;
  }

  pub places_lawful : (places : List Extent) → IsPlant p → ArePlaced p.memory places (moved_places p (ranges_in wants) sizes) → AreLawfulFor set places
  places_lawful places plant are = colors_are_lawful set places (are_colored places plant are)

  within_replied : (places : List Extent) → last_end places ≤ set.plant.memory → moved_reply set (Ok places) ≡ placed_reply set places
  within_replied places le =
      ap (λ b. cond b (refused_reply set.tasks (memory_refusal (last_end places) set.plant.memory)) (placed_reply set places)) (le-ltb _ _ le)

  pub placed_is : (places : List Extent) (given : Result Reply Reply) → IsPlant p → ArePlaced p.memory places (moved_places p (ranges_in wants) sizes) → given ≡ Ok (placed_reply set places) →
      given ≡ Ok (moved_reply set (found_places set))
  placed_is places given plant are is =
      let c = are_colored places plant are in
      is ∙ ap (λ (r : Reply). Ok r) (sym (within_replied places c.within) ∙ ap (moved_reply set) (sym c.moved))

  -- as the code tells it
  abbrev stuck_told : List TaskText → ℕ → Reply
  stuck_told tasks n = refused_text (stuck_line tasks (slice_index_or (items_of parts.sizes) n no_part) (slice_index_or (map name_bytes (items_of parts.names)) n []))

  pub stuck_is : (n : ℕ) (tasks : List TaskText) (reply : Reply) → moved_places p (ranges_in wants) sizes ≡ Err n → tasks ≡ set.tasks →
      reply ≡ stuck_told tasks n → reply ≡ moved_reply set (found_places set)
  stuck_is n tasks reply e same told =
      told ∙ ap (λ (ts : List TaskText). stuck_told ts n) same
      ∙ ap (λ (ps : List PartSize). refused_text
      (stuck_line set.tasks (slice_index_or ps n no_part) (slice_index_or (map name_bytes (items_of parts.names)) n []))) h.parts.sizes
      ∙ ap (λ (ns : List (List ℕ)). refused_text (stuck_line set.tasks (slice_index_or (parts_in set) n no_part) (slice_index_or ns n []))) h.parts.names
      ∙ ap (moved_reply set) (sym e ∙ found_is)

  pub full_is : (need have : ℕ) (tasks : List TaskText) (reply : Reply) → IsFull p.memory need have (moved_places p (ranges_in wants) sizes) →
      tasks ≡ set.tasks → reply ≡ refused_reply tasks (memory_refusal need have) →
      reply ≡ moved_reply set (found_places set)
  full_is need have tasks reply full same told = by (moved_places p (ranges_in wants) sizes) refl full
    where
      by : (found : Result (List Extent) ℕ) → moved_places p (ranges_in wants) sizes ≡ found → IsFull p.memory need have found → reply ≡ moved_reply set (found_places set)
      by (Err n) e f = absurd f
      by (Ok places) e f =
          let memory : p.memory ≡ set.plant.memory = ap (λ (q : Plant). q.memory) ep in
          let past : set.plant.memory < last_end places = subst (λ n. n < last_end places) memory f.0 in
          told ∙ ap (λ (ts : List TaskText). refused_reply ts (memory_refusal need have)) same ∙ ap (λ n. refused_reply set.tasks (memory_refusal n have)) f.1
          ∙ ap (λ n. refused_reply set.tasks (memory_refusal (last_end places) n)) (f.2 ∙ memory)
          ∙ sym (ap (λ b. cond b (refused_reply set.tasks (memory_refusal (last_end places) set.plant.memory)) (placed_reply set places)) (lt-ltb _ _ past))
          ∙ ap (moved_reply set) (sym e ∙ found_is)

-- ---- the stages

abbrev pub behind_set : TaskSet → Stage Reply
behind_set set reads = Ok (color_reply set)

-- ---- answers that may be given

judged_fine : (set : TaskSet) (places : List Extent) (first : Option (Refusal Told)) → IsSettled (judged_reply set places first)
judged_fine set places None = refl
judged_fine set places (Some refusal) = refl

full_fine : (b : Bool) (set : TaskSet) (places : List Extent) → IsSettled (cond b (refused_reply set.tasks (memory_refusal (last_end places) set.plant.memory)) (placed_reply set places))
full_fine true set places = refl
full_fine false set places = judged_fine set places (broken_at set places)

moved_fine : (set : TaskSet) (found : Result (List Extent) ℕ) → IsSettled (moved_reply set found)
moved_fine set (Err n) = refl
moved_fine set (Ok places) = full_fine (nat_lt set.plant.memory (last_end places)) set places

early_fine : (set : TaskSet) (first : Option (Refusal Told)) → IsSettled (early_reply set first)
early_fine set None = moved_fine set (found_places set)
early_fine set (Some refusal) = refl

pub color_is_fine : (name : List ℕ) (reads : Reads) → IsFine IsSettled (color_stages name reads)
color_is_fine name reads = set_fine IsSettled name behind_set (λ set more. early_fine set (broken_early set)) reads
