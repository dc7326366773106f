-- What is known of a task in memory, as what least charges are counted from.
use Rattle.std.specs.Prelude.{◌≡◌, ◌≤◌, ◌<◌, ◌+◌, ◌*◌, ◌^◌, ℕ, List, [], ◌∷◌, length, map, is_some, unwrap_or, slice_index_or, None}
use Rattle.prem_list.specs.declared.Sequence.{Sequence}
use Rattle.prem_list.specs.Sequence.{items_of}
use Rattle.prem_plant.specs.Ranges.{IsPlant}
use Rattle.prem_asm.specs.Pieces.{Pieces}
use Rattle.prem_asm.specs.PiecesOf.{pieces_of}
use Rattle.prem_asm.specs.declared.piece.Piece.{Piece}
use Rattle.prem_layout.specs.Plans.{Plan}
use Rattle.prem_layout.specs.Footprint.{place_at, global_range}
use Rattle.prem_layout.specs.Bounds.{line_cost}
use Rattle.prem_isa.specs.Decode.{cost_of}
use Rattle.prem_bounds.specs.Scale.{calls_by}
use Rattle.prem_bounds.specs.TableOf.{listed}
use Rattle.prem_wcet_laws.specs.Scopes.{Fact, Scene}
use Rattle.prem_wcet.specs.Known.{EndsWithin, TellsKnown}
use Rattle.prem_wcet.specs.CountOf.{count_in}
use Rattle.prem_wcet.specs.declared.scene.Face.{Face}
use Rattle.prem_wcet.specs.declared.scene.Fact.{Fact as FactTree}
use Rattle.prem_wcet.specs.declared.scene.Scene.{Scene as SceneTree}

-- a function that has such pieces
abbrev pub fact_in : FactTree → Pieces → Fact
fact_in f ps = record { pieces = ps; code = f.code.items; touched = f.touched.items; cuts = f.cuts; least = f.least; parted = count_in f.parted }

-- the facts of the first functions, of which these are the pieces
abbrev pub facts_in : List FactTree → List (Sequence Piece) → List Fact
facts_in [] code = []
facts_in (f ∷ fs) [] = []
facts_in (f ∷ fs) (ps ∷ pss) = fact_in f (pieces_of (items_of ps)) ∷ facts_in fs pss

-- a function that isn't there
abbrev pub no_face : Face
no_face = record { frame = 0; stated = None }

abbrev pub face_at : List Face → ℕ → Face
face_at faces f = slice_index_or faces f no_face

-- a plan that states such a length
abbrev pub plan_stating : Face → Plan
plan_stating face = record { function = 0; reach = []; depth = 0; base = 0; regions = []; stated = unwrap_or face.stated 0 }

-- each function stands for a stub of its own
abbrev pub scene_in : SceneTree → Scene
scene_in s = record {
  plant = s.plant.now;
  plans = map plan_stating s.faces.now;
  parts = record { target = s.plant.now.target; global = λ g. 0; frame = λ f. (face_at s.faces.now f).frame; link = λ f. 1; callee = λ f. 0 };
  marked = λ f. is_some (face_at s.faces.now f).stated;
  stub = λ f. f;
  functions = length s.code.now;
  places = λ part. (place_at s.places.now part).0;
  global = global_range s.places.now;
  stack = s.stack ∷ [];
  facts = facts_in s.facts.now s.code.now;
}

-- its numbers are those of a plant and of parts within memory
pub record IsScene (s : SceneTree) : Type 0 where
  pub plant : IsPlant s.plant.now
  pub few : length s.code.now ≤ 256
  pub known : length s.facts.now ≤ length s.code.now
  pub access : s.rule.now.access ≡ 2 * line_cost s.plant.now
  pub other : s.rule.now.other ≡ line_cost s.plant.now
  pub bare : (part : ℕ) → calls_by s.rule.now part ≡ 0
  pub ends : EndsWithin s.places.now (listed s.code.now)
  pub costs : TellsKnown s.costs.now (λ at. cost_of) s.places.now (listed s.code.now) (length s.facts.now)
  pub first_global : s.globals ≡ 1 + s.places.now.functions + length s.places.now.marked
  pub parts : length s.places.now.places < 2 ^ 32
