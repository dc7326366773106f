use Rattle.prem_tasks.specs.SetOf.{set_of}
use Rattle.prem_sets_sound.proofs.ImagePremisesLemmas.Whole.{lawful_sets_have_values}
use Rattle.prem_sets_sound.proofs.PlacesSoundLemmas.At.{sets_are_sound_at}
use Rattle.prem_compile.proofs.compiler.compile_at.Goals as goal

pub returns-in-Ok : goal.returns-in-Ok
returns-in-Ok c = record {
  lawful = c.in-Ok.ensures.lawful;
  compiled = c.in-Ok.ensures.compiled;
  bounds = c.in-Ok.ensures.bounds;
  sound = sets_are_sound_at (set_of c.args.set.now) c.args.l.now (lawful_sets_have_values c.args.set.now c.args.set.now.lawful) c.requires c.in-Ok.ensures.lawful;
}
