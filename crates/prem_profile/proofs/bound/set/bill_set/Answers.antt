use Rattle.prem_sets_sound.proofs.Sound.{lawful_sets_are_sound}
use Rattle.prem_profile.proofs.bound.set.bill_set.Goals as goal

pub returns-in-Ok : goal.returns-in-Ok
returns-in-Ok c = record {
  compiled = record {
    lawful = c.in-Ok.ensures.made.lawful;
    compiled = c.in-Ok.ensures.made.compiled;
    bounds = c.in-Ok.ensures.made.bounds;
    sound = lawful_sets_are_sound c.args.set.now c.args.set.now.lawful c.in-Ok.ensures.made.lawful;
  };
  bill = c.in-Ok.ensures.bill;
  plant = c.in-Ok.ensures.plant;
  short = c.in-Ok.ensures.short;
  few = c.in-Ok.ensures.few;
}
