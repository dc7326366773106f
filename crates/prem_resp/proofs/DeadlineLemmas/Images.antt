-- An image whose tasks have scripts, and are charged as loads tell, is sound, and goes by its charges.
use Rattle.prem_sound.proofs.LastingRuns.{scripts_are_good}
use Rattle.prem_sound.proofs.Images.{run_fits}
use Rattle.prem_sound.specs.Scopes.Charged.{IsScoped, charges_by, IsCharged, each_alone}
use Rattle.prem_resp.specs.Busy.Busy.{load_at}
use Rattle.prem_resp.specs.Deadline.Deadlines.{PacedLoadsAreLoads, ScriptsFinishByCharges}
use Rattle.prem_resp.specs.Deadline.Images.{ChargedImagesAreSound}
use Rattle.prem_sound.proofs.ScopesLemmas.Alone.{paced_runs_are_charged}
use Rattle.prem_resp.proofs.DeadlineLemmas.Timelines.{scripts_meet_deadlines, scripts_keep_charges}
use Rattle.prem_sound.proofs.Finishing.{scripts_finish_by_jobs}

pub scripts_finish_by_charges : ScriptsFinishByCharges
scripts_finish_by_charges rule order passes p content inputs requests own runs scripts scopings loads n policy run is are le =
    scripts_finish_by_jobs rule order passes p content inputs requests own runs scripts scopings (λ k. (load_at loads k).cost) (λ k. (load_at loads k).longest) n policy run is
    (λ k lt. (are.each k lt).scoped) (λ k lt. (are.each k lt).charged) le

pub charged_images_are_sound : ChargedImagesAreSound
charged_images_are_sound rule order passes p content promises limit loads scopings policy h are = (
  record {
    good = λ inputs requests n i t w.
        scripts_are_good rule order passes p content inputs requests h.own (h.runs inputs) (h.scripts inputs) (promises inputs) n policy
        (run_fits passes p content promises limit requests h t w) (h.are_scripts inputs i) (h.keep inputs i);
    finished = λ inputs requests n i t w le.
        scripts_finish_by_charges rule order passes p content inputs requests h.own (h.runs inputs) (h.scripts inputs) (scopings inputs)
        loads n policy (run_fits passes p content promises limit requests h t w) (h.are_scripts inputs i) (are inputs i) le;
  },
  λ inputs requests i t w k cycles lt balanced le job n left late.
      scripts_meet_deadlines rule order passes p content inputs requests h.own (h.runs inputs) (h.scripts inputs) (scopings inputs)
      loads k cycles policy (run_fits passes p content promises limit requests h t w) (h.are_scripts inputs i) (are inputs i)
      lt balanced le job n left late,
  λ inputs requests i t w n.
      (scripts_keep_charges rule order passes p content inputs requests h.own (h.runs inputs) (h.scripts inputs) (scopings inputs) loads n policy
      (run_fits passes p content promises limit requests h t w) (h.are_scripts inputs i) (are inputs i)).0,
)

pub paced_loads_are_loads : PacedLoadsAreLoads
paced_loads_are_loads p runs scripts loads count each = record {
  count = count;
  each = λ k lt.
      let h : IsScoped p.plant (runs k) (each_alone p.plant (runs k))
      × IsCharged p.plant (runs k) (scripts k) (charges_by p.plant (runs k) (each_alone p.plant (runs k))) (load_at loads k).cost
      (load_at loads k).longest =
      paced_runs_are_charged p.plant (runs k) (scripts k) (load_at loads k).cost (load_at loads k).longest (each k lt).1 in
      record { period = (each k lt).0; scoped = h.0; charged = h.1 };
}
