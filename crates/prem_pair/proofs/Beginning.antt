-- Two cores before their first cycle.
use Rattle.std.proofs.Common.{◌≡◌, ◌*◌, List, ap, sym, ◌∙◌, subst}
use Rattle.prem_pair.proofs.Prelude.{image_run, setup_of, words_of, cycles_of, rule_in, MachineState, GatesState, Request, items_of, runs_first, state_first, state_of, Parts, GoOn, pair_of}
use Rattle.prem_pair.proofs.Prelude.{PairState, pair_cycles, pair_run, Arrives, Nobody}
use Rattle.prem_gate.specs.declared.request.RunInput.{RunInput}
use Rattle.prem_image.specs.declared.image.Image.{Image}
use Rattle.prem_machine.specs.Parts.{Runs}
use Rattle.prem_machine.specs.Start.{StartsAs}

pub goes_first : {P Q : Type 0} (image behind : Image) (run other : RunInput) (requests : List Request) (x : Parts P) (y : Parts Q) →
    requests ≡ items_of run.requests → StartsAs image run x → StartsAs behind other y →
    GoOn requests (record { first = x; second = y; holder = Nobody })
goes_first image behind run other requests x y e s t =
    let r : Runs x.now (4 * x.now) (items_of run.requests) x = runs_first image run x s in
    let u : Runs y.now (4 * y.now) (items_of other.requests) y = runs_first behind other y t in
    let A : List Request → Type 0 = λ rs. Arrives x.now rs x in
    record {
      first = record { ready = r.ready; first = r.first; counts = r.counts };
      second = record { ready = u.ready; first = u.first; counts = u.counts };
      arrives = subst A (sym e) (record { arrived = r.arrived; few = r.few; pending = r.pending });
      free = λ ne. ap (λ (g : GatesState). g.carried) s.gates;
    }

pub pair_first : {P Q : Type 0} (image behind : Image) (run other : RunInput) (x : Parts P) (y : Parts Q) → StartsAs image run x → StartsAs behind other y →
    pair_of (record { first = x; second = y; holder = Nobody })
    ≡ pair_run (rule_in (setup_of image)) (rule_in (setup_of behind)) (setup_of image) (setup_of behind) (items_of image.content)
    (items_of behind.content) (words_of run) (words_of other) (items_of run.requests) 0
unfolding pair_cycles cycles_of
pair_first image behind run other x y s t =
    let a : state_of x ≡ image_run (rule_in (setup_of image)) image run 0 = state_first image run x s in
    let b : state_of y ≡ image_run (rule_in (setup_of behind)) behind other 0 = state_first behind other y t in
    let all : MachineState → MachineState → PairState = λ v w. record { first = v; second = w; holder = Nobody } in
    ap (λ v. all v (state_of y)) a ∙ ap (λ w. all (image_run (rule_in (setup_of image)) image run 0) w) b
