-- Two images whose tasks have scripts for all input words are sound together.
use Rattle.std.proofs.Common.{ℕ, ◌+◌, ◌≤◌, arith, List, []}
use Rattle.prem_pair.proofs.Prelude.{IsTrace, IsRequest, Setup, Request, last_request, all_costs, due_of, ScriptsFor, GivesScripts, PairsOfImagesAreSound, Promise, last_release, PutWords}
use Rattle.prem_pair.proofs.Prelude.{IsRun, All-nil, max}
use Rattle.prem_pair.proofs.LawsLemmas.Finishing.{pairs_finish}
use Rattle.prem_pair.proofs.LawsLemmas.Goodness.{pairs_are_good}

no_trace : (q : Setup) → IsTrace q.devices []
no_trace q = record { each = All-nil (IsRequest q.devices); ordered = λ i j d le lt. absurd (omega (arith, lt)) }

no_puts : PutWords []
no_puts i d lt = absurd (omega (arith, lt))

within : (last due due' more more' rest n : ℕ) → due ≤ more → due' ≤ more' → last + (more + more') + rest ≤ n → last + (due + due') + rest ≤ n
within last due due' more more' rest n a b h = omega (arith, a, b, h)

pub image_run : (passes : ℕ → ℕ) (p : Setup) (content : List ℕ) (promises : List (List ℕ) → ℕ → Promise) (due : ℕ) (requests : List Request) →
    GivesScripts passes p content promises due → IsTrace p.devices requests → PutWords requests → IsRun p content requests
image_run passes p content promises due requests h t w = record {
  runnable = record { plant = h.image.plant; room = h.image.within; devices = h.image.each_device; asked = t.each };
  periods = λ k d lt. (h.image.each_task k d lt).period.0;
  apart = h.image.apart;
  zero = h.zero;
  words = w;
}

pub pairs_of_images : PairsOfImagesAreSound
pairs_of_images rule other order order' passes passes' p q content behind promises promises' due due' policy policy' none h k = record {
  good = λ inputs others requests n i j t w.
      let x : ScriptsFor passes p content inputs h.own (promises inputs) due = h.for_inputs inputs i in
      let y : ScriptsFor passes' q behind others k.own (promises' others) due' = k.for_inputs others j in
      pairs_are_good rule other order order' passes passes' p q content behind inputs others requests h.own k.own x.runs y.runs x.scripts y.scripts
      (promises inputs) (promises' others) n policy policy'
      (image_run passes p content promises due requests h t w) (image_run passes' q behind promises' due' [] k (no_trace q) no_puts) none x.are_scripts y.are_scripts x.keep y.keep;
  finished = λ inputs others requests n i j t w le.
      let x : ScriptsFor passes p content inputs h.own (promises inputs) due = h.for_inputs inputs i in
      let y : ScriptsFor passes' q behind others k.own (promises' others) due' = k.for_inputs others j in
      pairs_finish rule other order order' passes passes' p q content behind inputs others requests h.own k.own x.runs y.runs x.scripts y.scripts n policy policy'
      (image_run passes p content promises due requests h t w) (image_run passes' q behind promises' due' [] k (no_trace q) no_puts) none x.are_scripts y.are_scripts
      (within (max (last_release p.tasks) (last_release q.tasks)) (due_of p x.scripts) (due_of q y.scripts) due due' (last_request requests + all_costs p.devices requests) n x.within y.within le);
}
