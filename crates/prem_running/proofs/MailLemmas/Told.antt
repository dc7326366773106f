-- What is told of a run with feeds is what is delivered, and the run on the delivered lists.
use Rattle.std.proofs.Common.{◌≡◌, ℕ, ◌-◌, List, Some, ap, ◌∙◌, arith}
use Rattle.prem_list.specs.Sequence.{items_of}
use Rattle.prem_gate.specs.declared.request.Request.{Request}
use Rattle.prem_gate.specs.declared.request.RunInput.{RunInput}
use Rattle.prem_image.specs.declared.image.Image.{Image}
use Rattle.prem_image.specs.Text.{image_text}
use Rattle.prem_cycle.specs.declared.state.Stop.{Stop}
use Rattle.prem_cycle.specs.State.{Setup, MachineState, rule_in}
use Rattle.prem_cycle.specs.FactsOf.{stop_of}
use Rattle.prem_cycle.specs.Inputs.{FitsRun, setup_of, words_of}
use Rattle.prem_mail.specs.declared.feed.Feed.{Feed}
use Rattle.prem_mail.specs.Delivery.{Delivery}
use Rattle.prem_mail.specs.Mailing.{Mailed, Mailing, mailed_by}
use Rattle.prem_mail.specs.Laws.{IsRun, mailed_first, mailed_run}
use Rattle.prem_mail.proofs.Runs.{mailed_runs_are_runs}
use Rattle.prem_answer.specs.declared.status.Status.TheVariants.{Done}
use Rattle.prem_answer.specs.Stages.{Reply}
use Rattle.prem_exec.specs.Exec.{input_of, stop_at}
use Rattle.prem_exec.proofs.Stages.{stop_is}
use Rattle.prem_running.specs.Mail.Text.{mailed_text}
use Rattle.prem_running.specs.Mail.Mail.{delivered_at, mailed_state, mailed_reply}

-- ---- the run

-- it starts at cycle 0
pub starts_at : (p : Setup) (content : List ℕ) (inputs : List (List ℕ)) (m : Mailed) → m ≡ mailed_first p content inputs → m.state.now ≡ 0
starts_at p content inputs m is = ap (λ (x : Mailed). x.state.now) is

-- and goes on from there
goes_on : (p : Setup) (content : List ℕ) (inputs : List (List ℕ)) (requests : List Request) (feeds : List Feed) (limit : ℕ) (m : Mailing) (new : Mailed) →
    new ≡ mailed_by (rule_in m.setup) m.setup m.requests m.feeds (limit - m.mailed.state.now) m.mailed → m.setup ≡ p → m.requests ≡ requests →
    m.feeds ≡ feeds → m.mailed ≡ mailed_first p content inputs →
    new ≡ mailed_run (rule_in p) p content inputs requests feeds limit
goes_on p content inputs requests feeds limit m new is setup asked fed first =
    let whole : limit - m.mailed.state.now ≡ limit = let z = starts_at p content inputs m.mailed first in omega (arith, z) in
    is
    ∙ ap (λ n. mailed_by (rule_in m.setup) m.setup m.requests m.feeds n m.mailed) whole
    ∙ ap (λ (q : Setup). mailed_by (rule_in q) q m.requests m.feeds limit m.mailed) setup
    ∙ ap (λ rs. mailed_by (rule_in p) p rs m.feeds limit m.mailed) asked
    ∙ ap (λ fs. mailed_by (rule_in p) p requests fs limit m.mailed) fed
    ∙ ap (mailed_by (rule_in p) p requests feeds limit) first

-- what is delivered, and the state
pub record IsMailed (image : Image) (input : RunInput) (feeds : List Feed) (limit : ℕ) (m : Mailed) : Type 0 where
  pub mail : m.mail ≡ delivered_at (image_text image) (input_of input) feeds limit
  pub state : m.state ≡ mailed_state (image_text image) (input_of input) feeds limit

pub is_mailed : (image : Image) (input : RunInput) (feeds : List Feed) (limit : ℕ) (m : Mailing) (new : Mailed) → FitsRun (setup_of image) (words_of input) (items_of input.requests) →
    new ≡ mailed_by (rule_in m.setup) m.setup m.requests m.feeds (limit - m.mailed.state.now) m.mailed → m.setup ≡ setup_of image → m.requests ≡ items_of input.requests → m.feeds ≡ feeds →
    m.mailed ≡ mailed_first (setup_of image) (items_of image.content) (words_of input) → IsMailed image input feeds limit new
is_mailed image input feeds limit m new fits is setup asked fed first =
    let p = setup_of image in
    let run = goes_on p (items_of image.content) (words_of input) (items_of input.requests) feeds limit m new is setup asked fed first in
    let law : IsRun (rule_in p) p (items_of image.content) (words_of input) (items_of input.requests) feeds limit =
    mailed_runs_are_runs (rule_in p) p (items_of image.content) (words_of input) (items_of input.requests) feeds limit fits in
    record { mail = ap (λ (x : Mailed). x.mail) run ∙ law.mail; state = ap (λ (x : Mailed). x.state) run ∙ law.state }

-- ---- the text

-- the answer, from what the run says of itself
pub mailed_is : (image : Image) (input : RunInput) (feeds : List Feed) (limit : ℕ) (m : Mailed) (stop : Stop) (text : List ℕ) → IsMailed image input feeds limit m → Some stop ≡ stop_of limit m.state →
    text ≡ mailed_text (image_text image) m.mail m.state stop → ◌≡◌ {A = Reply} (Done, text) (mailed_reply (image_text image) (input_of input) feeds limit)
mailed_is image input feeds limit m stop text is stops told =
    let i = image_text image in
    let d = delivered_at i (input_of input) feeds limit in
    let s = mailed_state i (input_of input) feeds limit in
    let last : stop ≡ stop_at limit s = stop_is stop limit m.state stops ∙ ap (stop_at limit) is.state in
    ap (λ (t : List ℕ). (Done, t))
    (told
    ∙ ap (λ (e : Delivery). mailed_text i e m.state stop) is.mail
    ∙ ap (λ (u : MachineState). mailed_text i d u stop) is.state
    ∙ ap (mailed_text i d s) last)
