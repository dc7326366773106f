use Rattle.std.proofs.Common.{◌∙◌}
use Rattle.prem_running.proofs.SampleLemmas.Texts.{program_is}
use Rattle.prem_running.proofs.sample.program.program_text.Goals as goal

pub returns : goal.returns
returns c =
    c.from_vec.ensures
    ∙ program_is c.args.coefficients.now c.in_ok-text.text.items c.as_bytes.result.now c.extend_from_slice.new.self.items c.in_ok-text.ensures
    c.as_bytes.ensures.value c.in_ok-extend_from_slice.ensures.items
