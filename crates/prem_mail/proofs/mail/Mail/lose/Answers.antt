use Rattle.std.specs.Prelude.{slice_index_or}
use Rattle.std.proofs.Common.{◌≡◌, ◌<◌, ℕ, List, All, length, sym, subst, arith}
use Rattle.prem_mail.specs.Mailing.{Mailing}
use Rattle.prem_mail.proofs.mail.Mail.lose.Goals as goal

pub overflow_add-index_mut : goal.overflow_add-index_mut
overflow_add-index_mut g c =
    let m = c.self.inside in
    let now : ℕ = c.index_mut.result.now in
    let lost : List ℕ = m.lost.items in
    let ended : ℕ = c.args.ended in
    let room : All (λ n. n < ended) lost = subst (λ (x : Mailing). All (λ n. n < ended) x.mailed.mail.lost) (sym c.self.view_is) c.requires.room in
    let inside : c.args.task < length m.machine.setup.tasks = subst (λ (x : Mailing). c.args.task < length x.setup.tasks) (sym c.self.view_is) c.requires.task in
    let count : length lost ≡ length m.machine.setup.tasks = c.self.invariant.counts in
    let is : c.from.result ≡ c.args.task = c.from.ensures in
    let there : c.from.result < length lost = omega (arith, inside, count, is) in
    let low : slice_index_or lost c.from.result now < ended = room c.from.result now there in
    let value : now ≡ slice_index_or lost c.from.result now = c.index_mut.ensures.value in
    let fits = c.ranges.ended.fits in
    omega (arith, low, value, fits)
