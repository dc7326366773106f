use Rattle.std.proofs.Common.{◌≡◌, length, rules}
use Rattle.prem_names.proofs.Firsts.{firsts_put}
use Rattle.prem_names.proofs.index.Index.push.Goals as goal

pub invariant_of-self-2 : goal.invariant_of-self-2
invariant_of-self-2 c =
    let names = c.self.inside.names.items in
    let count : c.len.result ≡ length names = search rules in
    rw (c.in_ok-note_first.ensures.ok, c.push_reserved.ensures.items, c.in_ok-reserve.ensures.items, count) (firsts_put c.self.inside.firsts.entries names c.args.name c.self.invariant)
