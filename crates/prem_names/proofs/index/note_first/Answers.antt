use Rattle.std.proofs.Common.{rules}
use Rattle.prem_names.proofs.Firsts.{put_new}
use Rattle.prem_names.proofs.index.note_first.Goals as goal

pub returns-in_ok-insert-clause-ok : goal.returns-in_ok-insert-clause-ok
returns-in_ok-insert-clause-ok c =
    put_new c.args.firsts.now c.args.name c.args.number c.get.result c.insert.new.self.entries c.get.ensures.value (search rules) c.in_ok-insert.ensures.entries
