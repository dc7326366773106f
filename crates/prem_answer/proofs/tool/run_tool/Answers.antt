use Rattle.std.specs.Prelude.{Ok, Err, map, string_bytes}
use Rattle.prem_answer.specs.Stages.{reply_of}
use Rattle.prem_answer.proofs.Told.{complete_is, given_is_answered, given_is_settled, no_memory_is, not_read_fault, read_fault_is}
use Rattle.prem_answer.proofs.tool.run_tool.Goals as goal

pub finish-requires : goal.finish-requires
finish-requires g c = given_is_settled g.T.Tool.meaning c.requires (map string_bytes c.args.words.now) (g.S.Store.files c.args.store.now) (Ok (reply_of c.in-Ok.answer)) c.in-Ok.ensures.answer

pub finish-requires-in-Err-Answered : goal.finish-requires-in-Err-Answered
finish-requires-in-Err-Answered g c =
    let given = rw c.in-Err-Answered.field-0-is at c.in-Err-Answered.ensures.answer in
    given_is_settled g.T.Tool.meaning c.requires (map string_bytes c.args.words.now) (g.S.Store.files c.args.store.now) (Err (reply_of c.in-Err-Answered.answer)) given

pub returns-in-Ok-clause-answered : goal.returns-in-Ok-clause-answered
returns-in-Ok-clause-answered g c =
    given_is_answered g.T.Tool.meaning c.requires (map string_bytes c.args.words.now) (g.S.Store.files c.args.store.now)
    (Ok (reply_of c.in-Ok.answer)) _ _ _ c.in-Ok.ensures.answer c.finish.ensures.ends

pub returns-in-Err-Answered-clause-answered : goal.returns-in-Err-Answered-clause-answered
returns-in-Err-Answered-clause-answered g c =
    let given = rw c.in-Err-Answered.field-0-is at c.in-Err-Answered.ensures.answer in
    given_is_answered g.T.Tool.meaning c.requires (map string_bytes c.args.words.now) (g.S.Store.files c.args.store.now) (Err (reply_of c.in-Err-Answered.answer)) _ _ _ given
    c.finish-in-Err-Answered.ensures.ends

pub returns-in-Err-ReadFault-clause-answered : goal.returns-in-Err-ReadFault-clause-answered
returns-in-Err-ReadFault-clause-answered g c = read_fault_is g.T.Tool.meaning c.requires _ _ _

pub returns-in-Err-OutOfMemory-clause-answered : goal.returns-in-Err-OutOfMemory-clause-answered
returns-in-Err-OutOfMemory-clause-answered g c = no_memory_is g.T.Tool.meaning c.requires _ _ _

pub returns-in-Ok-clause-complete : goal.returns-in-Ok-clause-complete
returns-in-Ok-clause-complete g c unread unwritten =
    complete_is g.T.Tool.meaning c.requires _ _ _ _ _ (returns-in-Ok-clause-answered g c) (not_read_fault c.finish.result c.finish.ensures.others) (λ is. unwritten (c.finish.ensures.write is))

pub returns-in-Err-Answered-clause-complete : goal.returns-in-Err-Answered-clause-complete
returns-in-Err-Answered-clause-complete g c unread unwritten =
    complete_is g.T.Tool.meaning c.requires _ _ _ _ _ (returns-in-Err-Answered-clause-answered g c) (not_read_fault c.finish-in-Err-Answered.result c.finish-in-Err-Answered.ensures.others)
    (λ is. unwritten (c.finish-in-Err-Answered.ensures.write is))

pub returns-in-Err-OutOfMemory-clause-complete : goal.returns-in-Err-OutOfMemory-clause-complete
returns-in-Err-OutOfMemory-clause-complete g c unread unwritten =
    complete_is g.T.Tool.meaning c.requires _ _ _ _ _ (returns-in-Err-OutOfMemory-clause-answered g c) (λ is. cc) (λ is. cc)
