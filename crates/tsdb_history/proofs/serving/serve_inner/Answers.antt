use Rattle.std.proofs.Common.{◌∙◌, sym}
use Rattle.tsdb_history.proofs.Replies.{fault_is_device, fault_is_not_done, writes_inner, writing_done, writing_failed}
use Rattle.tsdb_model.specs.declared.reply.Reply.TheVariants.{Plain}
use Rattle.tsdb_base.specs.declared.answers.Answer.TheVariants.{Done}
use Rattle.tsdb_querying.proofs.ServingFull.{by_number, full_fault, no_full}
use Rattle.tsdb_history.proofs.serving.serve_inner.Goals as goal

pub returns-in-Ok-clause-answers : goal.returns-in-Ok-clause-answers
returns-in-Ok-clause-answers g c = λ tells. writing_done _ (writes_inner c.args.space) c.args.core.now c.compact_inner.new.core (c.compact_inner.ensures.goes_on.keeps tells)

pub returns-in-Err-clause-answers : goal.returns-in-Err-clause-answers
returns-in-Err-clause-answers g c = λ tells. writing_failed _ (writes_inner c.args.space) c.args.core.now c.compact_inner.new.core
    (c.compact_inner.ensures.goes_on.keeps tells) c.in-Err.fault (λ counter is. (c.in-Err.ensures.full counter is).0)
    c.answer.result c.answer.ensures

pub returns-in-Err-clause-compacted : goal.returns-in-Err-clause-compacted
returns-in-Err-clause-compacted g c = λ done. absurd (fault_is_not_done c.in-Err.fault (sym c.answer.ensures ∙ done))

pub returns-in-Err-clause-cause : goal.returns-in-Err-clause-cause
returns-in-Err-clause-cause g c = λ sure device. c.in-Err.ensures.cause sure
    (fault_is_device c.in-Err.fault (sym c.answer.ensures ∙ device))

pub returns-in-Ok-clause-full : goal.returns-in-Ok-clause-full
returns-in-Ok-clause-full g c = no_full c.compact_inner.new.core (Plain Done) (λ counter is. absurd cc)

pub returns-in-Err-clause-full : goal.returns-in-Err-clause-full
returns-in-Err-clause-full g c = by_number c.args.core.now c.compact_inner.new.core c.answer.result
    (λ counter is. (c.in-Err.ensures.full counter (full_fault c.in-Err.fault counter (sym c.answer.ensures ∙ is))).1)

pub returns-in-Ok-clause-serves : goal.returns-in-Ok-clause-serves
returns-in-Ok-clause-serves g c = c.compact_inner.ensures.goes_on.serves

pub returns-in-Err-clause-serves : goal.returns-in-Err-clause-serves
returns-in-Err-clause-serves g c = c.compact_inner.ensures.goes_on.serves
