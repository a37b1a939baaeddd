use Rattle.std.proofs.Common.{◌∙◌, sym}
use Rattle.tsdb_history.proofs.Replies.{fault_is_not_done, writes_flush, writing_done, writing_failed}
use Rattle.tsdb_querying.proofs.Causes.{full_cause}
use Rattle.tsdb_model.specs.declared.reply.Reply.TheVariants.{Plain}
use Rattle.tsdb_base.specs.declared.answers.Answer.TheVariants.{Done}
use Rattle.tsdb_querying.proofs.ServingFull.{by_number, next_counter, no_full}
use Rattle.tsdb_history.proofs.serving.serve_flush.Goals as goal

pub returns-in-Ok-clause-answers : goal.returns-in-Ok-clause-answers
returns-in-Ok-clause-answers g c = λ tells. writing_done _ writes_flush c.args.core.now c.flush.new.core (c.flush.ensures.goes_on.keeps tells)

pub returns-in-Err-clause-answers : goal.returns-in-Err-clause-answers
returns-in-Err-clause-answers g c = λ tells. writing_failed _ writes_flush c.args.core.now c.flush.new.core
    (c.flush.ensures.goes_on.keeps tells) c.in-Err.fault (full_cause _ _ _ _ _ c.in-Err.fault c.in-Err.ensures.cause)
    c.answer.result c.answer.ensures

pub returns-in-Err-clause-flushed : goal.returns-in-Err-clause-flushed
returns-in-Err-clause-flushed g c = λ done. absurd (fault_is_not_done c.in-Err.fault (sym c.answer.ensures ∙ done))

pub returns-in-Ok-clause-full : goal.returns-in-Ok-clause-full
returns-in-Ok-clause-full g c = no_full c.flush.new.core (Plain Done) (λ counter is. absurd cc)

pub returns-in-Err-clause-full : goal.returns-in-Err-clause-full
returns-in-Err-clause-full g c = by_number c.args.core.now c.flush.new.core c.answer.result
    (next_counter _ _ _ _ _ c.in-Err.fault c.in-Err.ensures.cause c.answer.result c.answer.ensures)

pub returns-in-Ok-clause-serves : goal.returns-in-Ok-clause-serves
returns-in-Ok-clause-serves g c = c.flush.ensures.goes_on.serves

pub returns-in-Err-clause-serves : goal.returns-in-Err-clause-serves
returns-in-Err-clause-serves g c = c.flush.ensures.goes_on.serves
