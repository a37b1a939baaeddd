use Rattle.std.proofs.Common.{Err, ap, inl, inr, sym, ◌∙◌}
use Rattle.tsdb_model.specs.declared.reply.Reply.TheVariants.{Lines, Plain}
use Rattle.tsdb_querying.proofs.Answered.{fault_kind, fault_read, has_risen, is_failed}
use Rattle.tsdb_querying.proofs.Untold.{rose_untold}
use Rattle.tsdb_querying.proofs.reading.read_rows.Goals as goal

pub returns-in-Ok-clause-read : goal.returns-in-Ok-clause-read
returns-in-Ok-clause-read g c = λ world tells. inl (ap Lines (c.of.ensures ∙ c.in-Ok.ensures.rows tells.pages
    tells.true_are tells.told tells.shown world tells.points tells.is tells.stands))

pub returns-in-Ok-clause-cause : goal.returns-in-Ok-clause-cause
returns-in-Ok-clause-cause g c = λ world tells is. absurd cc

pub returns-in-Ok-clause-untold : goal.returns-in-Ok-clause-untold
returns-in-Ok-clause-untold g c = λ untold is. absurd cc

pub returns-in-Err-clause-read : goal.returns-in-Err-clause-read
returns-in-Err-clause-read g c = λ world tells. inr (fault_read c.in-Err.fault c.answer_to.result c.answer_to.ensures)

pub returns-in-Err-clause-kind : goal.returns-in-Err-clause-kind
returns-in-Err-clause-kind g c = fault_kind c.in-Err.fault c.answer_to.result c.answer_to.ensures

pub returns-in-Err-clause-cause : goal.returns-in-Err-clause-cause
returns-in-Err-clause-cause g c = λ world tells is. has_risen (g.F.Port.Counted.faults c.args.port.now)
    (g.F.Port.Counted.faults c.select.new.port) c.select.result
    (c.select.ensures.reason tells.pages tells.true_are) tells.told_are
    (c.in-Err.is ∙ ap Err (is_failed c.in-Err.fault (ap Plain (sym c.answer_to.ensures) ∙ is)))

pub returns-in-Err-clause-untold : goal.returns-in-Err-clause-untold
returns-in-Err-clause-untold g c = λ untold is. rose_untold g.F.Right.ReadRight.file g.F.Right.ReadRight.tells
    (g.F.Port.Port.store c.args.port.now) untold c.args.pin.now.columns c.requires.of_store
    (g.F.Port.Counted.faults c.args.port.now) (g.F.Port.Counted.faults c.select.new.port) c.select.result
    c.select.ensures.reason
    (c.in-Err.is ∙ ap Err (is_failed c.in-Err.fault (ap Plain (sym c.answer_to.ensures) ∙ is)))
