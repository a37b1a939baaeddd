use Rattle.std.proofs.Common.{◌∙◌, arith, refl, subst, sym}
use Rattle.tsdb_model.specs.declared.command.Command.TheVariants.{Select}
use Rattle.tsdb_model.specs.declared.reply.Reply.TheVariants.{Plain}
use Rattle.tsdb_querying.specs.Serving.{ServesCommand}
use Rattle.tsdb_querying.specs.Sweeping.{AreOutgoingRead}
use Rattle.tsdb_querying.proofs.ServingFull.{no_full}
use Rattle.tsdb_querying.proofs.Flushes.{serves_alone, serves_within, stays_same}
use Rattle.tsdb_querying.proofs.Swept.{read_without_faults}
use Rattle.tsdb_history.proofs.serving.serve.Goals as goal

pub returns-in-Create-clause-answers : goal.returns-in-Create-clause-answers
returns-in-Create-clause-answers g c = λ tells.
    subst (λ command. ServesCommand c.args.core.now c.create.new.core command (Plain c.create.result)) (sym c.in-Create.is)
    c.create.ensures.answers

pub returns-in-Insert-clause-answers : goal.returns-in-Insert-clause-answers
returns-in-Insert-clause-answers g c = λ tells.
    subst (λ command. ServesCommand c.args.core.now c.insert.new.core command (Plain c.insert.result)) (sym c.in-Insert.is)
    (c.insert.ensures.answers tells)

pub returns-in-Delete-clause-answers : goal.returns-in-Delete-clause-answers
returns-in-Delete-clause-answers g c = λ tells.
    subst (λ command. ServesCommand c.args.core.now c.delete.new.core command (Plain c.delete.result)) (sym c.in-Delete.is)
    c.delete.ensures.answers

pub returns-in-Select-clause-answers : goal.returns-in-Select-clause-answers
returns-in-Select-clause-answers g c = λ tells.
    subst (λ command. ServesCommand c.args.core.now c.query.new.core command c.query.result) (sym c.in-Select.is)
    (subst (λ items. ServesCommand c.args.core.now c.query.new.core (Select c.in-Select.device items c.in-Select.range)
    c.query.result) c.items.ensures c.query.ensures.answers)

pub returns-in-Flush-clause-answers : goal.returns-in-Flush-clause-answers
returns-in-Flush-clause-answers g c = λ tells.
    subst (λ command. ServesCommand c.args.core.now c.serve_flush.new.core command (Plain c.serve_flush.result)) (sym c.in-Flush.is)
    (c.serve_flush.ensures.answers tells)

pub returns-in-ShowFiles-clause-answers : goal.returns-in-ShowFiles-clause-answers
returns-in-ShowFiles-clause-answers g c = λ tells.
    subst (λ command. ServesCommand c.args.core.now c.args.core.now command c.serve_show.result) (sym c.in-ShowFiles.is)
    c.serve_show.ensures.answers

pub returns-in-CompactInner-clause-answers : goal.returns-in-CompactInner-clause-answers
returns-in-CompactInner-clause-answers g c = λ tells.
    subst (λ command. ServesCommand c.args.core.now c.serve_inner.new.core command (Plain c.serve_inner.result))
    (sym c.in-CompactInner.is) (c.serve_inner.ensures.answers tells)

pub returns-in-CompactCross-clause-answers : goal.returns-in-CompactCross-clause-answers
returns-in-CompactCross-clause-answers g c = λ tells.
    subst (λ command. ServesCommand c.args.core.now c.serve_cross.new.core command (Plain c.serve_cross.result))
    (sym c.in-CompactCross.is) (c.serve_cross.ensures.answers tells)

pub returns-in-Select-clause-full : goal.returns-in-Select-clause-full
returns-in-Select-clause-full g c = no_full c.query.new.core c.query.result c.query.ensures.no_full

pub returns-in-ShowFiles-clause-full : goal.returns-in-ShowFiles-clause-full
returns-in-ShowFiles-clause-full g c = no_full c.args.core.now c.serve_show.result c.serve_show.ensures.no_full

pub returns-in-Create-clause-listed : goal.returns-in-Create-clause-listed
returns-in-Create-clause-listed g c = λ listing asked is. absurd (let same = sym asked ∙ c.in-Create.is in cc)

pub returns-in-Insert-clause-listed : goal.returns-in-Insert-clause-listed
returns-in-Insert-clause-listed g c = λ listing asked is. absurd (let same = sym asked ∙ c.in-Insert.is in cc)

pub returns-in-Delete-clause-listed : goal.returns-in-Delete-clause-listed
returns-in-Delete-clause-listed g c = λ listing asked is. absurd (let same = sym asked ∙ c.in-Delete.is in cc)

pub returns-in-Select-clause-listed : goal.returns-in-Select-clause-listed
returns-in-Select-clause-listed g c = λ listing asked is. absurd (let same = sym asked ∙ c.in-Select.is in cc)

pub returns-in-Flush-clause-listed : goal.returns-in-Flush-clause-listed
returns-in-Flush-clause-listed g c = λ listing asked is. absurd (let same = sym asked ∙ c.in-Flush.is in cc)

pub returns-in-CompactInner-clause-listed : goal.returns-in-CompactInner-clause-listed
returns-in-CompactInner-clause-listed g c = λ listing asked is.
    absurd (let same = sym asked ∙ c.in-CompactInner.is in cc)

pub returns-in-CompactCross-clause-listed : goal.returns-in-CompactCross-clause-listed
returns-in-CompactCross-clause-listed g c = λ listing asked is.
    absurd (let same = sym asked ∙ c.in-CompactCross.is in cc)

pub returns-in-ShowFiles-clause-listed : goal.returns-in-ShowFiles-clause-listed
returns-in-ShowFiles-clause-listed g c = λ listing asked is. c.serve_show.ensures.listed listing is

pub returns-in-Create-clause-shown : goal.returns-in-Create-clause-shown
returns-in-Create-clause-shown g c = λ asked. absurd (let same = sym asked ∙ c.in-Create.is in cc)

pub returns-in-Insert-clause-shown : goal.returns-in-Insert-clause-shown
returns-in-Insert-clause-shown g c = λ asked. absurd (let same = sym asked ∙ c.in-Insert.is in cc)

pub returns-in-Delete-clause-shown : goal.returns-in-Delete-clause-shown
returns-in-Delete-clause-shown g c = λ asked. absurd (let same = sym asked ∙ c.in-Delete.is in cc)

pub returns-in-Select-clause-shown : goal.returns-in-Select-clause-shown
returns-in-Select-clause-shown g c = λ asked. absurd (let same = sym asked ∙ c.in-Select.is in cc)

pub returns-in-Flush-clause-shown : goal.returns-in-Flush-clause-shown
returns-in-Flush-clause-shown g c = λ asked. absurd (let same = sym asked ∙ c.in-Flush.is in cc)

pub returns-in-CompactInner-clause-shown : goal.returns-in-CompactInner-clause-shown
returns-in-CompactInner-clause-shown g c = λ asked. absurd (let same = sym asked ∙ c.in-CompactInner.is in cc)

pub returns-in-CompactCross-clause-shown : goal.returns-in-CompactCross-clause-shown
returns-in-CompactCross-clause-shown g c = λ asked. absurd (let same = sym asked ∙ c.in-CompactCross.is in cc)

pub returns-in-ShowFiles-clause-shown : goal.returns-in-ShowFiles-clause-shown
returns-in-ShowFiles-clause-shown g c = λ asked. refl

pub returns-in-Create-clause-swept : goal.returns-in-Create-clause-swept
returns-in-Create-clause-swept g c = λ read calm none. subst AreOutgoingRead (sym c.create.ensures.files) read

pub returns-in-Delete-clause-swept : goal.returns-in-Delete-clause-swept
returns-in-Delete-clause-swept g c = λ read calm none. subst AreOutgoingRead (sym c.delete.ensures.files) read

pub returns-in-Insert-clause-swept : goal.returns-in-Insert-clause-swept
returns-in-Insert-clause-swept g c = c.insert.ensures.swept

pub returns-in-ShowFiles-clause-swept : goal.returns-in-ShowFiles-clause-swept
returns-in-ShowFiles-clause-swept g c = λ read calm none. read

pub returns-in-Select-clause-swept : goal.returns-in-Select-clause-swept
returns-in-Select-clause-swept g c = λ read. read_without_faults c.query.new.core (g.F.Port.Counted.faults c.args.port.now)
    (g.F.Port.Counted.faults c.query.new.port) c.query.ensures.swept

pub returns-in-Flush-clause-swept : goal.returns-in-Flush-clause-swept
returns-in-Flush-clause-swept g c = λ read. read_without_faults c.serve_flush.new.core (g.F.Port.Counted.faults c.args.port.now)
    (g.F.Port.Counted.faults c.serve_flush.new.port) c.serve_flush.ensures.swept

pub returns-in-CompactInner-clause-swept : goal.returns-in-CompactInner-clause-swept
returns-in-CompactInner-clause-swept g c = λ read. read_without_faults c.serve_inner.new.core (g.F.Port.Counted.faults c.args.port.now)
    (g.F.Port.Counted.faults c.serve_inner.new.port) c.serve_inner.ensures.swept

pub returns-in-CompactCross-clause-swept : goal.returns-in-CompactCross-clause-swept
returns-in-CompactCross-clause-swept g c = λ read. read_without_faults c.serve_cross.new.core (g.F.Port.Counted.faults c.args.port.now)
    (g.F.Port.Counted.faults c.serve_cross.new.port) c.serve_cross.ensures.swept

pub returns-in-Create-clause-serves : goal.returns-in-Create-clause-serves
returns-in-Create-clause-serves g c = serves_within g.F.Port.Port.store g.F.Port.Counted.faults c.args.port.now c.args.port.now
    c.args.core.now c.create.new.core 0 6 (omega arith)
    (serves_alone g.F.Port.Port.store g.F.Port.Counted.faults c.args.port.now c.args.core.now c.create.new.core
    (c.create.ensures.keeps_all (g.F.Port.Port.store c.args.port.now)) c.create.ensures.stays
    c.create.ensures.draws c.create.ensures.later)

pub returns-in-Delete-clause-serves : goal.returns-in-Delete-clause-serves
returns-in-Delete-clause-serves g c = serves_within g.F.Port.Port.store g.F.Port.Counted.faults c.args.port.now c.args.port.now
    c.args.core.now c.delete.new.core 0 6 (omega arith)
    (serves_alone g.F.Port.Port.store g.F.Port.Counted.faults c.args.port.now c.args.core.now c.delete.new.core
    (c.delete.ensures.keeps_all (g.F.Port.Port.store c.args.port.now)) c.delete.ensures.stays
    c.delete.ensures.draws c.delete.ensures.later)

pub returns-in-Insert-clause-serves : goal.returns-in-Insert-clause-serves
returns-in-Insert-clause-serves g c = serves_within g.F.Port.Port.store g.F.Port.Counted.faults c.args.port.now
    c.insert.new.port c.args.core.now c.insert.new.core 2 6 (omega arith) c.insert.ensures.serves

pub returns-in-Select-clause-serves : goal.returns-in-Select-clause-serves
returns-in-Select-clause-serves g c = serves_within g.F.Port.Port.store g.F.Port.Counted.faults c.args.port.now
    c.query.new.port c.args.core.now c.query.new.core 0 6 (omega arith) c.query.ensures.serves

pub returns-in-Flush-clause-serves : goal.returns-in-Flush-clause-serves
returns-in-Flush-clause-serves g c = serves_within g.F.Port.Port.store g.F.Port.Counted.faults c.args.port.now
    c.serve_flush.new.port c.args.core.now c.serve_flush.new.core 6 6 (omega arith) c.serve_flush.ensures.serves

pub returns-in-CompactInner-clause-serves : goal.returns-in-CompactInner-clause-serves
returns-in-CompactInner-clause-serves g c = serves_within g.F.Port.Port.store g.F.Port.Counted.faults c.args.port.now
    c.serve_inner.new.port c.args.core.now c.serve_inner.new.core 1 6 (omega arith) c.serve_inner.ensures.serves

pub returns-in-CompactCross-clause-serves : goal.returns-in-CompactCross-clause-serves
returns-in-CompactCross-clause-serves g c = serves_within g.F.Port.Port.store g.F.Port.Counted.faults c.args.port.now
    c.serve_cross.new.port c.args.core.now c.serve_cross.new.core 1 6 (omega arith) c.serve_cross.ensures.serves

pub returns-in-ShowFiles-clause-serves : goal.returns-in-ShowFiles-clause-serves
returns-in-ShowFiles-clause-serves g c = serves_within g.F.Port.Port.store g.F.Port.Counted.faults c.args.port.now c.args.port.now
    c.args.core.now c.args.core.now 0 6 (omega arith)
    (serves_alone g.F.Port.Port.store g.F.Port.Counted.faults c.args.port.now c.args.core.now c.args.core.now (λ out kept. kept)
    (stays_same c.args.core.now) refl (omega arith))
