use Rattle.std.proofs.Common.{◌∷◌, arith, ap, subst, sym, ◌∙◌}
use Rattle.tsdb_frames.proofs.CallLemmas.{same_keeps_to_slot}
use Rattle.tsdb_frames.specs.Frames.{faults_of}
use Rattle.tsdb_memory.specs.LogState.{log_of}
use Rattle.tsdb_model.specs.declared.command.Command.TheVariants.{Select}
use Rattle.tsdb_model.specs.declared.reply.Reply.TheVariants.{Plain}
use Rattle.tsdb_querying.proofs.Answered.{never_full, refusal_no_device, refusal_no_full, replied}
use Rattle.tsdb_querying.proofs.Selected.{first_pin, over_pin, plain_is}
use Rattle.tsdb_serving.proofs.Causes.{rose_on}
use Rattle.tsdb_serving.proofs.Out.{pin_is_held}
use Rattle.tsdb_serving.proofs.Swept.{answers_swept, faults_swept, read_since, stays_swept}
use Rattle.tsdb_serving.specs.Flushing.{EndsLoan}
use Rattle.tsdb_serving.specs.Serving.{log_under}
use Rattle.tsdb_serving.specs.declared.loan.Loan.TheVariants as loan
use Rattle.tsdb_pins.specs.Reading.{AreColumnsOf}
use Rattle.tsdb_querying.proofs.query.select.Goals as goal

pub read_pin-reply-requires-clause-nodes : goal.read_pin-reply-requires-clause-nodes
read_pin-reply-requires-clause-nodes g c = λ lifetimes lives. c.in-Ok.ensures.taken.nodes

pub read_pin-reply-requires-clause-of_store : goal.read_pin-reply-requires-clause-of_store
read_pin-reply-requires-clause-of_store g c = λ lifetimes lives.
    subst (λ store. AreColumnsOf g.F.Right.ReadRight.file store c.in-Ok.pin.columns) (sym c.requires.ready.1.of_store)
    c.in-Ok.ensures.taken.of_store

pub unpin-requires-clause-held : goal.unpin-requires-clause-held
unpin-requires-clause-held g c = λ lifetimes lives. pin_is_held g.F.Right.ReadRight.file c.pin.new.core c.in-Ok.pin
    (g.F.Port.Port.store c.args.port.now) c.requires.ready.0
    (c.in-Ok.ensures.taken.turn.lends (g.F.Port.Port.store c.args.port.now) c.requires.ready.0 c.requires.ready.1)

pub unpin-requires-clause-store : goal.unpin-requires-clause-store
unpin-requires-clause-store g c = λ lifetimes lives. c.read_pin-reply.ensures.same_store
    ∙ (c.in-Ok.ensures.taken.turn.lends (g.F.Port.Port.store c.args.port.now) c.requires.ready.0
    c.requires.ready.1).of_store

pub returns-in-Ok-clause-answers : goal.returns-in-Ok-clause-answers
returns-in-Ok-clause-answers g c = replied g.J.Disk.lawful c.args.core.now c.unpin.new.core
    (ap (λ logged. log_of logged) c.unpin.ensures.log ∙ c.in-Ok.ensures.taken.turn.log)
    (λ loans files at next serving. c.unpin.ensures.keeps loans (loan.Pin c.in-Ok.pin ∷ loans) files at next
    (first_pin c.in-Ok.pin loans) (c.in-Ok.ensures.taken.turn.serves loans files at next serving))
    c.args.device.now c.args.items.now c.args.range.now c.read_pin-reply.result c.read_pin-reply.ensures.kind
    (λ loans files at next serving. c.read_pin-reply.ensures.read c.args.device.now c.args.range.now at.world
    (c.in-Ok.ensures.taken.tells loans files at next serving)
    (c.in-Ok.ensures.taken.replies loans files at next serving))

pub returns-in-Ok-clause-swept : goal.returns-in-Ok-clause-swept
returns-in-Ok-clause-swept g c = read_since (g.F.Port.Counted.faults c.args.port.now)
    (g.F.Port.Counted.faults c.read_pin-reply.new.port) (g.F.Port.Counted.faults c.unpin.new.port) c.unpin.new.core
    c.read_pin-reply.ensures.later c.unpin.ensures.swept

pub returns-in-Ok-clause-keeps_all : goal.returns-in-Ok-clause-keeps_all
returns-in-Ok-clause-keeps_all g c = over_pin g.F.Right.ReadRight.file (g.F.Port.Port.store c.args.port.now)
    c.args.core.now c.pin.new.core c.unpin.new.core c.in-Ok.pin
    (c.in-Ok.ensures.taken.turn.lends (g.F.Port.Port.store c.args.port.now))
    (subst (λ store. EndsLoan g.F.Right.ReadRight.file store (loan.Pin c.in-Ok.pin) c.pin.new.core c.unpin.new.core)
    c.read_pin-reply.ensures.same_store c.unpin.ensures.ends).back

pub returns-in-Ok-clause-stays : goal.returns-in-Ok-clause-stays
returns-in-Ok-clause-stays g c = record {
  slot = same_keeps_to_slot (log_under c.args.core.now) (log_under c.unpin.new.core)
      (ap (λ logged. log_of logged) c.unpin.ensures.log ∙ c.in-Ok.ensures.taken.turn.log);
  next = omega (arith, c.unpin.ensures.ends.next, c.in-Ok.ensures.taken.turn.next);
}

pub returns-in-Ok-clause-draws : goal.returns-in-Ok-clause-draws
returns-in-Ok-clause-draws g c = omega (arith, c.unpin.ensures.ends.next, c.in-Ok.ensures.taken.turn.next)

pub returns-in-Ok-clause-no_full : goal.returns-in-Ok-clause-no_full
returns-in-Ok-clause-no_full g c = never_full c.read_pin-reply.result c.read_pin-reply.ensures.kind

pub returns-in-Ok-clause-cause : goal.returns-in-Ok-clause-cause
returns-in-Ok-clause-cause g c = λ loans files at next serving is. rose_on (g.F.Port.Counted.faults c.args.port.now)
    (g.F.Port.Counted.faults c.read_pin-reply.new.port) (g.F.Port.Counted.faults c.unpin.new.port)
    (c.read_pin-reply.ensures.cause at.world (c.in-Ok.ensures.taken.tells loans files at next serving) is)
    c.unpin.ensures.later

pub returns-in-Ok-clause-untold : goal.returns-in-Ok-clause-untold
returns-in-Ok-clause-untold g c = λ untold is. rose_on (g.F.Port.Counted.faults c.args.port.now)
    (g.F.Port.Counted.faults c.read_pin-reply.new.port) (g.F.Port.Counted.faults c.unpin.new.port)
    (c.read_pin-reply.ensures.untold untold is) c.unpin.ensures.later

pub returns-in-Ok-clause-faults : goal.returns-in-Ok-clause-faults
returns-in-Ok-clause-faults g c = ap (λ logged. faults_of (log_of logged)) c.unpin.ensures.log
    ∙ ap (λ log. faults_of log) c.in-Ok.ensures.taken.turn.log

pub sweep-requires-clause-store : goal.sweep-requires-clause-store
sweep-requires-clause-store g c = λ lifetimes lives. (c.in-Err.ensures.not.keeps_all
    (g.F.Port.Port.store c.args.port.now) c.requires.ready.0 c.requires.ready.1).of_store

pub returns-in-Err-clause-answers : goal.returns-in-Err-clause-answers
returns-in-Err-clause-answers g c = answers_swept c.args.core.now c.pin.new.core c.sweep.new.core c.sweep.ensures.listed
    (Select c.args.device.now c.args.items.now c.args.range.now) (Plain c.in-Err.answer) c.in-Err.ensures.answers

pub returns-in-Err-clause-keeps_all : goal.returns-in-Err-clause-keeps_all
returns-in-Err-clause-keeps_all g c = λ out kept. c.sweep.ensures.keeps_all (g.F.Port.Port.store c.args.port.now) out
    (c.in-Err.ensures.not.keeps_all (g.F.Port.Port.store c.args.port.now) out kept)

pub returns-in-Err-clause-stays : goal.returns-in-Err-clause-stays
returns-in-Err-clause-stays g c = stays_swept c.args.core.now c.pin.new.core c.sweep.new.core c.sweep.ensures.listed
    (record {
      slot = same_keeps_to_slot (log_under c.args.core.now) (log_under c.pin.new.core) c.in-Err.ensures.not.log;
      next = omega (arith, c.in-Err.ensures.not.next);
    })

pub returns-in-Err-clause-draws : goal.returns-in-Err-clause-draws
returns-in-Err-clause-draws g c = c.sweep.ensures.listed.next ∙ c.in-Err.ensures.not.next

pub returns-in-Err-clause-no_full : goal.returns-in-Err-clause-no_full
returns-in-Err-clause-no_full g c = λ counter is. refusal_no_full c.in-Err.ensures.refused.0 c.in-Err.answer
    c.in-Err.ensures.refused.1 counter (plain_is c.in-Err.answer _ is)

pub returns-in-Err-clause-cause : goal.returns-in-Err-clause-cause
returns-in-Err-clause-cause g c = λ loans files at next serving is. absurd (refusal_no_device
    c.in-Err.ensures.refused.0 c.in-Err.answer c.in-Err.ensures.refused.1 (plain_is c.in-Err.answer _ is))

pub returns-in-Err-clause-untold : goal.returns-in-Err-clause-untold
returns-in-Err-clause-untold g c = λ untold is. absurd (refusal_no_device c.in-Err.ensures.refused.0 c.in-Err.answer
    c.in-Err.ensures.refused.1 (plain_is c.in-Err.answer _ is))

pub returns-in-Err-clause-faults : goal.returns-in-Err-clause-faults
returns-in-Err-clause-faults g c = faults_swept c.pin.new.core c.sweep.new.core c.sweep.ensures.listed
    ∙ ap (λ log. faults_of log) c.in-Err.ensures.not.log
