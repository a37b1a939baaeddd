use Rattle.std.proofs.Common.{ap, subst, sym}
use Rattle.tsdb_memory.specs.LogState.{log_of}
use Rattle.tsdb_model.specs.declared.command.Command.TheVariants.{Select}
use Rattle.tsdb_model.specs.declared.reply.Reply.TheVariants.{Plain}
use Rattle.tsdb_querying.proofs.Answered.{refused}
use Rattle.tsdb_querying.proofs.Pinned.{lends_pin, stays_unpinned}
use Rattle.tsdb_serving.specs.Serving.{ServesCommand}
use Rattle.tsdb_querying.proofs.pinning.pin.Goals as goal

pub returns-in-Ok-clause-taken : goal.returns-in-Ok-clause-taken
returns-in-Ok-clause-taken g c = lends_pin g.F.Right.ReadRight.file c.args.core.now c.pin.new.self c.in-Ok.pin
    c.in-Ok.ensures.taken c.args.device.now c.args.items.now c.args.range.now c.sound.ensures.of_store
    c.in-Ok.ensures.answer c.in-Ok.ensures.pin

pub returns-in-Err-clause-refused : goal.returns-in-Err-clause-refused
returns-in-Err-clause-refused g c = (c.in-Err.fault, c.refusal_of.ensures, c.in-Err.ensures.answer)

pub returns-in-Err-clause-answers : goal.returns-in-Err-clause-answers
returns-in-Err-clause-answers g c = subst (λ answer. ServesCommand c.args.core.now c.pin.new.self
    (Select c.args.device.now c.args.items.now c.args.range.now) (Plain answer)) (sym c.refusal_of.ensures)
    (refused g.J.Disk.lawful c.args.core.now c.pin.new.self (ap (λ logged. log_of logged) c.in-Err.ensures.not.rest.logged)
    (stays_unpinned g.J.Disk.lawful c.args.core.now c.pin.new.self c.in-Err.ensures.not).keeps c.args.device.now
    c.args.items.now c.args.range.now c.in-Err.fault c.in-Err.ensures.answer)

pub returns-in-Err-clause-not : goal.returns-in-Err-clause-not
returns-in-Err-clause-not g c = stays_unpinned g.J.Disk.lawful c.args.core.now c.pin.new.self c.in-Err.ensures.not
