use Rattle.std.proofs.Common.{arith, refl, subst, sym}
use Rattle.tsdb_memory.proofs.Following.{creation_follows}
use Rattle.tsdb_core.proofs.Out.{files_handed}
use Rattle.tsdb_core.specs.Core.{logged_of}
use Rattle.tsdb_memory.specs.Commands.{create_record}
use Rattle.tsdb_memory.specs.LogState.{memory_of}
use Rattle.tsdb_model.specs.declared.command.Command.TheVariants.{Create}
use Rattle.tsdb_serving.proofs.Answered.{HasStamp, allowed, answered, create_stamp, stamp_is, world_is}
use Rattle.tsdb_serving.specs.Serving.{IsDrawn}
use Rattle.tsdb_memory.specs.Answers.{IsRefusal}
use Rattle.tsdb_serving.proofs.Full.{by_stamp}
use Rattle.tsdb_serving.proofs.changes.create.Goals as goal

pub returns-clause-answers : goal.returns-clause-answers
returns-clause-answers g c = λ loans files at next serving. answered g.J.Disk.lawful (IsDrawn c.args.core.now c.create.new.self)
    c.args.core.now c.create.new.self (create_record c.args.schema.now) (Create c.args.schema.now) (λ store. refl) loans files at
    next serving c.create.result c.create.ensures.command
    (λ outside state seen. (creation_follows outside.told (memory_of (logged_of c.args.core.now)) state.store
    seen.sound.memory seen.sound.stored.order.store c.args.schema.now c.create.result c.requires
    c.create.ensures.answer).leads)
    refl (c.create.ensures.map.answers at.world (world_is loans c.args.core.now files at next serving))
    (allowed at (Create c.args.schema.now) (λ is. absurd cc) refl c.create.result
    (c.create.ensures.map.answers at.world (world_is loans c.args.core.now files at next serving))
    (subst (λ stamp. HasStamp stamp c.create.result) (stamp_is loans c.args.core.now files at next serving)
    (create_stamp (memory_of (logged_of c.args.core.now)) c.args.schema.now.path c.create.result
    c.create.ensures.answer)))

pub returns-clause-keeps_all : goal.returns-clause-keeps_all
returns-clause-keeps_all g c = files_handed c.args.core.now c.create.new.self c.create.ensures.command.kept

pub returns-clause-stays : goal.returns-clause-stays
returns-clause-stays g c = let next = c.create.ensures.command.kept.next in
    record { slot = c.create.ensures.command.slot; next = omega (arith, next) }

pub returns-clause-draws : goal.returns-clause-draws
returns-clause-draws g c = c.create.ensures.command.kept.next

pub returns-clause-full : goal.returns-clause-full
returns-clause-full g c = by_stamp c.args.core.now c.create.new.self c.create.result
    (create_stamp (memory_of (logged_of c.args.core.now)) c.args.schema.now.path c.create.result c.create.ensures.answer)
    (λ counter is. c.create.ensures.command.refused (subst IsRefusal (sym is) tt))

pub returns-clause-files : goal.returns-clause-files
returns-clause-files g c = c.create.ensures.command.kept.files
