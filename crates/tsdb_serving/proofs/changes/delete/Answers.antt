use Rattle.std.proofs.Common.{arith, refl, subst, sym}
use Rattle.tsdb_memory.proofs.Following.{deletion_follows}
use Rattle.tsdb_core.proofs.Out.{files_handed}
use Rattle.tsdb_core.specs.Core.{logged_of}
use Rattle.tsdb_log.specs.declared.record.LogRecord.TheVariants as item
use Rattle.tsdb_memory.specs.LogState.{memory_of}
use Rattle.tsdb_model.specs.declared.command.Command.TheVariants.{Delete}
use Rattle.tsdb_serving.proofs.Answered.{HasStamp, allowed, answered, delete_stamp, stamp_is, world_is}
use Rattle.tsdb_serving.specs.Serving.{IsDrawn}
use Rattle.tsdb_memory.specs.Answers.{IsRefusal}
use Rattle.tsdb_serving.proofs.Full.{by_stamp}
use Rattle.tsdb_serving.proofs.changes.delete.Goals as goal

pub returns-clause-answers : goal.returns-clause-answers
returns-clause-answers g c = λ loans files at next serving. answered g.J.Disk.lawful (IsDrawn c.args.core.now c.delete.new.self)
    c.args.core.now c.delete.new.self (item.Delete c.args.series.now c.args.range.now)
    (Delete c.args.series.now c.args.range.now) (λ store. refl) loans files at next serving c.delete.result
    c.delete.ensures.command
    (λ outside state seen. (deletion_follows outside.told (memory_of (logged_of c.args.core.now)) state.store
    seen.sound.memory seen.sound.stored.order.store c.args.series.now c.args.range.now c.delete.result
    c.delete.ensures.answer).leads)
    refl (c.delete.ensures.map.answers at.world (world_is loans c.args.core.now files at next serving))
    (allowed at (Delete c.args.series.now c.args.range.now) (λ is. absurd cc) refl c.delete.result
    (c.delete.ensures.map.answers at.world (world_is loans c.args.core.now files at next serving))
    (subst (λ stamp. HasStamp stamp c.delete.result) (stamp_is loans c.args.core.now files at next serving)
    (delete_stamp (memory_of (logged_of c.args.core.now)) c.args.series.now c.delete.result c.delete.ensures.answer)))

pub returns-clause-keeps_all : goal.returns-clause-keeps_all
returns-clause-keeps_all g c = files_handed c.args.core.now c.delete.new.self c.delete.ensures.command.kept

pub returns-clause-stays : goal.returns-clause-stays
returns-clause-stays g c = let next = c.delete.ensures.command.kept.next in
    record { slot = c.delete.ensures.command.slot; next = omega (arith, next) }

pub returns-clause-draws : goal.returns-clause-draws
returns-clause-draws g c = c.delete.ensures.command.kept.next

pub returns-clause-full : goal.returns-clause-full
returns-clause-full g c = by_stamp c.args.core.now c.delete.new.self c.delete.result
    (delete_stamp (memory_of (logged_of c.args.core.now)) c.args.series.now c.delete.result c.delete.ensures.answer)
    (λ counter is. c.delete.ensures.command.refused (subst IsRefusal (sym is) tt))

pub returns-clause-files : goal.returns-clause-files
returns-clause-files g c = c.delete.ensures.command.kept.files
