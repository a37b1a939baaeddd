use Rattle.std.proofs.Common.{◌<◌, subst, sym}
use Rattle.std.specs.List.{AllByRecursion as Each}
use Rattle.tsdb_core.specs.Core.{files_of}
use Rattle.tsdb_memory.specs.Store.{MemoryState}
use Rattle.tsdb_serving.proofs.Flushes.{taken_or_not}
use Rattle.tsdb_serving.proofs.Read.{still_read}
use Rattle.tsdb_serving.proofs.flushing.take_flush.Goals as goal

pub returns-clause-none : goal.returns-clause-none
returns-clause-none g c = λ is. subst (λ (store : MemoryState). Each (λ pair. c.args.upto.0 < pair.born) store.frozen)
    (sym c.take_flush.ensures.memory.memory) (c.take_flush.ensures.none is)

pub returns-clause-taken : goal.returns-clause-taken
returns-clause-taken g c = taken_or_not g.J.Disk.lawful c.args.core.now c.take_flush.new.self
    c.take_flush.ensures.memory g.F.Right.ReadRight.file c.take_flush.result c.take_flush.ensures.taken

pub returns-clause-memory : goal.returns-clause-memory
returns-clause-memory g c = c.take_flush.ensures.memory.memory

pub returns-clause-files : goal.returns-clause-files
returns-clause-files g c = still_read (files_of c.args.core.now) (files_of c.take_flush.new.self)
    c.take_flush.ensures.memory.lists.outgoing c.take_flush.ensures.memory.places.files
