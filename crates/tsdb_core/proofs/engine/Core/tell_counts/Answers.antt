use Rattle.std.proofs.Common.{subst}
use Rattle.tsdb_core.proofs.RowLemmas.{counts_told}
use Rattle.tsdb_memory.specs.LogState.{memory_of}
use Rattle.tsdb_memtable.specs.Pairs.{HasRisingSeries}
use Rattle.tsdb_core.proofs.engine.Core.tell_counts.Goals as goal

pub returns : goal.returns
returns g c = counts_told c.memory-memory.result.now (memory_of c.args.self.now.logged) c.memory-memory.ensures
    c.sound.ensures (subst HasRisingSeries c.working.ensures c.sound-2.ensures)
