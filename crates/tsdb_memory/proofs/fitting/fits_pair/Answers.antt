use Rattle.std.proofs.Common.{subst}
use Rattle.tsdb_memtable.specs.Pairs.{HasRisingSeries}
use Rattle.tsdb_memory.proofs.RowLemmas.Counts.{has_counts}
use Rattle.tsdb_memory.proofs.fitting.fits_pair.Goals as goal

pub returns-clause-counts : goal.returns-clause-counts
returns-clause-counts c = λ state is.
    has_counts c.args.memory.now state c.sound.ensures
    (subst HasRisingSeries c.working.ensures c.has_place.ensures.rising) is
