use Rattle.std.proofs.Common.{subst, sym}
use Rattle.tsdb_memory.specs.Fits.{HasNoPairPoint}
use Rattle.tsdb_memtable.specs.Pairs.{Pair}
use Rattle.flush_tests.proofs.taking.freeze.Goals as goal

pub finish_freeze-requires-clause-some : goal.finish_freeze-requires-clause-some
finish_freeze-requires-clause-some c = subst (λ (p : Pair). ¬ HasNoPairPoint p) (sym c.in_ok-freezing.ensures.working)
    (c.is_idle.ensures.some c.if-is_idle.false)
