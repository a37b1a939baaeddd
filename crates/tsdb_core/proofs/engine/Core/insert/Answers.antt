use Rattle.tsdb_core.proofs.RowLemmas.{row_counts, row_follows, row_kept, tried_answer, untouched_counts, untouched_follows}
use Rattle.tsdb_core.proofs.RowMoments.{still_leaves}
use Rattle.tsdb_memory.specs.LogState.{memory_of}
use Rattle.tsdb_core.proofs.engine.Core.insert.Goals as goal

pub returns-in-Ok-clause-map : goal.returns-in-Ok-clause-map
returns-in-Ok-clause-map g c = row_follows c.args.device.now c.args.row.now c.args.self.now c.put_row.new.self
    c.put_row.result
    (tried_answer (memory_of c.args.self.now.logged) c.args.device.now c.args.row.now c.in-Ok.cells c.put_row.result
    c.in-Ok.ensures.cells c.in-Ok.ensures.stamp c.put_row.ensures.tried) c.put_row.ensures.world

pub returns-in-Ok-clause-kept : goal.returns-in-Ok-clause-kept
returns-in-Ok-clause-kept g c = row_kept c.args.device.now c.args.row.now c.args.self.now c.put_row.new.self
    c.put_row.result c.put_row.ensures.row

pub returns-in-Err-clause-map : goal.returns-in-Err-clause-map
returns-in-Err-clause-map g c = untouched_follows c.args.device.now c.args.row.now c.args.self.now c.in-Err.answer
    c.in-Err.ensures.answer c.in-Err.ensures.untouched

pub returns-in-Err-clause-moments : goal.returns-in-Err-clause-moments
returns-in-Err-clause-moments g c = still_leaves c.args.device.now c.args.row.now c.args.self.now

pub returns-in-Ok-clause-memory : goal.returns-in-Ok-clause-memory
returns-in-Ok-clause-memory g c = row_counts c.args.device.now c.args.row.now c.args.self.now c.put_row.new.self
    c.put_row.result c.put_row.ensures.row

pub returns-in-Err-clause-memory : goal.returns-in-Err-clause-memory
returns-in-Err-clause-memory g c = untouched_counts c.args.self.now c.in-Err.answer c.in-Err.ensures.untouched
