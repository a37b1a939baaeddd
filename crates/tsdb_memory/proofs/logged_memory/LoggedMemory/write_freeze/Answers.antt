use Rattle.std.proofs.Common.{◌∙◌, ap, arith, refl, subst, sym}
use Rattle.std.proofs.lemmas.Result.{err_from_is_err_and}
use Rattle.tsdb_log.specs.declared.record.LogRecord.TheVariants.{Freeze}
use Rattle.tsdb_memory.proofs.LogLemmas.Answering.{err_not_done, same_frozen}
use Rattle.tsdb_memory.proofs.LogLemmas.Changed.{frozen_after, over_append, unchanged}
use Rattle.tsdb_memory.proofs.LogLemmas.Commanding.{logs_freeze, stops, takes_effect}
use Rattle.tsdb_memory.proofs.LogLemmas.Steps.{out_of_memory}
use Rattle.tsdb_memory.specs.Changes.{HasFrozen}
use Rattle.tsdb_memory.specs.Commands.{CanStop}
use Rattle.tsdb_memory.specs.Fits.{HasNoPairPoint}
use Rattle.tsdb_memory.specs.LogState.{memory_of}
use Rattle.tsdb_memory.specs.Store.{MemoryState, frozen_with_working}
use Rattle.tsdb_memtable.specs.Pairs.{Pair}
use Rattle.tsdb_memory.proofs.logged_memory.LoggedMemory.write_freeze.Goals as goal

pub returns-in_err-freezing-clause-command : goal.returns-in_err-freezing-clause-command
returns-in_err-freezing-clause-command g c =
    let p = err_from_is_err_and c.from_residual.result c.from_residual.ensures.1 in
    rw (p.1, p.2) (out_of_memory c.args.self.now (record c.args.self.now { memory = c.prepare_freeze.new.self }) Freeze
    CanStop (record {
      log = record { log = refl; doubted = refl };
      record_room = omega arith;
      room = c.in_err-freezing.ensures.kept;
      same = c.in_err-freezing.ensures.same;
    }))

pub returns-in_err-append-clause-command : goal.returns-in_err-append-clause-command
returns-in_err-append-clause-command g c =
    let p = err_from_is_err_and c.from_residual-in_err-append.result c.from_residual-in_err-append.ensures.1 in
    rw (p.1, p.2) (stops c.args.self.now (record c.args.self.now { memory = c.prepare_freeze.new.self })
    c.append.new.self Freeze CanStop (logs_freeze c.args.self.now)
    (record {
      log = record { log = refl; doubted = refl };
      record_room = omega arith;
      room = c.in_ok-freezing.ensures.kept;
      same = c.in_ok-freezing.ensures.same;
    }) c.in_err-append.ensures.capacity c.in_err-append.ensures.memory c.in_err-append.field-0.0
    c.in_err-append.ensures.end)

pub returns-clause-command : goal.returns-clause-command
returns-clause-command g c =
    takes_effect c.args.self.now (record c.args.self.now { memory = c.prepare_freeze.new.self }) c.append.new.self Freeze
    CanStop (logs_freeze c.args.self.now)
    (record {
      log = record { log = refl; doubted = refl };
      record_room = omega arith;
      room = c.in_ok-freezing.ensures.kept;
      same = c.in_ok-freezing.ensures.same;
    }) c.in_ok-append.ensures.capacity c.in_ok-append.ensures.memory c.finish_freeze.new.self c.in_ok-append.ensures.end
    (λ state is needs. c.finish_freeze.ensures.effect state.store is)

-- the series and the stamp stay at each step

pub returns-in_err-freezing-clause-series : goal.returns-in_err-freezing-clause-series
returns-in_err-freezing-clause-series g c = c.in_err-freezing.ensures.kept.series

pub returns-in_err-freezing-clause-stamp : goal.returns-in_err-freezing-clause-stamp
returns-in_err-freezing-clause-stamp g c = c.in_err-freezing.ensures.kept.stamp

pub returns-in_err-append-clause-series : goal.returns-in_err-append-clause-series
returns-in_err-append-clause-series g c =
    ap (λ (s : MemoryState). s.series) c.in_err-append.ensures.memory ∙ c.in_ok-freezing.ensures.kept.series

pub returns-in_err-append-clause-stamp : goal.returns-in_err-append-clause-stamp
returns-in_err-append-clause-stamp g c =
    ap (λ (s : MemoryState). s.stamp) c.in_err-append.ensures.memory ∙ c.in_ok-freezing.ensures.kept.stamp

pub returns-clause-series : goal.returns-clause-series
returns-clause-series g c = c.finish_freeze.ensures.series
    ∙ ap (λ (s : MemoryState). s.series) c.in_ok-append.ensures.memory ∙ c.in_ok-freezing.ensures.kept.series

pub returns-clause-stamp : goal.returns-clause-stamp
returns-clause-stamp g c = c.finish_freeze.ensures.stamp
    ∙ ap (λ (s : MemoryState). s.stamp) c.in_ok-append.ensures.memory ∙ c.in_ok-freezing.ensures.kept.stamp

-- only where it is done there is a new working pair

pub returns-in_err-freezing-clause-working : goal.returns-in_err-freezing-clause-working
returns-in_err-freezing-clause-working g c = λ done. absurd (err_not_done c.from_residual.result c.from_residual.ensures.0 done)

pub returns-in_err-append-clause-working : goal.returns-in_err-append-clause-working
returns-in_err-append-clause-working g c = λ done. absurd
    (err_not_done c.from_residual-in_err-append.result c.from_residual-in_err-append.ensures.0 done)

pub returns-clause-working : goal.returns-clause-working
returns-clause-working g c = λ done. c.finish_freeze.ensures.working

-- only where it is done there is one frozen pair more

pub returns-in_err-freezing-clause-frozen : goal.returns-in_err-freezing-clause-frozen
returns-in_err-freezing-clause-frozen g c = λ done. absurd (err_not_done c.from_residual.result c.from_residual.ensures.0 done)

pub returns-in_err-append-clause-frozen : goal.returns-in_err-append-clause-frozen
returns-in_err-append-clause-frozen g c = λ done. absurd
    (err_not_done c.from_residual-in_err-append.result c.from_residual-in_err-append.ensures.0 done)

pub returns-clause-frozen : goal.returns-clause-frozen
returns-clause-frozen g c = λ done. c.finish_freeze.ensures.frozen
    ∙ ap frozen_with_working c.in_ok-append.ensures.memory
    ∙ same_frozen (memory_of c.args.self.now) c.prepare_freeze.new.self c.in_ok-freezing.ensures.kept.frozen
    c.in_ok-freezing.ensures.kept.stamp c.in_ok-freezing.ensures.working

pub returns-in_err-freezing-clause-unfrozen : goal.returns-in_err-freezing-clause-unfrozen
returns-in_err-freezing-clause-unfrozen g c = λ not_done. c.in_err-freezing.ensures.kept.frozen

pub returns-in_err-append-clause-unfrozen : goal.returns-in_err-append-clause-unfrozen
returns-in_err-append-clause-unfrozen g c = λ not_done.
    ap (λ (s : MemoryState). s.frozen) c.in_err-append.ensures.memory ∙ c.in_ok-freezing.ensures.kept.frozen

pub returns-clause-unfrozen : goal.returns-clause-unfrozen
returns-clause-unfrozen g c = λ not_done. absurd (not_done refl)

-- what is in memory

pub returns-in_err-freezing-clause-memory : goal.returns-in_err-freezing-clause-memory
returns-in_err-freezing-clause-memory g c = unchanged HasFrozen (memory_of c.args.self.now) c.prepare_freeze.new.self
    c.from_residual.result c.from_residual.ensures.0 c.in_err-freezing.ensures.kept

pub returns-in_err-append-clause-memory : goal.returns-in_err-append-clause-memory
returns-in_err-append-clause-memory g c = unchanged HasFrozen (memory_of c.args.self.now) (memory_of c.append.new.self)
    c.from_residual-in_err-append.result c.from_residual-in_err-append.ensures.0
    (over_append (memory_of c.args.self.now) c.prepare_freeze.new.self (memory_of c.append.new.self)
    c.in_err-append.ensures.memory c.in_ok-freezing.ensures.kept)

pub returns-clause-memory : goal.returns-clause-memory
returns-clause-memory g c = frozen_after (memory_of c.args.self.now) (memory_of c.append.new.self)
    c.finish_freeze.new.self
    (ap (λ (s : MemoryState). s.working) c.in_ok-append.ensures.memory ∙ c.in_ok-freezing.ensures.working)
    (over_append (memory_of c.args.self.now) c.prepare_freeze.new.self (memory_of c.append.new.self)
    c.in_ok-append.ensures.memory c.in_ok-freezing.ensures.kept) c.finish_freeze.ensures.made

pub finish_freeze-requires-clause-some : goal.finish_freeze-requires-clause-some
finish_freeze-requires-clause-some g c =
    subst (λ (p : Pair). ¬ HasNoPairPoint p)
    (sym (ap (λ (s : MemoryState). s.working) c.in_ok-append.ensures.memory ∙ c.in_ok-freezing.ensures.working)) c.requires.some
