use Rattle.std.proofs.Common.{◌∙◌, Err, Ok, ap, drop, subst, sym}
use Rattle.tsdb_log.specs.declared.record.LogRecord.TheVariants.{Flushed}
use Rattle.tsdb_memory.proofs.LogLemmas.Changed.{series_kept}
use Rattle.tsdb_memory.proofs.LogLemmas.Commanding.{other_memory}
use Rattle.tsdb_memory.proofs.LogLemmas.Flushing.{flush_done, flush_faulted, flush_moments}
use Rattle.tsdb_memory.specs.Appends.{HasStopped}
use Rattle.tsdb_memory.specs.Changes.{KeepsSeries}
use Rattle.tsdb_memory.specs.LogState.{memory_of}
use Rattle.tsdb_memory.specs.StateOfMemory.{IsMemoryOf}
use Rattle.tsdb_memory.specs.Store.{MemoryState}
use Rattle.tsdb_memory.proofs.logged_memory.LoggedMemory.append_flushed.Goals as goal

pub returns-in-Err-Failed : goal.returns-in-Err-Failed
returns-in-Err-Failed g c =
    let ended = subst (HasStopped c.args.self.now c.append.new.self (Flushed c.args.sequence c.args.unsequence))
    c.in-Err-Failed.field-0-is c.in-Err-Failed.ensures.end in
    let append = ended.1 in
    record {
      done = tt;
      failed = λ outside state flush others sound can. flush_faulted c.args.self.now c.append.new.self c.args.sequence
          c.args.unsequence c.args.listed ended.0 outside state flush others sound can
          (record {}) append c.in-Err-Failed.ensures.memory;
      moments = λ outside state flush others sound can. flush_moments c.args.self.now c.append.new.self c.args.sequence
          c.args.unsequence c.args.listed ended.0 outside state flush others sound can
          (Err record {}) append;
      pair = tt;
      no_pair = ap (λ (s : MemoryState). s.frozen) c.in-Err-Failed.ensures.memory;
      working = ap (λ (s : MemoryState). s.working) c.in-Err-Failed.ensures.memory;
      kept = subst (λ (s : MemoryState). KeepsSeries (memory_of c.args.self.now) s) (sym c.in-Err-Failed.ensures.memory)
          (series_kept (memory_of c.args.self.now));
      memory = c.in-Err-Failed.ensures.memory;
      room = c.in-Err-Failed.ensures.capacity;
      slot = append.slot;
      cause = append.cause;
    }

pub returns : goal.returns
returns g c =
    let append = other_memory c.args.self.now c.append.new.self c.finish_flushed.new.self
    (Flushed c.args.sequence c.args.unsequence)
    c.in-Ok.ensures.end.1 in
    record {
      done = λ outside state flush others sound can. flush_done c.args.self.now
          (record c.append.new.self { memory = c.finish_flushed.new.self }) c.args.sequence c.args.unsequence
          c.args.listed c.in-Ok.ensures.end.0 outside state flush others sound can append
          (λ shown is least. c.finish_flushed.ensures.effect shown c.args.sequence.0 c.args.unsequence.0
          (subst (λ store. IsMemoryOf store shown) (sym c.in-Ok.ensures.memory) is) least);
      failed = tt;
      moments = λ outside state flush others sound can. flush_moments c.args.self.now
          (record c.append.new.self { memory = c.finish_flushed.new.self }) c.args.sequence c.args.unsequence
          c.args.listed c.in-Ok.ensures.end.0 outside state flush others sound can (Ok tt) append;
      pair = c.finish_flushed.ensures.frozen ∙ ap (λ (s : MemoryState). drop 1 s.frozen) c.in-Ok.ensures.memory;
      no_pair = tt;
      working = c.finish_flushed.ensures.working ∙ ap (λ (s : MemoryState). s.working) c.in-Ok.ensures.memory;
      kept = subst (λ (s : MemoryState). KeepsSeries s c.finish_flushed.new.self) c.in-Ok.ensures.memory
          c.finish_flushed.ensures.kept;
      memory = tt;
      room = c.in-Ok.ensures.capacity;
      slot = append.slot;
      cause = append.cause;
    }
