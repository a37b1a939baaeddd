use Rattle.std.proofs.Common.{◌∙◌, Err, Ok, ap, subst, sym}
use Rattle.tsdb_memory.proofs.LogLemmas.Changed.{series_kept}
use Rattle.tsdb_memory.proofs.LogLemmas.Commanding.{other_memory}
use Rattle.tsdb_memory.proofs.LogLemmas.Replacements.{few_parts, fits_frame, has_room, replaced_done, replaced_faulted}
use Rattle.tsdb_memory.proofs.LogLemmas.Replacements.{replaced_moments}
use Rattle.tsdb_memory.specs.Appends.{HasStopped}
use Rattle.tsdb_memory.specs.Changes.{KeepsSeries}
use Rattle.tsdb_memory.specs.LogState.{memory_of}
use Rattle.tsdb_memory.specs.StateOfMemory.{IsMemoryOf}
use Rattle.tsdb_memory.specs.Store.{MemoryState}
use Rattle.tsdb_memory.proofs.logged_memory.LoggedMemory.append_replaced.Goals as goal

pub append-requires-clause-few : goal.append-requires-clause-few
append-requires-clause-few g c = λ lifetimes lives. few_parts _ c.args.item.now c.requires

pub append-requires-clause-fits : goal.append-requires-clause-fits
append-requires-clause-fits g c = λ lifetimes lives. fits_frame _ c.args.item.now c.requires

pub unreachable-requires : goal.unreachable-requires
unreachable-requires g c = has_room _ c.args.item.now c.requires (subst (HasStopped c.args.self.now c.append.new.self
    c.args.item.now) c.in-Err-Memory.field-0-is c.in-Err-Memory.ensures.end).1

pub returns-in-Err-Failed : goal.returns-in-Err-Failed
returns-in-Err-Failed g c =
    let ended = subst (HasStopped c.args.self.now c.append.new.self c.args.item.now)
    c.in-Err-Failed.field-0-is c.in-Err-Failed.ensures.end in
    let append = ended.1 in
    record {
      done = tt;
      failed = λ outside state job others output place sound can. replaced_faulted c.args.self.now c.append.new.self
          c.args.item.now c.args.listed ended.0 outside state job others output place sound can
          (record {}) append c.in-Err-Failed.ensures.memory;
      memory = c.in-Err-Failed.ensures.memory;
      moments = λ outside state job others output place sound can. replaced_moments c.args.self.now c.append.new.self
          c.args.item.now c.args.listed ended.0 outside state job others output place sound can
          (Err record {}) append;
      frozen = ap (λ (s : MemoryState). s.frozen) c.in-Err-Failed.ensures.memory;
      working = ap (λ (s : MemoryState). s.working) c.in-Err-Failed.ensures.memory;
      kept = subst (λ (s : MemoryState). KeepsSeries (memory_of c.args.self.now) s) (sym c.in-Err-Failed.ensures.memory)
          (series_kept (memory_of c.args.self.now));
      room = c.in-Err-Failed.ensures.capacity;
      slot = append.slot;
      cause = append.cause;
    }

pub returns : goal.returns
returns g c =
    let append = other_memory c.args.self.now c.append.new.self c.finish_replaced.new.self c.args.item.now
    c.in-Ok.ensures.end.1 in
    record {
      done = λ outside state job others output place sound can. replaced_done c.args.self.now
          (record c.append.new.self { memory = c.finish_replaced.new.self }) c.args.item.now c.args.listed
          c.in-Ok.ensures.end.0 outside state job others output place sound can append
          (λ shown item is least. c.finish_replaced.ensures.effect shown item
          (subst (λ store. IsMemoryOf store shown) (sym c.in-Ok.ensures.memory) is) least);
      failed = tt;
      memory = tt;
      moments = λ outside state job others output place sound can. replaced_moments c.args.self.now
          (record c.append.new.self { memory = c.finish_replaced.new.self }) c.args.item.now c.args.listed
          c.in-Ok.ensures.end.0 outside state job others output place sound can (Ok tt) append;
      frozen = c.finish_replaced.ensures.frozen ∙ ap (λ (s : MemoryState). s.frozen) c.in-Ok.ensures.memory;
      working = c.finish_replaced.ensures.working ∙ ap (λ (s : MemoryState). s.working) c.in-Ok.ensures.memory;
      kept = subst (λ (s : MemoryState). KeepsSeries s c.finish_replaced.new.self) c.in-Ok.ensures.memory
          c.finish_replaced.ensures.kept;
      room = c.in-Ok.ensures.capacity;
      slot = append.slot;
      cause = append.cause;
    }
