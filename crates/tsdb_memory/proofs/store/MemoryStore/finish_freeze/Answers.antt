use Rattle.std.proofs.Common.{◌≡◌, ◌∙◌, ◌++◌, ◌∷◌, ◌<◌, [], List, ap, length, map, subst, sym}
use Rattle.tsdb_memory.proofs.Frozen.{froze_shown, froze_sound, frozen_store, pushed_frozen}
use Rattle.tsdb_memory.specs.Fits.{HasNoPairPoint}
use Rattle.tsdb_memory.specs.Freezing.{AreRaises, raised_by}
use Rattle.tsdb_memory.specs.Model.{IsSoundMemory, frozen_in, memory_view}
use Rattle.tsdb_memory.specs.StateOfMemory.{IsMemoryOf}
use Rattle.tsdb_memory.specs.Store as value
use Rattle.tsdb_memory.specs.declared.freezing.Raise.{Raise}
use Rattle.tsdb_memtable.specs.Pairs.{Pair}
use Rattle.tsdb_memtable.specs.Watermarks.{watermark}
use Rattle.tsdb_base.specs.Limits.{max_frozen}
use Rattle.tsdb_state.specs.Records.{froze}
use Rattle.tsdb_memory.proofs.store.MemoryStore.finish_freeze.Goals as goal

pub returns-clause-effect : goal.returns-clause-effect
returns-clause-effect c = λ state is.
    let old = c.self.inside in
    let new = record old {
      watermarks = c.raise_all.new.watermarks;
      frozen = c.push.new.self;
      working = c.replace-working.new.dest;
    } in
    let raises = c.args.freezing.raises.items in
    let frozen : List value.FrozenPair = map frozen_in c.push.new.self.items in
    let pushed : frozen ≡ map frozen_in old.frozen.items ++ record { born = old.stamp; pair = old.working } ∷ [] =
    pushed_frozen old.frozen.items c.push.new.self.items old.stamp c.in_place-pair.result old.working
    c.in-Ok.ensures.items (c.in_place-pair.ensures ∙ c.replace-working.ensures.value) in
    let are : AreRaises (memory_view old).series old.working raises =
    subst (λ (s : value.MemoryState). AreRaises s.series s.working raises) (sym c.self.view_is) c.requires.freezing.raises in
    subst (λ (p : Pair). IsMemoryOf (record (frozen_store (memory_view old) raises c.raise_all.new.watermarks frozen
    (memory_view new).places pushed) { working = p }) (froze state))
    (sym (c.replace-working.ensures.after ∙ c.new.ensures))
    (froze_shown (memory_view old) raises c.raise_all.new.watermarks frozen (memory_view new).places pushed state
    c.self.invariant (subst (λ (s : value.MemoryState). IsMemoryOf s state) (sym c.self.view_is) is) are
    (λ device. c.raise_all.ensures device ∙ ap (λ (l : List Raise). raised_by device l
    (watermark old.watermarks device)) c.deref.ensures.value))

pub returns-clause-series : goal.returns-clause-series
returns-clause-series c = ap (λ (s : value.MemoryState). s.series) c.self.view_is

pub returns-clause-stamp : goal.returns-clause-stamp
returns-clause-stamp c = ap (λ (s : value.MemoryState). s.stamp) c.self.view_is

pub returns-clause-frozen : goal.returns-clause-frozen
returns-clause-frozen c =
    let old = c.self.inside in
    pushed_frozen old.frozen.items c.push.new.self.items old.stamp c.in_place-pair.result old.working
    c.in-Ok.ensures.items (c.in_place-pair.ensures ∙ c.replace-working.ensures.value)
    ∙ ap value.frozen_with_working c.self.view_is

pub returns-clause-working : goal.returns-clause-working
returns-clause-working c = c.replace-working.ensures.after ∙ c.new.ensures

pub returns-clause-made : goal.returns-clause-made
returns-clause-made c =
    let old = c.self.inside in
    record {
      series = ap (λ (s : value.MemoryState). s.series) c.self.view_is;
      stamp = ap (λ (s : value.MemoryState). s.stamp) c.self.view_is;
      marks = ap (λ (s : value.MemoryState). s.marks.marks) c.self.view_is;
      frozen = pushed_frozen old.frozen.items c.push.new.self.items old.stamp c.in_place-pair.result old.working
          c.in-Ok.ensures.items (c.in_place-pair.ensures ∙ c.replace-working.ensures.value)
          ∙ ap value.frozen_with_working c.self.view_is;
      working = c.replace-working.ensures.after ∙ c.new.ensures;
    }

pub invariant_of-self : goal.invariant_of-self
invariant_of-self c =
    let old = c.self.inside in
    let new = record old {
      watermarks = c.raise_all.new.watermarks;
      frozen = c.push.new.self;
      working = c.replace-working.new.dest;
    } in
    let raises = c.args.freezing.raises.items in
    let frozen : List value.FrozenPair = map frozen_in c.push.new.self.items in
    let pushed : frozen ≡ map frozen_in old.frozen.items ++ record { born = old.stamp; pair = old.working } ∷ [] =
    pushed_frozen old.frozen.items c.push.new.self.items old.stamp c.in_place-pair.result old.working
    c.in-Ok.ensures.items (c.in_place-pair.ensures ∙ c.replace-working.ensures.value) in
    subst (λ (p : Pair). IsSoundMemory (record (frozen_store (memory_view old) raises c.raise_all.new.watermarks frozen
    (memory_view new).places pushed) { working = p }))
    (sym (c.replace-working.ensures.after ∙ c.new.ensures))
    (froze_sound (memory_view old) raises c.raise_all.new.watermarks frozen (memory_view new).places pushed
    (subst (λ (s : value.MemoryState). length s.frozen < max_frozen) (sym c.self.view_is) c.requires.room)
    (subst (λ (s : value.MemoryState). ¬ HasNoPairPoint s.working) (sym c.self.view_is) c.requires.some) c.self.invariant)
