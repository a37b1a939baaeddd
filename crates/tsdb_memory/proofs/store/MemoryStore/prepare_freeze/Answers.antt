use Rattle.std.proofs.Common.{refl, sym, subst, ap, map}
use Rattle.tsdb_memory.proofs.Effects.{roomy_shown}
use Rattle.tsdb_memory.specs.Model.{frozen_in, memory_view}
use Rattle.tsdb_memory.specs.StateOfMemory.{IsMemoryOf}
use Rattle.tsdb_memory.specs.Store.{MemoryState}
use Rattle.tsdb_memory.proofs.store.MemoryStore.prepare_freeze.Goals as goal

pub returns-in_err-reserve_places-clause-same : goal.returns-in_err-reserve_places-clause-same
returns-in_err-reserve_places-clause-same c = λ state is.
    let old = memory_view c.self.inside in
    let new = memory_view (record c.self.inside { watermarks = c.reserve_places.new.watermarks }) in
    roomy_shown old new state (record {
      series = refl;
      stamp = refl;
      watermarks = c.reserve_places.ensures.watermarks;
      marks = refl;
      frozen = refl;
      working = λ space number. refl;
    }) (subst (λ (s : MemoryState). IsMemoryOf s state) (sym c.self.view_is) is)

pub returns-in_err-reserve-clause-same : goal.returns-in_err-reserve-clause-same
returns-in_err-reserve-clause-same c = λ state is.
    let old = memory_view c.self.inside in
    let new = memory_view (record c.self.inside { watermarks = c.reserve_places.new.watermarks; frozen = c.reserve.new.self }) in
    roomy_shown old new state (record {
      series = refl;
      stamp = refl;
      watermarks = c.reserve_places.ensures.watermarks;
      marks = refl;
      frozen = ap (map frozen_in) c.reserve.ensures.items;
      working = λ space number. refl;
    }) (subst (λ (s : MemoryState). IsMemoryOf s state) (sym c.self.view_is) is)

pub returns-in_err-place-clause-same : goal.returns-in_err-place-clause-same
returns-in_err-place-clause-same c = λ state is.
    let old = memory_view c.self.inside in
    let new = memory_view (record c.self.inside { watermarks = c.reserve_places.new.watermarks; frozen = c.reserve.new.self }) in
    roomy_shown old new state (record {
      series = refl;
      stamp = refl;
      watermarks = c.reserve_places.ensures.watermarks;
      marks = refl;
      frozen = ap (map frozen_in) c.reserve.ensures.items;
      working = λ space number. refl;
    }) (subst (λ (s : MemoryState). IsMemoryOf s state) (sym c.self.view_is) is)

pub returns-clause-same : goal.returns-clause-same
returns-clause-same c = λ state is.
    let old = memory_view c.self.inside in
    let new = memory_view (record c.self.inside { watermarks = c.reserve_places.new.watermarks; frozen = c.reserve.new.self }) in
    roomy_shown old new state (record {
      series = refl;
      stamp = refl;
      watermarks = c.reserve_places.ensures.watermarks;
      marks = refl;
      frozen = ap (map frozen_in) c.reserve.ensures.items;
      working = λ space number. refl;
    }) (subst (λ (s : MemoryState). IsMemoryOf s state) (sym c.self.view_is) is)
