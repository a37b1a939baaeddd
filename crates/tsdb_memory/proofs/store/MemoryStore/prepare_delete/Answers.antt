use Rattle.std.proofs.Common.{refl, sym, subst}
use Rattle.tsdb_memory.proofs.Effects.{roomy_shown}
use Rattle.tsdb_memory.specs.Model.{memory_view}
use Rattle.tsdb_memory.specs.StateOfMemory.{IsMemoryOf}
use Rattle.tsdb_memory.specs.Store.{MemoryState}
use Rattle.tsdb_memory.proofs.store.MemoryStore.prepare_delete.Goals as goal

pub returns-in_err-reserve-clause-same : goal.returns-in_err-reserve-clause-same
returns-in_err-reserve-clause-same c = λ state is.
    let old = memory_view c.self.inside in
    roomy_shown old (memory_view (record c.self.inside { marks = c.reserve.new.self })) state (record {
      series = refl;
      stamp = refl;
      watermarks = λ device. refl;
      marks = c.reserve.ensures.marks;
      frozen = refl;
      working = λ space number. refl;
    }) (subst (λ (s : MemoryState). IsMemoryOf s state) (sym c.self.view_is) is)

pub returns-in_ok-reserve-clause-same : goal.returns-in_ok-reserve-clause-same
returns-in_ok-reserve-clause-same c = λ state is.
    let old = memory_view c.self.inside in
    roomy_shown old (memory_view (record c.self.inside { marks = c.reserve.new.self })) state (record {
      series = refl;
      stamp = refl;
      watermarks = λ device. refl;
      marks = c.reserve.ensures.marks;
      frozen = refl;
      working = λ space number. refl;
    }) (subst (λ (s : MemoryState). IsMemoryOf s state) (sym c.self.view_is) is)
