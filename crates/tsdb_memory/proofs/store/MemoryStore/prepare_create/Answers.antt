use Rattle.std.proofs.Common.{refl, sym, subst, ap, map}
use Rattle.tsdb_memory.proofs.Effects.{roomy_shown, roomy_sound}
use Rattle.tsdb_memory.specs.Model.{schema_of, memory_view}
use Rattle.tsdb_memory.specs.Rows.{ChangesRoom}
use Rattle.tsdb_memory.specs.StateOfMemory.{IsMemoryOf}
use Rattle.tsdb_memory.specs.Store.{MemoryState}
use Rattle.tsdb_memory.proofs.store.MemoryStore.prepare_create.Goals as goal

pub returns-in_err-reserve-clause-kept : goal.returns-in_err-reserve-clause-kept
returns-in_err-reserve-clause-kept c =
    let old = memory_view c.self.inside in
    let new = memory_view (record c.self.inside { series = c.reserve.new.self }) in
    let kept : ChangesRoom old new = record {
      series = ap (map schema_of) c.reserve.ensures.entries;
      stamp = refl;
      watermarks = λ device. refl;
      marks = refl;
      frozen = refl;
      working = λ space number. refl;
    } in
    subst (λ (s : MemoryState). ChangesRoom s new) c.self.view_is kept

pub returns-in_err-reserve-clause-same : goal.returns-in_err-reserve-clause-same
returns-in_err-reserve-clause-same c =
    let old = memory_view c.self.inside in
    let new = memory_view (record c.self.inside { series = c.reserve.new.self }) in
    let kept : ChangesRoom old new = record {
      series = ap (map schema_of) c.reserve.ensures.entries;
      stamp = refl;
      watermarks = λ device. refl;
      marks = refl;
      frozen = refl;
      working = λ space number. refl;
    } in
    λ state is. roomy_shown old new state kept (subst (λ (s : MemoryState). IsMemoryOf s state) (sym c.self.view_is) is)

pub returns-clause-kept : goal.returns-clause-kept
returns-clause-kept c =
    let old = memory_view c.self.inside in
    let new = memory_view (record c.self.inside { series = c.reserve.new.self }) in
    let kept : ChangesRoom old new = record {
      series = ap (map schema_of) c.reserve.ensures.entries;
      stamp = refl;
      watermarks = λ device. refl;
      marks = refl;
      frozen = refl;
      working = λ space number. refl;
    } in
    subst (λ (s : MemoryState). ChangesRoom s new) c.self.view_is kept

pub returns-clause-same : goal.returns-clause-same
returns-clause-same c =
    let old = memory_view c.self.inside in
    let new = memory_view (record c.self.inside { series = c.reserve.new.self }) in
    let kept : ChangesRoom old new = record {
      series = ap (map schema_of) c.reserve.ensures.entries;
      stamp = refl;
      watermarks = λ device. refl;
      marks = refl;
      frozen = refl;
      working = λ space number. refl;
    } in
    λ state is. roomy_shown old new state kept (subst (λ (s : MemoryState). IsMemoryOf s state) (sym c.self.view_is) is)

pub invariant_of-self : goal.invariant_of-self
invariant_of-self c =
    let old = memory_view c.self.inside in
    let new = memory_view (record c.self.inside { series = c.reserve.new.self }) in
    let kept : ChangesRoom old new = record {
      series = ap (map schema_of) c.reserve.ensures.entries;
      stamp = refl;
      watermarks = λ device. refl;
      marks = refl;
      frozen = refl;
      working = λ space number. refl;
    } in
    roomy_sound old new kept c.self.invariant

pub invariant_of-self-2 : goal.invariant_of-self-2
invariant_of-self-2 c =
    let old = memory_view c.self.inside in
    let new = memory_view (record c.self.inside { series = c.reserve.new.self }) in
    let kept : ChangesRoom old new = record {
      series = ap (map schema_of) c.reserve.ensures.entries;
      stamp = refl;
      watermarks = λ device. refl;
      marks = refl;
      frozen = refl;
      working = λ space number. refl;
    } in
    roomy_sound old new kept c.self.invariant
