use Rattle.std.proofs.Common.{refl, subst, sym}
use Rattle.tsdb_memory.proofs.Effects.{roomy_shown, roomy_sound}
use Rattle.tsdb_memory.specs.Model.{memory_view}
use Rattle.tsdb_memory.specs.Rows.{ChangesRoom}
use Rattle.tsdb_memory.specs.StateOfMemory.{IsMemoryOf}
use Rattle.tsdb_memory.specs.Store.{MemoryState}
use Rattle.tsdb_memory.proofs.store.MemoryStore.prepare_insert.Goals as goal

pub returns-clause-kept : goal.returns-clause-kept
returns-clause-kept c =
    let old = memory_view c.self.inside in
    let new = memory_view (record c.self.inside { working = c.reserve_cells.new.pair }) in
    let kept : ChangesRoom old new = record {
      series = refl;
      stamp = refl;
      watermarks = λ device. refl;
      marks = refl;
      frozen = refl;
      working = c.reserve_cells.ensures.points;
    } in
    subst (λ (s : MemoryState). ChangesRoom s new) c.self.view_is kept

pub returns-clause-same : goal.returns-clause-same
returns-clause-same c =
    let old = memory_view c.self.inside in
    let new = memory_view (record c.self.inside { working = c.reserve_cells.new.pair }) in
    let kept : ChangesRoom old new = record {
      series = refl;
      stamp = refl;
      watermarks = λ device. refl;
      marks = refl;
      frozen = refl;
      working = c.reserve_cells.ensures.points;
    } in
    λ state is. roomy_shown old new state kept (subst (λ (s : MemoryState). IsMemoryOf s state) (sym c.self.view_is) is)

pub invariant_of-self : goal.invariant_of-self
invariant_of-self c =
    let old = memory_view c.self.inside in
    let new = memory_view (record c.self.inside { working = c.reserve_cells.new.pair }) in
    let kept : ChangesRoom old new = record {
      series = refl;
      stamp = refl;
      watermarks = λ device. refl;
      marks = refl;
      frozen = refl;
      working = c.reserve_cells.ensures.points;
    } in
    roomy_sound old new kept c.self.invariant
