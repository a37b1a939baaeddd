use Rattle.std.proofs.Common.{subst, sym}
use Rattle.tsdb_base.specs.declared.ids.Space.TheVariants.{Sequence}
use Rattle.tsdb_memory.proofs.Emptiness.{idle_by, late_point, not_idle, some_point}
use Rattle.tsdb_memory.specs.Fits.{HasNoPairPoint}
use Rattle.tsdb_memory.specs.Model.{memory_view}
use Rattle.tsdb_memory.specs.StateOfMemory.{TellsSpaceFilled, IsMemoryOf}
use Rattle.tsdb_memory.specs.Store.{MemoryState}
use Rattle.tsdb_memory.proofs.store.MemoryStore.is_idle.Goals as goal

pub returns-then-has_points-clause-state : goal.returns-then-has_points-clause-state
returns-then-has_points-clause-state c = λ state is.
    not_idle (memory_view c.self.inside) state c.self.invariant
    (subst (λ (s : MemoryState). IsMemoryOf s state) (sym c.self.view_is) is)
    (subst (λ b. TellsSpaceFilled b Sequence c.self.inside.working) c.if-has_points.true c.has_points.ensures)

pub returns-clause-state : goal.returns-clause-state
returns-clause-state c = λ state is.
    idle_by (memory_view c.self.inside) state c.self.invariant
    (subst (λ (s : MemoryState). IsMemoryOf s state) (sym c.self.view_is) is) c.has_points-2.result
    (subst (λ b. TellsSpaceFilled b Sequence c.self.inside.working) c.if-has_points.false c.has_points.ensures)
    c.has_points-2.ensures

pub returns-then-has_points-clause-some : goal.returns-then-has_points-clause-some
returns-then-has_points-clause-some c = λ busy.
    subst (λ (s : MemoryState). ¬ HasNoPairPoint s.working) c.self.view_is
    (some_point Sequence c.self.inside.working
    (subst (λ b. TellsSpaceFilled b Sequence c.self.inside.working) c.if-has_points.true c.has_points.ensures))

pub returns-clause-some : goal.returns-clause-some
returns-clause-some c = λ busy.
    subst (λ (s : MemoryState). ¬ HasNoPairPoint s.working) c.self.view_is
    (late_point c.has_points-2.result c.self.inside.working c.has_points-2.ensures busy)
