use Rattle.std.proofs.Common.{◌≡◌, ℕ, List, map, subst}
use Rattle.std.specs.Prelude.{IfOk}
use Rattle.std.specs.Global.{Vec as Items}
use Rattle.tsdb_base.specs.declared.ids.SeriesId.{SeriesId}
use Rattle.tsdb_base.specs.declared.ids.Space.TheVariants.{Sequence}
use Rattle.tsdb_base.specs.declared.point.Point.{Point}
use Rattle.tsdb_base.specs.Lists.{Among}
use Rattle.tsdb_memory.proofs.Raises.{if_ok, lists_ids}
use Rattle.tsdb_memory.specs.Store.{MemoryState}
use Rattle.tsdb_memtable.specs.Pairs.{points_of, table}
use Rattle.tsdb_memory.proofs.store.MemoryStore.sequence_series.Goals as goal

pub returns : goal.returns
returns c =
    subst (λ (s : MemoryState). IfOk c.series.result
    (λ (all : Items SeriesId). (number : ℕ) (point : Point) → Among point (points_of Sequence number s.working)
    → Among (record { 0 = number }) all.items)) c.self.view_is
    (if_ok c.series.result (λ (all : Items SeriesId). map (λ (id : SeriesId). id.0) all.items
    ≡ map (λ (entry : ℕ × List Point). entry.0) (table Sequence c.self.inside.working))
    (λ (all : Items SeriesId). (number : ℕ) (point : Point)
    → Among point (points_of Sequence number c.self.inside.working) → Among (record { 0 = number }) all.items)
    (λ all is. lists_ids c.self.inside.working all.items is) c.series.ensures)
