use Rattle.std.proofs.Common.{◌∙◌, map, subst, sym}
use Rattle.tsdb_memory.proofs.Counts.{counted_points}
use Rattle.tsdb_memory.proofs.Emptiness.{part_is}
use Rattle.tsdb_memory.specs.Model.{schema_of}
use Rattle.tsdb_memory.specs.StateOfMemory.{IsMemoryOf, part_of}
use Rattle.tsdb_memory.specs.Store.{MemoryState}
use Rattle.tsdb_memory.proofs.store.MemoryStore.points.Goals as goal

pub returns : goal.returns
returns c = λ state is.
    let series = map schema_of c.self.inside.series.entries in
    let pair = c.self.inside.working in
    let shown = subst (λ (s : MemoryState). IsMemoryOf s state) (sym c.self.view_is) is in
    c.points.ensures.count
    ∙ sym (counted_points series c.args.space pair (part_of c.args.space state.working) c.self.invariant.once
    c.self.invariant.known (c.self.invariant.rising c.args.space) c.points.ensures.rising
    (part_is series pair state.working c.args.space shown.working))
