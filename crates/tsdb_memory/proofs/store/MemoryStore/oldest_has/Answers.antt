use Rattle.std.proofs.Common.{◌≡◌, ◌∙◌, List, Some, ap, slice_get, subst, sym}
use Rattle.std.specs.Option.{option_copied}
use Rattle.tsdb_memory.proofs.Emptiness.{oldest_part}
use Rattle.tsdb_memory.proofs.Later.{oldest_of}
use Rattle.tsdb_memory.specs.Model.{frozen_in, memory_view}
use Rattle.tsdb_memory.specs.StateOfMemory.{TellsSpaceFilled, IsMemoryOf}
use Rattle.tsdb_memory.specs.Store.{MemoryState}
use Rattle.tsdb_memory.specs.declared.store.FrozenPair.{FrozenPair}
use Rattle.tsdb_memtable.specs.Pairs.{Pair}
use Rattle.tsdb_memory.proofs.store.MemoryStore.oldest_has.Goals as goal

pub returns-in-Some : goal.returns-in-Some
returns-in-Some c = λ state oldest newer is has.
    let at : slice_get c.self.inside.frozen.items 0 ≡ Some c.in-Some.oldest.now =
    ap (λ (l : List FrozenPair). slice_get l 0) (sym c.deref.ensures.value) ∙ sym c.first.ensures.value
    ∙ ap option_copied c.in-Some.is in
    let first = oldest_of c.self.inside.frozen.items c.in-Some.oldest.now at in
    oldest_part (memory_view c.self.inside) state c.self.invariant
    (subst (λ (s : MemoryState). IsMemoryOf s state) (sym c.self.view_is) is) (frozen_in c.in-Some.oldest.now) first.rest
    oldest newer c.args.space c.has_points.result first.are has
    (subst (λ (p : Pair). TellsSpaceFilled c.has_points.result c.args.space p) c.pair.ensures c.has_points.ensures)
