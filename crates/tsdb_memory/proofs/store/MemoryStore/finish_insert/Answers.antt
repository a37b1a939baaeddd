use Rattle.std.proofs.Common.{rules, w64, ◌≡◌, ◌+◌, ◌<◌, ◌∙◌, ℤ, refl, subst, sym, ap}
use Rattle.std.proofs.Math.Facts.{to_z-of_z}
use Rattle.std.specs.Prelude.{All}
use Rattle.tsdb_memory.proofs.RowCells.{HasRoom, IsThere, inserted_shown, inserted_sound, row_points}
use Rattle.tsdb_memory.proofs.Typing.{typed_row}
use Rattle.tsdb_base.specs.declared.ids.Space.{Space}
use Rattle.tsdb_memory.specs.Changes.{HasInserted, points_with_row}
use Rattle.tsdb_memory.specs.Model.{IsSoundMemory, memory_view}
use Rattle.tsdb_memory.specs.Rows.{put_row_cells}
use Rattle.tsdb_memory.specs.StateOfMemory.{IsMemoryOf}
use Rattle.tsdb_memory.specs.Store as value
use Rattle.tsdb_memtable.specs.Pairs.{Pair, points_of}
use Rattle.tsdb_memtable.specs.Watermarks.{space_by, watermark}
use Rattle.tsdb_base.specs.Limits.{end_of_numbers}
use Rattle.tsdb_state.specs.Records.{inserted}
use Rattle.tsdb_memory.proofs.store.MemoryStore.finish_insert.Goals as goal

pub put_cells-requires-clause-room : goal.put_cells-requires-clause-room
put_cells-requires-clause-room c = subst (λ (s : value.MemoryState). All (HasRoom s.working) c.args.cells) (sym c.self.view_is)
    c.requires.room

pub returns-clause-effect : goal.returns-clause-effect
returns-clause-effect c = λ state is.
    let old = c.self.inside in
    let there = subst (λ (s : value.MemoryState). All (IsThere s.series c.args.device.now) c.args.cells) (sym c.self.view_is)
    c.requires.there in
    let room = subst (λ (s : value.MemoryState). All (HasRoom s.working) c.args.cells) (sym c.self.view_is)
    c.requires.room in
    let put : c.put_cells.new.pair ≡ put_row_cells c.space_of-space.result c.args.time c.args.cells old.working =
    c.put_cells.ensures ∙ ap (λ (z : ℤ). put_row_cells c.space_of-space.result z c.args.cells old.working)
    (to_z-of_z {w = w64} (search rules)) in
    subst (λ (p : Pair). IsMemoryOf (record (memory_view old) { stamp = old.stamp + 1; working = p })
    (inserted c.args.time c.args.cells state)) (sym put)
    (inserted_shown (memory_view old) c.args.device.now c.space_of-space.result c.args.time c.args.cells there
    c.requires.differ room c.self.invariant state
    (c.space_of-space.ensures ∙ ap (λ (z : ℤ). space_by c.get.result z) (to_z-of_z {w = w64} (search rules))
    ∙ ap (λ o. space_by o c.args.time) c.get.ensures)
    (subst (λ (s : value.MemoryState). IsMemoryOf s state) (sym c.self.view_is) is))

pub returns-clause-made : goal.returns-clause-made
returns-clause-made c =
    let old = c.self.inside in
    let new = record old { stamp = old.stamp + 1; working = c.put_cells.new.pair } in
    let room = subst (λ (s : value.MemoryState). All (HasRoom s.working) c.args.cells) (sym c.self.view_is)
    c.requires.room in
    let put : c.put_cells.new.pair ≡ put_row_cells c.space_of-space.result c.args.time c.args.cells old.working =
    c.put_cells.ensures ∙ ap (λ (z : ℤ). put_row_cells c.space_of-space.result z c.args.cells old.working)
    (to_z-of_z {w = w64} (search rules)) in
    let rule : c.space_of-space.result ≡ space_by (watermark old.watermarks c.args.device.now) c.args.time =
    c.space_of-space.ensures ∙ ap (λ (z : ℤ). space_by c.get.result z) (to_z-of_z {w = w64} (search rules))
    ∙ ap (λ o. space_by o c.args.time) c.get.ensures in
    let made : HasInserted c.args.device.now c.args.time c.args.cells (memory_view old) (memory_view new) = record {
      series = refl;
      stamp = refl;
      watermarks = λ device. refl;
      marks = refl;
      frozen = refl;
      working = λ space number. ap (points_of space number) put
          ∙ row_points c.space_of-space.result c.args.time c.args.cells old.working room c.requires.differ space number
          ∙ ap (λ (s : Space). points_with_row s c.args.time c.args.cells space number
          (points_of space number old.working)) rule;
    } in
    subst (λ (s : value.MemoryState). HasInserted c.args.device.now c.args.time c.args.cells s (memory_view new))
    c.self.view_is made

pub invariant_of-self : goal.invariant_of-self
invariant_of-self c =
    let old = c.self.inside in
    let there = subst (λ (s : value.MemoryState). All (IsThere s.series c.args.device.now) c.args.cells) (sym c.self.view_is)
    c.requires.there in
    let room = subst (λ (s : value.MemoryState). All (HasRoom s.working) c.args.cells) (sym c.self.view_is)
    c.requires.room in
    let stamp : old.stamp < end_of_numbers =
    subst (λ (s : value.MemoryState). s.stamp < end_of_numbers) (sym c.self.view_is) c.requires.stamp in
    let put : c.put_cells.new.pair ≡ put_row_cells c.space_of-space.result c.args.time c.args.cells old.working =
    c.put_cells.ensures ∙ ap (λ (z : ℤ). put_row_cells c.space_of-space.result z c.args.cells old.working)
    (to_z-of_z {w = w64} (search rules)) in
    subst (λ (p : Pair). IsSoundMemory (record (memory_view old) { stamp = old.stamp + 1; working = p })) (sym put)
    (inserted_sound (memory_view old) c.args.device.now c.space_of-space.result c.args.time c.args.cells there
    c.requires.differ room c.self.invariant stamp
    (typed_row (memory_view old).series c.args.device.now c.space_of-space.result c.args.time c.args.cells old.working there
    c.requires.differ room c.self.invariant.typed))
