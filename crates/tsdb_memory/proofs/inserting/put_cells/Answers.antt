use mir.Val.{to_z, of_z}
use Rattle.std.proofs.Common.{rules, w64, ◌≡◌, ◌∙◌, ℤ, List, [], sym, subst, ap}
use Rattle.std.proofs.Math.Facts.{to_z-of_z}
use Rattle.std.specs.Prelude.{All, AllPairs}
use Rattle.std.specs.Vec.Iter.{into_iter_items}
use Rattle.std.proofs.lemmas.List.Elements.{All-head, All-tail}
use Rattle.tsdb_log.specs.declared.record.CellRecord.{CellRecord}
use Rattle.tsdb_memory.proofs.RowCells.{Differs, HasRoom, no_length, pairs_first, pairs_rest, room_left}
use Rattle.tsdb_memory.specs.Rows.{put_row_cells}
use Rattle.tsdb_memtable.specs.Pairs.{Pair}
use Rattle.tsdb_memory.proofs.inserting.put_cells.Goals as goal

pub loop-cell-init : goal.loop-cell-init
loop-cell-init c =
    let all = c.into_iter-cell-iterator.ensures.into_iter_gives.0 ∙ c.into_vec-cell-items.ensures in
    record {
      finite = (tt, tt);
      room = subst (λ (l : List CellRecord). All (HasRoom c.args.pair.now) l) (sym all) c.requires.room;
      differ = subst (λ (l : List CellRecord). AllPairs Differs l) (sym all) c.requires.differ;
      rest = ap (λ (l : List CellRecord). put_row_cells c.args.space (to_z w64 (of_z w64 c.args.time)) l c.args.pair.now) all;
    }

pub put_at-requires : goal.put_at-requires
put_at-requires c =
    All-head (HasRoom c.loop-cell.pair) c.in-Some.cell (into_iter_items c.next.new.self)
    (subst (λ (l : List CellRecord). All (HasRoom c.loop-cell.pair) l) c.in-Some.ensures.steps.0
    c.loop-cell.invariant.room)

pub loop-cell-preserved : goal.loop-cell-preserved
loop-cell-preserved c =
    let t = to_z w64 (of_z w64 c.args.time) in
    let cell = c.in-Some.cell in
    let next = into_iter_items c.next.new.self in
    let split = c.in-Some.ensures.steps.0 in
    let old = c.loop-cell.pair in
    let room = subst (λ (l : List CellRecord). All (HasRoom old) l) split c.loop-cell.invariant.room in
    let differ = subst (λ (l : List CellRecord). AllPairs Differs l) split c.loop-cell.invariant.differ in
    record {
      finite = (tt, tt);
      room = subst (λ (p : Pair). All (HasRoom p) next) (sym c.put_at.ensures)
          (room_left c.args.space (record { time = t; value = cell.value }) cell.series.0 old
          (All-head (HasRoom old) cell next room) next (pairs_first Differs cell next differ)
          (All-tail (HasRoom old) cell next room));
      differ = pairs_rest Differs cell next differ;
      rest = ap (put_row_cells c.args.space t next) c.put_at.ensures
          ∙ ap (λ (l : List CellRecord). put_row_cells c.args.space t l old) (sym split) ∙ c.loop-cell.invariant.rest;
    }

pub returns : goal.returns
returns c =
    let t = to_z w64 (of_z w64 c.args.time) in
    let same : t ≡ c.args.time = to_z-of_z {w = w64} (search rules) in
    let none : into_iter_items c.loop-cell.cell-iterator ≡ [] =
    no_length (into_iter_items c.loop-cell.cell-iterator)
    (sym c.loop-cell.cell-iterator.rest.ok.0 ∙ c.in-None.ensures.steps.0) in
    ap (λ (l : List CellRecord). put_row_cells c.args.space t l c.loop-cell.pair) (sym none)
    ∙ c.loop-cell.invariant.rest
    ∙ ap (λ (z : ℤ). put_row_cells c.args.space z c.args.cells c.args.pair.now) same
