use Rattle.std.proofs.Common.{◌≡◌, ◌<◌, List, [], ◌∷◌, ◌++◌, length, refl, ap, arith, rules}
use Rattle.tsdb_base.specs.declared.point.Point.{Point}
use Rattle.tsdb_base.specs.Limits.{max_values}
use Rattle.tsdb_pages.specs.Pages.{IsInRange}
use Rattle.tsfile_writer.specs.BuilderInput.{with_last_point}
use Rattle.tsfile_writer.proofs.Appending.{always_on_err}
use Rattle.tsfile_writer.proofs.Waiting.{are_points, state_as, state_at, page_turned, point_suits, point_waits}
use Rattle.tsfile_writer.proofs.builder.OpenSeries.add_point.Goals as goal
use Rattle.tsfile_writer.proofs.builder.OpenSeries.add_point.Goals.{then-len-eq-MAX_POINTS+in_ok-put_page, else-len-eq-MAX_POINTS}

pub put_page-requires-clause-points : goal.put_page-requires-clause-points
put_page-requires-clause-points c =
    let self = c.args.self.now in
    let state = c.requires.2 in
    are_points state.last state.pages self.path self.data_type self.encoding self.points.items state.is (grind arith)

pub returns-in_err-put_page-clause-memory : goal.returns-in_err-put_page-clause-memory
returns-in_err-put_page-clause-memory c = always_on_err c.from_residual.result (λ given state.
    let self = c.args.self.now in
    let after = c.put_page.new.self in
    let put = c.in_err-put_page.ensures in
    state_as given c.args.into.now.items c.put_page.new.into.items c.args.entries.now self.path after.path self.data_type after.data_type self.encoding after.encoding self.chunk after.chunk self.points.items after.points.items
    state put.memory put.same.path_is put.same.type_is put.same.encoding_is put.same.points_are put.same_chunk)

pub returns-clause-ok : goal.returns-clause-ok
returns-clause-ok c = λ front last state.
    let self = c.args.self.now in
    let in_range : IsInRange c.args.point = search rules in
    let suits = point_suits c.requires.0 c.requires.1 c.args.into.now.items c.args.entries.now self.path self.data_type self.encoding self.chunk self.points.items c.args.point c.requires.2 c.requires.3 in_range in
    elim c.if-len-eq-MAX_POINTS.branch [
      | then-len-eq-MAX_POINTS+in_ok-put_page w ↦
          let put = w.in_ok-put_page.ensures in
          let size : length c.args.self.now.points.items ≡ max_values = grind (arith, w.if-len-eq-MAX_POINTS.true) in
          let turned = page_turned front last (record { points = self.points.items }) c.args.into.now.items w.put_page.new.into.items c.args.entries.now self.path self.data_type self.encoding self.chunk w.put_page.new.self.chunk self.points.items c.args.point
          state suits size refl put.ok in
          rw (c.in_ok-push.ensures.items, w.self-is, w.into-is)
          (state_at (front ++ with_last_point c.args.point last ∷ []) w.put_page.new.into.items c.args.entries.now self.path w.put_page.new.self.path self.data_type w.put_page.new.self.data_type self.encoding w.put_page.new.self.encoding w.put_page.new.self.chunk
          (c.args.point ∷ []) (w.clear.new.self.items ++ c.args.point ∷ []) turned put.same.path_is put.same.type_is put.same.encoding_is (ap (λ (l : List Point). l ++ c.args.point ∷ []) w.clear.ensures.items))
      | else-len-eq-MAX_POINTS w ↦
          let room : length c.args.self.now.points.items < max_values = grind (arith, w.if-len-eq-MAX_POINTS.false, state.is.few) in
          rw (c.in_ok-push.ensures.items, w.self-is, w.into-is)
          (point_waits front last c.args.into.now.items c.args.entries.now self.path self.data_type self.encoding self.chunk self.points.items c.args.point state suits room)
    ]
