use Rattle.std.proofs.Common.{◌≡◌, ◌<◌, List, [], ◌∷◌, ◌++◌, Some, length, refl, sym, ◌∙◌, ap, subst, arith, rules}
use Rattle.std.specs.Prelude.{Option}
use Rattle.tsdb_index.specs.declared.index.IndexEntry.{IndexEntry}
use Rattle.tsdb_base.specs.Limits.{max_entries}
use Rattle.tsfile_writer.specs.declared.layout.OpenChunk.{OpenChunk}
use Rattle.tsfile_writer.specs.Building.{BuildState, PutsIn}
use Rattle.tsfile_writer.proofs.Appending.{always_on_err}
use Rattle.tsfile_writer.proofs.Waiting.{are_points, state_as, some_wait}
use Rattle.tsfile_writer.proofs.Closing.{series_closed}
use Rattle.tsfile_writer.proofs.builder.OpenSeries.close.Goals as goal

pub put_page-requires-clause-points : goal.put_page-requires-clause-points
put_page-requires-clause-points c =
    let self = c.args.self.now in
    let state = c.requires.2 in
    are_points state.last state.pages self.path self.data_type self.encoding self.points.items state.is
    (some_wait c.requires.0 c.requires.1 c.args.into.now.items c.args.entries.now.items self.path self.data_type self.encoding self.chunk self.points.items state c.requires.3)

pub returns-in_err-put_page-clause-memory : goal.returns-in_err-put_page-clause-memory
returns-in_err-put_page-clause-memory c = always_on_err c.from_residual-in_err-put_page.result (λ given state.
    let self = c.args.self.now in
    let after = c.put_page.new.self in
    let put = c.in_err-put_page.ensures in
    subst (λ (entries : List IndexEntry). BuildState given c.put_page.new.into.items entries after.path after.data_type after.encoding after.chunk after.points.items) (sym c.in_ok-reserve.ensures.items)
    (state_as given c.args.into.now.items c.put_page.new.into.items c.args.entries.now.items self.path after.path self.data_type after.data_type self.encoding after.encoding self.chunk after.chunk self.points.items after.points.items
    state put.memory put.same.path_is put.same.type_is put.same.encoding_is put.same.points_are put.same_chunk))

pub returns-clause-ok : goal.returns-clause-ok
returns-clause-ok c = λ given state.
    let self = c.args.self.now in
    let put = c.in_ok-put_page.ensures in
    let said = c.into_entry-entry.ensures in
    let whole = c.in-Some.chunk in
    let entries = c.args.entries.now.items in
    let there : c.put_page.new.self.chunk ≡ Some c.in-Some.chunk = search rules in
    let puts = subst (λ (chunk : Option OpenChunk). PutsIn self.path self.data_type self.encoding self.points.items entries c.args.into.now.items c.put_page.new.into.items self.chunk chunk) there
    (subst (λ (entries : List IndexEntry). PutsIn self.path self.data_type self.encoding self.points.items entries c.args.into.now.items c.put_page.new.into.items self.chunk c.put_page.new.self.chunk)
    (c.deref.ensures.value ∙ c.in_ok-reserve.ensures.items) put.ok) in
    let room : length c.args.entries.now.items < max_entries = grind (arith, c.if-len-ge-MAX_CHUNKS.false) in
    let some = some_wait c.requires.0 c.requires.1 c.args.into.now.items entries self.path self.data_type self.encoding self.chunk self.points.items c.requires.2 c.requires.3 in
    series_closed given (record { points = self.points.items }) c.args.into.now.items c.put_page.new.into.items entries c.push.new.self.items self.path self.data_type self.encoding self.chunk whole self.points.items c.into_entry-entry.result
    state some refl puts
    (record {
      device_is = said.device ∙ c.in_ok-device.ensures.value;
      measurement_is = said.measurement ∙ c.in_ok-measurement.ensures.value;
      type_is = said.data_type ∙ put.same.type_is;
      encoding_is = said.encoding ∙ put.same.encoding_is;
      place_is = said.place;
      stats = said.stats;
      pages_are = said.pages;
    })
    (c.in-Ok.ensures.items ∙ ap (λ (l : List IndexEntry). l ++ c.into_entry-entry.result ∷ []) c.in_ok-reserve.ensures.items) room
