use Rattle.std.proofs.Common.{ℕ, List, ap, ◌∙◌}
use Rattle.std.proofs.lemmas.Result.{err_from_is_err_and}
use Rattle.tsdb_fields.specs.declared.rest.Rest.{Rest}
use Rattle.tsdb_index.specs.declared.index.IndexEntry.{IndexEntry}
use Rattle.tsdb_index.specs.declared.index.PageEntry.{PageEntry}
use Rattle.tsfile_reader.specs.declared.parts.Pages.{Pages}
use Rattle.tsfile_reader.specs.Parts.{FilePart}
use Rattle.tsfile_reader.specs.Steps.{ReadsChunk, ReadsPages, StopsBehind, chunk_part}
use Rattle.tsfile_reader.proofs.ChunkLoop.{chunk_read}
use Rattle.tsfile_reader.proofs.PageLoop.{pass_stop}
use Rattle.tsfile_reader.proofs.parts.read_chunk.Goals as goal

pub returns-in_err-pages : goal.returns-in_err-pages
returns-in_err-pages c =
    let p = err_from_is_err_and c.from_residual.result c.from_residual.ensures.1 in
    let h = c.args.head in
    let e = c.in_err-pages in
    let lacks = pass_stop (λ (r : Pages × Rest). ReadsPages c.args.version h.data_type h.encoding c.args.rest r.1 r.0) (λ (r : IndexEntry × Rest). ReadsChunk c.args.version c.args.device.now h c.args.place c.args.rest r.1 r.0)
    (λ at. (m : List ℕ) → StopsBehind (FilePart.Chunk m h.data_type h.encoding) c.args.rest at) (StopsBehind (chunk_part h) c.args.rest) e.field-0.0 e.ensures (λ at stops. stops h.measurement) in
    rw (p.1, p.2) lacks

pub returns : goal.returns
returns c =
    let h = c.args.head in
    let r = c.in_ok-pages in
    chunk_read c.args.version c.args.device.now h c.args.place c.args.rest r.behind r.pages _ c.requires.head c.requires.behind r.ensures
    (ap (λ (p : List PageEntry). record { device = c.in_ok-copy.field-0; measurement = h.measurement; data_type = h.data_type; encoding = h.encoding; place = c.args.place; stats = r.pages.stats; pages = p }) c.of.ensures
    ∙ ap (λ (d : List ℕ). record { device = d; measurement = h.measurement; data_type = h.data_type; encoding = h.encoding; place = c.args.place; stats = r.pages.stats; pages = r.pages.entries.items }) c.in_ok-copy.ensures)
