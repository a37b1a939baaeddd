use Rattle.std.proofs.lemmas.Grind.{common_steps}
use Rattle.std.proofs.Common.{ℕ, List, Vec, Global, subst, sym, ◌∙◌, arith}
use Rattle.std.proofs.lemmas.Bool.{false≢true}
use Rattle.std.proofs.lemmas.Result.{err_from_is_err_and}
use Rattle.tsdb_base.specs.Plain.{BeginsWithNone}
use Rattle.tsdb_fields.specs.declared.rest.Rest.{Rest}
use Rattle.tsdb_index.specs.declared.index.IndexEntry.{IndexEntry}
use Rattle.tsfile_reader.specs.declared.page.ChunkHead.{ChunkHead}
use Rattle.tsfile_reader.specs.Parts.{FilePart}
use Rattle.tsfile_reader.specs.Steps.{IsChunkHead, IsLaterHead, ReadsChunk, ReadsChunks, StopsBehind, chunk_part}
use Rattle.tsfile_reader.proofs.ChunkLoop.{all_chunks, first_chunk, in_first_chunk, in_next_chunk, last_measurement, next_chunk_read, no_first_chunk, no_next_chunk, some_entries}
use Rattle.tsfile_reader.proofs.Later.{head_bytes}
use Rattle.tsfile_reader.proofs.PageLoop.{pass_stop, stop}
use Rattle.tsfile_reader.proofs.parts.read_chunks.Goals as goal

pub returns-in-Err : goal.returns-in-Err
returns-in-Err c =
    let d = c.args.device.now in
    stop head_bytes IsChunkHead c.args.rest (λ (h : ChunkHead). h) c.in-Err.fault c.of_part.result c.args.rest.at (λ (r : Vec IndexEntry Global × Rest). ReadsChunks c.args.version d c.args.rest r.1 r.0.items) (StopsBehind (FilePart.Group d) c.args.rest) c.in-Err.ensures.parts c.of_part.ensures
    (λ none. no_first_chunk d c.args.rest none)

pub returns-in_err-entry : goal.returns-in_err-entry
returns-in_err-entry c =
    let p = err_from_is_err_and c.from_residual.result c.from_residual.ensures.1 in
    let d = c.args.device.now in
    let h = c.in-Ok.read.0 in
    let b = c.in-Ok.read.1 in
    let e = c.in_err-entry in
    let lacks = pass_stop (λ (r : IndexEntry × Rest). ReadsChunk c.args.version d h c.args.rest.at b r.1 r.0) (λ (r : Vec IndexEntry Global × Rest). ReadsChunks c.args.version d c.args.rest r.1 r.0.items) (StopsBehind (chunk_part h) b) (StopsBehind (FilePart.Group d) c.args.rest) e.field-0.0 e.ensures
    (λ at stops. in_first_chunk d c.args.rest b h at c.in-Ok.ensures.parts.1 c.in-Ok.ensures.parts.0 stops) in
    rw (p.1, p.2) lacks

pub chunks-init : goal.chunks-init
chunks-init c =
    let r = c.in_ok-entry in
    first_chunk c.args.version c.args.device.now c.args.rest c.in-Ok.read.1 r.behind c.in-Ok.read.0 r.entry c.in_ok-entries.entries.items c.in_ok-entries.ensures.items c.in-Ok.ensures.parts.0 r.ensures

pub overflow_sub-len : goal.overflow_sub-len
overflow_sub-len c =
    let some = some_entries c.args.version c.args.device.now c.args.rest c.chunks.left c.chunks.entries.items c.chunks.invariant in
    let ok = c.chunks.entries.ok.0 in
    let len = c.len.ensures in
    omega (arith, some, ok, len)

pub index-requires : goal.index-requires
index-requires c =
    let some = some_entries c.args.version c.args.device.now c.args.rest c.chunks.left c.chunks.entries.items c.chunks.invariant in
    let ok = c.chunks.entries.ok.0 in
    let len = c.len.ensures in
    omega (arith, some, ok, len)

pub returns-in-Err-read_next_head : goal.returns-in-Err-read_next_head
returns-in-Err-read_next_head c =
    let d = c.args.device.now in
    let left = c.chunks.left in
    let so_far = c.chunks.invariant in
    let ok = c.chunks.entries.ok.0 in
    let len = c.len.ensures in
    let same = last_measurement c.args.version d c.args.rest left c.chunks.entries.items so_far c.index.result.now c.len.result (omega (arith, ok, len)) c.index.ensures in
    let e = c.in-Err-read_next_head in
    stop head_bytes (IsLaterHead c.index.result.now.measurement) left (λ (h : ChunkHead). h) e.fault c.of_part-in-Err-read_next_head.result left.at (λ (r : Vec IndexEntry Global × Rest). ReadsChunks c.args.version d c.args.rest r.1 r.0.items) (StopsBehind (FilePart.Group d) c.args.rest) e.ensures.parts
    c.of_part-in-Err-read_next_head.ensures
    (λ none. no_next_chunk c.args.version d c.args.rest left c.chunks.entries.items so_far (c.begins_with_mark.ensures.0 c.chunks-test.true) (subst (λ (m : List ℕ). BeginsWithNone head_bytes (IsLaterHead m) c.chunks.left.bytes.now) same none))

pub returns-in_err-entry-2 : goal.returns-in_err-entry-2
returns-in_err-entry-2 c =
    let p = err_from_is_err_and c.from_residual-in_err-entry-2.result c.from_residual-in_err-entry-2.ensures.1 in
    let d = c.args.device.now in
    let left = c.chunks.left in
    let so_far = c.chunks.invariant in
    let ok = c.chunks.entries.ok.0 in
    let len = c.len.ensures in
    let same = last_measurement c.args.version d c.args.rest left c.chunks.entries.items so_far c.index.result.now c.len.result (omega (arith, ok, len)) c.index.ensures in
    let h = c.in-Ok-read_next_head.read.0 in
    let b = c.in-Ok-read_next_head.read.1 in
    let parts = c.in-Ok-read_next_head.ensures.parts in
    let later : IsLaterHead c.chunks.invariant.final.measurement c.in-Ok-read_next_head.read.0 = subst (λ (m : List ℕ). IsLaterHead m c.in-Ok-read_next_head.read.0) same parts.1 in
    let e = c.in_err-entry-2 in
    let lacks = pass_stop (λ (r : IndexEntry × Rest). ReadsChunk c.args.version d h left.at b r.1 r.0) (λ (r : Vec IndexEntry Global × Rest). ReadsChunks c.args.version d c.args.rest r.1 r.0.items) (StopsBehind (chunk_part h) b) (StopsBehind (FilePart.Group d) c.args.rest) e.field-0.0 e.ensures
    (λ at stops. in_next_chunk c.args.version d c.args.rest left b c.chunks.entries.items so_far h at later parts.0 stops) in
    rw (p.1, p.2) lacks

pub chunks-preserved : goal.chunks-preserved
chunks-preserved c =
    let d = c.args.device.now in
    let left = c.chunks.left in
    let so_far = c.chunks.invariant in
    let ok = c.chunks.entries.ok.0 in
    let len = c.len.ensures in
    let same = last_measurement c.args.version d c.args.rest left c.chunks.entries.items so_far c.index.result.now c.len.result (omega (arith, ok, len)) c.index.ensures in
    let h = c.in-Ok-read_next_head.read.0 in
    let b = c.in-Ok-read_next_head.read.1 in
    let parts = c.in-Ok-read_next_head.ensures.parts in
    let later : IsLaterHead c.chunks.invariant.final.measurement c.in-Ok-read_next_head.read.0 = subst (λ (m : List ℕ). IsLaterHead m c.in-Ok-read_next_head.read.0) same parts.1 in
    let r = c.in_ok-entry-2 in
    next_chunk_read c.args.version d c.args.rest left b r.behind h r.entry c.chunks.entries.items c.push.new.self.items so_far c.in_ok-push.ensures.items parts.0 later.1 r.ensures

pub returns : goal.returns
returns c =
    all_chunks c.args.version c.args.device.now c.args.rest c.chunks.left c.chunks.entries.items c.chunks.invariant (λ mark. let held = c.begins_with_mark.ensures.1 mark in false≢true (sym c.chunks-test.false ∙ held))

pub chunks-smaller : goal.chunks-smaller
chunks-smaller c = grind (arith, common_steps)
