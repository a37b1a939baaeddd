use Rattle.std.proofs.lemmas.Result.{err_from_is_err_and}
use Rattle.tsdb_base.specs.Fields.{number64}
use Rattle.tsdb_fields.specs.Statistics.{stats_field, IsStatsOf}
use Rattle.tsdb_fields.proofs.Parts.{part_fault, parts_of}
use Rattle.tsdb_index.specs.Entries.{IsPageOf}
use Rattle.tsdb_index.specs.Versions.{has_sums}
use Rattle.tsdb_index.specs.Spelling.{page_entry_field}
use Rattle.tsdb_index.proofs.Entries.{Is64, no_place, no_stats}
use Rattle.tsdb_index.proofs.reading.PageReaderFieldReader.read.Goals as goal

pub returns-in_err-place : goal.returns-in_err-place
returns-in_err-place c = record {
  exact =
      let version = c.args.self.now.version in
      let p = err_from_is_err_and c.from_residual.result c.from_residual.ensures.1 in
      let t = c.args.self.now.data_type in
      let lacks = part_fault number64 Is64 page_entry_field (IsPageOf version t) c.args.rest c.args.rest (λ v. v) (λ s. s) c.in_err-place.field-0.0
      (no_place version t c.args.rest.bytes.now) (parts_of number64 Is64 c.args.rest (λ v. v) c.in_err-place.field-0.0 c.in_err-place.ensures.exact) in
      rw (p.1, p.2) lacks;
}

pub returns-in_err-stats : goal.returns-in_err-stats
returns-in_err-stats c = record {
  exact =
      let version = c.args.self.now.version in
      let p = err_from_is_err_and c.from_residual-in_err-stats.result c.from_residual-in_err-stats.ensures.1 in
      let t = c.args.self.now.data_type in
      let lacks = part_fault stats_field (IsStatsOf (has_sums version) t) page_entry_field (IsPageOf version t) c.args.rest c.in_ok-place.behind (λ v. v) (λ s. s) c.in_err-stats.field-0.0
      (no_stats version t c.in_ok-place.place c.args.rest.bytes.now c.in_ok-place.behind.bytes.now c.in_ok-place.ensures.exact.1 c.in_ok-place.ensures.exact.0.bytes)
      (parts_of stats_field (IsStatsOf (has_sums version) t) c.in_ok-place.behind (λ v. v) c.in_err-stats.field-0.0 c.in_err-stats.ensures.exact) in
      rw (p.1, p.2) lacks;
}
