use Rattle.std.proofs.Common.{◌≡◌, ◌++◌, ℕ, Vec, Global, false, length, ap, sym, arith, rules}
use Rattle.std.specs.List.{flat_map}
use Rattle.std.proofs.lemmas.Result.{err_from_is_err_and}
use Rattle.tsdb_base.specs.declared.value.DataType.{DataType}
use Rattle.tsdb_base.specs.declared.value.Encoding.{Encoding}
use Rattle.tsdb_index.specs.declared.index.IndexEntry.{IndexEntry}
use Rattle.tsdb_index.specs.declared.index.PageEntry.{PageEntry}
use Rattle.tsdb_base.specs.Fields.{number32}
use Rattle.tsdb_base.specs.Plain.{AreValues, plain_text}
use Rattle.tsdb_base.specs.Values.{is_suitable}
use Rattle.tsdb_fields.specs.Nodes.{IsName, IsPath}
use Rattle.tsdb_fields.specs.Statistics.{stats_field, IsStatsOf}
use Rattle.tsdb_fields.proofs.Parts.{part_fault, parts_of}
use Rattle.tsdb_fields.proofs.Taken.{no_fields, takes_both, takes_same}
use Rattle.tsdb_index.specs.Entries.{IsEntry, IsPageOf}
use Rattle.tsdb_index.specs.Versions.{has_sums}
use Rattle.tsdb_index.specs.Spelling.{entry_field, page_entry_field}
use Rattle.tsdb_index.proofs.Entries.{Is32, IsKind, behind_kind, behind_name, behind_path, behind_stats, entry_apart, kind_field, no_kind, no_name, no_number, no_pages, no_path, no_statistics, page-prefix_free, past_kind, past_name, past_number, past_path, past_statistics, unsuited}
use Rattle.tsdb_index.proofs.reading.EntryReaderFieldReader.read.Goals as goal

pub returns-in_err-device : goal.returns-in_err-device
returns-in_err-device c = record {
  exact =
      let version = c.args.self.now.version in
      let p = err_from_is_err_and c.from_residual.result c.from_residual.ensures.1 in
      let lacks = part_fault plain_text IsPath entry_field (IsEntry version) c.args.rest c.args.rest (λ v. v) (λ s. s) c.in_err-device.field-0.0
      (no_path version c.args.rest.bytes.now) (parts_of plain_text IsPath c.args.rest (λ v. v) c.in_err-device.field-0.0 c.in_err-device.ensures.exact) in
      rw (p.1, p.2) lacks;
}

pub returns-in_err-measurement : goal.returns-in_err-measurement
returns-in_err-measurement c = record {
  exact =
      let version = c.args.self.now.version in
      let p = err_from_is_err_and c.from_residual-in_err-measurement.result c.from_residual-in_err-measurement.ensures.1 in
      let d = c.in_ok-device in
      let lacks = part_fault plain_text IsName entry_field (IsEntry version) c.args.rest d.behind (λ v. v) (λ s. s) c.in_err-measurement.field-0.0
      (λ none. past_path version d.device c.args.rest.bytes.now d.behind.bytes.now d.ensures.exact.1 d.ensures.exact.0.bytes (no_name version d.device d.behind.bytes.now none))
      (parts_of plain_text IsName d.behind (λ v. v) c.in_err-measurement.field-0.0 c.in_err-measurement.ensures.exact) in
      rw (p.1, p.2) lacks;
}

pub returns-in_err-data_type : goal.returns-in_err-data_type
returns-in_err-data_type c = record {
  exact =
      let version = c.args.self.now.version in
      let p = err_from_is_err_and c.from_residual-in_err-data_type.result c.from_residual-in_err-data_type.ensures.1 in
      let d = c.in_ok-device in
      let m = c.in_ok-measurement in
      let lacks = part_fault kind_field IsKind entry_field (IsEntry version) c.args.rest m.behind (λ v. v) (λ s. s) c.in_err-data_type.field-0.0
      (λ none. past_path version d.device c.args.rest.bytes.now d.behind.bytes.now d.ensures.exact.1 d.ensures.exact.0.bytes (past_name version d.device m.measurement d.behind.bytes.now m.behind.bytes.now m.ensures.exact.1 m.ensures.exact.0.bytes (no_kind version d.device m.measurement m.behind.bytes.now none)))
      (parts_of kind_field IsKind m.behind (λ v. v) c.in_err-data_type.field-0.0 c.in_err-data_type.ensures.exact) in
      rw (p.1, p.2) lacks;
}

pub returns-then-not-suits : goal.returns-then-not-suits
returns-then-not-suits c = record {
  exact =
      let version = c.args.self.now.version in
      let d = c.in_ok-device in
      let m = c.in_ok-measurement in
      let k = c.in_ok-data_type in
      let kind : DataType × (Encoding × ℕ) = (k.data_type, (k.encoding, k.place)) in
      let unfit : is_suitable k.data_type k.encoding ≡ false = search rules in
      past_path version d.device c.args.rest.bytes.now d.behind.bytes.now d.ensures.exact.1 d.ensures.exact.0.bytes (past_name version d.device m.measurement d.behind.bytes.now m.behind.bytes.now m.ensures.exact.1 m.ensures.exact.0.bytes (past_kind version d.device m.measurement kind m.behind.bytes.now k.behind.bytes.now k.ensures.exact.1 k.ensures.exact.0.bytes (unsuited version d.device m.measurement kind k.behind.bytes.now unfit)));
}

pub returns-in_err-stats : goal.returns-in_err-stats
returns-in_err-stats c = record {
  exact =
      let version = c.args.self.now.version in
      let p = err_from_is_err_and c.from_residual-in_err-stats.result c.from_residual-in_err-stats.ensures.1 in
      let d = c.in_ok-device in
      let m = c.in_ok-measurement in
      let k = c.in_ok-data_type in
      let kind : DataType × (Encoding × ℕ) = (k.data_type, (k.encoding, k.place)) in
      let lacks = part_fault stats_field (IsStatsOf (has_sums version) k.data_type) entry_field (IsEntry version) c.args.rest k.behind (λ v. v) (λ s. s) c.in_err-stats.field-0.0
      (λ none. past_path version d.device c.args.rest.bytes.now d.behind.bytes.now d.ensures.exact.1 d.ensures.exact.0.bytes (past_name version d.device m.measurement d.behind.bytes.now m.behind.bytes.now m.ensures.exact.1 m.ensures.exact.0.bytes (past_kind version d.device m.measurement kind m.behind.bytes.now k.behind.bytes.now k.ensures.exact.1 k.ensures.exact.0.bytes (no_statistics version d.device m.measurement kind k.behind.bytes.now none))))
      (parts_of stats_field (IsStatsOf (has_sums version) k.data_type) k.behind (λ v. v) c.in_err-stats.field-0.0 c.in_err-stats.ensures.exact) in
      rw (p.1, p.2) lacks;
}

pub returns-in_err-count : goal.returns-in_err-count
returns-in_err-count c = record {
  exact =
      let version = c.args.self.now.version in
      let p = err_from_is_err_and c.from_residual-in_err-count.result c.from_residual-in_err-count.ensures.1 in
      let d = c.in_ok-device in
      let m = c.in_ok-measurement in
      let k = c.in_ok-data_type in
      let kind : DataType × (Encoding × ℕ) = (k.data_type, (k.encoding, k.place)) in
      let s = c.in_ok-stats in
      let lacks = part_fault number32 Is32 entry_field (IsEntry version) c.args.rest s.behind (λ v. v) (λ s. s) c.in_err-count.field-0.0
      (λ none. past_path version d.device c.args.rest.bytes.now d.behind.bytes.now d.ensures.exact.1 d.ensures.exact.0.bytes (past_name version d.device m.measurement d.behind.bytes.now m.behind.bytes.now m.ensures.exact.1 m.ensures.exact.0.bytes (past_kind version d.device m.measurement kind m.behind.bytes.now k.behind.bytes.now k.ensures.exact.1 k.ensures.exact.0.bytes (past_statistics version d.device m.measurement kind s.stats k.behind.bytes.now s.behind.bytes.now s.ensures.exact.1 s.ensures.exact.0.bytes (no_number version d.device m.measurement kind s.stats s.behind.bytes.now none)))))
      (parts_of number32 Is32 s.behind (λ v. v) c.in_err-count.field-0.0 c.in_err-count.ensures.exact) in
      rw (p.1, p.2) lacks;
}

pub returns-in_err-pages : goal.returns-in_err-pages
returns-in_err-pages c = record {
  exact =
      let version = c.args.self.now.version in
      let p = err_from_is_err_and c.from_residual-in_err-pages.result c.from_residual-in_err-pages.ensures.1 in
      let d = c.in_ok-device in
      let m = c.in_ok-measurement in
      let k = c.in_ok-data_type in
      let kind : DataType × (Encoding × ℕ) = (k.data_type, (k.encoding, k.place)) in
      let s = c.in_ok-stats in
      let n = c.in_ok-count in
      let lacks = part_fault (flat_map page_entry_field) (AreValues (IsPageOf version k.data_type) n.count) entry_field (IsEntry version) c.args.rest n.behind (λ (vs : Vec PageEntry Global). vs.items) (λ s. s) c.in_err-pages.field-0.0
      (λ none. past_path version d.device c.args.rest.bytes.now d.behind.bytes.now d.ensures.exact.1 d.ensures.exact.0.bytes (past_name version d.device m.measurement d.behind.bytes.now m.behind.bytes.now m.ensures.exact.1 m.ensures.exact.0.bytes (past_kind version d.device m.measurement kind m.behind.bytes.now k.behind.bytes.now k.ensures.exact.1 k.ensures.exact.0.bytes (past_statistics version d.device m.measurement kind s.stats k.behind.bytes.now s.behind.bytes.now s.ensures.exact.1 s.ensures.exact.0.bytes (past_number version d.device m.measurement kind s.stats n.count s.behind.bytes.now n.behind.bytes.now n.ensures.exact.1 n.ensures.exact.0.bytes (no_pages version d.device m.measurement kind s.stats n.count n.behind.bytes.now none))))))
      (no_fields page_entry_field (IsPageOf version k.data_type) (page-prefix_free version k.data_type) n.count n.behind (λ (vs : Vec PageEntry Global). vs.items) c.in_err-pages.field-0.0 c.in_err-pages.ensures.exact) in
      rw (p.1, p.2) lacks;
}

pub returns : goal.returns
returns c = record {
  exact =
      let version = c.args.self.now.version in
      let d = c.in_ok-device in
      let m = c.in_ok-measurement in
      let k = c.in_ok-data_type in
      let kind : DataType × (Encoding × ℕ) = (k.data_type, (k.encoding, k.place)) in
      let s = c.in_ok-stats in
      let n = c.in_ok-count in
      let g = c.in_ok-pages in
      let e : IndexEntry = record { device = d.device; measurement = m.measurement; data_type = k.data_type; encoding = k.encoding; place = k.place; stats = s.stats; pages = g.pages.items } in
      let len : number32 n.count ≡ number32 (length g.pages.items) = ap number32 (sym g.ensures.exact.1.0) in
      let pages = takes_both s.behind n.behind g.behind (number32 (length g.pages.items)) (flat_map page_entry_field g.pages.items) (takes_same s.behind n.behind (number32 n.count) (number32 (length g.pages.items)) len n.ensures.exact.0) g.ensures.exact.0 in
      let stats = takes_both k.behind s.behind g.behind (stats_field s.stats) (behind_stats e) s.ensures.exact.0 pages in
      let kinds = takes_both m.behind k.behind g.behind (kind_field kind) (behind_kind e) k.ensures.exact.0 stats in
      let names = takes_both d.behind m.behind g.behind (plain_text m.measurement) (behind_name e) m.ensures.exact.0 kinds in
      let whole = takes_both c.args.rest d.behind g.behind (plain_text d.device) (behind_path e) d.ensures.exact.0 names in
      rw c.of.ensures (
        takes_same c.args.rest g.behind (plain_text d.device ++ behind_path e) (entry_field e) (sym (entry_apart e)) whole,
        record {
          device = d.ensures.exact.1;
          measurement = m.ensures.exact.1;
          suits = search rules;
          place = k.ensures.exact.1.1.1;
          stats = s.ensures.exact.1;
          few = omega (arith, g.ensures.exact.1.0, n.ensures.exact.1);
          pages = g.ensures.exact.1.1;
        },
      );
}
