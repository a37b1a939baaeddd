use Rattle.std.proofs.Common.{◌++◌}
use Rattle.std.proofs.lemmas.Result.{err_from_is_err_and}
use Rattle.tsdb_base.specs.Fields.{number64}
use Rattle.tsdb_base.specs.Plain.{plain_text}
use Rattle.tsdb_fields.specs.Nodes.{IsName, IsPath}
use Rattle.tsdb_fields.proofs.Parts.{part_fault, parts_of}
use Rattle.tsdb_fields.proofs.Taken.{takes_both}
use Rattle.tsdb_index.specs.Parts.{IsPointer, pointer_bytes}
use Rattle.tsdb_index.proofs.Entries.{Is64, no_pointer_name, no_pointer_path, no_pointer_place}
use Rattle.tsdb_index.proofs.reading.PointerReaderFieldReader.read.Goals as goal

pub returns-in_err-device : goal.returns-in_err-device
returns-in_err-device c = record {
  exact =
      let p = err_from_is_err_and c.from_residual.result c.from_residual.ensures.1 in
      let lacks = part_fault plain_text IsPath pointer_bytes IsPointer c.args.rest c.args.rest (λ v. v) (λ s. s) c.in_err-device.field-0.0
      (no_pointer_path c.args.rest.bytes.now) (parts_of plain_text IsPath c.args.rest (λ v. v) c.in_err-device.field-0.0 c.in_err-device.ensures.exact) in
      rw (p.1, p.2) lacks;
}

pub returns-in_err-measurement : goal.returns-in_err-measurement
returns-in_err-measurement c = record {
  exact =
      let p = err_from_is_err_and c.from_residual-in_err-measurement.result c.from_residual-in_err-measurement.ensures.1 in
      let lacks = part_fault plain_text IsName pointer_bytes IsPointer c.args.rest c.in_ok-device.behind (λ v. v) (λ s. s) c.in_err-measurement.field-0.0
      (no_pointer_name c.in_ok-device.device c.args.rest.bytes.now c.in_ok-device.behind.bytes.now c.in_ok-device.ensures.exact.1 c.in_ok-device.ensures.exact.0.bytes)
      (parts_of plain_text IsName c.in_ok-device.behind (λ v. v) c.in_err-measurement.field-0.0 c.in_err-measurement.ensures.exact) in
      rw (p.1, p.2) lacks;
}

pub returns-in_err-place : goal.returns-in_err-place
returns-in_err-place c = record {
  exact =
      let p = err_from_is_err_and c.from_residual-in_err-place.result c.from_residual-in_err-place.ensures.1 in
      let lacks = part_fault number64 Is64 pointer_bytes IsPointer c.args.rest c.in_ok-measurement.behind (λ v. v) (λ s. s) c.in_err-place.field-0.0
      (no_pointer_place c.in_ok-device.device c.in_ok-measurement.measurement c.args.rest.bytes.now c.in_ok-device.behind.bytes.now c.in_ok-measurement.behind.bytes.now
      c.in_ok-device.ensures.exact.1 c.in_ok-device.ensures.exact.0.bytes c.in_ok-measurement.ensures.exact.1 c.in_ok-measurement.ensures.exact.0.bytes)
      (parts_of number64 Is64 c.in_ok-measurement.behind (λ v. v) c.in_err-place.field-0.0 c.in_err-place.ensures.exact) in
      rw (p.1, p.2) lacks;
}

pub returns : goal.returns
returns c = record {
  exact =
      let d = c.in_ok-device in
      let m = c.in_ok-measurement in
      let p = c.in_ok-place in
      let names = takes_both c.args.rest d.behind m.behind (plain_text d.device) (plain_text m.measurement) d.ensures.exact.0 m.ensures.exact.0 in (
        takes_both c.args.rest m.behind p.behind (plain_text d.device ++ plain_text m.measurement) (number64 p.place) names p.ensures.exact.0,
        record { device = d.ensures.exact.1; measurement = m.ensures.exact.1; place = p.ensures.exact.1 },
      );
}
