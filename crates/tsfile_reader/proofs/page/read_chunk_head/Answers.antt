use Rattle.std.proofs.lemmas.Grind.{common_steps}
use Rattle.std.proofs.Common.{◌≡◌, false, rules, arith}
use Rattle.std.proofs.lemmas.Result.{err_from_is_err_and}
use Rattle.tsdb_base.specs.Values.{is_suitable}
use Rattle.tsdb_fields.proofs.Parts.{part_fault, parts_of}
use Rattle.tsfile_reader.specs.Parts.{part_field}
use Rattle.tsfile_reader.specs.Steps.{IsChunkHead, chunk_part}
use Rattle.tsfile_reader.proofs.Heads.{IsKind, kind_field, no_kind, unsuited}
use Rattle.tsfile_reader.proofs.page.read_chunk_head.Goals as goal

pub returns-in_err-data_type : goal.returns-in_err-data_type
returns-in_err-data_type c = record {
  parts =
      let p = err_from_is_err_and c.from_residual-in_err-data_type.result c.from_residual-in_err-data_type.ensures.1 in
      let m = c.in_ok-measurement in
      let f = c.in-Some.fields in
      let lacks = part_fault kind_field IsKind (λ h. part_field (chunk_part h)) IsChunkHead c.args.rest m.behind (λ v. v) (λ h. h) c.in_err-data_type.field-0.0
      (no_kind c.args.rest.bytes.now f.bytes.now m.behind.bytes.now m.measurement c.in-Some.ensures.bytes m.ensures.exact.0.bytes m.ensures.exact.1)
      (parts_of kind_field IsKind m.behind (λ v. v) c.in_err-data_type.field-0.0 c.in_err-data_type.ensures.exact) in
      rw (p.1, p.2) lacks;
}

pub returns-then-not-suits : goal.returns-then-not-suits
returns-then-not-suits c = record {
  parts =
      let m = c.in_ok-measurement in
      let k = c.in_ok-data_type in
      let unfit : is_suitable k.data_type k.encoding ≡ false = search rules in
      unsuited c.args.rest.bytes.now c.in-Some.fields.bytes.now m.behind.bytes.now k.behind.bytes.now m.measurement k.data_type k.encoding c.in-Some.ensures.bytes m.ensures.exact.0.bytes m.ensures.exact.1 k.ensures.exact.0.bytes unfit;
}

pub returns-in_err-measurement : goal.returns-in_err-measurement
returns-in_err-measurement c = grind (arith, common_steps)

pub returns : goal.returns
returns c = grind (arith, common_steps)
