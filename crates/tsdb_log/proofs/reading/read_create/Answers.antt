use Rattle.std.proofs.Common.{ℕ, List, ◌∷◌, ◌++◌, refl, ap}
use Rattle.std.proofs.lemmas.List.{append-nil}
use Rattle.std.proofs.lemmas.Result.{err_from_is_err_and}
use Rattle.tsdb_base.specs.Fields.{encoding_field, type_field}
use Rattle.tsdb_base.specs.Plain.{plain_text}
use Rattle.tsdb_fields.proofs.Taken.{takes_both}
use Rattle.tsdb_log.specs.declared.record.LogRecord.TheVariants.{Create}
use Rattle.tsdb_log.proofs.Exits.{create_path, create_type, create_encoding}
use Rattle.tsdb_log.proofs.Faults.{takes_record}
use Rattle.tsdb_log.proofs.reading.read_create.Goals as goal

pub returns-in_err-path : goal.returns-in_err-path
returns-in_err-path c = record {
  exact =
      let p = err_from_is_err_and c.from_residual.result c.from_residual.ensures.1 in
      rw (p.1, p.2) (create_path _ c.in_err-path.field-0.0 refl c.in_err-path.ensures.exact);
}

pub returns-in_err-data_type : goal.returns-in_err-data_type
returns-in_err-data_type c = record {
  exact =
      let p = err_from_is_err_and c.from_residual-in_err-data_type.result c.from_residual-in_err-data_type.ensures.1 in
      rw (p.1, p.2) (create_type c.in_ok-path.path _ c.in_ok-path.behind c.in_err-data_type.field-0.0 refl c.in_ok-path.ensures.exact.1 c.in_ok-path.ensures.exact.0 c.in_err-data_type.ensures.exact);
}

pub returns-in_err-encoding : goal.returns-in_err-encoding
returns-in_err-encoding c = record {
  exact =
      let p = err_from_is_err_and c.from_residual-in_err-encoding.result c.from_residual-in_err-encoding.ensures.1 in
      rw (p.1, p.2) (create_encoding c.in_ok-path.path c.in_ok-data_type.data_type _ c.in_ok-path.behind c.in_ok-data_type.behind c.in_err-encoding.field-0.0 refl
      c.in_ok-path.ensures.exact.1 c.in_ok-path.ensures.exact.0 c.in_ok-data_type.ensures.exact.0 c.in_err-encoding.ensures.exact);
}

pub returns : goal.returns
returns c = record {
  exact =
      let p = c.in_ok-path in
      let t = c.in_ok-data_type in
      let e = c.in_ok-encoding in
      let kind = type_field t.data_type ++ encoding_field e.encoding in
      let spelled = ap (λ (l : List ℕ). 1 ∷ plain_text p.path ++ (type_field t.data_type ++ l)) (append-nil (encoding_field e.encoding)) in
      takes_record 1 (Create p.path t.data_type e.encoding) (plain_text p.path ++ kind) _ e.behind p.ensures.exact.1 spelled refl
      (takes_both _ p.behind e.behind (plain_text p.path) kind p.ensures.exact.0
      (takes_both p.behind t.behind e.behind (type_field t.data_type) (encoding_field e.encoding) t.ensures.exact.0 e.ensures.exact.0));
}
