use Rattle.std.proofs.Common.{Err, Option, subst}
use Rattle.std.specs.Prelude.{ℤ, Bool, ◌&&◌}
use Rattle.std.proofs.lemmas.Result.{err_from_is_err_and}
use Rattle.tsdb_fields.specs.Reading.{Reads}
use Rattle.tsdb_fields.specs.Statistics.{optional_sum, is_numeric, IsSumIf}
use Rattle.tsdb_fields.proofs.Parts.{no_first, no_second, part_fault, parts_of, extremes, AreExtremes, extremes-prefix_free, numbers, AreNumbers}
use Rattle.tsdb_fields.proofs.Taken.{takes_both}
use Rattle.tsdb_fields.proofs.statistics.read_numbers.Goals as goal

pub returns-in_err-extremes : goal.returns-in_err-extremes
returns-in_err-extremes c = record {
  parts =
      let p = err_from_is_err_and c.from_residual.result c.from_residual.ensures.1 in
      let t = c.args.data_type in
      let s = c.args.sums in
      let lacks = part_fault extremes (AreExtremes t) numbers (AreNumbers s t) c.args.rest c.args.rest (λ v. v) (λ v. v) c.in_err-extremes.field-0.0
      (no_first extremes optional_sum (AreExtremes t) (IsSumIf (s && is_numeric t)) c.args.rest.bytes.now) c.in_err-extremes.ensures.parts in
      rw (p.1, p.2) lacks;
}

pub returns-in_err-sum : goal.returns-in_err-sum
returns-in_err-sum c = record {
  parts =
      let p = err_from_is_err_and c.from_residual-in_err-sum.result c.from_residual-in_err-sum.ensures.1 in
      let t = c.args.data_type in
      let s = c.args.sums in
      let e = c.in_ok-extremes in
      let read = subst (λ (there : Bool). Reads {B = Option ℤ} optional_sum (IsSumIf there) c.in_ok-extremes.behind (λ v. v) (Err c.in_err-sum.field-0.0)) c.has_sum.ensures c.in_err-sum.ensures.exact in
      let lacks = part_fault optional_sum (IsSumIf (s && is_numeric t)) numbers (AreNumbers s t) c.args.rest e.behind (λ v. v) (λ v. v) c.in_err-sum.field-0.0
      (no_second extremes optional_sum (AreExtremes t) (IsSumIf (s && is_numeric t)) (extremes-prefix_free t) e.extremes c.args.rest.bytes.now e.behind.bytes.now e.ensures.parts.1 e.ensures.parts.0.bytes)
      (parts_of optional_sum (IsSumIf (s && is_numeric t)) e.behind (λ v. v) c.in_err-sum.field-0.0 read) in
      rw (p.1, p.2) lacks;
}

pub returns : goal.returns
returns c = record {
  parts =
      let t = c.args.data_type in
      let e = c.in_ok-extremes in
      let m = c.in_ok-sum in (
        takes_both c.args.rest e.behind m.behind (extremes e.extremes) (optional_sum m.sum) e.ensures.parts.0 m.ensures.exact.0,
        (e.ensures.parts.1, subst (λ (there : Bool). IsSumIf there m.sum) c.has_sum.ensures m.ensures.exact.1),
      );
}
