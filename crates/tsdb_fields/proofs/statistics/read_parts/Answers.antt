use Rattle.std.proofs.lemmas.Result.{err_from_is_err_and}
use Rattle.tsdb_fields.specs.Statistics.{stats_field, IsStatsOf}
use Rattle.tsdb_fields.proofs.Parts.{no_times, no_ends, no_numbers, part_fault, parts_of, times, AreTimes, ends, AreEnds, numbers, AreNumbers}
use Rattle.tsdb_fields.proofs.statistics.read_parts.Goals as goal

pub returns-in_err-count : goal.returns-in_err-count
returns-in_err-count c = record {
  parts =
      let p = err_from_is_err_and c.from_residual.result c.from_residual.ensures.1 in
      let t = c.args.data_type in
      let s = c.args.sums in
      let lacks = part_fault times AreTimes stats_field (IsStatsOf s t) c.args.rest c.args.rest (λ v. v) (λ v. v) c.in_err-count.field-0.0
      (no_times s t c.args.rest.bytes.now) (parts_of times AreTimes c.args.rest (λ v. v) c.in_err-count.field-0.0 c.in_err-count.ensures.exact) in
      rw (p.1, p.2) lacks;
}

pub returns-in_err-first : goal.returns-in_err-first
returns-in_err-first c = record {
  parts =
      let p = err_from_is_err_and c.from_residual-in_err-first.result c.from_residual-in_err-first.ensures.1 in
      let t = c.args.data_type in
      let s = c.args.sums in
      let lacks = part_fault ends (AreEnds t) stats_field (IsStatsOf s t) c.args.rest c.in_ok-count.behind (λ v. v) (λ v. v) c.in_err-first.field-0.0
      (no_ends s t _ c.args.rest.bytes.now c.in_ok-count.behind.bytes.now c.in_ok-count.ensures.exact.1 c.in_ok-count.ensures.exact.0.bytes) c.in_err-first.ensures.parts in
      rw (p.1, p.2) lacks;
}

pub returns-in_err-least : goal.returns-in_err-least
returns-in_err-least c = record {
  parts =
      let p = err_from_is_err_and c.from_residual-in_err-least.result c.from_residual-in_err-least.ensures.1 in
      let t = c.args.data_type in
      let s = c.args.sums in
      let lacks = part_fault numbers (AreNumbers s t) stats_field (IsStatsOf s t) c.args.rest c.in_ok-first.behind (λ v. v) (λ v. v) c.in_err-least.field-0.0
      (no_numbers s t _ (c.in_ok-first.first, c.in_ok-first.last) c.args.rest.bytes.now c.in_ok-count.behind.bytes.now c.in_ok-first.behind.bytes.now
      c.in_ok-count.ensures.exact.1 c.in_ok-count.ensures.exact.0.bytes c.in_ok-first.ensures.parts.1 c.in_ok-first.ensures.parts.0.bytes) c.in_err-least.ensures.parts in
      rw (p.1, p.2) lacks;
}
