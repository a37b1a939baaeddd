use Rattle.std.proofs.Common.{ℕ, ◌<◌, ◌^◌, subst, sym}
use Rattle.std.proofs.lemmas.Result.{err_from_is_err_and}
use Rattle.tsdb_fields.specs.Reading.{TakesBytes}
use Rattle.tsdb_log.specs.Snapshots.{counted_fields, AreCounted}
use Rattle.tsdb_log.specs.Spelling.{joined_fields}
use Rattle.tsdb_log.proofs.Parts.{counted_count, counted_parts, takes_counted}
use Rattle.tsdb_log.proofs.part.ListPart.read.Goals as goal

pub returns-in_err-count : goal.returns-in_err-count
returns-in_err-count g c = record {
  exact =
      let p = err_from_is_err_and c.from_residual.result c.from_residual.ensures.1 in
      rw (p.1, p.2) (counted_count g.T.Part.fields g.T.Part.is_part g.met.T.Part.some.0 g.met.T.Part.some.1 c.args.rest c.in_err-count.field-0.0
      c.in_err-count.ensures.exact);
}

pub returns-in_err-parts : goal.returns-in_err-parts
returns-in_err-parts g c = record {
  exact =
      let p = err_from_is_err_and c.from_residual-in_err-parts.result c.from_residual-in_err-parts.ensures.1 in
      rw (p.1, p.2) (counted_parts g.T.Part.fields g.T.Part.is_part c.in_ok-count.count c.args.rest c.in_ok-count.behind c.in_err-parts.field-0.0
      c.in_ok-count.ensures.exact.1 c.in_ok-count.ensures.exact.0 c.in_err-parts.ensures.exact);
}

pub returns : goal.returns
returns g c = record {
  exact = subst (λ l. TakesBytes c.args.rest (joined_fields (counted_fields g.T.Part.fields l)) c.in_ok-parts.behind × AreCounted g.T.Part.is_part l) (sym c.of.ensures) (
    takes_counted g.T.Part.fields c.in_ok-count.count c.in_ok-parts.parts.items c.args.rest c.in_ok-count.behind c.in_ok-parts.behind
        c.in_ok-parts.ensures.exact.1.0 c.in_ok-count.ensures.exact.0 c.in_ok-parts.ensures.exact.0,
    (subst (λ (n : ℕ). n < 2 ^ 64) (sym c.in_ok-parts.ensures.exact.1.0) c.in_ok-count.ensures.exact.1, c.in_ok-parts.ensures.exact.1.1),
  );
}
