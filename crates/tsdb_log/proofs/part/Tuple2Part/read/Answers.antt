use Rattle.std.proofs.lemmas.Result.{err_from_is_err_and}
use Rattle.tsdb_log.proofs.Faults.{first_fails, second_fails}
use Rattle.tsdb_log.proofs.Parts.{takes_pair}
use Rattle.tsdb_log.proofs.part.Tuple2Part.read.Goals as goal

pub returns-in_err-first : goal.returns-in_err-first
returns-in_err-first g c = record {
  exact =
      let p = err_from_is_err_and c.from_residual.result c.from_residual.ensures.1 in
      rw (p.1, p.2) (first_fails g.A.Part.fields g.B.Part.fields g.A.Part.is_part (λ _. g.B.Part.is_part) c.args.rest.at c.args.rest.bytes.now
      c.in_err-first.field-0.0 (λ a is. g.met.B.Part.some) c.in_err-first.ensures.exact);
}

pub returns-in_err-second : goal.returns-in_err-second
returns-in_err-second g c = record {
  exact =
      let p = err_from_is_err_and c.from_residual-in_err-second.result c.from_residual-in_err-second.ensures.1 in
      rw (p.1, p.2) (second_fails g.A.Part.fields g.B.Part.fields g.A.Part.is_part (λ _. g.B.Part.is_part) g.met.A.Part.rows c.in_ok-first.first
      c.args.rest c.in_ok-first.behind c.in_err-second.field-0.0 c.in_ok-first.ensures.exact.1 c.in_ok-first.ensures.exact.0 c.in_err-second.ensures.exact);
}

pub returns : goal.returns
returns g c = record {
  exact = (
    takes_pair (g.A.Part.fields c.in_ok-first.first) (g.B.Part.fields c.in_ok-second.second) c.args.rest c.in_ok-first.behind c.in_ok-second.behind
        c.in_ok-first.ensures.exact.0 c.in_ok-second.ensures.exact.0,
    (c.in_ok-first.ensures.exact.1, c.in_ok-second.ensures.exact.1),
  );
}
