use Rattle.std.proofs.Common.{arith, rules}
use Rattle.tsdb_frames.proofs.reading.split_record.Goals as goal

pub returns-clause-found : goal.returns-clause-found
returns-clause-found c = record {
  fits = search rules;
  split = search rules;
  gate = omega (arith, c.split_at-2.ensures.back_len, c.if-size-rest.false);
}
