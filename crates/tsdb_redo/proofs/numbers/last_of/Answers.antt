use Rattle.std.proofs.Common.{arith}
use Rattle.std.proofs.lemmas.Bool.{false≢true}
use Rattle.tsdb_redo.proofs.Greatest.{last_run, no_entries, no_run}
use Rattle.tsdb_redo.proofs.numbers.last_of.Goals as goal

pub returns-in-Some : goal.returns-in-Some
returns-in-Some c = record {
  number = last_run c.args.runs.now c.in-Some.field-0-0.now c.in-Some.last.now c.requires c.in-Some.ensures.value
      c.in-Some.ensures.greatest;
  end = c.requires.within c.in-Some.field-0-0.now c.in-Some.last.now c.in-Some.ensures.value;
}

pub returns-in-None : goal.returns-in-None
returns-in-None c = record {
  number = no_run c.args.runs.now.entries
      (no_entries c.args.runs.now.entries (λ some. false≢true (c.in-None.ensures.variant.1 some)));
  end = omega arith;
}
