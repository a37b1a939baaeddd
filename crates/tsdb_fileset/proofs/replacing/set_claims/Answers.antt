use Rattle.tsdb_fileset.proofs.Replaced.{claim_next, claims_end}
use Rattle.tsdb_fileset.proofs.replacing.set_claims.Goals as goal

pub loop-entry-preserved : goal.loop-entry-preserved
loop-entry-preserved c = record {
  entries = claim_next c.args.claimed c.loop-entry.entries c.args.entries.now c.loop-entry.entry-index
      c.entry-item.result c.loop-entry-test.true c.loop-entry.invariant.entries;
}

pub returns : goal.returns
returns c = claims_end c.args.claimed c.loop-entry.entries c.args.entries.now c.loop-entry.entry-index
    c.loop-entry-test.false c.loop-entry.invariant.entries
