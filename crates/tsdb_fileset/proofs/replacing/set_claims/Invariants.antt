use Rattle.std.proofs.Common.{◌≡◌, ◌++◌, drop, map, take}
use Rattle.tsdb_fileset.specs.Replacing.{with_claim}
use Rattle.tsdb_fileset.proofs.replacing.set_claims.Given as goal

abbrev pub invariant-loop-entry : goal.invariant-loop-entry
invariant-loop-entry l = record {
  entries : l.entries ≡ map (with_claim l.claimed) (take l.entry-index l.initial.entries)
      ++ drop l.entry-index l.initial.entries;
}
