use Rattle.std.proofs.Common.{◌≡◌, drop, map}
use Rattle.tsdb_memory.specs.Least.{least_with}
use Rattle.tsdb_memory.specs.declared.store.FrozenPair.{FrozenPair}
use Rattle.tsdb_memory.proofs.purging.least_born.Given as goal

abbrev pub invariant-loop-pair : goal.invariant-loop-pair
invariant-loop-pair l = record {
  rest : least_with l.least (map (λ (p : FrozenPair). p.born.0) (drop l.pair-index l.frozen))
      ≡ least_with l.fn.listed (map (λ (p : FrozenPair). p.born.0) l.frozen);
}
