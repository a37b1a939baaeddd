use Rattle.std.proofs.Common.{◌+◌, ◌∙◌, Some, drop, map, refl, sym, ap}
use Rattle.tsdb_memory.proofs.Later.{at_end, at_next}
use Rattle.tsdb_memory.specs.Least.{least_with}
use Rattle.tsdb_memory.specs.declared.store.FrozenPair.{FrozenPair}
use Rattle.tsdb_memory.proofs.purging.least_born.Goals as goal

pub loop-pair-init : goal.loop-pair-init
loop-pair-init c = record { rest = refl }

pub loop-pair-preserved : goal.loop-pair-preserved
loop-pair-preserved c = record {
  rest = ap (λ s. least_with (Some s) (map (λ (p : FrozenPair). p.born.0)
      (drop (c.loop-pair.pair-index + 1) c.args.frozen.now))) c.lesser.ensures
      ∙ sym (at_next c.args.frozen.now c.loop-pair.pair-index c.pair-item.result c.loop-pair.least
      c.loop-pair-test.true c.pair-item.is)
      ∙ c.loop-pair.invariant.rest;
}

pub returns : goal.returns
returns c = sym (at_end c.args.frozen.now c.loop-pair.pair-index c.loop-pair.least c.loop-pair-test.false)
    ∙ c.loop-pair.invariant.rest
