use Rattle.tsdb_pin.proofs.Copied.{AreFrozenTo}
use Rattle.tsdb_pin.proofs.parts.take_parts.Given as goal

abbrev pub invariant-loop-one : goal.invariant-loop-one
invariant-loop-one g l = AreFrozenTo _ _ _ _ l.space l.series.0 l.range l.pairs l.one-index l.initial.sources.items
    l.sources.items
