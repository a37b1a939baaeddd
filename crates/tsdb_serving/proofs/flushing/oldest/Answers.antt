use Rattle.std.proofs.Common.{ap, sym, ◌∙◌}
use Rattle.std.specs.Option.{option_copied}
use Rattle.tsdb_memory.specs.Store.{MemoryState}
use Rattle.tsdb_serving.proofs.First.{born_first, born_none}
use Rattle.tsdb_serving.specs.Flushing.{frozen_under}
use Rattle.tsdb_serving.proofs.flushing.oldest.Goals as goal

pub returns-in-Some-clause-born : goal.returns-in-Some-clause-born
returns-in-Some-clause-born g c = born_first c.frozen.result.now c.in-Some.pair.now (frozen_under c.args.core.now)
    c.born.result.0 (c.frozen.ensures.value ∙ ap (λ (store : MemoryState). store.frozen) c.memory.ensures)
    (sym (ap option_copied c.in-Some.is) ∙ c.first.ensures.value) c.born.ensures

pub returns-in-None-clause-born : goal.returns-in-None-clause-born
returns-in-None-clause-born g c = born_none c.frozen.result.now (frozen_under c.args.core.now)
    (c.frozen.ensures.value ∙ ap (λ (store : MemoryState). store.frozen) c.memory.ensures)
    (sym (ap option_copied c.in-None.is) ∙ c.first.ensures.value)
