use Rattle.std.proofs.Common.{ap, sym, ◌∙◌}
use Rattle.std.specs.Option.{option_copied}
use Rattle.tsdb_core.proofs.Oldest.{first_pair, no_pair}
use Rattle.tsdb_memory.specs.LogState.{memory_of}
use Rattle.tsdb_memory.specs.Store.{MemoryState}
use Rattle.tsdb_core.proofs.engine.Core.has_oldest_born.Goals as goal

pub returns-in-Some : goal.returns-in-Some
returns-in-Some g c = first_pair c.frozen.result.now c.in-Some.oldest.now (memory_of c.args.self.now.logged)
    c.args.job.now
    c.born.result.0 (c.frozen.ensures.value ∙ ap (λ (store : MemoryState). store.frozen) c.memory.ensures)
    (sym (ap option_copied c.in-Some.is) ∙ c.first.ensures.value) c.born.ensures

pub returns-in-None : goal.returns-in-None
returns-in-None g c = no_pair c.frozen.result.now (memory_of c.args.self.now.logged) c.args.job.now
    (c.frozen.ensures.value ∙ ap (λ (store : MemoryState). store.frozen) c.memory.ensures)
    (sym (ap option_copied c.in-None.is) ∙ c.first.ensures.value)
