use Rattle.std.proofs.Common.{ap, subst, sym, ◌∙◌}
use Rattle.std.proofs.lemmas.Bool.{false≢true}
use Rattle.tsdb_core.proofs.Oldest.{none_reached}
use Rattle.tsdb_core.specs.Flushes.{IsDue}
use Rattle.tsdb_memory.specs.LogState.{memory_of}
use Rattle.tsdb_memory.specs.Model.{AreFrozenInTurn}
use Rattle.tsdb_memory.specs.Store.{MemoryState}
use Rattle.tsdb_core.proofs.engine.Core.take_flush.Goals as goal

pub returns-then-not-has_due-clause-none : goal.returns-then-not-has_due-clause-none
returns-then-not-has_due-clause-none g c = λ is.
    let store = memory_of c.args.self.now.logged in
    none_reached c.args.upto.0 store.stamp store.frozen
    (subst (λ (s : MemoryState). AreFrozenInTurn s.stamp s.frozen) c.memory.ensures c.sound.ensures.in_turn)
    (λ due. false≢true (sym c.if-not-has_due.true ∙ c.has_due.ensures.1
    (subst (IsDue c.args.upto.0) (sym (c.frozen.ensures.value ∙ ap (λ (s : MemoryState). s.frozen) c.memory-2.ensures)) due)))
