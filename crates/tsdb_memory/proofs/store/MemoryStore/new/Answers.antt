use Rattle.tsdb_memory.proofs.Effects.{new_shown, new_sound}
use Rattle.tsdb_memory.proofs.store.MemoryStore.new.Goals as goal

pub returns : goal.returns
returns c = rw (c.new.ensures.empty, c.new-2.ensures, c.new-3.ensures, c.new-4.ensures.items, c.new-5.ensures)
    (new_shown _)

pub invariant_of-result : goal.invariant_of-result
invariant_of-result c = rw (c.new.ensures.empty, c.new-2.ensures, c.new-3.ensures, c.new-4.ensures.items, c.new-5.ensures)
    (new_sound _)
