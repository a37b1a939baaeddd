use Rattle.mem_outside.proofs.EntryLemmas.{taken_out}
use Rattle.mem_outside.proofs.entry.take_at.Goals as goal

pub returns-in-Ok-clause-rest : goal.returns-in-Ok-clause-rest
returns-in-Ok-clause-rest c =
    taken_out c.args.at c.args.entries.now c.split_off.new.self c.in_ok-node.node c.in-Ok.rest c.append.new.self c.append.result
    c.requires.at c.requires.fits c.in_ok-node.ensures.items c.in_ok-node.ensures.tail c.in-Ok.ensures.tail
    c.append.ensures.succeeds c.append.ensures.items
