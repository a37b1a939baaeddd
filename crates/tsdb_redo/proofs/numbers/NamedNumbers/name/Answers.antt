use Rattle.tsdb_redo.proofs.Naming.{can_first, can_second, can_still, names_none_twice, names_two, on_err}
use Rattle.tsdb_redo.proofs.numbers.NamedNumbers.name.Goals as goal

pub add-requires : goal.add-requires
add-requires c = record {
  settled = c.in_ok-settle.ensures.ok;
  new = can_still _ c.args.self.now c.settle.new.self c.in_ok-settle.ensures.same
      (can_first c.args.self.now c.args.first.0 c.args.second.0 c.requires);
}

pub put_newest-requires : goal.put_newest-requires
put_newest-requires c = record {
  settled = c.in_ok-add.ensures.settled;
  new = can_second c.args.first.0 c.args.second.0 c.settle.new.self c.add.new.self c.in_ok-add.ensures.named
      (can_still _ c.args.self.now c.settle.new.self c.in_ok-settle.ensures.same c.requires);
}

pub returns-in_err-add-clause-memory : goal.returns-in_err-add-clause-memory
returns-in_err-add-clause-memory c = on_err _
    (names_none_twice c.args.self.now c.settle.new.self c.add.new.self c.in_ok-settle.ensures.same c.in_err-add.ensures.memory)

pub returns-clause-named : goal.returns-clause-named
returns-clause-named c = names_two c.args.first.0 c.args.second.0 c.args.self.now c.settle.new.self c.add.new.self
    c.put_newest.new.self c.in_ok-settle.ensures.same c.in_ok-add.ensures.named c.put_newest.ensures
