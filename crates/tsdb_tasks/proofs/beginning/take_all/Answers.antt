use Rattle.std.proofs.Common.{rules}
use Rattle.tsdb_tasks.proofs.Begun.{both_taken, ok_of_both, place_made, then_some, then_some_all, when_err}
use Rattle.tsdb_tasks.proofs.Taken.{on_err}
use Rattle.tsdb_tasks.proofs.beginning.take_all.Goals as goal

pub returns-in_err-take_inputs-2-clause-memory : goal.returns-in_err-take_inputs-2-clause-memory
returns-in_err-take_inputs-2-clause-memory g c = on_err _ (then_some g.F.Right.ReadRight.file c.args.files.now
    c.take_inputs.new.files c.take_inputs-2.new.files _ c.args.inputs.now.items c.take_inputs.new.inputs.items
    c.take_inputs-2.new.inputs.items c.requires.none c.in_ok-take_inputs.ensures.ok c.in_err-take_inputs-2.ensures.memory)

pub returns-clause-ok : goal.returns-clause-ok
returns-clause-ok g c = ok_of_both c.prepare_compaction.result
    (both_taken g.F.Right.ReadRight.file c.args.space c.args.output c.args.runs c.args.files.now c.take_inputs.new.files
    c.take_inputs-2.new.files c.prepare_compaction.new.self c.args.inputs.now.items c.take_inputs.new.inputs.items
    c.take_inputs-2.new.inputs.items c.len.result c.requires.none c.in_ok-take_inputs.ensures.ok
    c.in_ok-take_inputs-2.ensures.ok c.prepare_compaction.ensures.files c.prepare_compaction.ensures.lists
    (search rules))
    c.prepare_compaction.ensures.places c.prepare_compaction.ensures.room

pub returns-clause-memory : goal.returns-clause-memory
returns-clause-memory g c = when_err c.prepare_compaction.result
    (place_made g.F.Right.ReadRight.file c.args.files.now c.take_inputs-2.new.files c.prepare_compaction.new.self
    c.take_inputs-2.new.inputs.items
    (then_some_all g.F.Right.ReadRight.file c.args.files.now c.take_inputs.new.files c.take_inputs-2.new.files _ _
    c.args.inputs.now.items c.take_inputs.new.inputs.items c.take_inputs-2.new.inputs.items c.requires.none
    c.in_ok-take_inputs.ensures.ok c.in_ok-take_inputs-2.ensures.ok)
    c.prepare_compaction.ensures.files c.prepare_compaction.ensures.lists)
    c.prepare_compaction.ensures.memory
