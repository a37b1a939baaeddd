use Rattle.tsdb_base.specs.declared.ids.Space.TheVariants.{Sequence}
use Rattle.tsdb_pin.proofs.Gathered.{both_some, both_taken}
use Rattle.tsdb_pin.proofs.Listed.{when_err, when_ok}
use Rattle.tsdb_pin.specs.Sources.{AreOfSpace}
use Rattle.tsdb_pin.proofs.columns.take_sources.Goals as goal

pub returns-clause-ok : goal.returns-clause-ok
returns-clause-ok g c = when_ok c.take_space-2.result
    (λ second. both_taken g.F.Right.ReadRight.file c.args.files.now c.take_space.new.files c.take_space-2.new.files
    c.args.memory.now c.args.asked.now.schema.path c.args.asked.now.id.0 c.args.range.now c.args.sources.now.items
    c.take_space.new.sources.items c.take_space-2.new.sources.items c.in_ok-take_space.ensures.ok second)
    c.take_space-2.ensures.ok

pub returns-clause-memory : goal.returns-clause-memory
returns-clause-memory g c = when_err c.take_space-2.result
    (λ second. both_some g.F.Right.ReadRight.file c.args.files.now c.take_space.new.files c.take_space-2.new.files
    c.args.sources.now.items c.take_space.new.sources.items c.take_space-2.new.sources.items
    (AreOfSpace g.F.Right.ReadRight.file Sequence c.args.files.now c.args.memory.now c.args.asked.now.schema.path
    c.args.asked.now.id.0 c.args.range.now) c.in_ok-take_space.ensures.ok second)
    c.take_space-2.ensures.memory
