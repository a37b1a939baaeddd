use Rattle.tsdb_pin.proofs.Gathered.{space_some, space_taken}
use Rattle.tsdb_pin.proofs.Listed.{ok_of_both, when_err}
use Rattle.tsdb_pin.specs.Sources.{AreOfFiles}
use Rattle.tsdb_fileset.specs.Files.{entries_in}
use Rattle.tsdb_pin.proofs.columns.take_space.Goals as goal

pub returns-clause-ok : goal.returns-clause-ok
returns-clause-ok g c = ok_of_both c.take_parts.result
    (λ push rising. space_taken g.F.Right.ReadRight.file c.args.space c.args.files.now c.take_files.new.files
    c.args.memory.now c.args.asked.now.schema.path c.args.asked.now.id.0 c.args.range.now c.args.sources.now.items
    c.take_files.new.sources.items c.take_parts.new.sources.items c.in_ok-take_files.ensures.ok push rising)
    c.take_parts.ensures.ok c.take_parts.ensures.rising

pub returns-clause-memory : goal.returns-clause-memory
returns-clause-memory g c = when_err c.take_parts.result
    (λ adds. space_some g.F.Right.ReadRight.file c.args.files.now c.take_files.new.files c.args.sources.now.items
    c.take_files.new.sources.items c.take_parts.new.sources.items
    (AreOfFiles g.F.Right.ReadRight.file c.args.files.now c.args.asked.now.schema.path
    (entries_in c.args.space c.args.files.now)) c.in_ok-take_files.ensures.ok adds)
    c.take_parts.ensures.memory
