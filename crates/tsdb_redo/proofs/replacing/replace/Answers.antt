use Rattle.std.proofs.Common.{rules}
use Rattle.tsdb_redo.proofs.Outputs.{with_output, without_output}
use Rattle.tsdb_redo.proofs.replacing.replace.Goals as goal

pub returns-then-output-eq0 : goal.returns-then-output-eq0
returns-then-output-eq0 c = without_output c.args.files.now.items c.remove.new.files.items c.args.place c.args.count
    c.requires.place c.remove.ensures.items c.args.output.0 c.args.born.0 c.if-output-eq0.true

pub returns : goal.returns
returns c = with_output c.args.files.now.items c.remove.new.files.items c.args.place c.args.count
    c.requires.place c.remove.ensures.items c.insert.new.self.items
    (record { number = c.args.output; born = c.args.born }) (search rules) c.in-Ok.ensures.items
