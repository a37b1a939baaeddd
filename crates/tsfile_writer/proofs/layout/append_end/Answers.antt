use Rattle.std.proofs.Common.{rules}
use Rattle.tsfile_writer.proofs.layout.append_end.Goals as goal

pub returns : goal.returns
returns c = search rules
