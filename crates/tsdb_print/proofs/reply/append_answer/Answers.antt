use Rattle.std.proofs.Common.{rules}
use Rattle.tsdb_print.proofs.reply.append_answer.Goals as goal

pub returns : goal.returns
returns c = search rules
