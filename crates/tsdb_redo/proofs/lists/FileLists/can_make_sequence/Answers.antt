use Rattle.std.proofs.Common.{rules}
use Rattle.tsdb_redo.proofs.Standing.{sequence_by}
use Rattle.tsdb_redo.specs.Lists.{replacement_of, state_of}
use Rattle.tsdb_redo.proofs.lists.FileLists.can_make_sequence.Goals as goal

pub returns : goal.returns
returns c = sequence_by (replacement_of c.args.item.now) (state_of c.args.self.now) c.stand_at-2.result (search rules) (search rules) (search rules)
