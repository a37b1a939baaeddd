use Rattle.std.proofs.Common.{map}
use Rattle.tsdb_flush.specs.Parts.{builder_series}
use Rattle.tsdb_flush.proofs.Trees.{can_finish, file_of_part}
use Rattle.tsdb_flush.proofs.building.finish.Goals as goal

pub finish-requires : goal.finish-requires
finish-requires c = can_finish c.args.builder c.requires.0 c.requires.1 c.requires.2 c.requires.3

pub returns-in-Ok : goal.returns-in-Ok
returns-in-Ok c = λ part was sound.
    let made = c.in-Ok.ensures.file (map builder_series part) was in
    file_of_part part c.in-Ok.bytes.items made.0 sound made.1 made.2
