use Rattle.tsdb_frames.specs.Frames.{disk_of, slot_of}
use Rattle.tsdb_core.specs.Core.{logged_of}
use Rattle.tsdb_memory.specs.LogState.{log_of}
use Rattle.tsdb_state.proofs.ImageLemmas.Leaving.{image_stands}
use Rattle.tsdb_core.proofs.laws.listed_files_are_kept.Goals as goal

pub returns-clause-whole : goal.returns-clause-whole
returns-clause-whole g c = λ outside engine seen. seen.sound.stored.whole

pub returns-clause-left : goal.returns-clause-left
returns-clause-left g c = λ outside engine at next image seen stands leads left.
    let log = log_of (logged_of c.args._core.now) in
    image_stands outside.items outside.kept outside.told outside.known engine seen.sound.stored at next stands leads
    (slot_of log) (disk_of log) log.gate image seen.sound.log.log.stands left
