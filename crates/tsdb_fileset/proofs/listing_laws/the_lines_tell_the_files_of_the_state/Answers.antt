use Rattle.tsdb_fileset.proofs.Telling.{lines_tell_files}
use Rattle.tsdb_fileset.proofs.listing_laws.the_lines_tell_the_files_of_the_state.Goals as goal

pub returns : goal.returns
returns c files told known state kept are match = lines_tell_files files told known kept state are match
