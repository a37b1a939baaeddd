use Rattle.tsdb_flush.proofs.Entries.{described}
use Rattle.tsdb_flush.proofs.built_laws.the_entry_of_a_built_file_says_its_points.Goals as goal

pub returns : goal.returns
returns c = λ part number born bytes entry content whole kept is. described part content is number born bytes entry whole kept
