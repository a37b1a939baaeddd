use Rattle.tsdb_log.proofs.Sizes.{short_records}
use Rattle.tsdb_log.proofs.laws.spelling_fits_frame.Goals as goal

pub returns-clause-short : goal.returns-clause-short
returns-clause-short c = short_records
