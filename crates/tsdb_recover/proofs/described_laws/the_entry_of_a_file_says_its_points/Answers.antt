use Rattle.tsdb_recover.proofs.DescribedParts.{says_its_points}
use Rattle.tsdb_recover.proofs.described_laws.the_entry_of_a_file_says_its_points.Goals as goal

pub returns : goal.returns
returns c = says_its_points
