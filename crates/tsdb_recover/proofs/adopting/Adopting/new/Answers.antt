use Rattle.tsdb_recover.proofs.Adopted.{begun}
use Rattle.tsdb_recover.proofs.adopting.Adopting.new.Goals as goal

pub returns-clause-begins : goal.returns-clause-begins
returns-clause-begins g c = λ items recorded is replayed. record {
  opening = is;
  items = items;
  replayed = replayed;
  first = begun c.new.result recorded.store c.new.ensures;
}
