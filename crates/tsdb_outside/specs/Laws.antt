-- A disk that tells nothing keeps the laws.
use Rattle.tsdb_outside.specs.Disk.{IsLawful, silent_state}

pub silent_is_lawful : IsLawful silent_state
silent_is_lawful = record {
  seen_may_stay = λ image told. tt;
  counts_now = λ t image le left. tt;
  only_now = λ image left. tt;
  since_earlier = λ t u image le left. tt;
}
