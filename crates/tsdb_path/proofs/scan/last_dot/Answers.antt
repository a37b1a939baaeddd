use Rattle.tsdb_path.proofs.Dots.{IsSome-last_dot, last_dot_found}
use Rattle.tsdb_path.proofs.scan.last_dot.Goals as goal

pub unwrap-requires : goal.unwrap-requires
unwrap-requires c = IsSome-last_dot c.args.bytes.now c.find_last_dot.result c.requires c.find_last_dot.ensures.none

pub returns-clause-device : goal.returns-clause-device
returns-clause-device c = (last_dot_found c.args.bytes.now c.find_last_dot.result c.unwrap.result c.unwrap.ensures c.find_last_dot.ensures.found c.find_last_dot.ensures.last).device

pub returns-clause-measurement : goal.returns-clause-measurement
returns-clause-measurement c = (last_dot_found c.args.bytes.now c.find_last_dot.result c.unwrap.result c.unwrap.ensures c.find_last_dot.ensures.found c.find_last_dot.ensures.last).measurement
