use Rattle.std.proofs.Common.{arith}
use Rattle.tsdb_streams.proofs.PartFacts.{taken_few, taken_most}
use Rattle.tsdb_streams.specs.Lanes.{keep_of}
use Rattle.tsdb_streams.proofs.filling.take_part.Goals as goal

pub returns-clause-few : goal.returns-clause-few
returns-clause-few c =
    taken_few c.copy.result (keep_of c.args.kept.now c.args.lane.now.born.0) c.args.into.now.items c.copy.new.into.items c.split_at.result.0.now c.copy.ensures c.requires.empty
    (omega (arith, c.split_at.ensures.front_len, c.min.ensures))

pub returns-clause-most : goal.returns-clause-most
returns-clause-most c =
    taken_most c.copy.result (keep_of c.args.kept.now c.args.lane.now.born.0) c.args.into.now.items c.copy.new.into.items c.split_at.result.0.now c.split_at.result.1.now c.args.lane.now.rest.now c.copy.ensures c.requires.empty
    (omega (arith, c.split_at.ensures.front_len, c.split_at.ensures.back_len, c.min.ensures))
