use Rattle.std.proofs.Common.{rules}
use Rattle.std.proofs.lemmas.List.Sorted.{IsPartitionPoint-from_clause}
use Rattle.tsdb_marks.proofs.StepLemmas.{begins_until, parted, until_point}
use Rattle.tsdb_marks.proofs.run.count_until.Goals as goal

pub returns : goal.returns
returns c =
    let point = IsPartitionPoint-from_clause (begins_until c.args.moment) _ _ c.partition_point.ensures.partitioned (parted c.args.moment _ c.requires) (λ a r q k. search rules) in
    until_point c.args.moment c.args.steps.now c.partition_point.result c.partition_point.ensures.bound point
