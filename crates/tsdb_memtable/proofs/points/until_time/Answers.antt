use Rattle.std.proofs.Common.{rules, ◌∙◌}
use Rattle.std.proofs.lemmas.List.Sorted.{IsPartitionPoint-from_clause}
use Rattle.tsdb_memtable.specs.Steps.{is_until}
use Rattle.tsdb_memtable.proofs.PointLemmas.{until-parted, split}
use Rattle.tsdb_memtable.proofs.points.until_time.Goals as goal

pub returns : goal.returns
returns c =
    let point = IsPartitionPoint-from_clause (is_until c.args.time) _ _ c.partition_point-count.ensures.partitioned (until-parted c.args.time _ c.requires) (λ a r q k. search rules) in
    c.split_at.ensures.front ∙ (split (is_until c.args.time) c.args.points.now c.partition_point-count.result point c.partition_point-count.ensures.bound).0
