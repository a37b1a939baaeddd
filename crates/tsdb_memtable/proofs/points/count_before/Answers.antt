use Rattle.std.proofs.Common.{rules, length, sym, ◌∙◌, arith}
use Rattle.std.proofs.lemmas.Int.{to_z-of_z}
use Rattle.std.proofs.lemmas.List.Sorted.{IsPartitionPoint-from_clause}
use Rattle.std.specs.Int.{w64}
use Rattle.std.specs.Prelude.{FitsSigned}
use Rattle.tsdb_memtable.specs.Points.{is_before}
use Rattle.tsdb_memtable.proofs.PointLemmas.{all-before, before-parted, split}
use Rattle.tsdb_memtable.proofs.points.count_before.Goals as goal

pub returns-in-Some-clause-front : goal.returns-in-Some-clause-front
returns-in-Some-clause-front c =
    let fits : FitsSigned w64 c.args.time = search rules in
    let item = c.in-Some.ensures.item in
    let early = simp to_z-of_z at c.is_early.ensures in
    let point = all-before c.args.time c.args.points.now c.in-Some.last.now c.requires item.3.0 (sym item.1) (sym early ∙ c.if-is_early.true) in
    (split (is_before c.args.time) c.args.points.now (length c.args.points.now) point (omega arith)).0

pub returns-in-Some-clause-back : goal.returns-in-Some-clause-back
returns-in-Some-clause-back c =
    let fits : FitsSigned w64 c.args.time = search rules in
    let item = c.in-Some.ensures.item in
    let early = simp to_z-of_z at c.is_early.ensures in
    let point = all-before c.args.time c.args.points.now c.in-Some.last.now c.requires item.3.0 (sym item.1) (sym early ∙ c.if-is_early.true) in
    (split (is_before c.args.time) c.args.points.now (length c.args.points.now) point (omega arith)).1

pub returns-in_default-clause-front : goal.returns-in_default-clause-front
returns-in_default-clause-front c =
    let point = IsPartitionPoint-from_clause (is_before c.args.time) _ _ c.partition_point.ensures.partitioned (before-parted c.args.time _ c.requires) (λ a r q k. search rules) in
    (split (is_before c.args.time) c.args.points.now c.partition_point.result point c.partition_point.ensures.bound).0

pub returns-in_default-clause-back : goal.returns-in_default-clause-back
returns-in_default-clause-back c =
    let point = IsPartitionPoint-from_clause (is_before c.args.time) _ _ c.partition_point.ensures.partitioned (before-parted c.args.time _ c.requires) (λ a r q k. search rules) in
    (split (is_before c.args.time) c.args.points.now c.partition_point.result point c.partition_point.ensures.bound).1
