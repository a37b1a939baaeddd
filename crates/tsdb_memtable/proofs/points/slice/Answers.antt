use Rattle.std.proofs.Common.{rules, ◌∙◌, ap}
use Rattle.std.proofs.lemmas.Int.{to_z-of_z}
use Rattle.std.specs.Prelude.{FitsSigned}
use Rattle.std.specs.Int.{w64}
use Rattle.std.specs.List.{filter}
use Rattle.tsdb_memtable.specs.Steps.{is_until}
use Rattle.tsdb_memtable.proofs.PointLemmas.{within-both}
use Rattle.tsdb_memtable.proofs.points.slice.Goals as goal

pub returns : goal.returns
returns c =
    let from : FitsSigned w64 c.args.range.now.from = search rules in
    let to : FitsSigned w64 c.args.range.now.to = search rules in
    let first = c.from_time.ensures.value in
    let last = c.until_time.ensures in
    (simp to_z-of_z at last) ∙ ap (filter (is_until c.args.range.now.to)) (simp to_z-of_z at first) ∙ within-both c.args.range.now c.args.points.now
