use Rattle.std.proofs.Common.{rules}
use Rattle.tsdb_base.proofs.GrowthLemmas.{grew_within}
use Rattle.tsdb_fields.specs.Statistics.{optional_sum}
use Rattle.tsdb_fields.proofs.Appending.{second_cut}
use Rattle.tsdb_fields.proofs.Parts.{extremes}
use Rattle.tsdb_fields.proofs.statistics.write_numbers.Goals as goal

pub returns-in_err-write_extremes-clause-memory : goal.returns-in_err-write_extremes-clause-memory
returns-in_err-write_extremes-clause-memory c =
    let s = c.args.stats.now in
    let grew = grew_within c.args.into.now.items (extremes (s.least, s.greatest)) (optional_sum s.sum) c.write_extremes.new.into.items c.in_err-write_extremes.ensures.memory in
    search (rules, grew)

pub returns-clause-memory : goal.returns-clause-memory
returns-clause-memory c =
    let s = c.args.stats.now in
    second_cut c.write_sum.result c.args.into.now.items (extremes (s.least, s.greatest)) (optional_sum s.sum) c.write_extremes.new.into.items c.write_sum.new.into.items
    c.in_ok-write_extremes.ensures.ok c.write_sum.ensures.memory
