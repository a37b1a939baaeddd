use Rattle.std.proofs.Common.{rules}
use Rattle.tsdb_fields.specs.Statistics.{optional_field}
use Rattle.tsdb_base.proofs.GrowthLemmas.{grew_within}
use Rattle.tsdb_fields.proofs.Appending.{second_cut}
use Rattle.tsdb_fields.proofs.statistics.write_extremes.Goals as goal

pub returns-in_err-write_optional-clause-memory : goal.returns-in_err-write_optional-clause-memory
returns-in_err-write_optional-clause-memory c =
    let grew = grew_within c.args.into.now.items (optional_field c.args.least.now) (optional_field c.args.greatest.now) c.write_optional.new.into.items c.in_err-write_optional.ensures.memory in
    search (rules, grew)

pub returns-clause-memory : goal.returns-clause-memory
returns-clause-memory c =
    second_cut c.write_optional-2.result c.args.into.now.items (optional_field c.args.least.now) (optional_field c.args.greatest.now) c.write_optional.new.into.items c.write_optional-2.new.into.items
    c.in_ok-write_optional.ensures.ok c.write_optional-2.ensures.memory
