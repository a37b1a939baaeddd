use Rattle.std.proofs.Common.{rules}
use Rattle.tsdb_base.specs.Fields.{value_field}
use Rattle.tsdb_base.proofs.GrowthLemmas.{grew_within}
use Rattle.tsdb_fields.proofs.Appending.{second_cut}
use Rattle.tsdb_fields.proofs.statistics.write_values.Goals as goal

pub returns-in_err-write_value-clause-memory : goal.returns-in_err-write_value-clause-memory
returns-in_err-write_value-clause-memory c =
    let grew = grew_within c.args.into.now.items (value_field c.args.first.now) (value_field c.args.last.now) c.write_value.new.into.items c.in_err-write_value.ensures.memory in
    search (rules, grew)

pub returns-clause-memory : goal.returns-clause-memory
returns-clause-memory c =
    second_cut c.write_value-2.result c.args.into.now.items (value_field c.args.first.now) (value_field c.args.last.now) c.write_value.new.into.items c.write_value-2.new.into.items
    c.in_ok-write_value.ensures.ok c.write_value-2.ensures.memory
