use Rattle.std.proofs.Common.{ap, sym, ◌∙◌}
use Rattle.std.proofs.Common.{List, ℕ, Some}
use Rattle.tsdb_tasks.proofs.Gathering.{no_schema, schema_found}
use Rattle.tsdb_tasks.proofs.series.schema_of.Goals as goal

pub returns-in_default : goal.returns-in_default
returns-in_default c = no_schema (λ series. series.id.0) c.args.memory.now.series c.args.path.now _ c.series.ensures.number
    c.in_default.is

pub returns : goal.returns
returns c =
    let series = c.in-Some.series in
    schema_found (λ series. series.id.0) c.args.memory.now.series c.args.path.now _ series _ c.series.ensures.number
    c.in-Some.is (c.in-Some.ensures.schema ∙ ap (λ (path : List ℕ). Some (record {
      path = path;
      data_type = series.data_type;
      encoding = series.encoding;
    })) (sym c.in_ok-copy.ensures))
