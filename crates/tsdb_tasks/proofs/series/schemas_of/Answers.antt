use Rattle.std.proofs.Common.{[], ap, sym, ◌∙◌}
use Rattle.std.specs.Global.{Vec as Items}
use Rattle.std.proofs.Common.{Option}
use Rattle.tsdb_tasks.proofs.Gathering.{nothing_added, schema_added}
use Rattle.tsdb_tasks.specs.Series.{input_path, schemas_at}
use Rattle.tsdb_tasks.specs.declared.series.InputSeries.{InputSeries}
use Rattle.tsdb_base.specs.Lists.{if_some}
use Rattle.tsdb_model.specs.declared.command.Schema.{Schema}
use Rattle.tsdb_tasks.proofs.series.schemas_of.Goals.{in-Some+in_ok-push, in_default}
use Rattle.tsdb_tasks.proofs.series.schemas_of.Goals as goal

pub loop-one-preserved : goal.loop-one-preserved
loop-one-preserved c =
    let i = c.loop-one.one-index in
    elim c.match-branch-2.branch [
      | in-Some+in_ok-push w ↦
          schema_added (λ (one : InputSeries). schemas_at c.args.memory.now.series (input_path one)) c.args.series.now i
          c.one-item.result c.loop-one.schemas.items c.match-branch-2.schemas.items _ c.loop-one-test.true
          c.loop-one.invariant c.one-item.is
          (sym (ap (λ (o : Option Schema). if_some o) w.in-Some.is) ∙ c.in_ok-schema.ensures)
          (ap (λ (v : Items Schema). v.items) w.schemas-is ∙ w.in_ok-push.ensures.items)
      | in_default w ↦
          schema_added (λ (one : InputSeries). schemas_at c.args.memory.now.series (input_path one)) c.args.series.now i
          c.one-item.result c.loop-one.schemas.items c.match-branch-2.schemas.items [] c.loop-one-test.true
          c.loop-one.invariant c.one-item.is
          (sym (ap (λ (o : Option Schema). if_some o) w.in_default.is) ∙ c.in_ok-schema.ensures)
          (ap (λ (v : Items Schema). v.items) w.schemas-is ∙ nothing_added c.loop-one.schemas.items)
    ]
