use Rattle.std.proofs.Common.{refl, subst, ◌++◌, ◌∷◌, [], ap, ◌∙◌}
use Rattle.tsdb_pin.proofs.Gathered.{column_taken, some_held, some_returned}
use Rattle.tsdb_pin.specs.Changes.{TakesAll, TakesSomeSources}
use Rattle.tsdb_pin.specs.Sources.{AreSourcesOf}
use Rattle.tsdb_pin.proofs.columns.take_column.Goals as goal

pub give_back_sources-requires-after_bounds : goal.give_back_sources-requires-after_bounds
give_back_sources-requires-after_bounds g c κs within = some_held g.F.Right.ReadRight.file c.args.files.now
    c.take_sources.new.files c.take_sources.new.sources.items
    (subst (λ l. TakesSomeSources g.F.Right.ReadRight.file c.args.files.now c.take_sources.new.files l
    c.take_sources.new.sources.items) c.new-sources.ensures.items c.in-Err.ensures.memory)

pub returns-in-Ok-clause-ok : goal.returns-in-Ok-clause-ok
returns-in-Ok-clause-ok g c = column_taken g.F.Right.ReadRight.file c.args.memory.now c.args.range.now c.args.asked
    c.args.files.now c.take_sources.new.files c.take_sources.new.sources.items
    (record { schema = c.args.asked.schema; aggregate = c.args.asked.aggregate; sources = c.of.result })
    c.args.columns.now.items c.push.new.list.items
    (subst (λ l. TakesAll g.F.Right.ReadRight.file (AreSourcesOf g.F.Right.ReadRight.file c.args.files.now
    c.args.memory.now c.args.asked.schema.path c.args.asked.id.0 c.args.range.now) c.args.files.now
    c.take_sources.new.files l c.take_sources.new.sources.items) c.new-sources.ensures.items c.in-Ok.ensures.ok)
    refl refl c.of.ensures
    (c.push.ensures ∙ ap (λ l. l ++ record { schema = c.args.asked.schema; aggregate = c.args.asked.aggregate; sources = c.of.result } ∷ []) c.in_ok-reserve.ensures.items)

pub returns-in-Err-clause-memory : goal.returns-in-Err-clause-memory
returns-in-Err-clause-memory g c = (
  some_returned g.F.Right.ReadRight.file c.args.files.now c.take_sources.new.files c.give_back_sources.new.files
      c.take_sources.new.sources.items
      (subst (λ l. TakesSomeSources g.F.Right.ReadRight.file c.args.files.now c.take_sources.new.files l
      c.take_sources.new.sources.items) c.new-sources.ensures.items c.in-Err.ensures.memory) c.give_back_sources.ensures,
  c.in_ok-reserve.ensures.items,
)
