use Rattle.std.proofs.Common.{◌≡◌, ◌∙◌, None, Some, ap, slice_get, subst, sym}
use Rattle.std.specs.Map.Iter.{deref_pair}
use Rattle.std.specs.Option.{option_map}
use Rattle.tsdb_memory.proofs.Numbers.{at_map}
use Rattle.tsdb_memory.specs.Model.{schema_of}
use Rattle.tsdb_memory.specs.Store.{MemoryState}
use Rattle.tsdb_memory.proofs.store.MemoryStore.schema.Goals as goal

pub returns-in_default-clause-none : goal.returns-in_default-clause-none
returns-in_default-clause-none c = λ none.
    let entries = c.self.inside.series.entries in
    subst (λ (s : MemoryState). slice_get s.series c.args.id.0 ≡ None) c.self.view_is
    (at_map schema_of entries c.args.id.0
    ∙ ap (option_map schema_of) (sym c.get_index.ensures.entry ∙ ap (option_map deref_pair) c.in_default.is))

pub returns-clause-some : goal.returns-clause-some
returns-clause-some c =
    let entries = c.self.inside.series.entries in
    subst (λ (s : MemoryState). slice_get s.series c.args.id.0 ≡ Some (record {
      path = c.in-Some.path.now;
      data_type = c.in-Some.kind.now.0;
      encoding = c.in-Some.kind.now.1;
    })) c.self.view_is
    (at_map schema_of entries c.args.id.0
    ∙ ap (option_map schema_of) (sym c.get_index.ensures.entry ∙ ap (option_map deref_pair) c.in-Some.is))
