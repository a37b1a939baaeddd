use Rattle.std.proofs.Common.{◌≡◌, ◌∙◌, Some, ap, map, slice_get, subst, sym}
use Rattle.tsdb_memory.proofs.Numbers.{holds_of, named, none_first, number_found, some_first}
use Rattle.tsdb_memory.specs.Model.{schema_of}
use Rattle.tsdb_memory.specs.StateOfMemory.{number_of}
use Rattle.tsdb_memory.specs.Store as value
use Rattle.tsdb_memory.proofs.store.MemoryStore.series.Goals as goal

pub returns-in_default-clause-number : goal.returns-in_default-clause-number
returns-in_default-clause-number c =
    let path = c.args.path.now in
    none_first _ _ _ c.get_full.ensures.index c.in_default.is
    ∙ sym (number_found c.self.inside.series.entries path)
    ∙ ap (λ (s : value.MemoryState). number_of s.series path) c.self.view_is

pub returns-clause-number : goal.returns-clause-number
returns-clause-number c =
    let path = c.args.path.now in
    some_first _ _ _ _ c.get_full.ensures.index c.in-Some.is
    ∙ sym (number_found c.self.inside.series.entries path)
    ∙ ap (λ (s : value.MemoryState). number_of s.series path) c.self.view_is

pub returns-clause-schema : goal.returns-clause-schema
returns-clause-schema c =
    let path = c.args.path.now in
    let entries = c.self.inside.series.entries in
    let numbered : number_of (map schema_of entries) path ≡ Some c.in-Some.number =
    number_found entries path ∙ sym (some_first _ _ _ _ c.get_full.ensures.index c.in-Some.is) in
    subst (λ (s : value.MemoryState). slice_get s.series c.in-Some.number ≡ Some (record {
      path = path;
      data_type = c.in-Some.kind.now.0;
      encoding = c.in-Some.kind.now.1;
    })) c.self.view_is
    (named entries path c.in-Some.field-0-1.now c.in-Some.kind.now c.in-Some.number numbered
    (holds_of _ _ _ c.get_full.ensures.entry c.in-Some.is))
