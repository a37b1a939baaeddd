use Rattle.std.proofs.Common.{◌≡◌, ◌+◌, ◌<◌, None, map, refl, subst, sym}
use Rattle.tsdb_memory.proofs.Effects.{created_shown, created_sound}
use Rattle.tsdb_memory.proofs.Numbers.{joined}
use Rattle.tsdb_memory.specs.Changes.{HasCreated}
use Rattle.tsdb_memory.specs.Model.{schema_of, memory_view}
use Rattle.tsdb_memory.specs.StateOfMemory.{IsMemoryOf, number_of}
use Rattle.tsdb_memory.specs.Store.{MemoryState}
use Rattle.tsdb_base.specs.Limits.{end_of_numbers}
use Rattle.tsdb_memory.proofs.store.MemoryStore.finish_create.Goals as goal

pub returns : goal.returns
returns c = record {
  effect = λ state is.
      let old = c.self.inside in
      let new = record old { series = c.insert.new.self; stamp = old.stamp + 1 } in
      let schema = c.args.schema in
      let free : number_of (map schema_of old.series.entries) schema.path ≡ None =
      subst (λ (s : MemoryState). number_of s.series schema.path ≡ None) (sym c.self.view_is) c.requires.free in
      let place : 0 < (memory_view old).places.series =
      subst (λ (s : MemoryState). 0 < s.places.series) (sym c.self.view_is) c.requires.place in
      created_shown (memory_view old) (map schema_of c.insert.new.self.entries) (memory_view new).places schema state
      (joined old.series c.insert.new.self schema c.insert.result free (c.insert.ensures.succeeds place)
      c.insert.ensures.entries) c.self.invariant
      (subst (λ (s : MemoryState). IsMemoryOf s state) (sym c.self.view_is) is);
  made =
      let old = c.self.inside in
      let new = record old { series = c.insert.new.self; stamp = old.stamp + 1 } in
      let schema = c.args.schema in
      let free : number_of (map schema_of old.series.entries) schema.path ≡ None =
      subst (λ (s : MemoryState). number_of s.series schema.path ≡ None) (sym c.self.view_is) c.requires.free in
      let place : 0 < (memory_view old).places.series =
      subst (λ (s : MemoryState). 0 < s.places.series) (sym c.self.view_is) c.requires.place in
      let made : HasCreated schema (memory_view old) (memory_view new) = record {
        series = joined old.series c.insert.new.self schema c.insert.result free (c.insert.ensures.succeeds place)
            c.insert.ensures.entries;
        stamp = refl;
        watermarks = λ device. refl;
        marks = refl;
        frozen = refl;
        working = λ space number. refl;
      } in
      subst (λ (s : MemoryState). HasCreated schema s (memory_view new)) c.self.view_is made;
}

pub invariant_of-self : goal.invariant_of-self
invariant_of-self c =
    let old = c.self.inside in
    let new = record old { series = c.insert.new.self; stamp = old.stamp + 1 } in
    let schema = c.args.schema in
    let free : number_of (map schema_of old.series.entries) schema.path ≡ None =
    subst (λ (s : MemoryState). number_of s.series schema.path ≡ None) (sym c.self.view_is) c.requires.free in
    let place : 0 < (memory_view old).places.series =
    subst (λ (s : MemoryState). 0 < s.places.series) (sym c.self.view_is) c.requires.place in
    let stamp : old.stamp < end_of_numbers =
    subst (λ (s : MemoryState). s.stamp < end_of_numbers) (sym c.self.view_is) c.requires.stamp in
    created_sound (memory_view old) (map schema_of c.insert.new.self.entries) (memory_view new).places schema
    (joined old.series c.insert.new.self schema c.insert.result free (c.insert.ensures.succeeds place)
    c.insert.ensures.entries) (record { suits = c.requires.formed; path = c.sound.ensures }) free stamp
    c.self.invariant
