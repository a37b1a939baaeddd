use Rattle.std.proofs.Common.{◌≡◌, ◌+◌, ◌<◌, ◌≤◌, ◌≤ℤ◌, ◌∙◌, ℕ, List, Option, Some, is_some, map, refl, subst, sym, ap}
use Rattle.std.proofs.Common.{arith}
use Rattle.std.specs.Prelude.{IsSome}
use Rattle.std.proofs.lemmas.Bool.{false≢true}
use Rattle.std.proofs.lemmas.List.Elements.{All-weaker}
use Rattle.tsdb_marks.specs.Lists.{purge_list}
use Rattle.tsdb_marks.specs.declared.marks.Mark.{Mark}
use Rattle.tsdb_memory.proofs.Later.{borns_kept, deleted_shown, deleted_sound}
use Rattle.tsdb_memory.proofs.Numbers.{number_found}
use Rattle.tsdb_memory.specs.Changes.{HasDeleted, cut_series}
use Rattle.tsdb_memory.specs.Least.{least_with}
use Rattle.tsdb_memory.specs.Model.{schema_of, memory_view}
use Rattle.tsdb_memory.specs.StateOfMemory.{IsMemoryOf, number_of}
use Rattle.tsdb_memory.specs.Store as value
use Rattle.tsdb_memory.specs.declared.store.FrozenPair.{FrozenPair}
use Rattle.tsdb_memtable.specs.Pairs.{points_of}
use Rattle.tsdb_base.specs.Limits.{end_of_numbers}
use Rattle.tsdb_memory.proofs.store.MemoryStore.finish_delete.Goals as goal

pub unreachable-requires : goal.unreachable-requires
unreachable-requires c =
    let old = c.self.inside in
    let there : IsSome (number_of (map schema_of old.series.entries) c.args.path) =
    subst (λ (s : value.MemoryState). IsSome (number_of s.series c.args.path)) (sym c.self.view_is) c.requires.there in
    false≢true (sym (ap is_some c.in_default.is)
    ∙ ap is_some (c.get_index_of.ensures.index ∙ sym (number_found old.series.entries c.args.path)) ∙ there)

next : (a b : ℕ) → a ≤ b → a < b + 1
next a b h = omega (arith, h)

pub add_mark-requires-clause-newer : goal.add_mark-requires-clause-newer
add_mark-requires-clause-newer c =
    let old = c.self.inside in
    All-weaker (λ (m : Mark). m.version.0 ≤ old.stamp) (λ (m : Mark). m.version.0 < old.stamp + 1)
    (λ m h. next m.version.0 old.stamp h) old.marks.marks c.self.invariant.versions

pub add_mark-requires-clause-place : goal.add_mark-requires-clause-place
add_mark-requires-clause-place c =
    subst (λ (s : value.MemoryState). c.args.range.now.from ≤ℤ c.args.range.now.to → 0 < s.marks.spare) (sym c.self.view_is)
    c.requires.place

pub returns : goal.returns
returns c = record {
  effect = λ state is low.
      let old = c.self.inside in
      deleted_shown (memory_view old) c.in-Some.number c.args.path c.args.range.now c.add_mark.new.marks c.purge.new.self
      c.erase.new.self c.least_born.result c.erase.ensures c.add_mark.ensures c.purge.ensures.marks c.args.listed state
      (c.least_born.ensures ∙ ap (λ (pairs : List FrozenPair). least_with c.args.listed (map (λ (p : FrozenPair). p.born.0)
      pairs)) c.as_slice.ensures.value ∙ borns_kept c.args.listed old.frozen.items)
      (number_found old.series.entries c.args.path ∙ sym c.get_index_of.ensures.index ∙ c.in-Some.is)
      (subst (λ (s : value.MemoryState). IsMemoryOf s state) (sym c.self.view_is) is) low;
  made =
      let old = c.self.inside in
      let new = record old { stamp = old.stamp + 1; marks = c.purge.new.self; working = c.erase.new.self } in
      let least : c.least_born.result ≡ least_with c.args.listed (map (λ pair. pair.born) (memory_view old).frozen) =
      c.least_born.ensures ∙ ap (λ (pairs : List FrozenPair). least_with c.args.listed (map (λ (p : FrozenPair). p.born.0)
      pairs)) c.as_slice.ensures.value ∙ borns_kept c.args.listed old.frozen.items in
      let number : number_of (memory_view old).series c.args.path ≡ Some c.in-Some.number =
      number_found old.series.entries c.args.path ∙ sym c.get_index_of.ensures.index ∙ c.in-Some.is in
      let made : HasDeleted c.args.path c.args.range.now c.args.listed (memory_view old) (memory_view new) = record {
        series = refl;
        stamp = refl;
        watermarks = λ device. refl;
        marks = c.purge.ensures.marks ∙ (λ i. purge_list (least i) (c.add_mark.ensures i));
        frozen = refl;
        working = λ space number_of_other. ap (points_of space number_of_other)
            (c.erase.ensures ∙ ap (λ (o : Option ℕ). cut_series o c.args.range.now old.working) (sym number));
      } in
      subst (λ (s : value.MemoryState). HasDeleted c.args.path c.args.range.now c.args.listed s (memory_view new))
      c.self.view_is made;
}

pub invariant_of-self : goal.invariant_of-self
invariant_of-self c =
    let old = c.self.inside in
    let stamp : old.stamp < end_of_numbers =
    subst (λ (s : value.MemoryState). s.stamp < end_of_numbers) (sym c.self.view_is) c.requires.stamp in
    deleted_sound (memory_view old) c.in-Some.number c.args.path c.args.range.now c.add_mark.new.marks c.purge.new.self
    c.erase.new.self c.least_born.result c.erase.ensures c.add_mark.ensures c.purge.ensures.marks c.self.invariant stamp
