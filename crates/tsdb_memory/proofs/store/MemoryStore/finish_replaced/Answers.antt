use Rattle.std.proofs.Common.{◌∙◌, List, map, refl, subst, sym, ap}
use Rattle.tsdb_marks.specs.Lists.{purge_list}
use Rattle.tsdb_memory.proofs.Effects.{purged_sound, replaced_shown}
use Rattle.tsdb_memory.proofs.Later.{borns_kept}
use Rattle.tsdb_memory.specs.Changes.{KeepsSeries}
use Rattle.tsdb_memory.specs.Least.{least_with}
use Rattle.tsdb_memory.specs.Model.{memory_view}
use Rattle.tsdb_memory.specs.StateOfMemory.{IsMemoryOf}
use Rattle.tsdb_memory.specs.Store as value
use Rattle.tsdb_memory.specs.declared.store.FrozenPair.{FrozenPair}
use Rattle.tsdb_memory.proofs.store.MemoryStore.finish_replaced.Goals as goal

pub returns : goal.returns
returns c = record {
  frozen = ap (λ (s : value.MemoryState). s.frozen) c.self.view_is;
  working = ap (λ (s : value.MemoryState). s.working) c.self.view_is;
  kept =
      let old = c.self.inside in
      let new = record old { marks = c.purge.new.self } in
      let kept : KeepsSeries (memory_view old) (memory_view new) =
      record { series = refl; stamp = refl; watermarks = λ device. refl; working = refl } in
      subst (λ (s : value.MemoryState). KeepsSeries s (memory_view new)) c.self.view_is kept;
  effect = λ state item is low.
      let old = c.self.inside in
      replaced_shown (memory_view old) c.purge.new.self c.args.listed state item
      (subst (λ (s : value.MemoryState). IsMemoryOf s state) (sym c.self.view_is) is) low
      (c.purge.ensures.marks ∙ ap (λ o. purge_list o old.marks.marks)
      (c.least_born.ensures ∙ ap (λ (pairs : List FrozenPair). least_with c.args.listed
      (map (λ (p : FrozenPair). p.born.0) pairs)) c.as_slice.ensures.value
      ∙ borns_kept c.args.listed old.frozen.items));
}

pub invariant_of-self : goal.invariant_of-self
invariant_of-self c = purged_sound (memory_view c.self.inside) c.purge.new.self c.least_born.result c.self.invariant
    c.purge.ensures.marks
