use Rattle.std.proofs.Common.{◌<◌, ◌∙◌, List, drop, length, map, refl, subst, sym, ap}
use Rattle.tsdb_marks.specs.Lists.{purge_list}
use Rattle.tsdb_memory.proofs.Effects.{flushed_shown, flushed_sound}
use Rattle.tsdb_memory.proofs.Later.{borns_kept, first_of}
use Rattle.tsdb_memory.specs.Changes.{KeepsSeries}
use Rattle.tsdb_memory.specs.Least.{least_with}
use Rattle.tsdb_memory.specs.Model.{frozen_in, memory_view}
use Rattle.tsdb_memory.specs.StateOfMemory.{IsMemoryOf}
use Rattle.tsdb_memory.specs.Store as value
use Rattle.tsdb_memory.specs.declared.store.FrozenPair.{FrozenPair}
use Rattle.tsdb_memory.proofs.store.MemoryStore.finish_flushed.Goals as goal

pub returns-clause-frozen : goal.returns-clause-frozen
returns-clause-frozen c =
    let old = c.self.inside in
    let first = first_of old.frozen.items c.remove.new.self.items
    (subst (λ (s : value.MemoryState). 0 < length s.frozen) (sym c.self.view_is) c.requires.some) c.remove.ensures.items in
    sym (ap (drop 1) first.are) ∙ ap (λ (s : value.MemoryState). drop 1 s.frozen) c.self.view_is

pub returns-clause-working : goal.returns-clause-working
returns-clause-working c = ap (λ (s : value.MemoryState). s.working) c.self.view_is

pub returns-clause-kept : goal.returns-clause-kept
returns-clause-kept c =
    let old = c.self.inside in
    let new = record old { frozen = c.remove.new.self; marks = c.purge.new.self } in
    let kept : KeepsSeries (memory_view old) (memory_view new) =
    record { series = refl; stamp = refl; watermarks = λ device. refl; working = refl } in
    subst (λ (s : value.MemoryState). KeepsSeries s (memory_view new)) c.self.view_is kept

pub returns-clause-effect : goal.returns-clause-effect
returns-clause-effect c = λ state sequence unsequence is low.
    let old = c.self.inside in
    let new = record old { frozen = c.remove.new.self; marks = c.purge.new.self } in
    let first = first_of old.frozen.items c.remove.new.self.items
    (subst (λ (s : value.MemoryState). 0 < length s.frozen) (sym c.self.view_is) c.requires.some) c.remove.ensures.items in
    flushed_shown (memory_view old) (map frozen_in c.remove.new.self.items) first.oldest (memory_view new).places
    c.purge.new.self c.args.listed state sequence unsequence first.are
    (subst (λ (s : value.MemoryState). IsMemoryOf s state) (sym c.self.view_is) is) low
    (c.purge.ensures.marks ∙ ap (λ o. purge_list o old.marks.marks)
    (c.least_born.ensures ∙ ap (λ (pairs : List FrozenPair). least_with c.args.listed
    (map (λ (p : FrozenPair). p.born.0) pairs)) c.as_slice.ensures.value
    ∙ borns_kept c.args.listed c.remove.new.self.items))

pub invariant_of-self : goal.invariant_of-self
invariant_of-self c =
    let old = c.self.inside in
    let new = record old { frozen = c.remove.new.self; marks = c.purge.new.self } in
    let first = first_of old.frozen.items c.remove.new.self.items
    (subst (λ (s : value.MemoryState). 0 < length s.frozen) (sym c.self.view_is) c.requires.some) c.remove.ensures.items in
    flushed_sound (memory_view old) (map frozen_in c.remove.new.self.items) first.oldest (memory_view new).places
    c.purge.new.self c.least_born.result first.are c.self.invariant c.purge.ensures.marks
