use Rattle.std.proofs.Common.{inl, inr, subst}
use Rattle.tsdb_core.proofs.RowLemmas.{can_freeze_for, frozen_for, not_fit}
use Rattle.tsdb_core.specs.Rows.{IsFrozenFor}
use Rattle.tsdb_memory.specs.LogState.{memory_of}
use Rattle.tsdb_core.proofs.engine.Core.make_place.Goals as goal

pub returns-clause-done : goal.returns-clause-done
returns-clause-done g c =
    let old = c.args.self.now in
    let full = not_fit c.points.result old.limit.points c.args.row.now c.memory-memory.result.now (memory_of old.logged)
    c.fits_pair.result c.if-fits_pair.false c.points.ensures.value c.memory-memory.ensures c.fits_pair.ensures.fits in
    λ done. inr (subst (IsFrozenFor c.args.row.now old (record old { logged = c.freeze-answer.new.self })) done
    (frozen_for old c.freeze-answer.new.self c.args.row.now c.freeze-answer.result full
    (can_freeze_for old c.args.row.now c.memory-memory.result.now c.memory-memory.ensures c.fits_pair.ensures.counts
    c.sound.ensures.two c.requires.place) c.freeze-answer.ensures.command c.freeze-answer.ensures.memory))

pub returns-clause-failed : goal.returns-clause-failed
returns-clause-failed g c =
    let old = c.args.self.now in
    let full = not_fit c.points.result old.limit.points c.args.row.now c.memory-memory.result.now (memory_of old.logged)
    c.fits_pair.result c.if-fits_pair.false c.points.ensures.value c.memory-memory.ensures c.fits_pair.ensures.fits in
    λ failed. frozen_for old c.freeze-answer.new.self c.args.row.now c.freeze-answer.result full
    (can_freeze_for old c.args.row.now c.memory-memory.result.now c.memory-memory.ensures c.fits_pair.ensures.counts
    c.sound.ensures.two c.requires.place) c.freeze-answer.ensures.command c.freeze-answer.ensures.memory

pub returns-clause-can : goal.returns-clause-can
returns-clause-can g c = can_freeze_for c.args.self.now c.args.row.now c.memory-memory.result.now
    c.memory-memory.ensures c.fits_pair.ensures.counts c.sound.ensures.two c.requires.place

pub freeze-answer-requires-clause-some : goal.freeze-answer-requires-clause-some
freeze-answer-requires-clause-some g c = λ lifetimes lives none.
    not_fit c.points.result c.args.self.now.limit.points c.args.row.now c.memory-memory.result.now
    (memory_of c.args.self.now.logged) c.fits_pair.result c.if-fits_pair.false c.points.ensures.value c.memory-memory.ensures
    c.fits_pair.ensures.fits (inl none)
