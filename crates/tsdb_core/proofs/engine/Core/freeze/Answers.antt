use Rattle.std.proofs.Common.{refl, subst, sym, ◌∙◌}
use Rattle.std.proofs.lemmas.Bool.{false≢true}
use Rattle.tsdb_core.proofs.RowLemmas.{can_freeze_now, freeze_command}
use Rattle.tsdb_core.proofs.Worlds.{freeze_keeps}
use Rattle.tsdb_memory.specs.Fits.{HasNoPairPoint}
use Rattle.tsdb_core.proofs.engine.Core.freeze.Goals as goal

pub returns-clause-idle : goal.returns-clause-idle
returns-clause-idle g c = λ none. absurd (false≢true (sym c.if-is_idle.false ∙ c.is_idle.ensures.idle.1 none))

pub returns-clause-command : goal.returns-clause-command
returns-clause-command g c = λ filled. freeze_command c.args.self.now c.freeze.new.self c.freeze.result
    c.freeze.ensures.command
    (can_freeze_now c.args.self.now c.is_idle.result c.if-is_idle.false c.is_idle.ensures.idle c.is_idle.ensures.counts
    c.requires)

pub returns-clause-emptied : goal.returns-clause-emptied
returns-clause-emptied g c = λ done. subst HasNoPairPoint (sym (c.freeze.ensures.working done)) (refl, refl)

pub returns-clause-can : goal.returns-clause-can
returns-clause-can g c = λ filled. can_freeze_now c.args.self.now c.is_idle.result c.if-is_idle.false
    c.is_idle.ensures.idle c.is_idle.ensures.counts c.requires

pub returns-clause-world : goal.returns-clause-world
returns-clause-world g c = freeze_keeps c.args.self.now (record c.args.self.now { logged = c.freeze.new.self })
    c.freeze.result
    (freeze_command c.args.self.now c.freeze.new.self c.freeze.result c.freeze.ensures.command
    (can_freeze_now c.args.self.now c.is_idle.result c.if-is_idle.false c.is_idle.ensures.idle c.is_idle.ensures.counts
    c.requires))
    (can_freeze_now c.args.self.now c.is_idle.result c.if-is_idle.false c.is_idle.ensures.idle c.is_idle.ensures.counts
    c.requires)

pub returns-clause-kept : goal.returns-clause-kept
returns-clause-kept g c = (freeze_command c.args.self.now c.freeze.new.self c.freeze.result c.freeze.ensures.command
    (can_freeze_now c.args.self.now c.is_idle.result c.if-is_idle.false c.is_idle.ensures.idle c.is_idle.ensures.counts
    c.requires)).kept

pub returns-clause-memory : goal.returns-clause-memory
returns-clause-memory g c = λ filled. c.freeze.ensures.memory

pub returns-then-is_idle-clause-memory : goal.returns-then-is_idle-clause-memory
returns-then-is_idle-clause-memory g c = λ filled. absurd (filled (c.is_idle.ensures.idle.0 c.if-is_idle.true))

pub freeze-requires-clause-some : goal.freeze-requires-clause-some
freeze-requires-clause-some g c = λ lifetimes lives none.
    false≢true (sym c.if-is_idle.false ∙ c.is_idle.ensures.idle.1 none)
