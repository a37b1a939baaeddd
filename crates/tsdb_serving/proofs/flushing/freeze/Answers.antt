use Rattle.std.proofs.Common.{sym, ◌∙◌}
use Rattle.std.proofs.lemmas.Bool.{false≢true}
use Rattle.tsdb_core.specs.Core.{working_of}
use Rattle.tsdb_memory.specs.Fits.{HasNoPairPoint}
use Rattle.tsdb_serving.proofs.Flushes.{froze, nothing}
use Rattle.tsdb_serving.proofs.flushing.freeze.Goals as goal

pub returns-then-is_idle-clause-goes_on : goal.returns-then-is_idle-clause-goes_on
returns-then-is_idle-clause-goes_on g c = λ port. nothing g.F.Port.Port.store g.F.Port.Counted.faults
    g.J.Disk.lawful port c.args.core.now 0

pub returns-in-Done-clause-goes_on : goal.returns-in-Done-clause-goes_on
returns-in-Done-clause-goes_on g c =
    let filled : ¬ HasNoPairPoint (working_of c.args.core.now) =
    λ none. absurd (false≢true (sym c.if-is_idle.false ∙ c.is_idle.ensures.1 none)) in
    λ port. froze g.F.Port.Port.store g.F.Port.Counted.faults g.J.Disk.lawful port c.args.core.now
    c.freeze.new.self c.freeze.result (c.freeze.ensures.command filled) (c.freeze.ensures.can filled)
    (c.freeze.ensures.memory filled)

pub returns-in-Device-clause-goes_on : goal.returns-in-Device-clause-goes_on
returns-in-Device-clause-goes_on g c =
    let filled : ¬ HasNoPairPoint (working_of c.args.core.now) =
    λ none. absurd (false≢true (sym c.if-is_idle.false ∙ c.is_idle.ensures.1 none)) in
    λ port. froze g.F.Port.Port.store g.F.Port.Counted.faults g.J.Disk.lawful port c.args.core.now
    c.freeze.new.self c.freeze.result (c.freeze.ensures.command filled) (c.freeze.ensures.can filled)
    (c.freeze.ensures.memory filled)

pub returns-in_default-clause-goes_on : goal.returns-in_default-clause-goes_on
returns-in_default-clause-goes_on g c =
    let filled : ¬ HasNoPairPoint (working_of c.args.core.now) =
    λ none. absurd (false≢true (sym c.if-is_idle.false ∙ c.is_idle.ensures.1 none)) in
    λ port. froze g.F.Port.Port.store g.F.Port.Counted.faults g.J.Disk.lawful port c.args.core.now
    c.freeze.new.self c.freeze.result (c.freeze.ensures.command filled) (c.freeze.ensures.can filled)
    (c.freeze.ensures.memory filled)

pub returns-in-Done-clause-emptied : goal.returns-in-Done-clause-emptied
returns-in-Done-clause-emptied g c = c.freeze.ensures.emptied c.in-Done.is
