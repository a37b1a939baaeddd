use Rattle.std.proofs.Common.{◌≡◌, Ok, ap, inl, subst, ◌∙◌}
use Rattle.tsdb_serving.proofs.Beginnings.{plan_fits}
use Rattle.tsdb_serving.proofs.Jobs.{can_still, of_the_store as store_is}
use Rattle.tsdb_serving.specs.Beginnings.{IsInnerRuns}
use Rattle.tsdb_serving.specs.Core.{next_of}
use Rattle.tsdb_rewriting.proofs.Begun.{can_end, cause_of, of_the_store, rewritten, still_of, was_told}
use Rattle.tsdb_rewriting.proofs.Outputs.{full_at_end, never_device}
use Rattle.tsdb_rewriting.proofs.Whole.{compacted, full_swept, idle_swept, no_full, nothing_compacted}
use Rattle.tsdb_rewriting.specs.Rewriting.{IsStartAnswer, LendsJobOrNot}
use Rattle.tsdb_serving.specs.declared.fault.FlushFault.TheVariants as fault
use Rattle.tsdb_rewriting.proofs.compacting.compact_inner.Goals as goal

pub rewrite-requires-clause-out : goal.rewrite-requires-clause-out
rewrite-requires-clause-out g c = λ lifetimes lives.
    let lent = subst (LendsJobOrNot g.F.Right.ReadRight.file c.args.space (IsInnerRuns c.args.space c.args.core.now) c.args.core.now c.start_inner.new.core)
    (c.in-Ok-Some.is ∙ ap Ok c.in-Ok-Some.field-0-is) c.start_inner.ensures.lent in
    can_end g.F.Right.ReadRight.file c.args.space lent.0 c.args.core.now c.start_inner.new.core c.in-Ok-Some.job lent.2 (g.F.Port.Port.store c.args.port.now)
    c.requires.ready

pub rewrite-requires-clause-store : goal.rewrite-requires-clause-store
rewrite-requires-clause-store g c = λ lifetimes lives.
    let lent = subst (LendsJobOrNot g.F.Right.ReadRight.file c.args.space (IsInnerRuns c.args.space c.args.core.now) c.args.core.now c.start_inner.new.core)
    (c.in-Ok-Some.is ∙ ap Ok c.in-Ok-Some.field-0-is) c.start_inner.ensures.lent in
    still_of g.F.Right.ReadRight.file c.args.space lent.0 c.args.core.now c.start_inner.new.core c.in-Ok-Some.job lent.2 (g.F.Port.Port.store c.args.port.now)
    c.requires.ready

pub returns-in-Ok-Some-clause-compacted : goal.returns-in-Ok-Some-clause-compacted
returns-in-Ok-Some-clause-compacted g c =
    let lent = subst (LendsJobOrNot g.F.Right.ReadRight.file c.args.space (IsInnerRuns c.args.space c.args.core.now) c.args.core.now c.start_inner.new.core)
    (c.in-Ok-Some.is ∙ ap Ok c.in-Ok-Some.field-0-is) c.start_inner.ensures.lent in
    compacted g.F.Right.ReadRight.file (IsInnerRuns c.args.space c.args.core.now) c.args.space lent.0 c.args.core.now c.start_inner.new.core c.rewrite.new.core
    c.in-Ok-Some.job c.rewrite.result lent.1 lent.2.begun
    (plan_fits c.args.space c.args.core.now lent.0 (inl lent.1)) c.rewrite.ensures.kept c.rewrite.ensures.finished

pub returns-in-Ok-Some-clause-goes_on : goal.returns-in-Ok-Some-clause-goes_on
returns-in-Ok-Some-clause-goes_on g c =
    let lent = subst (LendsJobOrNot g.F.Right.ReadRight.file c.args.space (IsInnerRuns c.args.space c.args.core.now) c.args.core.now c.start_inner.new.core)
    (c.in-Ok-Some.is ∙ ap Ok c.in-Ok-Some.field-0-is) c.start_inner.ensures.lent in
    rewritten g.F.Right.ReadRight.file c.args.space lent.0 c.args.core.now c.start_inner.new.core c.in-Ok-Some.job lent.2 g.J.Disk.lawful
    g.F.Port.Port.store g.F.Port.Counted.faults c.args.port.now c.rewrite.new.port c.rewrite.new.core
    c.rewrite.ensures.ends c.rewrite.ensures.same_store c.rewrite.ensures.later

pub returns-in-Ok-Some-clause-cause : goal.returns-in-Ok-Some-clause-cause
returns-in-Ok-Some-clause-cause g c = λ sure.
    let lent = subst (LendsJobOrNot g.F.Right.ReadRight.file c.args.space (IsInnerRuns c.args.space c.args.core.now) c.args.core.now c.start_inner.new.core)
    (c.in-Ok-Some.is ∙ ap Ok c.in-Ok-Some.field-0-is) c.start_inner.ensures.lent in
    let store = g.F.Port.Port.store c.args.port.now in
    cause_of g.F.Right.ReadRight.file c.args.space lent.0 c.args.core.now c.start_inner.new.core c.in-Ok-Some.job lent.2 c.rewrite.result
    (λ why. why ≡ fault.Device) _ _ _
    (c.rewrite.ensures.cause (was_told g.F.Right.ReadRight.file c.args.space lent.0 c.args.core.now c.start_inner.new.core c.in-Ok-Some.job lent.2
    store g.F.Right.ReadRight.tells
    (of_the_store g.F.Right.ReadRight.file store c.start_inner.new.core c.in-Ok-Some.job
    (can_end g.F.Right.ReadRight.file c.args.space lent.0 c.args.core.now c.start_inner.new.core c.in-Ok-Some.job lent.2 store c.requires.ready)
    c.rewrite.ensures.of_store
    (still_of g.F.Right.ReadRight.file c.args.space lent.0 c.args.core.now c.start_inner.new.core c.in-Ok-Some.job lent.2 store c.requires.ready)) sure))

pub returns-in-Ok-Some-clause-full : goal.returns-in-Ok-Some-clause-full
returns-in-Ok-Some-clause-full g c = no_full c.rewrite.result (next_of c.rewrite.new.core) c.rewrite.ensures.full

pub sweep-requires-clause-store : goal.sweep-requires-clause-store
sweep-requires-clause-store g c = λ lifetimes lives.
    let store = g.F.Port.Port.store c.args.port.now in
    let lent = subst (LendsJobOrNot g.F.Right.ReadRight.file c.args.space (IsInnerRuns c.args.space c.args.core.now) c.args.core.now c.start_inner.new.core)
    (c.in-Ok-None.is ∙ ap Ok c.in-Ok-None.field-0-is) c.start_inner.ensures.lent in
    store_is store c.start_inner.new.core (can_still store c.args.core.now c.start_inner.new.core (lent.turn.keeps_all store)
    c.requires.ready)

pub returns-in-Ok-None-clause-compacted : goal.returns-in-Ok-None-clause-compacted
returns-in-Ok-None-clause-compacted g c =
    let lent = subst (LendsJobOrNot g.F.Right.ReadRight.file c.args.space (IsInnerRuns c.args.space c.args.core.now) c.args.core.now c.start_inner.new.core)
    (c.in-Ok-None.is ∙ ap Ok c.in-Ok-None.field-0-is) c.start_inner.ensures.lent in
    nothing_compacted c.args.core.now c.start_inner.new.core c.sweep.new.core lent c.sweep.ensures.listed
    (IsInnerRuns c.args.space c.args.core.now) c.args.space
    (subst (IsStartAnswer (IsInnerRuns c.args.space c.args.core.now) (next_of c.args.core.now)) (c.in-Ok-None.is ∙ ap Ok c.in-Ok-None.field-0-is)
    c.start_inner.ensures.answer)

pub returns-in-Ok-None-clause-goes_on : goal.returns-in-Ok-None-clause-goes_on
returns-in-Ok-None-clause-goes_on g c =
    let lent = subst (LendsJobOrNot g.F.Right.ReadRight.file c.args.space (IsInnerRuns c.args.space c.args.core.now) c.args.core.now c.start_inner.new.core)
    (c.in-Ok-None.is ∙ ap Ok c.in-Ok-None.field-0-is) c.start_inner.ensures.lent in
    idle_swept c.args.core.now c.start_inner.new.core c.sweep.new.core lent c.sweep.ensures.listed g.J.Disk.lawful
    g.F.Port.Port.store g.F.Port.Counted.faults c.args.port.now c.sweep.new.port c.sweep.ensures.keeps_all
    c.sweep.ensures.same_store c.sweep.ensures.later

pub sweep-requires-in-Err-clause-store : goal.sweep-requires-in-Err-clause-store
sweep-requires-in-Err-clause-store g c = λ lifetimes lives.
    let store = g.F.Port.Port.store c.args.port.now in
    let lent = subst (LendsJobOrNot g.F.Right.ReadRight.file c.args.space (IsInnerRuns c.args.space c.args.core.now) c.args.core.now c.start_inner.new.core) c.in-Err.is
    c.start_inner.ensures.lent in
    store_is store c.start_inner.new.core (can_still store c.args.core.now c.start_inner.new.core (lent.turn.keeps_all store)
    c.requires.ready)

pub returns-in-Err-clause-goes_on : goal.returns-in-Err-clause-goes_on
returns-in-Err-clause-goes_on g c =
    let lent = subst (LendsJobOrNot g.F.Right.ReadRight.file c.args.space (IsInnerRuns c.args.space c.args.core.now) c.args.core.now c.start_inner.new.core) c.in-Err.is
    c.start_inner.ensures.lent in
    idle_swept c.args.core.now c.start_inner.new.core c.sweep-in-Err.new.core lent c.sweep-in-Err.ensures.listed
    g.J.Disk.lawful g.F.Port.Port.store g.F.Port.Counted.faults c.args.port.now c.sweep-in-Err.new.port
    c.sweep-in-Err.ensures.keeps_all c.sweep-in-Err.ensures.same_store c.sweep-in-Err.ensures.later

pub returns-in-Err-clause-cause : goal.returns-in-Err-clause-cause
returns-in-Err-clause-cause g c = λ sure is. absurd (never_device (IsInnerRuns c.args.space c.args.core.now) (next_of c.args.core.now)
    (Unit {0}) c.start_inner.result (λ not. absurd (not tt)) (λ order. c.start_inner.ensures.answer) c.in-Err.fault c.in-Err.is is)

pub returns-in-Err-clause-full : goal.returns-in-Err-clause-full
returns-in-Err-clause-full g c =
    let lent = subst (LendsJobOrNot g.F.Right.ReadRight.file c.args.space (IsInnerRuns c.args.space c.args.core.now) c.args.core.now c.start_inner.new.core) c.in-Err.is
    c.start_inner.ensures.lent in
    full_swept c.args.core.now c.start_inner.new.core c.sweep-in-Err.new.core lent c.sweep-in-Err.ensures.listed c.in-Err.fault
    (full_at_end (IsInnerRuns c.args.space c.args.core.now) (next_of c.args.core.now) (Unit {0}) c.start_inner.result
    (λ not. absurd (not tt)) (λ order. c.start_inner.ensures.answer) c.in-Err.fault c.in-Err.is)
