use Rattle.std.proofs.Common.{◌≡◌, Ok, ap, arith, subst, sym, ◌∙◌}
use Rattle.std.specs.Option.{option_map}
use Rattle.std.specs.Prelude.{IfOk, OnOk}
use Rattle.tsdb_base.specs.declared.ids.Stamp.{Stamp}
use Rattle.tsdb_core.specs.Core.{newest_born, next_of, working_of}
use Rattle.tsdb_memory.specs.Fits.{HasNoPairPoint}
use Rattle.tsdb_serving.proofs.Causes.{cause_before}
use Rattle.tsdb_serving.proofs.Flushes.{and_then, flushed_all, goes_on_within, none_newest}
use Rattle.tsdb_serving.proofs.Jobs.{can_still}
use Rattle.tsdb_serving.specs.Flushing.{faults_under, frozen_under}
use Rattle.tsdb_serving.specs.Loans.{CanServe}
use Rattle.tsdb_serving.proofs.flushing.flush_pairs.Goals as goal

pub flush_both-requires-clause-newest : goal.flush_both-requires-clause-newest
flush_both-requires-clause-newest g c = λ lifetimes lives. sym (subst (λ r. IfOk r (λ upto. option_map (λ (stamp : Stamp).
    stamp.0) upto ≡ newest_born (frozen_under c.start_flush.new.core))) (c.in-Ok-Some.is ∙ ap Ok c.in-Ok-Some.field-0-is)
    c.start_flush.ensures.newest)

pub flush_both-requires-clause-ready : goal.flush_both-requires-clause-ready
flush_both-requires-clause-ready g c = λ lifetimes lives. subst (λ store. CanServe store c.start_flush.new.core)
    (sym c.start_flush.ensures.goes_on.serves.same_store)
    (can_still (g.F.Port.Port.store c.args.port.now) c.args.core.now c.start_flush.new.core
    c.start_flush.ensures.goes_on.serves.keeps_all c.requires.ready)

pub returns-in-Ok-Some-clause-flushed : goal.returns-in-Ok-Some-clause-flushed
returns-in-Ok-Some-clause-flushed g c = flushed_all c.start_flush.new.core c.flush_both.new.core c.flush_both.result
    c.flush_both.ensures.flushed c.flush_both.ensures.working
    (subst (λ r. OnOk r (HasNoPairPoint (working_of c.start_flush.new.core)))
    (c.in-Ok-Some.is ∙ ap Ok c.in-Ok-Some.field-0-is) c.start_flush.ensures.emptied)

pub returns-in-Ok-Some-clause-goes_on : goal.returns-in-Ok-Some-clause-goes_on
returns-in-Ok-Some-clause-goes_on g c = and_then g.F.Port.Port.store g.F.Port.Counted.faults g.J.Disk.lawful
    c.args.port.now c.start_flush.new.port c.flush_both.new.port c.args.core.now c.start_flush.new.core
    c.flush_both.new.core 2 4 6 (omega arith) c.start_flush.ensures.goes_on c.flush_both.ensures.goes_on

pub returns-in-Ok-Some-clause-cause : goal.returns-in-Ok-Some-clause-cause
returns-in-Ok-Some-clause-cause g c = cause_before c.flush_both.result (faults_under c.args.core.now)
    (faults_under c.start_flush.new.core) (faults_under c.flush_both.new.core) (g.F.Port.Counted.faults c.args.port.now)
    (g.F.Port.Counted.faults c.start_flush.new.port) (g.F.Port.Counted.faults c.flush_both.new.port)
    (next_of c.flush_both.new.core) c.start_flush.ensures.goes_on.serves.later.0
    c.start_flush.ensures.goes_on.serves.later.1 c.flush_both.ensures.cause

pub returns-in-Ok-None-clause-flushed : goal.returns-in-Ok-None-clause-flushed
returns-in-Ok-None-clause-flushed g c = (
  none_newest (frozen_under c.start_flush.new.core) (sym (subst (λ r. IfOk r (λ upto. option_map (λ (stamp : Stamp).
      stamp.0) upto ≡ newest_born (frozen_under c.start_flush.new.core)))
      (c.in-Ok-None.is ∙ ap Ok c.in-Ok-None.field-0-is) c.start_flush.ensures.newest)),
  subst (λ r. OnOk r (HasNoPairPoint (working_of c.start_flush.new.core)))
      (c.in-Ok-None.is ∙ ap Ok c.in-Ok-None.field-0-is) c.start_flush.ensures.emptied,
)

pub returns-in-Ok-None-clause-goes_on : goal.returns-in-Ok-None-clause-goes_on
returns-in-Ok-None-clause-goes_on g c = goes_on_within g.F.Port.Port.store g.F.Port.Counted.faults
    c.args.port.now c.start_flush.new.port c.args.core.now c.start_flush.new.core 2 6 (omega arith)
    c.start_flush.ensures.goes_on

pub returns-in-Err-clause-goes_on : goal.returns-in-Err-clause-goes_on
returns-in-Err-clause-goes_on g c = goes_on_within g.F.Port.Port.store g.F.Port.Counted.faults
    c.args.port.now c.start_flush.new.port c.args.core.now c.start_flush.new.core 2 6 (omega arith)
    c.start_flush.ensures.goes_on
