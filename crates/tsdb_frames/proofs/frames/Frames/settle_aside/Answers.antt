use Rattle.std.proofs.Common.{refl, ap, subst, sym, ◌∙◌}
use Rattle.std.proofs.lemmas.Bool.{false≢true}
use Rattle.tsdb_outside.specs.Moments.{other}
use Rattle.tsdb_frames.specs.Asides.{is_doubted, records_settled}
use Rattle.tsdb_frames.specs.Frames.{IsAside}
use Rattle.tsdb_frames.proofs.AsideLemmas.{doubted_is_unsettled, idle_leaves}
use Rattle.tsdb_frames.proofs.CallLemmas.{closed_is_aside, idle_aside_moments, none_doubted, on_err, on_err_both, on_ok, still_doubted, undoubted_settled}
use Rattle.tsdb_frames.proofs.frames.Frames.settle_aside.Goals as goal

pub returns-in-Doubted-clause-no_doubt : goal.returns-in-Doubted-clause-no_doubt
returns-in-Doubted-clause-no_doubt g c = on_ok c.write_closed.result (λ same. ap is_doubted same) c.write_closed.ensures.state

pub returns-in-Doubted-clause-same_doubt : goal.returns-in-Doubted-clause-same_doubt
returns-in-Doubted-clause-same_doubt g c = on_err c.write_closed.result (λ same. ap is_doubted same) c.write_closed.ensures.same

pub returns-in-Doubted-clause-idle : goal.returns-in-Doubted-clause-idle
returns-in-Doubted-clause-idle g c none = absurd (false≢true (sym none ∙ ap is_doubted c.in-Doubted.is))

pub returns-in-Doubted-clause-aside : goal.returns-in-Doubted-clause-aside
returns-in-Doubted-clause-aside g c = on_ok c.write_closed.result (λ closed records aside.
    subst (λ r. IsAside c.write_closed.new.self r) (sym (ap (λ a. records_settled a records) c.in-Doubted.is))
    (closed_is_aside c.write_closed.new.self (closed aside.told))) c.write_closed.ensures.closed

pub returns-in-Doubted-clause-failed : goal.returns-in-Doubted-clause-failed
returns-in-Doubted-clause-failed g c = on_err c.write_closed.result (λ both records aside.
    still_doubted c.args.self.now c.write_closed.new.self c.in-Doubted.is c.write_closed.ensures.log both.0 records (both.1 records) aside)
    (on_err_both c.write_closed.result _ _ c.write_closed.ensures.same c.write_closed.ensures.failed)

pub returns-in-Doubted-clause-moments : goal.returns-in-Doubted-clause-moments
returns-in-Doubted-clause-moments g c records aside = c.write_closed.ensures.moments records
    (doubted_is_unsettled (g.J.Disk.state c.args.self.now.journal) (other c.args.self.now.slot) c.args.self.now.aside records c.in-Doubted.is aside.stands)

pub returns-in_default-clause-log : goal.returns-in_default-clause-log
returns-in_default-clause-log g c = record {
  slot = refl;
  gate = refl;
  doubt = refl;
  first = refl;
  leaves = idle_leaves c.args.self.now.slot (g.J.Disk.state c.args.self.now.journal) (g.J.Disk.lawful c.args.self.now.journal);
}

pub returns-in_default-clause-no_doubt : goal.returns-in_default-clause-no_doubt
returns-in_default-clause-no_doubt g c = none_doubted c.args.self.now.aside c.in_default.not-Doubted

pub returns-in_default-clause-aside : goal.returns-in_default-clause-aside
returns-in_default-clause-aside g c records aside =
    subst (λ r. IsAside c.args.self.now r)
    (sym (undoubted_settled c.args.self.now.aside records c.in_default.not-Doubted)) aside

pub returns-in_default-clause-moments : goal.returns-in_default-clause-moments
returns-in_default-clause-moments g c records aside =
    idle_aside_moments c.args.self.now (g.J.Disk.lawful c.args.self.now.journal) records aside
