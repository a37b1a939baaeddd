use Rattle.std.proofs.Common.{◌≡◌, ◌∙◌, ◌+◌, [], inl, inr, ap, length, refl, subst, sym, None}
use Rattle.std.specs.Prelude.{◌*◌, count_by}
use Rattle.tsdb_history.specs.History.{told_device}
use Rattle.tsdb_history.specs.Reach.{AreFullWithin, max_drawn}
use Rattle.tsdb_history.proofs.Out.{none_out}
use Rattle.std.specs.Prelude.{is_some}
use Rattle.tsdb_recover.specs.CoreType.{Core}
use Rattle.tsdb_frames.specs.Frames.{journal_of}
use Rattle.tsdb_memory.specs.LogState.{log_of}
use Rattle.tsdb_recover.specs.Core.{logged_of}
use Rattle.tsdb_base.specs.Causes.{Rose}
use Rattle.tsdb_outside.specs.Files.{Store}
use Rattle.tsdb_run.proofs.Executed.{above_stored, aside_before, run_before}
use Rattle.tsdb_run.proofs.Whole.{gone, image, next_is, next_same, opened, sound_left}
use Rattle.tsdb_run.specs.Store.{IsSoundOrSilent, contents}
use Rattle.tsdb_history.specs.Serving.{IsSure, disk_under}
use Rattle.tsdb_outside.proofs.DiskLemmas.{Keeps-same}
use Rattle.tsdb_run.proofs.Refused.{never_opened, opening_refused, reports, same_refused}
use Rattle.tsdb_run.specs.Causes.{ReportsDamage}
use Rattle.tsdb_run.specs.Steps.{IsOpeningRefused}
use Rattle.tsdb_run.specs.declared.status.Status.TheVariants.{Memory}
use Rattle.tsdb_run.proofs.store.run_on.Goals as goal

pub serve_script-journal-requires-clause-ready : goal.serve_script-journal-requires-clause-ready
serve_script-journal-requires-clause-ready g c = λ lifetimes lives. none_out c.in-Ok-recover.core _
    c.in-Ok-recover.ensures.quiet c.in-Ok-recover.ensures.no_rights
    (record {
      sequence = c.in-Ok-recover.ensures.unclaimed.list;
      late = c.in-Ok-recover.ensures.unclaimed.files.unsequence;
    })
    (c.in-Ok.ensures.store ∙ sym c.port.ensures.same_store ∙ sym c.in-Ok-recover.ensures.of_store)

pub returns-in-Ok-recover-clause-executed : goal.returns-in-Ok-recover-clause-executed
returns-in-Ok-recover-clause-executed g c =
    let core = c.in-Ok-recover.core in
    let state = g.J.Disk.state c.args.journal in
    let stored = g.F.Files.at_rest c.args.files.now in
    let now = g.F.Files.at_rest c.port.new.self in
    let same : now ≡ stored = c.port.ensures.same in
    let journal = c.serve_script-journal.result.0 in
    let left = g.F.Files.at_rest c.serve_script-journal.new.files in
    let served = c.serve_script-journal.ensures.served in
    let more = Rose (count_by told_device c.serve_script-journal.result.1)
    (g.J.Counted.faults journal + g.F.Counted.faults c.serve_script-journal.new.files) in
    record {
      entries = served.entries;
      history_of = served.history_of;
      in_line_order = served.in_line_order;
      served = λ start sound.
          let recovered = opened core state stored now start sound same c.in-Ok-recover.ensures.seen in
          let serving = c.a_recovered_core_serves.ensures (image core state stored now start sound same).a sound.files start
          recovered in
          let next = next_is core state stored now start sound same recovered.recorded recovered.replayed
          c.in-Ok-recover.ensures.next in
          let none = gone core state stored now start sound same (g.F.Files.at_rest c.recover.new.files)
          c.in-Ok-recover.ensures.strays in
          run_before sound.files start served.entries state (disk_under core) (g.J.Disk.state journal) left
          more (g.J.Disk.lawful c.args.journal) (g.J.Disk.lawful (journal_of (log_of (logged_of core))))
          (g.J.Disk.lawful journal) more c.in-Ok-recover.ensures.keeps
          (λ image left. sound_left state stored start image sound left) (λ is. is)
          (served.served none sound.files start serving
          (above_stored core sound.files recovered.recorded.named next));
      aside = aside_before state (disk_under core) (g.J.Disk.state journal) (g.J.Disk.lawful c.args.journal)
          (g.J.Disk.lawful (journal_of (log_of (logged_of core)))) (g.J.Disk.lawful journal)
          c.in-Ok-recover.ensures.keeps served.aside;
      swept = λ start sound quiet.
          let recovered = opened core state stored now start sound same c.in-Ok-recover.ensures.seen in
          let serving = c.a_recovered_core_serves.ensures (image core state stored now start sound same).a sound.files start
          recovered in
          let none = gone core state stored now start sound same (g.F.Files.at_rest c.recover.new.files)
          c.in-Ok-recover.ensures.strays in
          served.swept none sound.files start serving c.in-Ok-recover.ensures.none_leaving quiet;
      within = λ start sound next is.
          let recovered = opened core state stored now start sound same c.in-Ok-recover.ensures.seen in
          let serving = c.a_recovered_core_serves.ensures (image core state stored now start sound same).a sound.files start
          recovered in
          let none = gone core state stored now start sound same (g.F.Files.at_rest c.recover.new.files)
          c.in-Ok-recover.ensures.strays in
          subst (λ n. AreFullWithin (n + max_drawn * length c.args.script.now) start served.entries)
          (next_same core state stored now start sound same next is c.in-Ok-recover.ensures.next)
          (served.within none sound.files start serving);
    }

pub returns-in-Ok-recover-clause-devices : goal.returns-in-Ok-recover-clause-devices
returns-in-Ok-recover-clause-devices g c = λ sure. c.serve_script-journal.ensures.devices (by sure)
  where
    core : Core g.row.J.Denot g.row.F.Denot g.row.F-Sealed.Denot g.row.F-Right.Denot g.row.F-Port.Denot g.J.Disk g.J.Counted
    core = c.in-Ok-recover.core

    by : IsSoundOrSilent (contents (g.J.Disk.state c.args.journal) (g.F.Files.at_rest c.args.files.now))
        → IsSure (g.F.Files.store c.recover.new.files) core
    by (inl silent) = inl (ap (λ (s : Store). s.tells) (c.recover.ensures.same_store ∙ c.port.ensures.same_store)
        ∙ g.F.Files.tells c.args.files.now ∙ ap is_some silent)
    by (inr (start, sound)) =
        let state = g.J.Disk.state c.args.journal in
        let stored = g.F.Files.at_rest c.args.files.now in
        let now = g.F.Files.at_rest c.port.new.self in
        let recovered = opened core state stored now start sound c.port.ensures.same c.in-Ok-recover.ensures.seen in
        inr (
          [],
          sound.files,
          start,
          None,
          c.a_recovered_core_serves.ensures
              (image core state stored now start sound c.port.ensures.same).a sound.files start recovered,
        )

pub returns-in-Ok-recover-clause-damaged : goal.returns-in-Ok-recover-clause-damaged
returns-in-Ok-recover-clause-damaged g c = λ part at damaged.
    absurd (never_opened (g.J.Disk.state c.args.journal) (g.F.Files.at_rest c.args.files.now)
    (g.F.Files.at_rest c.port.new.self) part at c.port.ensures.same c.in-Ok-recover.ensures.each damaged)

pub returns-in-Err-clause-refused : goal.returns-in-Err-clause-refused
returns-in-Err-clause-refused g c =
    subst (IsOpeningRefused (contents (g.J.Disk.state c.args.journal) (g.F.Files.at_rest c.args.files.now))
    (contents (g.J.Disk.state c.in-Err.field-0.journal) (g.F.Files.at_rest c.end_port.new.self))) (sym c.status_of.ensures)
    (opening_refused (g.J.Disk.state c.args.journal) (g.J.Disk.state c.in-Err.field-0.journal)
    (g.F.Files.at_rest c.args.files.now) (g.F.Files.at_rest c.port.new.self) (g.F.Files.at_rest c.recover.new.files)
    (g.F.Files.at_rest c.end_port.new.self) c.in-Err.field-0.fault c.port.ensures.same c.end_port.ensures.same
    c.in-Err.ensures.returns c.in-Err.ensures.damaged c.in-Err.ensures.left)

pub returns-in-Err-clause-damaged : goal.returns-in-Err-clause-damaged
returns-in-Err-clause-damaged g c = λ part at damaged.
    subst (λ status. ReportsDamage status part at) (sym c.status_of.ensures)
    (reports (g.J.Disk.state c.args.journal) (g.F.Files.at_rest c.args.files.now) (g.F.Files.at_rest c.port.new.self)
    part at c.in-Err.field-0.fault c.port.ensures.same c.in-Err.ensures.each damaged)

pub returns-in_default-clause-refused : goal.returns-in_default-clause-refused
returns-in_default-clause-refused g c =
    same_refused (g.J.Disk.state c.args.journal) (g.J.Disk.state c.args.journal) (g.F.Files.at_rest c.args.files.now)
    (g.F.Files.at_rest c.port.new.self) Memory (Keeps-same (g.J.Disk.state c.args.journal)) c.port.ensures.same tt

pub returns-in_default-clause-damaged : goal.returns-in_default-clause-damaged
returns-in_default-clause-damaged g c = λ part at damaged. inr (inl refl)
