use Rattle.std.proofs.Common.{arith, ◌≡◌, ◌∙◌, ◌+◌, ◌++◌, ◌≤◌, [], None, ap, inr, length, sym, subst}
use Rattle.std.specs.Prelude.{◌*◌, ◌-◌, ◌^◌, count_by, min}
use Rattle.tsdb_history.specs.History.{told_device}
use Rattle.tsdb_recover.specs.Core.{next_of}
use Rattle.tsdb_history.proofs.Reach.{all_further}
use Rattle.tsdb_history.specs.Reach.{max_drawn}
use Rattle.std.specs.Prelude.{is_some}
use Rattle.tsdb_base.specs.Causes.{Rose}
use Rattle.tsdb_frames.proofs.CallLemmas.{leaves_aside_on, second_false}
use Rattle.tsdb_outside.specs.Files.{Store}
use Rattle.tsdb_outside.specs.Moments.{IsUntouched, LeavesOnly}
use Rattle.tsdb_outside.specs.declared.disk.Slot.{Slot}
use Rattle.tsdb_run.proofs.Executed.{has_run, no_strays, not_rose, one_more_fault, quiet_port, some_and}
use Rattle.tsdb_history.proofs.Out.{none_read}
use Rattle.tsdb_history.proofs.Swept.{still_empty}
use Rattle.tsdb_history.specs.Flushing.{IsReady, faults_under}
use Rattle.tsdb_history.specs.Out.{nothing_out}
use Rattle.tsdb_history.specs.Serving.{disk_under, log_under}
use Rattle.tsdb_run.proofs.store.serve_script.Goals as goal

pub execute-history-requires-clause-ready : goal.execute-history-requires-clause-ready
execute-history-requires-clause-ready g c = λ lifetimes lives. (nothing_out, c.requires.ready)

pub close-requires-clause-ready : goal.close-requires-clause-ready
close-requires-clause-ready g c = λ lifetimes lives. subst (λ store. IsReady store c.execute-history.new.core)
    (c.requires.port ∙ sym c.end_port.ensures.same_store)
    (c.execute-history.ensures.keeps_all nothing_out c.requires.ready)

pub returns-clause-served : goal.returns-clause-served
returns-clause-served g c =
    let core = c.args.core in
    let last = c.execute-history.new.core in
    let executed = c.execute-history.ensures.executed in
    let journal = c.close.result in
    let left = g.F.Files.at_rest c.close.new.files in
    record {
      entries = executed.entries;
      history_of = executed.history_of;
      in_line_order = executed.in_line_order;
      served = λ none files start serving below.
          let tells = ap (λ (s : Store). s.tells) c.requires.port ∙ g.F.Files.tells c.args.files.now ∙ ap is_some none in
          let whole = executed.served tells [] files start serving in
          let served = whole.answered in
          let closed = some_and _ left (c.close.ensures.closed (c.end_port.ensures.same ∙ none) (files ++ served.put)
          served.after served.doubt served.serving) in
          has_run core last files start executed.entries served c.requires.slot c.execute-history.ensures.stays.slot.same
          (g.J.Disk.state journal) (g.J.Disk.lawful journal) closed.0
          (Rose (faults_under last) (g.J.Counted.faults journal)) closed.2 left
          (Rose (count_by told_device c.execute-history.result)
          (g.J.Counted.faults journal + g.F.Counted.faults c.close.new.files)) closed.1 below
          (one_more_fault (faults_under core) (faults_under last) (g.J.Counted.faults journal)
          (g.F.Port.Counted.faults c.args.port) (g.F.Port.Counted.faults c.execute-history.new.port)
          (g.F.Counted.faults c.args.files.now) (g.F.Counted.faults c.close.new.files)
          (count_by told_device c.execute-history.result)
          (c.execute-history.ensures.devices (inr ([], files, start, None, serving)))
          (subst (λ n. min (g.F.Counted.faults c.args.files.now + g.F.Port.Counted.faults c.execute-history.new.port)
          (2 ^ 64 - 1) ≤ n) (sym c.close.ensures.faults) c.end_port.ensures.faults)) whole.settled whole;
      aside = subst (λ (s : Slot). LeavesOnly (disk_under core) (g.J.Disk.state journal) (IsUntouched s (disk_under core)))
          c.requires.slot (leaves_aside_on (log_under core) (log_under last) (g.J.Disk.state journal)
          (g.J.Disk.lawful journal) c.execute-history.ensures.stays.slot c.close.ensures.aside
          (second_false _ _ c.requires.no_doubt));
      swept = λ none files start serving empty quiet.
          let tells = ap (λ (s : Store). s.tells) c.requires.port ∙ g.F.Files.tells c.args.files.now ∙ ap is_some none in
          let served = (executed.served tells [] files start serving).answered in
          let closed = some_and _ left (c.close.ensures.closed (c.end_port.ensures.same ∙ none) (files ++ served.put)
          served.after served.doubt served.serving) in
          let no_fault : g.J.Counted.faults journal ≡ 0 = omega (arith, quiet) in
          let no_file_fault : g.F.Counted.faults c.close.new.files ≡ 0 = omega (arith, quiet) in
          let under : faults_under last ≡ 0 = (let later = c.close.ensures.later in omega (arith, later, no_fault)) in
          let port : g.F.Port.Counted.faults c.execute-history.new.port ≡ 0 =
          quiet_port (g.F.Counted.faults c.args.files.now) (g.F.Port.Counted.faults c.execute-history.new.port)
          (g.F.Counted.faults c.close.new.files)
          (subst (λ n. min (g.F.Counted.faults c.args.files.now + g.F.Port.Counted.faults c.execute-history.new.port)
          (2 ^ 64 - 1) ≤ n) (sym c.close.ensures.faults) c.end_port.ensures.faults) no_file_fault in
          no_strays core last files start executed.entries served c.requires.slot c.execute-history.ensures.stays.slot.same
          (g.J.Disk.state journal) (g.J.Disk.lawful journal) closed.0
          (Rose (faults_under last) (g.J.Counted.faults journal)) closed.2 left closed.1
          (not_rose (faults_under last) (g.J.Counted.faults journal) no_fault)
          (still_empty core last (g.F.Port.Counted.faults c.args.port)
          (g.F.Port.Counted.faults c.execute-history.new.port)
          (none_read last (g.F.Port.Port.store c.args.port)
          (c.execute-history.ensures.keeps_all nothing_out c.requires.ready)) c.execute-history.ensures.swept empty
          (not_rose (g.F.Port.Counted.faults c.args.port) (g.F.Port.Counted.faults c.execute-history.new.port) port) under);
      within = λ none files start serving.
          let tells = ap (λ (s : Store). s.tells) c.requires.port ∙ g.F.Files.tells c.args.files.now ∙ ap is_some none in
          let served = (executed.served tells [] files start serving).answered in
          all_further (next_of last) (next_of core + max_drawn * length c.args.script.now) start executed.entries
          c.execute-history.ensures.draws served.reached;
    }
