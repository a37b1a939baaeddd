use Rattle.std.proofs.Common.{◌∙◌, inl, inr, refl, subst, sym}
use Rattle.std.proofs.KnownBytes.{Keeps-refl}
use Rattle.tsdb_base.specs.Causes.{Rose}
use Rattle.tsdb_run.proofs.Ends.{calm, shows_device, taken_device, written_unrefused}
use Rattle.tsdb_run.proofs.Opening.{refused_rose}
use Rattle.tsdb_run.proofs.Refused.{headline_refused, without}
use Rattle.tsdb_run.proofs.Written.{headline_written, small_sessions}
use Rattle.tsdb_run.specs.Causes.{IsRefusedStore, ReportsDamage}
use Rattle.tsdb_run.specs.Output.{output_text}
use Rattle.tsdb_run.specs.Headline.{Headline}
use Rattle.tsdb_run.specs.Steps.{IsAnswered, IsOpeningStatus, IsOutputWritten, whole_run}
use Rattle.tsdb_run.specs.Store.{contents}
use Rattle.tsdb_run.specs.declared.status.Status.TheVariants.{Sink}
use Rattle.tsdb_script.proofs.ReadingLemmas.{well_formed, within_limits}
use Rattle.tsdb_run.proofs.top_call.run_script.Goals as goal

pub run_commands-requires-clause-script : goal.run_commands-requires-clause-script
run_commands-requires-clause-script g c κs within = record {
  few = (within_limits c.requires.some.0 c.args.script.now c.requires.some.1).commands;
  sessions = small_sessions c.requires.some.0 c.args.script.now c.requires.some.1;
  well_formed = well_formed c.requires.some.0 c.args.script.now c.requires.some.1;
}

pub write_output-status-requires : goal.write_output-status-requires
write_output-status-requires g c =
    subst (IsAnswered c.args.script.now) (sym c.items.ensures) (record {
      entries = c.in-Ok.ensures.executed.entries;
      history_of = c.in-Ok.ensures.executed.history_of;
      in_line_order = c.in-Ok.ensures.executed.in_line_order;
    })

pub returns-in-Ok-clause-in_line_order : goal.returns-in-Ok-clause-in_line_order
returns-in-Ok-clause-in_line_order g c = inr c.in-Ok.ensures.executed.in_line_order

pub returns-in-Ok-clause-sink_untouched : goal.returns-in-Ok-clause-sink_untouched
returns-in-Ok-clause-sink_untouched g c refused =
    absurd (written_unrefused c.write_output-status.result _ _ _ c.write_output-status.ensures.written refused)

pub returns-in-Ok-clause-sound : goal.returns-in-Ok-clause-sound
returns-in-Ok-clause-sound g c at sound refused =
    absurd (written_unrefused c.write_output-status.result _ _ _ c.write_output-status.ensures.written refused)

pub returns-in-Ok-clause-headline : goal.returns-in-Ok-clause-headline
returns-in-Ok-clause-headline g c = λ words left are read.
    let script = c.args.script.now in
    let history = c.in-Ok.history in
    let status = c.write_output-status.result in
    let old = g.K.Sink.held c.args.out.now in
    let new = g.K.Sink.held c.write_output-status.new.out in
    let run = whole_run words left (contents (g.P.Disk.state c.args.place.now) (g.P.Place.stored c.args.place.now))
    (contents (g.P.Disk.state c.run_commands.new.place) (g.P.Place.stored c.run_commands.new.place))
    (g.P.Counted.faults c.args.place.now) (g.P.Counted.faults c.run_commands.new.place)
    (g.P.Place.asked c.run_commands.new.place) history old new in
    headline_written run script c.args.asked.now are c.in-Ok.ensures.directory read c.in-Ok.ensures.executed status
    (subst (λ h. IsOutputWritten status old new (output_text script h)) c.items.ensures c.write_output-status.ensures.written)

pub returns-in-Ok-clause-device : goal.returns-in-Ok-clause-device
returns-in-Ok-clause-device g c =
    taken_device c.write_output-status.result _ _ _ _ _ _ c.write_output-status.ensures.written
    c.in-Ok.ensures.directory c.run_commands.ensures.later

pub returns-in-Ok-clause-damaged : goal.returns-in-Ok-clause-damaged
returns-in-Ok-clause-damaged g c = λ part at damaged. absurd (c.in-Ok.ensures.damaged part at damaged)

pub returns-in-Err-clause-damaged : goal.returns-in-Err-clause-damaged
returns-in-Err-clause-damaged g c = λ part at damaged.
    subst (λ status. ReportsDamage status part at) (sym c.end_without_commands.ensures.status)
    (c.in-Err.ensures.damaged part at damaged)

pub returns-in-Err-clause-in_line_order : goal.returns-in-Err-clause-in_line_order
returns-in-Err-clause-in_line_order g c = inl c.end_without_commands.ensures.history

pub returns-in-Err-clause-headline : goal.returns-in-Err-clause-headline
returns-in-Err-clause-headline g c = λ words left are read.
    let held = g.K.Sink.held c.args.out.now in
    let run = whole_run words left (contents (g.P.Disk.state c.args.place.now) (g.P.Place.stored c.args.place.now))
    (contents (g.P.Disk.state c.run_commands.new.place) (g.P.Place.stored c.run_commands.new.place))
    (g.P.Counted.faults c.args.place.now) (g.P.Counted.faults c.run_commands.new.place)
    (g.P.Place.asked c.run_commands.new.place) c.end_without_commands.result.history held held in
    subst (λ status. Headline status run) (sym c.end_without_commands.ensures.status)
    (headline_refused run c.in-Err.refused c.in-Err.ensures.refused.why
    (without run c.end_without_commands.ensures.history (Keeps-refl held) c.in-Err.ensures.refused.left_alone))

pub returns-in-Err-clause-sink : goal.returns-in-Err-clause-sink
returns-in-Err-clause-sink g c =
    let place = contents (g.P.Disk.state c.args.place.now) (g.P.Place.stored c.args.place.now) in
    calm Sink c.end_without_commands.result.status (g.K.Counted.faults c.args.out.now) (g.K.Counted.faults c.args.out.now)
    (λ same. subst (IsOpeningStatus place) (sym c.end_without_commands.ensures.status ∙ same) c.in-Err.ensures.refused.why) refl

pub returns-in-Err-clause-device : goal.returns-in-Err-clause-device
returns-in-Err-clause-device g c =
    shows_device _ _ _ _ _ c.end_without_commands.ensures.status c.in-Err.ensures.device

pub returns-in-Err-clause-sound : goal.returns-in-Err-clause-sound
returns-in-Err-clause-sound g c at sound refused =
    refused_rose (g.P.Disk.state c.args.place.now) (g.P.Place.stored c.args.place.now) at c.in-Err.refused
    (Rose (g.P.Counted.faults c.args.place.now) (g.P.Counted.faults c.run_commands.new.place)) sound
    c.in-Err.ensures.refused.why c.in-Err.ensures.device.rose
    (subst IsRefusedStore c.end_without_commands.ensures.status refused)
