use Rattle.std.proofs.Common.{rules}
use Rattle.std.proofs.Common.{◌∙◌, Err, ap, arith, inl, inr, ⊎_elim, refl, subst, sym}
use Rattle.std.specs.Prelude.{IfSome}
use Rattle.tsdb_base.specs.Causes.{Rose}
use Rattle.tsdb_run.proofs.Ends.{calm, ends_complete, ends_damaged, ends_first_bad, ends_good_words, ends_headline}
use Rattle.tsdb_run.proofs.Ends.{ends_unrefused, ends_words, read_first_bad, read_good, read_in_order, served_complete}
use Rattle.tsdb_run.proofs.Ends.{served_untouched, shows_faults, some_always, some_more}
use Rattle.tsdb_run.proofs.Ends.{taken_up}
use Rattle.tsdb_run.proofs.Prefix.{read-script, whole-script}
use Rattle.tsdb_run.specs.Causes.{IsDoneOrMemory, IsGoodScript}
use Rattle.tsdb_run.specs.Headline.{KeepsLineOrder}
use Rattle.tsdb_run.specs.Steps.{EndsInput, IsServedStatus}
use Rattle.tsdb_run.specs.Store.{contents}
use Rattle.tsdb_run.specs.declared.status.Status.TheVariants.{Sink, Source}
use Rattle.tsdb_script.specs.Reading.{IsScript}
use Rattle.tsdb_run.proofs.top_call.run.Goals as goal

-- ---- the input was read

pub run_script-requires-clause-some : goal.run_script-requires-clause-some
run_script-requires-clause-some g c κs within =
    let is = c.in-Ok.ensures.script in
    (is.0, subst (IsScript is.0) (sym c.deref.ensures.value) is.2)

pub returns-in-Ok-clause-headline : goal.returns-in-Ok-clause-headline
returns-in-Ok-clause-headline g c =
    let left = g.S.Source.left c.args.script.now in
    let is = c.in-Ok.ensures.script in
    c.run_script.ensures.headline c.args.words.now left c.in-Ok.ensures.words
    (subst (λ commands. IfSome left (λ bytes. IsScript bytes commands)) (sym c.deref.ensures.value)
    (read-script left (g.S.Source.left c.read_input.new.script) is.0 is.1 c.in-Ok.commands.items is.2))

pub returns-in-Ok-clause-in_line_order : goal.returns-in-Ok-clause-in_line_order
returns-in-Ok-clause-in_line_order g c =
    let left = g.S.Source.left c.args.script.now in
    let is = c.in-Ok.ensures.script in
    read_in_order left c.deref.result.now c.run_script.result.history
    (subst (λ commands. IfSome left (λ bytes. IsScript bytes commands)) (sym c.deref.ensures.value)
    (read-script left (g.S.Source.left c.read_input.new.script) is.0 is.1 c.in-Ok.commands.items is.2))
    c.run_script.ensures.in_line_order

pub returns-in-Ok-clause-sink_untouched : goal.returns-in-Ok-clause-sink_untouched
returns-in-Ok-clause-sink_untouched g c ended = ⊎_elim
    (λ before. absurd (served_untouched c.run_script.result.status c.run_script.ensures.statuses before))
    (λ refused. c.run_script.ensures.sink_untouched refused) ended

pub returns-in-Ok-clause-whole_source : goal.returns-in-Ok-clause-whole_source
returns-in-Ok-clause-whole_source g c done =
    let is = c.in-Ok.ensures.script in
    whole-script (g.S.Source.left c.args.script.now) (g.S.Source.left c.read_input.new.script) is.0 is.1
    c.in-Ok.commands.items is.2

pub returns-in-Ok-clause-words : goal.returns-in-Ok-clause-words
returns-in-Ok-clause-words g c = (
  λ same. absurd (subst IsServedStatus same c.run_script.ensures.statuses),
  λ bad. absurd (bad (c.in-Ok.asked, c.in-Ok.ensures.words)),
)

pub returns-in-Ok-clause-source : goal.returns-in-Ok-clause-source
returns-in-Ok-clause-source g c = record {
  rose = λ same. absurd (subst IsServedStatus same c.run_script.ensures.statuses);
  same = λ other. c.in-Ok.ensures.no_fault;
  later = omega (arith, c.in-Ok.ensures.no_fault);
}

pub returns-in-Ok-clause-device : goal.returns-in-Ok-clause-device
returns-in-Ok-clause-device g c =
    taken_up c.args.words.now _ _ _ _ _ c.in-Ok.ensures.words c.run_script.ensures.device

pub returns-in-Ok-clause-refused : goal.returns-in-Ok-clause-refused
returns-in-Ok-clause-refused g c refused =
    let left = g.S.Source.left c.args.script.now in
    let is = c.in-Ok.ensures.script in
    read_good left c.in-Ok.commands.items
    (read-script left (g.S.Source.left c.read_input.new.script) is.0 is.1 c.in-Ok.commands.items is.2)

pub returns-in-Ok-clause-source_untouched : goal.returns-in-Ok-clause-source_untouched
returns-in-Ok-clause-source_untouched g c same = absurd (subst IsServedStatus same c.run_script.ensures.statuses)

pub returns-in-Ok-clause-place_untouched : goal.returns-in-Ok-clause-place_untouched
returns-in-Ok-clause-place_untouched g c before =
    absurd (served_untouched c.run_script.result.status c.run_script.ensures.statuses before)

pub returns-in-Ok-clause-first_bad : goal.returns-in-Ok-clause-first_bad
returns-in-Ok-clause-first_bad g c good =
    let left = g.S.Source.left c.args.script.now in
    let is = c.in-Ok.ensures.script in
    read_first_bad left c.in-Ok.commands.items
    (read-script left (g.S.Source.left c.read_input.new.script) is.0 is.1 c.in-Ok.commands.items is.2)
    c.run_script.result.status

pub returns-in-Ok-clause-damaged : goal.returns-in-Ok-clause-damaged
returns-in-Ok-clause-damaged g c good =
    some_always _ (g.S.Source.left c.args.script.now) (λ bytes script. c.run_script.ensures.damaged)

pub returns-in-Ok-clause-complete : goal.returns-in-Ok-clause-complete
returns-in-Ok-clause-complete g c good =
    some_always _ (g.S.Source.left c.args.script.now) (λ bytes script at sound no_source no_sink calm.
    served_complete (Rose (g.K.Counted.faults c.args.out.now) (g.K.Counted.faults c.run_script.new.out))
    (Rose (g.P.Counted.faults c.args.place.now) (g.P.Counted.faults c.run_script.new.place)) c.run_script.result.status
    c.run_script.ensures.statuses c.run_script.ensures.sink.rose (c.run_script.ensures.sound at sound) no_sink calm)

-- ---- the run ended before the store was taken up

pub returns-in-Err-clause-headline : goal.returns-in-Err-clause-headline
returns-in-Err-clause-headline g c =
    let left = g.S.Source.left c.args.script.now in
    let is = subst (EndsInput c.args.words.now left) (sym c.end_without_commands.ensures.status) c.in-Err.ensures.status in
    ends_headline c.args.words.now left (contents (g.P.Disk.state c.args.place.now) (g.P.Place.stored c.args.place.now))
    (g.P.Counted.faults c.args.place.now) (g.P.Counted.faults c.args.place.now) (g.P.Place.asked c.args.place.now)
    c.end_without_commands.result.status c.end_without_commands.result.history (g.K.Sink.held c.args.out.now) is
    c.end_without_commands.ensures.history

pub returns-in-Err-clause-in_line_order : goal.returns-in-Err-clause-in_line_order
returns-in-Err-clause-in_line_order g c =
    some_always (λ bytes. KeepsLineOrder bytes c.end_without_commands.result.history)
    (g.S.Source.left c.args.script.now) (λ bytes script is. inl c.end_without_commands.ensures.history)

pub returns-in-Err-clause-whole_source : goal.returns-in-Err-clause-whole_source
returns-in-Err-clause-whole_source g c done =
    absurd (subst (EndsInput c.args.words.now (g.S.Source.left c.args.script.now))
    (sym c.end_without_commands.ensures.status ∙ done) c.in-Err.ensures.status)

pub returns-in-Err-clause-words : goal.returns-in-Err-clause-words
returns-in-Err-clause-words g c =
    let left = g.S.Source.left c.args.script.now in
    ends_words c.args.words.now left c.end_without_commands.result.status
    (subst (EndsInput c.args.words.now left) (sym c.end_without_commands.ensures.status) c.in-Err.ensures.status)

pub returns-in-Err-clause-good_words : goal.returns-in-Err-clause-good_words
returns-in-Err-clause-good_words g c =
    let left = g.S.Source.left c.args.script.now in
    ends_good_words c.args.words.now left c.end_without_commands.result.status
    (subst (EndsInput c.args.words.now left) (sym c.end_without_commands.ensures.status) c.in-Err.ensures.status)

pub returns-in-Err-clause-source : goal.returns-in-Err-clause-source
returns-in-Err-clause-source g c =
    shows_faults Source _ _ _ _ c.end_without_commands.ensures.status c.in-Err.ensures.source

pub returns-in-Err-clause-sink : goal.returns-in-Err-clause-sink
returns-in-Err-clause-sink g c =
    calm Sink c.end_without_commands.result.status (g.K.Counted.faults c.args.out.now) (g.K.Counted.faults c.args.out.now)
    (λ same. subst (EndsInput c.args.words.now (g.S.Source.left c.args.script.now))
    (sym c.end_without_commands.ensures.status ∙ same) c.in-Err.ensures.status) refl

pub returns-in-Err-clause-device : goal.returns-in-Err-clause-device
returns-in-Err-clause-device g c = record {
  rose = λ same. absurd (subst (EndsInput c.args.words.now (g.S.Source.left c.args.script.now))
      (sym c.end_without_commands.ensures.status ∙ same) c.in-Err.ensures.status);
  same = λ other. inr refl;
  later = omega arith;
}

pub returns-in-Err-clause-refused : goal.returns-in-Err-clause-refused
returns-in-Err-clause-refused g c refused =
    let left = g.S.Source.left c.args.script.now in
    absurd (ends_unrefused c.args.words.now left c.end_without_commands.result.status
    (subst (EndsInput c.args.words.now left) (sym c.end_without_commands.ensures.status) c.in-Err.ensures.status) refused)

pub returns-in-Err-clause-source_untouched : goal.returns-in-Err-clause-source_untouched
returns-in-Err-clause-source_untouched g c same =
    c.in-Err.ensures.untouched (ap Err (sym c.end_without_commands.ensures.status ∙ same))

pub returns-in-Err-clause-first_bad : goal.returns-in-Err-clause-first_bad
returns-in-Err-clause-first_bad g c good =
    let left = g.S.Source.left c.args.script.now in
    ends_first_bad c.args.words.now left c.end_without_commands.result.status
    (subst (EndsInput c.args.words.now left) (sym c.end_without_commands.ensures.status) c.in-Err.ensures.status) good

pub returns-in-Err-clause-damaged : goal.returns-in-Err-clause-damaged
returns-in-Err-clause-damaged g c good =
    let left = g.S.Source.left c.args.script.now in
    ends_damaged c.args.words.now left
    (contents (g.P.Disk.state c.args.place.now) (g.P.Place.stored c.args.place.now)) c.end_without_commands.result.status
    (subst (EndsInput c.args.words.now left) (sym c.end_without_commands.ensures.status) c.in-Err.ensures.status) good

pub returns-in-Err-clause-complete : goal.returns-in-Err-clause-complete
returns-in-Err-clause-complete g c good =
    let left = g.S.Source.left c.args.script.now in
    let status = c.end_without_commands.result.status in
    let told = shows_faults Source _ _ _ _ c.end_without_commands.ensures.status c.in-Err.ensures.source in
    let rose = Rose (g.S.Counted.faults c.args.script.now) (g.S.Counted.faults c.read_input.new.script) in
    some_more (λ bytes. IsGoodScript bytes → ¬ rose → IsDoneOrMemory status) _ left
    (λ bytes ends script at sound no_source no_sink calm. ends script no_source)
    (ends_complete c.args.words.now left rose status
    (subst (EndsInput c.args.words.now left) (sym c.end_without_commands.ensures.status) c.in-Err.ensures.status)
    told.rose good)

pub returns-in-Err-clause-devices : goal.returns-in-Err-clause-devices
returns-in-Err-clause-devices c = search rules

pub returns-in-Err-clause-place_untouched : goal.returns-in-Err-clause-place_untouched
returns-in-Err-clause-place_untouched c = search rules
