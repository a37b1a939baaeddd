use Rattle.std.proofs.Common.{List, ap, get_or, length, subst, sym, ◌∙◌, ◌<◌}
use Rattle.tsdb_tasks.proofs.Taken.{listed_is_kept, none_taken, on_err, one_failed, one_more_taken, place_inside}
use Rattle.tsdb_tasks.proofs.Taken.{run_taken, within_run}
use Rattle.tsdb_plan.specs.declared.entry.FileEntry.{FileEntry}
use Rattle.tsdb_tasks.proofs.inputs.take_inputs.Goals as goal

pub loop-place-init : goal.loop-place-init
loop-place-init g c = none_taken g.F.Right.ReadRight.file c.args.space c.args.run.first c.args.files.now
    c.args.inputs.now.items

pub bounds-entries-place : goal.bounds-entries-place
bounds-entries-place g c = subst (λ (l : List FileEntry). c.loop-place.place < length l) (sym c.entries.ensures.entries)
    (place_inside g.F.Right.ReadRight.file c.args.space c.args.run.first c.args.files.now c.loop-place.files
    c.args.inputs.now.items c.loop-place.inputs.items c.loop-place.place c.loop-place.invariant
    (within_run c.args.run (length _) c.loop-place.place c.requires.within.ends c.loop-place-test.true))

pub take_input-requires-clause-kept : goal.take_input-requires-clause-kept
take_input-requires-clause-kept g c = λ κs within.
    let at = c.index-entries-place.is ∙ ap (λ (l : List FileEntry). get_or l c.loop-place.place
    c.index-entries-place.result) c.entries.ensures.entries in
    listed_is_kept c.args.space c.loop-place.files c.loop-place.place c.index-entries-place.result
    c.entries.ensures.kept
    (place_inside g.F.Right.ReadRight.file c.args.space c.args.run.first c.args.files.now c.loop-place.files
    c.args.inputs.now.items c.loop-place.inputs.items c.loop-place.place c.loop-place.invariant
    (within_run c.args.run (length _) c.loop-place.place c.requires.within.ends c.loop-place-test.true)) at

pub loop-place-preserved : goal.loop-place-preserved
loop-place-preserved g c =
    let at = c.index-entries-place.is ∙ ap (λ (l : List FileEntry). get_or l c.loop-place.place
    c.index-entries-place.result) c.entries.ensures.entries in
    one_more_taken g.F.Right.ReadRight.file c.args.space c.args.run.first c.args.files.now c.loop-place.files
    c.take_input.new.files c.args.inputs.now.items c.loop-place.inputs.items c.take_input.new.inputs.items
    c.loop-place.place c.index-entries-place.result c.loop-place.invariant
    (within_run c.args.run (length _) c.loop-place.place c.requires.within.ends c.loop-place-test.true) at
    c.in_ok-take_input.ensures.ok

pub returns-in_err-take_input-clause-memory : goal.returns-in_err-take_input-clause-memory
returns-in_err-take_input-clause-memory g c = on_err _ (one_failed g.F.Right.ReadRight.file c.args.space c.args.run.first
    c.args.files.now c.loop-place.files c.take_input.new.files c.args.inputs.now.items c.loop-place.inputs.items
    c.take_input.new.inputs.items c.loop-place.place c.loop-place.invariant c.in_err-take_input.ensures.memory.0
    c.in_err-take_input.ensures.memory.1)

pub returns-clause-ok : goal.returns-clause-ok
returns-clause-ok g c = run_taken g.F.Right.ReadRight.file c.args.space c.args.run c.args.files.now c.loop-place.files
    c.args.inputs.now.items c.loop-place.inputs.items c.loop-place.place c.loop-place.invariant
    (c.loop-place.auto.place-end c.requires.within.rises) c.loop-place-test.false
