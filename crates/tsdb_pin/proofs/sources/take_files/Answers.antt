use Rattle.std.proofs.Common.{List, ap, length, subst, sym, ◌∙◌, ◌<◌, ◌≤◌}
use Rattle.std.proofs.Common.{get_or}
use Rattle.tsdb_pin.proofs.Listed.{all_taken, file_failed, none_taken, on_err, place_inside, step_with, step_without}
use Rattle.tsdb_pin.proofs.sources.take_files.Goals.{then-has_series+in_ok-take_file, else-has_series}
use Rattle.tsdb_pin.proofs.sources.take_files.Goals as goal
use Rattle.tsdb_plan.specs.declared.entry.FileEntry.{FileEntry}

pub loop-place-init : goal.loop-place-init
loop-place-init g c = none_taken g.F.Right.ReadRight.file c.args.path.now c.args.space c.args.files.now
    c.args.sources.now.items

pub bounds-entries-place : goal.bounds-entries-place
bounds-entries-place g c = subst (λ (l : List FileEntry). c.loop-place.place < length l) (sym c.entries.ensures.entries)
    (place_inside g.F.Right.ReadRight.file c.args.path.now c.args.space c.args.files.now c.loop-place.files
    c.args.sources.now.items c.loop-place.sources.items c.loop-place.place 0 c.loop-place.invariant
    (subst (λ (l : List FileEntry). c.loop-place.place < length l) c.entries-place-end.ensures.entries
    c.loop-place-test.true))

pub loop-place-preserved : goal.loop-place-preserved
loop-place-preserved g c =
    let name = g.F.Right.ReadRight.file in
    let entry = c.index-entries-place.result in
    let inside = subst (λ (l : List FileEntry). c.loop-place.place < length l) c.entries-place-end.ensures.entries
    c.loop-place-test.true in
    let at = c.index-entries-place.is ∙ ap (λ (l : List FileEntry). get_or l c.loop-place.place entry)
    c.entries.ensures.entries in
    elim c.if-has_series.branch [
      | then-has_series+in_ok-take_file w ↦
          rw (w.files-is, w.sources-is)
          (step_with name c.args.path.now c.args.space c.args.files.now c.loop-place.files w.take_file.new.files
          c.args.sources.now.items c.loop-place.sources.items w.take_file.new.sources.items c.loop-place.place entry
          c.loop-place.invariant inside at (sym c.has_series.ensures ∙ w.if-has_series.true)
          w.in_ok-take_file.ensures.ok)
      | else-has_series w ↦
          rw (w.files-is, w.sources-is)
          (step_without name c.args.path.now c.args.space c.args.files.now c.loop-place.files c.args.sources.now.items
          c.loop-place.sources.items c.loop-place.place entry c.loop-place.invariant inside at
          (sym c.has_series.ensures ∙ w.if-has_series.false))
    ]

pub returns-in_err-take_file-clause-memory : goal.returns-in_err-take_file-clause-memory
returns-in_err-take_file-clause-memory g c = on_err _ (file_failed g.F.Right.ReadRight.file c.args.path.now
    c.args.space c.args.files.now c.loop-place.files c.take_file.new.files c.args.sources.now.items
    c.loop-place.sources.items c.take_file.new.sources.items c.loop-place.place c.loop-place.invariant
    c.in_err-take_file.ensures.memory.0 c.in_err-take_file.ensures.memory.1)

pub returns-clause-ok : goal.returns-clause-ok
returns-clause-ok g c = all_taken g.F.Right.ReadRight.file c.args.path.now c.args.space c.args.files.now
    c.loop-place.files c.args.sources.now.items c.loop-place.sources.items c.loop-place.place c.loop-place.invariant
    (subst (λ (l : List FileEntry). length l ≤ c.loop-place.place) c.entries-place-end.ensures.entries
    c.loop-place-test.false)
