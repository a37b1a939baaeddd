use Rattle.std.proofs.Common.{rules, sym, subst, ◌∙◌, arith, take}
use Rattle.tsdb_fileset.specs.Places.{AreOfStore}
use Rattle.tsdb_fileset.specs.Sweeps.{free_numbers}
use Rattle.tsdb_fileset.proofs.Taken.{few_removed, still_all, sweep_more, sweep_passes, sweep_stops}
use Rattle.tsdb_fileset.proofs.sweeping.remove_free.Goals as goal
use Rattle.tsdb_fileset.proofs.sweeping.remove_free.Goals.{then-is_free+in_ok-remove_file, else-is_free}

pub remove_file-requires-clause-store : goal.remove_file-requires-clause-store
remove_file-requires-clause-store g c = λ lifetimes lives.
    let gone = free_numbers c.args.doubted.now c.args.places.now.entries
    (take c.loop-file.file-index c.args.outgoing.now) in
    still_all _ gone c.args.places.now.entries c.loop-file.places.entries c.loop-file.invariant.0.away
    (subst (λ store. AreOfStore store c.args.places.now.entries) (sym c.loop-file.invariant.1) c.requires.store)

pub returns-in_err-remove_file-clause-failed : goal.returns-in_err-remove_file-clause-failed
returns-in_err-remove_file-clause-failed g c =
    let stops = sweep_stops c.args.doubted.now c.args.places.now.entries c.loop-file.places.entries c.args.outgoing.now
    c.loop-file.file-index c.loop-file.removed _ c.loop-file-test.true c.requires.once c.loop-file.invariant.0
    c.remove_file.new.places.entries (sym c.if-is_free.ensures) c.remove_file.ensures.places in
    search rules

pub overflow_add-removed : goal.overflow_add-removed
overflow_add-removed g c =
    let few = few_removed c.args.doubted.now c.args.places.now.entries c.loop-file.places.entries c.args.outgoing.now
    c.loop-file.file-index c.loop-file.removed c.loop-file-test.true c.loop-file.invariant.0 in
    search rules

pub loop-file-preserved : goal.loop-file-preserved
loop-file-preserved g c = elim c.if-is_free.branch [
  | then-is_free+in_ok-remove_file w ↦ rw (w.places-is, w.port-is, w.removed-is) (
    sweep_more c.args.doubted.now c.args.places.now.entries c.loop-file.places.entries c.args.outgoing.now
        c.loop-file.file-index c.loop-file.removed _ c.loop-file-test.true c.requires.once c.loop-file.invariant.0
        w.remove_file.new.places.entries (sym w.if-is_free.ensures) w.remove_file.ensures.places,
    w.remove_file.ensures.same_store ∙ c.loop-file.invariant.1,
    w.in_ok-remove_file.ensures.no_fault ∙ c.loop-file.invariant.2,
  )
  | else-is_free w ↦ rw (w.places-is, w.port-is, w.removed-is) (
    sweep_passes c.args.doubted.now c.args.places.now.entries c.loop-file.places.entries c.args.outgoing.now
        c.loop-file.file-index c.loop-file.removed _ c.loop-file-test.true c.requires.once c.loop-file.invariant.0
        (sym w.if-is_free.ensures),
    c.loop-file.invariant.1,
    c.loop-file.invariant.2,
  )
]
