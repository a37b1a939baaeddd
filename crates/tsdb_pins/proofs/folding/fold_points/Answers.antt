use Rattle.std.proofs.Common.{◌≡◌, ◌∙◌, subst, sym, arith}
use Rattle.std.specs.Prelude.{All, IsTrue}
use Rattle.std.proofs.lemmas.Result.{err_from_is_err_and}
use Rattle.tsdb_aggregate.specs.Pieces.{has_asked}
use Rattle.tsdb_streams.proofs.Reasons.{reason_then, same_reason}
use Rattle.tsdb_streams.specs.Clean.{sources_read}
use Rattle.tsdb_streams.specs.PartedMerge.{IsParted}
use Rattle.tsdb_streams.specs.Streams.{stream_due, stream_left}
use Rattle.tsdb_pins.proofs.Counted.{added_later, added_most}
use Rattle.tsdb_pins.proofs.Draining.{later_then, ok_then}
use Rattle.tsdb_pins.proofs.Weaving.{fold_of}
use Rattle.tsdb_pins.proofs.folding.fold_points.Goals as goal

pub fold_stream-answer-requires-clause-of_store : goal.fold_stream-answer-requires-clause-of_store
fold_stream-answer-requires-clause-of_store g c = λ lifetimes lives. c.in_ok-clean.ensures.of_store

pub fold_stream-answer-requires-clause-asked : goal.fold_stream-answer-requires-clause-asked
fold_stream-answer-requires-clause-asked g c = λ lifetimes lives.
    subst (λ clean. All (λ stats. IsTrue (has_asked c.args.name stats)) clean) (sym c.deref.ensures.value) c.in_ok-clean.ensures.asked

pub returns-clause-folded : goal.returns-clause-folded
returns-clause-folded g c = λ told truth.
    let opened = c.in_ok-clean.ensures in
    ok_then _ _ (λ answer folded all lists all_is rising left. fold_of c.args.name lists c.deref.result.now _ answer
    (subst (λ clean. IsParted lists clean (stream_left g.P.Right.ReadRight.file told c.in_ok-clean.stream)) (sym c.deref.ensures.value) (opened.parted told truth all lists all_is rising left)) folded)
    c.fold_stream-answer.result (c.fold_stream-answer.ensures.folded told (opened.truth told truth))

pub returns-clause-reason : goal.returns-clause-reason
returns-clause-reason g c = λ told truth.
    let opened = c.in_ok-clean.ensures in
    reason_then _ _ _ _ _ _ (opened.told told) opened.later (c.fold_stream-answer.ensures.reason told (opened.truth told truth))

pub returns-clause-later : goal.returns-clause-later
returns-clause-later g c = later_then _ _ _ c.in_ok-clean.ensures.later c.fold_stream-answer.ensures.later

pub returns-clause-same_store : goal.returns-clause-same_store
returns-clause-same_store g c = c.fold_stream-answer.ensures.same_store ∙ c.in_ok-clean.ensures.same_store

pub returns-in_err-clean-clause-reason : goal.returns-in_err-clean-clause-reason
returns-in_err-clean-clause-reason g c = λ told truth.
    let p = err_from_is_err_and c.from_residual.result c.from_residual.ensures.1 in
    rw (p.1, p.2) (same_reason _ _ _ c.in_err-clean.field-0.0 (c.in_err-clean.ensures.reason told truth))

pub returns-clause-counted : goal.returns-clause-counted
returns-clause-counted g c = added_later _ _ _ c.add.ensures

pub returns-clause-most : goal.returns-clause-most
returns-clause-most g c = λ told all truth all_is.
    let due : stream_due c.fold_stream-answer.new.stream ≡ sources_read g.P.Right.ReadRight.file told c.args.name c.args.series.now c.args.range.now c.args.marks.now.marks c.args.sources.items =
    c.fold_stream-answer.ensures.due ∙ c.in_ok-clean.ensures.due told truth all all_is in
    added_most _ _ _ _ _ c.add.ensures c.pages_read.ensures due

pub returns-in_err-clean-clause-most : goal.returns-in_err-clean-clause-most
returns-in_err-clean-clause-most g c = λ told all truth all_is. omega arith
