use Rattle.std.proofs.Common.{◌∙◌, length, sym, ap, arith}
use Rattle.std.proofs.lemmas.Result.{err_from_is_err_and}
use Rattle.tsdb_index.specs.declared.index.IndexEntry.{IndexEntry}
use Rattle.tsdb_streams.proofs.PageLoop.{most_end, most_more, reads_end, reads_fault, reads_more, reads_none, reads_on, same_then}
use Rattle.tsdb_streams.proofs.PartFacts.{empty_of, full_of}
use Rattle.tsdb_streams.proofs.Reasons.{reason_ok}
use Rattle.tsdb_streams.specs.Lanes.{keep_of}
use Rattle.tsdb_streams.proofs.filling.fill_pages.Goals as goal

pub loop-lane-init : goal.loop-lane-init
loop-lane-init g c = reads_none g.P.Right.ReadRight.file (keep_of c.args.kept.now) _ _ _ _ c.requires.empty c.requires.store

pub take_page-requires-clause-page : goal.take_page-requires-clause-page
take_page-requires-clause-page g c = λ lifetimes lives. let count = ap length c.items.ensures in omega (arith, c.loop-lane-test.true, count)

pub take_page-requires-clause-empty : goal.take_page-requires-clause-empty
take_page-requires-clause-empty g c = λ lifetimes lives. c.loop-lane.invariant.empty

pub take_page-requires-clause-store : goal.take_page-requires-clause-store
take_page-requires-clause-store g c = λ lifetimes lives. c.loop-lane.invariant.of_store ∙ sym c.loop-lane.invariant.same_store

pub loop-lane-preserved : goal.loop-lane-preserved
loop-lane-preserved g c =
    let none = empty_of c.take_page.new.into c.is_empty.result c.is_empty.ensures c.if-not-is_empty.false in
    let done = c.in_ok-take_page.ensures in
    reads_on g.P.Right.ReadRight.file (keep_of c.args.kept.now) _ _ _ _ _ _ _ _ _ _ _ c.loop-lane.invariant done.gives none done.next done.same_file done.same_store done.later

pub loop-lane-smaller : goal.loop-lane-smaller
loop-lane-smaller g c =
    let done = c.in_ok-take_page.ensures in
    let same = ap (λ (e : IndexEntry). length e.pages) done.same_file.entry in
    let count = ap length c.items.ensures in
    omega (arith, c.loop-lane-test.true, done.next, same, count)

pub returns-in_err-take_page-clause-same_file : goal.returns-in_err-take_page-clause-same_file
returns-in_err-take_page-clause-same_file g c = same_then g.P.Right.ReadRight.file (keep_of c.args.kept.now) _ _ _ c.loop-lane.invariant.same c.in_err-take_page.ensures.same_file

pub returns-in_err-take_page-clause-reason : goal.returns-in_err-take_page-clause-reason
returns-in_err-take_page-clause-reason g c = λ pages truth.
    let p = err_from_is_err_and c.from_residual.result c.from_residual.ensures.1 in
    rw (p.1, p.2) (reads_fault g.P.Right.ReadRight.file (keep_of c.args.kept.now) _ _ _ _ _ _ _ _ c.in_err-take_page.field-0.0 c.loop-lane.invariant c.in_err-take_page.ensures.reason pages truth)

pub returns-in_err-take_page-clause-same_store : goal.returns-in_err-take_page-clause-same_store
returns-in_err-take_page-clause-same_store g c = c.in_err-take_page.ensures.same_store ∙ c.loop-lane.invariant.same_store

pub returns-then-not-is_empty-clause-moved : goal.returns-then-not-is_empty-clause-moved
returns-then-not-is_empty-clause-moved g c =
    reads_more g.P.Right.ReadRight.file (keep_of c.args.kept.now) _ _ _ _ _ _ c.take_page.new.lane _ _ c.loop-lane.invariant c.in_ok-take_page.ensures.gives

pub returns-then-not-is_empty-clause-filled : goal.returns-then-not-is_empty-clause-filled
returns-then-not-is_empty-clause-filled g c = (full_of c.take_page.new.into c.is_empty.result c.is_empty.ensures c.if-not-is_empty.true, c.in_ok-take_page.ensures.few)

pub returns-then-not-is_empty-clause-most : goal.returns-then-not-is_empty-clause-most
returns-then-not-is_empty-clause-most g c =
    let done = c.in_ok-take_page.ensures in
    let count = ap length c.items.ensures in
    most_more g.P.Right.ReadRight.file (keep_of c.args.kept.now) _ _ _ _ _ _ _ _ (length c.take_page.new.into.items) c.loop-lane.invariant (omega (arith, c.loop-lane-test.true, count)) done.next done.same_file done.few

pub returns-then-not-is_empty-clause-same_file : goal.returns-then-not-is_empty-clause-same_file
returns-then-not-is_empty-clause-same_file g c = same_then g.P.Right.ReadRight.file (keep_of c.args.kept.now) _ _ _ c.loop-lane.invariant.same c.in_ok-take_page.ensures.same_file

pub returns-then-not-is_empty-clause-reason : goal.returns-then-not-is_empty-clause-reason
returns-then-not-is_empty-clause-reason g c = λ pages truth.
    let before = c.loop-lane.invariant.later in
    let later = c.in_ok-take_page.ensures.later in
    reason_ok _ _ _ _ (omega (arith, before, later))

pub returns-then-not-is_empty-clause-same_store : goal.returns-then-not-is_empty-clause-same_store
returns-then-not-is_empty-clause-same_store g c = c.in_ok-take_page.ensures.same_store ∙ c.loop-lane.invariant.same_store

pub returns-clause-moved : goal.returns-clause-moved
returns-clause-moved g c = reads_end g.P.Right.ReadRight.file (keep_of c.args.kept.now) _ _ _ _ _ _ _ c.loop-lane.invariant (let count = ap length c.items.ensures in omega (arith, c.loop-lane-test.false, count))

pub returns-clause-filled : goal.returns-clause-filled
returns-clause-filled g c = c.loop-lane.invariant.empty

pub returns-clause-most : goal.returns-clause-most
returns-clause-most g c = most_end g.P.Right.ReadRight.file (keep_of c.args.kept.now) _ _ _ _ _ _ _ c.loop-lane.invariant

pub returns-clause-same_file : goal.returns-clause-same_file
returns-clause-same_file g c = c.loop-lane.invariant.same

pub returns-clause-reason : goal.returns-clause-reason
returns-clause-reason g c = λ pages truth. reason_ok _ _ _ _ c.loop-lane.invariant.later

pub returns-clause-same_store : goal.returns-clause-same_store
returns-clause-same_store g c = c.loop-lane.invariant.same_store

pub returns-in_err-take_page-clause-later : goal.returns-in_err-take_page-clause-later
returns-in_err-take_page-clause-later g c = omega (arith, c.loop-lane.invariant.later, c.in_err-take_page.ensures.later)

pub returns-then-not-is_empty-clause-later : goal.returns-then-not-is_empty-clause-later
returns-then-not-is_empty-clause-later g c = omega (arith, c.loop-lane.invariant.later, c.in_ok-take_page.ensures.later)

pub returns-clause-later : goal.returns-clause-later
returns-clause-later g c = c.loop-lane.invariant.later
