use Rattle.std.proofs.Common.{subst, arith}
use Rattle.std.specs.List.{AllZip}
use Rattle.std.proofs.lemmas.Result.{err_from_is_err_and}
use Rattle.tsdb_streams.proofs.Reasons.{reason_memory, reason_then}
use Rattle.tsdb_pins.proofs.Draining.{ok_then}
use Rattle.tsdb_pins.proofs.Lent.{all_left, kept_rising, of_store_lent, told_lent, true_lent}
use Rattle.tsdb_pins.specs.Reading.{IsLentAs}
use Rattle.tsdb_pins.proofs.streaming.open_one.Goals as goal

pub open_stream-requires-clause-of_store : goal.open_stream-requires-clause-of_store
open_stream-requires-clause-of_store g c = λ lifetimes lives.
    of_store_lent g.F.Right.ReadRight.file _ c.args.column.now.sources c.in_ok-sources.sources.items
    (subst (λ l. AllZip IsLentAs l c.in_ok-sources.sources.items) c.items.ensures c.in_ok-sources.ensures) c.requires.of_store

pub returns-clause-opened : goal.returns-clause-opened
returns-clause-opened g c = λ pages truth.
    let file = g.F.Right.ReadRight.file in
    let path = c.args.column.now.schema.path in
    let zip = subst (λ l. AllZip IsLentAs l c.in_ok-sources.sources.items) c.items.ensures c.in_ok-sources.ensures in
    ok_then _ _ (λ stream merged lists told rising.
    merged _ (all_left file pages path c.args.pin.now.range c.args.pin.now.marks.marks c.args.column.now.sources c.in_ok-sources.sources.items lists zip told)
    (kept_rising file pages path c.args.pin.now.range c.args.pin.now.marks.marks c.args.column.now.sources lists rising))
    c.open_stream.result (c.open_stream.ensures.merged (pages path) (true_lent file pages path c.args.column.now.sources c.in_ok-sources.sources.items zip truth))

pub returns-clause-truth : goal.returns-clause-truth
returns-clause-truth g c = λ pages truth.
    let path = c.args.column.now.schema.path in
    let zip = subst (λ l. AllZip IsLentAs l c.in_ok-sources.sources.items) c.items.ensures c.in_ok-sources.ensures in
    c.open_stream.ensures.truth (pages path) (true_lent g.F.Right.ReadRight.file pages path c.args.column.now.sources c.in_ok-sources.sources.items zip truth)

pub returns-clause-told : goal.returns-clause-told
returns-clause-told g c = λ pages told.
    let path = c.args.column.now.schema.path in
    let zip = subst (λ l. AllZip IsLentAs l c.in_ok-sources.sources.items) c.items.ensures c.in_ok-sources.ensures in
    c.open_stream.ensures.told (pages path) (told_lent g.F.Right.ReadRight.file pages path c.args.column.now.sources c.in_ok-sources.sources.items zip told)

pub returns-clause-reason : goal.returns-clause-reason
returns-clause-reason g c = λ pages truth.
    let file = g.F.Right.ReadRight.file in
    let path = c.args.column.now.schema.path in
    let zip = subst (λ l. AllZip IsLentAs l c.in_ok-sources.sources.items) c.items.ensures c.in_ok-sources.ensures in
    reason_then _ _ _ _ _ _ (told_lent file pages path c.args.column.now.sources c.in_ok-sources.sources.items zip) (omega arith)
    (c.open_stream.ensures.reason (pages path) (true_lent file pages path c.args.column.now.sources c.in_ok-sources.sources.items zip truth))

pub returns-in_err-sources-clause-reason : goal.returns-in_err-sources-clause-reason
returns-in_err-sources-clause-reason g c = λ pages truth.
    let p = err_from_is_err_and c.from_residual.result c.from_residual.ensures.1 in
    rw p.1 (reason_memory _ _ _ _ (omega arith) p.2)
