use Rattle.std.proofs.Common.{rules, ◌≡◌, Err, map, sym, arith}
use Rattle.std.specs.Int.{w64}
use Rattle.std.proofs.lemmas.Int.{to_z-of_z}
use Rattle.std.proofs.lemmas.Result.{err_from_is_err_and}
use Rattle.tsdb_base.specs.Values.{type_of}
use Rattle.tsdb_streams.proofs.Reasons.{reason_memory, reason_ok, reason_then, same_reason}
use Rattle.tsdb_streams.specs.IndexedFiles.{source_of}
use Rattle.tsdb_streams.specs.Streams.{stream_left}
use Rattle.tsdb_inner.proofs.Copied.{copies_all, copies_none, first_differs, first_may_put, has_begun, ok_then, rest_differs}
use Rattle.tsdb_inner.proofs.copying.copy_series.Goals as goal

pub put-requires : goal.put-requires
put-requires g c =
    let typed : type_of c.in-Some.first.value ≡ c.args.schema.now.data_type = search rules in
    first_may_put c.args.schema.now c.args.part.now c.begin.new.self c.in-Some.first c.requires.follows
    c.in_ok-begin.ensures.ok typed

pub put_rest-requires-clause-begun : goal.put_rest-requires-clause-begun
put_rest-requires-clause-begun g c = λ lifetimes lives.
    has_begun c.args.schema.now c.args.part.now c.begin.new.self c.put.new.self c.in-Some.first _
    (sym (to_z-of_z w64 c.in-Some.first.time (search rules))) c.in_ok-begin.ensures.ok c.in_ok-put.ensures.ok
    c.requires.follows

pub pull-requires-clause-of_store : goal.pull-requires-clause-of_store
pull-requires-clause-of_store g c = λ lifetimes lives. c.in_ok-stream.ensures.of_store _ c.requires.of_store

pub returns-in_err-stream-clause-reason : goal.returns-in_err-stream-clause-reason
returns-in_err-stream-clause-reason g c = λ pages truth.
    let p = err_from_is_err_and c.from_residual.result c.from_residual.ensures.1 in
    rw p.1 (reason_memory _ _ _ _ (omega arith) p.2)

pub returns-in_err-first-clause-reason : goal.returns-in_err-first-clause-reason
returns-in_err-first-clause-reason g c = λ pages truth.
    let opened = c.in_ok-stream.ensures in
    let p = err_from_is_err_and c.from_residual-in_err-first.result c.from_residual-in_err-first.ensures.1 in
    rw (p.1, p.2) (same_reason _ _ _ _ (reason_then _ _ _ _ _ (Err c.in_err-first.field-0.0)
    (λ whole. opened.told pages whole) (omega arith)
    (c.in_err-first.ensures.reason pages (opened.truth pages truth) opened.works)))

pub returns-in_default-clause-copied : goal.returns-in_default-clause-copied
returns-in_default-clause-copied g c =
    let file = g.P.Right.ReadRight.file in
    let opened = c.in_ok-stream.ensures in λ is.
    copies_none file c.args.schema.now c.args.marks.now.marks (map source_of c.args.files.now)
    (λ pages. stream_left file pages c.in_ok-stream.stream) opened.merged
    (λ pages. stream_left file pages c.pull.new.stream) c.in_ok-first.field-0
    (λ pages truth. c.in_ok-first.ensures.next pages (opened.truth pages truth)) c.args.part.now c.in_default.is

pub returns-in_default-clause-reason : goal.returns-in_default-clause-reason
returns-in_default-clause-reason g c = λ pages truth.
    reason_ok _ _ _ _ c.in_ok-first.ensures.later

pub returns-then-ne-clause-damaged : goal.returns-then-ne-clause-damaged
returns-then-ne-clause-damaged g c =
    let file = g.P.Right.ReadRight.file in
    let opened = c.in_ok-stream.ensures in
    let differs : type_of c.in-Some.first.value ≡ c.args.schema.now.data_type → ⊥ = search rules in λ is.
    first_differs file c.args.schema.now c.args.marks.now.marks (map source_of c.args.files.now)
    (λ pages. stream_left file pages c.in_ok-stream.stream) opened.merged
    (λ pages. stream_left file pages c.pull.new.stream) c.in_ok-first.field-0
    (λ pages truth. c.in_ok-first.ensures.next pages (opened.truth pages truth)) c.in-Some.first c.in-Some.is differs

pub returns-then-ne-clause-reason : goal.returns-then-ne-clause-reason
returns-then-ne-clause-reason g c = λ pages truth.
    reason_ok _ _ _ _ c.in_ok-first.ensures.later

pub returns-in_err-begin-clause-reason : goal.returns-in_err-begin-clause-reason
returns-in_err-begin-clause-reason g c = λ pages truth.
    let p = err_from_is_err_and c.from_residual-in_err-begin.result c.from_residual-in_err-begin.ensures.1 in
    rw p.1 (reason_memory _ _ _ _ c.in_ok-first.ensures.later p.2)

pub returns-in_err-put-clause-reason : goal.returns-in_err-put-clause-reason
returns-in_err-put-clause-reason g c = λ pages truth.
    let p = err_from_is_err_and c.from_residual-in_err-put.result c.from_residual-in_err-put.ensures.1 in
    rw p.1 (reason_memory _ _ _ _ c.in_ok-first.ensures.later p.2)

pub returns-clause-copied : goal.returns-clause-copied
returns-clause-copied g c =
    let file = g.P.Right.ReadRight.file in
    let opened = c.in_ok-stream.ensures in
    let pulled = c.in_ok-first.ensures in
    ok_then _ _ (λ whole put is.
    let done = put is in
    copies_all file c.args.schema.now c.args.marks.now.marks (map source_of c.args.files.now)
    (λ pages. stream_left file pages c.in_ok-stream.stream) opened.merged
    (λ pages. stream_left file pages c.pull.new.stream) c.in_ok-first.field-0
    (λ pages truth. pulled.next pages (opened.truth pages truth)) c.args.part.now c.begin.new.self c.put.new.self
    c.put_rest.new.part c.in-Some.first _ (sym (to_z-of_z w64 c.in-Some.first.time (search rules))) c.in-Some.is
    c.in_ok-begin.ensures.ok c.in_ok-put.ensures.ok done.0 done.1
    (λ pages truth. done.2 pages (pulled.truth pages (opened.truth pages truth)))) c.put_rest.result c.put_rest.ensures.put

pub returns-clause-damaged : goal.returns-clause-damaged
returns-clause-damaged g c =
    let file = g.P.Right.ReadRight.file in
    let opened = c.in_ok-stream.ensures in
    let pulled = c.in_ok-first.ensures in
    ok_then _ _ (λ whole broken is.
    rest_differs file c.args.schema.now c.args.marks.now.marks (map source_of c.args.files.now)
    (λ pages. stream_left file pages c.in_ok-stream.stream) opened.merged
    (λ pages. stream_left file pages c.pull.new.stream) c.in_ok-first.field-0
    (λ pages truth. pulled.next pages (opened.truth pages truth)) c.in-Some.first _
    (sym (to_z-of_z w64 c.in-Some.first.time (search rules))) c.in-Some.is
    (λ pages truth. broken is pages (pulled.truth pages (opened.truth pages truth))))
    c.put_rest.result c.put_rest.ensures.damaged

pub returns-clause-reason : goal.returns-clause-reason
returns-clause-reason g c = λ pages truth.
    let opened = c.in_ok-stream.ensures in
    let pulled = c.in_ok-first.ensures in
    reason_then _ _ _ _ _ _ (λ whole. pulled.told pages (opened.told pages whole)) pulled.later
    (c.put_rest.ensures.reason pages (pulled.truth pages (opened.truth pages truth)))
