use Rattle.std.proofs.Common.{rules, ◌∙◌, ◌≤◌, Err, sym, subst, refl, arith}
use Rattle.std.specs.List.{AllByRecursion as Each, AllZip}
use Rattle.std.proofs.lemmas.List.{take_all}
use Rattle.std.proofs.lemmas.Result.{err_from_is_err_and}
use Rattle.tsdb_streams.proofs.Reasons.{reason_memory, reason_ok, reason_then, same_reason}
use Rattle.tsdb_path.specs.Nodes.{node_count}
use Rattle.tsdb_pins.proofs.Draining.{each_at, later_then}
use Rattle.tsdb_pins.proofs.Lent.{zip_more}
use Rattle.tsdb_pins.specs.Reading.{IsColumnRead, IsOfStore, IsToldIn, IsTrueIn}
use Rattle.tsdb_pins.proofs.selecting.read_columns.Goals as goal

pub loop-column-init : goal.loop-column-init
loop-column-init g c = (λ pages truth. search rules, omega arith, refl)

pub read_column-requires-clause-nodes : goal.read_column-requires-clause-nodes
read_column-requires-clause-nodes g c = λ lifetimes lives.
    each_at (λ column. 2 ≤ node_count column.schema.path) _ _ _ _ c.items-column-items.ensures c.requires.nodes c.loop-column-test.true c.column-item.is

pub read_column-requires-clause-of_store : goal.read_column-requires-clause-of_store
read_column-requires-clause-of_store g c = λ lifetimes lives.
    subst (λ s. Each (IsOfStore g.F.Right.ReadRight.file s) c.column-item.result.sources) (sym c.loop-column.invariant.2)
    (each_at (λ column. Each (IsOfStore g.F.Right.ReadRight.file (g.F.Port.Port.store c.args.port.now)) column.sources) _ _ _ c.column-item.result c.items-column-items.ensures c.requires.of_store c.loop-column-test.true c.column-item.is)

pub loop-column-preserved : goal.loop-column-preserved
loop-column-preserved g c =
    let file = g.F.Right.ReadRight.file in
    let inv = c.loop-column.invariant in
    let done = c.in_ok-read_column.ensures in (
      λ pages truth. zip_more (IsColumnRead file pages c.args.pin.now.range c.args.pin.now.marks.marks) _ _ _ _ _ c.in_ok-read_column.field-0 c.loop-column-test.true c.column-item.is (inv.0 pages truth)
          (done.merged pages (each_at (λ column. Each (IsTrueIn file pages column.schema.path) column.sources) _ _ _ c.column-item.result c.items-column-items.ensures truth c.loop-column-test.true c.column-item.is)) (search rules),
      later_then _ _ _ inv.1 done.later,
      done.same_store ∙ inv.2,
    )

pub returns-in_err-read_column-clause-reason : goal.returns-in_err-read_column-clause-reason
returns-in_err-read_column-clause-reason g c = λ pages truth.
    let file = g.F.Right.ReadRight.file in
    let p = err_from_is_err_and c.from_residual.result c.from_residual.ensures.1 in
    rw (p.1, p.2) (same_reason _ _ _ _ (reason_then _ _ _ _ _ (Err c.in_err-read_column.field-0.0)
    (λ whole. each_at (λ column. Each (IsToldIn file pages column.schema.path) column.sources) _ _ _ c.column-item.result c.items-column-items.ensures whole c.loop-column-test.true c.column-item.is) c.loop-column.invariant.1
    (c.in_err-read_column.ensures.reason pages (each_at (λ column. Each (IsTrueIn file pages column.schema.path) column.sources) _ _ _ c.column-item.result c.items-column-items.ensures truth c.loop-column-test.true c.column-item.is))))

pub returns-in_err-read_column-clause-later : goal.returns-in_err-read_column-clause-later
returns-in_err-read_column-clause-later g c = later_then _ _ _ c.loop-column.invariant.1 c.in_err-read_column.ensures.later

pub returns-in_err-read_column-clause-same_store : goal.returns-in_err-read_column-clause-same_store
returns-in_err-read_column-clause-same_store g c = c.in_err-read_column.ensures.same_store ∙ c.loop-column.invariant.2

pub returns-in_err-push-clause-reason : goal.returns-in_err-push-clause-reason
returns-in_err-push-clause-reason g c = λ pages truth.
    let p = err_from_is_err_and c.from_residual-in_err-push.result c.from_residual-in_err-push.ensures.1 in
    rw p.1 (reason_memory _ _ _ _ (later_then _ _ _ c.loop-column.invariant.1 c.in_ok-read_column.ensures.later) p.2)

pub returns-in_err-push-clause-later : goal.returns-in_err-push-clause-later
returns-in_err-push-clause-later g c = later_then _ _ _ c.loop-column.invariant.1 c.in_ok-read_column.ensures.later

pub returns-in_err-push-clause-same_store : goal.returns-in_err-push-clause-same_store
returns-in_err-push-clause-same_store g c = c.in_ok-read_column.ensures.same_store ∙ c.loop-column.invariant.2

pub returns-clause-read : goal.returns-clause-read
returns-clause-read g c = λ pages truth.
    let R = IsColumnRead g.F.Right.ReadRight.file pages c.args.pin.now.range c.args.pin.now.marks.marks in
    subst (λ l. AllZip R l c.loop-column.columns.items) c.items-column-items.ensures
    (subst (λ l. AllZip R l c.loop-column.columns.items) (take_all c.loop-column.column-index _ c.loop-column-test.false) (c.loop-column.invariant.0 pages truth))

pub returns-clause-reason : goal.returns-clause-reason
returns-clause-reason g c = λ pages truth. reason_ok _ _ _ _ c.loop-column.invariant.1

pub returns-clause-later : goal.returns-clause-later
returns-clause-later g c = c.loop-column.invariant.1

pub returns-clause-same_store : goal.returns-clause-same_store
returns-clause-same_store g c = c.loop-column.invariant.2
