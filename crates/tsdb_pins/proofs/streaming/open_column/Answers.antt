use Rattle.std.proofs.Common.{◌≤◌, subst, arith}
use Rattle.std.specs.List.{AllByRecursion as Each}
use Rattle.tsdb_streams.proofs.Reasons.{reason_then}
use Rattle.tsdb_streams.specs.Streams.{IsToldStream, IsTrueStream}
use Rattle.tsdb_path.specs.Nodes.{node_count}
use Rattle.tsdb_pins.proofs.Draining.{each_found, found_at, ok_then, one_found}
use Rattle.tsdb_pins.proofs.Selected.{column_left}
use Rattle.tsdb_pins.specs.Reading.{IsOfStore, IsToldIn, IsTrueIn}
use Rattle.tsdb_pins.proofs.streaming.open_column.Goals as goal

pub open_one-requires-clause-nodes : goal.open_one-requires-clause-nodes
open_one-requires-clause-nodes g c = λ lifetimes lives.
    let at = found_at c.args.pin.now.columns c.items.result.now c.args.column c.index-items-column.result c.items.ensures c.requires.column c.index-items-column.is in
    each_found (λ column. 2 ≤ node_count column.schema.path) c.args.pin.now.columns c.args.column c.index-items-column.result c.requires.nodes at

pub open_one-requires-clause-of_store : goal.open_one-requires-clause-of_store
open_one-requires-clause-of_store g c = λ lifetimes lives.
    let at = found_at c.args.pin.now.columns c.items.result.now c.args.column c.index-items-column.result c.items.ensures c.requires.column c.index-items-column.is in
    each_found (λ column. Each (IsOfStore g.F.Right.ReadRight.file (g.F.Port.Port.store c.args.port.now)) column.sources)
    c.args.pin.now.columns c.args.column c.index-items-column.result c.requires.of_store at

pub returns-clause-points : goal.returns-clause-points
returns-clause-points g c = λ pages truth.
    let file = g.F.Right.ReadRight.file in
    let at = found_at c.args.pin.now.columns c.items.result.now c.args.column c.index-items-column.result c.items.ensures c.requires.column c.index-items-column.is in
    ok_then _ _ (λ stream opened told shown world tells is stands.
    column_left file pages told c.args.pin.now c.args.column c.index-items-column.result stream at opened shown world tells is stands)
    c.open_one.result (c.open_one.ensures.opened pages (each_found (λ column. Each (IsTrueIn file pages column.schema.path) column.sources)
    c.args.pin.now.columns c.args.column c.index-items-column.result truth at))

pub returns-clause-truth : goal.returns-clause-truth
returns-clause-truth g c = λ pages truth.
    let file = g.F.Right.ReadRight.file in
    let at = found_at c.args.pin.now.columns c.items.result.now c.args.column c.index-items-column.result c.items.ensures c.requires.column c.index-items-column.is in
    ok_then _ _ (λ stream is other there. subst (λ column. IsTrueStream file (pages column.schema.path) stream)
    (one_found c.args.pin.now.columns c.args.column c.index-items-column.result other at there) is)
    c.open_one.result (c.open_one.ensures.truth pages (each_found (λ column. Each (IsTrueIn file pages column.schema.path) column.sources)
    c.args.pin.now.columns c.args.column c.index-items-column.result truth at))

pub returns-clause-told : goal.returns-clause-told
returns-clause-told g c = λ pages told.
    let file = g.F.Right.ReadRight.file in
    let at = found_at c.args.pin.now.columns c.items.result.now c.args.column c.index-items-column.result c.items.ensures c.requires.column c.index-items-column.is in
    ok_then _ _ (λ stream is other there. subst (λ column. IsToldStream file (pages column.schema.path) stream)
    (one_found c.args.pin.now.columns c.args.column c.index-items-column.result other at there) is)
    c.open_one.result (c.open_one.ensures.told pages (each_found (λ column. Each (IsToldIn file pages column.schema.path) column.sources)
    c.args.pin.now.columns c.args.column c.index-items-column.result told at))

pub returns-clause-reason : goal.returns-clause-reason
returns-clause-reason g c = λ pages truth.
    let file = g.F.Right.ReadRight.file in
    let at = found_at c.args.pin.now.columns c.items.result.now c.args.column c.index-items-column.result c.items.ensures c.requires.column c.index-items-column.is in
    reason_then _ _ _ _ _ _ (λ whole. each_found (λ column. Each (IsToldIn file pages column.schema.path) column.sources)
    c.args.pin.now.columns c.args.column c.index-items-column.result whole at) (omega arith)
    (c.open_one.ensures.reason pages (each_found (λ column. Each (IsTrueIn file pages column.schema.path) column.sources)
    c.args.pin.now.columns c.args.column c.index-items-column.result truth at))
