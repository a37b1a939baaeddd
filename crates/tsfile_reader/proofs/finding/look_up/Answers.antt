use Rattle.std.proofs.Common.{Vec, Global, Ok}
use Rattle.std.specs.Prelude.{Option, None}
use Rattle.std.proofs.lemmas.Result.{err_from_is_err_and}
use Rattle.tsdb_index.specs.declared.index.IndexEntry.{IndexEntry}
use Rattle.tsdb_index.specs.Parts.{IsLeaf}
use Rattle.tsfile_reader.specs.declared.ends.Front.{Front}
use Rattle.tsfile_reader.specs.LookUp.{IsLookedUp, leaf_bytes}
use Rattle.tsfile_reader.specs.Steps.{IsFrontIn}
use Rattle.tsfile_reader.proofs.Finds.{entry_formed, entry_found, entry_named, front_refused, leaf_bounds, leaf_refused, limit_known, limit_refused, none_found}
use Rattle.tsfile_reader.proofs.finding.look_up.Goals as goal

pub leaf_for-requires : goal.leaf_for-requires
leaf_for-requires g c = rw c.deref.ensures.value c.in_ok-front.ensures.root.1.rising

pub returns-in_err-front-clause-answers : goal.returns-in_err-front-clause-answers
returns-in_err-front-clause-answers g c =
    let p = err_from_is_err_and c.from_residual.result c.from_residual.ensures.1 in
    let e = c.in_err-front in
    let bad = front_refused {T = Front} {S = Option IndexEntry} IsFrontIn (λ bytes. IsLookedUp bytes (c.args.device.now, c.args.measurement.now)) (g.P.Right.ReadRight.file c.args.right.now).bytes (c.args.device.now, c.args.measurement.now) e.field-0.0 e.ensures.answers in
    rw (p.1, p.2) bad

pub returns-in_err-front-clause-limit : goal.returns-in_err-front-clause-limit
returns-in_err-front-clause-limit g c =
    let p = err_from_is_err_and c.from_residual.result c.from_residual.ensures.1 in
    let e = c.in_err-front in
    let low = limit_refused Front (Option IndexEntry) (g.P.Right.ReadRight.file c.args.right.now).bytes e.field-0.0 e.ensures.limit in
    rw (p.1, p.2) low

pub returns-in_default-clause-answers : goal.returns-in_default-clause-answers
returns-in_default-clause-answers g c =
    none_found (g.P.Right.ReadRight.file c.args.right.now).bytes c.in_ok-front.front (c.args.device.now, c.args.measurement.now) c.deref.result.now c.deref.ensures.value c.in_ok-front.ensures.answers c.in_default.ensures

pub returns-in_default-clause-limit : goal.returns-in_default-clause-limit
returns-in_default-clause-limit g c = limit_known {S = Option IndexEntry} (g.P.Right.ReadRight.file c.args.right.now).bytes c.in_ok-front.front (Ok None) c.in_ok-front.ensures.answers

pub returns-in_err-entries-clause-answers : goal.returns-in_err-entries-clause-answers
returns-in_err-entries-clause-answers g c =
    let p = err_from_is_err_and c.from_residual-in_err-entries.result c.from_residual-in_err-entries.ensures.1 in
    let e = c.in_err-entries in
    let s = c.in-Some in
    let bad = leaf_refused {T = Vec IndexEntry Global} {S = Option IndexEntry} (λ bytes entries. IsLeaf c.in_ok-front.front.ends.version c.in-Some.pointer.now c.in-Some.behind.now (leaf_bytes c.in_ok-front.front.ends.root c.in-Some.pointer.now c.in-Some.behind.now bytes) entries.items)
    (λ bytes. IsLookedUp bytes (c.args.device.now, c.args.measurement.now)) (g.P.Right.ReadRight.file c.args.right.now).bytes c.in_ok-front.front (c.args.device.now, c.args.measurement.now) c.deref.result.now s.pointer.now s.behind.now e.field-0.0 c.deref.ensures.value c.in_ok-front.ensures.answers s.ensures e.ensures.answers in
    rw (p.1, p.2) bad

pub returns-in_err-entries-clause-limit : goal.returns-in_err-entries-clause-limit
returns-in_err-entries-clause-limit g c = limit_known (g.P.Right.ReadRight.file c.args.right.now).bytes c.in_ok-front.front _ c.in_ok-front.ensures.answers

pub returns-clause-answers : goal.returns-clause-answers
returns-clause-answers g c =
    let s = c.in-Some in
    entry_found (g.P.Right.ReadRight.file c.args.right.now).bytes c.in_ok-front.front (c.args.device.now, c.args.measurement.now) c.deref.result.now s.pointer.now s.behind.now c.in_ok-entries.entries.items c.entry_for.result c.deref.ensures.value c.in_ok-front.ensures.answers s.ensures c.in_ok-entries.ensures.answers c.entry_for.ensures

pub returns-clause-limit : goal.returns-clause-limit
returns-clause-limit g c = limit_known {S = Option IndexEntry} (g.P.Right.ReadRight.file c.args.right.now).bytes c.in_ok-front.front (Ok c.entry_for.result) c.in_ok-front.ensures.answers

pub read_one_leaf-requires-clause-from : goal.read_one_leaf-requires-clause-from
read_one_leaf-requires-clause-from g c =
    λ lifetimes lives. (leaf_bounds c.in_ok-front.front (c.args.device.now, c.args.measurement.now) c.deref.result.now c.in-Some.pointer.now c.in-Some.behind.now c.deref.ensures.value c.in_ok-front.ensures.root c.in-Some.ensures).from

pub read_one_leaf-requires-clause-to : goal.read_one_leaf-requires-clause-to
read_one_leaf-requires-clause-to g c =
    λ lifetimes lives. (leaf_bounds c.in_ok-front.front (c.args.device.now, c.args.measurement.now) c.deref.result.now c.in-Some.pointer.now c.in-Some.behind.now c.deref.ensures.value c.in_ok-front.ensures.root c.in-Some.ensures).to

pub returns-clause-formed : goal.returns-clause-formed
returns-clause-formed g c = entry_formed c.in_ok-front.front.ends.version (c.args.device.now, c.args.measurement.now) c.in_ok-entries.entries.items c.entry_for.result c.entry_for.ensures c.in_ok-entries.ensures.formed

pub returns-clause-named : goal.returns-clause-named
returns-clause-named g c = entry_named (c.args.device.now, c.args.measurement.now) c.in_ok-entries.entries.items c.entry_for.result c.entry_for.ensures
