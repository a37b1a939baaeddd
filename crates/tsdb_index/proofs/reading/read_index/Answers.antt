use Rattle.std.proofs.Common.{List, Vec, Global, Err, subst, arith}
use Rattle.std.proofs.lemmas.Result.{err_from_is_err_and}
use Rattle.tsdb_index.specs.declared.index.IndexEntry.{IndexEntry}
use Rattle.tsdb_index.specs.declared.pointer.Pointer.{Pointer}
use Rattle.tsdb_index.specs.Steps.{ReadsLeaves}
use Rattle.tsdb_index.proofs.Whole.{found_index, leaf_bad, root_bad, spread_at}
use Rattle.tsdb_index.proofs.reading.read_index.Goals as goal

pub returns-in-Err-clause-bad : goal.returns-in-Err-clause-bad
returns-in-Err-clause-bad c =
    root_bad c.args.version c.args.place c.args.root c.args.bytes.now c.split_at.result.1.now c.split_at.ensures.back c.requires.from c.requires.to c.requires.room (λ (ps : Vec Pointer Global). ps.items) c.in-Err.fault c.of_part.result c.in-Err.ensures c.of_part.ensures

pub read_leaves-requires : goal.read_leaves-requires
read_leaves-requires c =
    let n = c.split_at.ensures.front_len in
    let from = c.requires.from in
    rw c.deref.ensures.value (spread_at c.args.place c.args.root c.split_at.result.1.now c.in-Ok.pointers.items c.split_at.result.0.now c.in-Ok.ensures (omega (arith, n, from)))

pub returns-in_err-entries-clause-bad : goal.returns-in_err-entries-clause-bad
returns-in_err-entries-clause-bad c =
    let p = err_from_is_err_and c.from_residual.result c.from_residual.ensures.1 in
    let left = subst (λ (ps : List Pointer). ReadsLeaves c.args.version c.args.root ps c.split_at.result.0.now (λ (es : Vec IndexEntry Global). es.items) (Err c.in_err-entries.field-0.0)) c.deref.ensures.value c.in_err-entries.ensures in
    let bad = leaf_bad c.args.version c.args.place c.args.root c.args.bytes.now c.split_at.result.0.now c.split_at.result.1.now c.in-Ok.pointers.items c.split_at.ensures.front c.split_at.ensures.back c.requires.from c.requires.to c.requires.room c.in-Ok.ensures
    (λ (es : Vec IndexEntry Global). es.items) c.in_err-entries.field-0.0 left in
    rw (p.1, p.2) bad

pub returns-clause-found : goal.returns-clause-found
returns-clause-found c =
    let n = c.split_at.ensures.front_len in
    let from = c.requires.from in
    let read = rw c.deref.ensures.value at c.in_ok-entries.ensures in
    rw c.of.ensures (found_index c.args.version c.args.place c.args.root c.args.bytes.now c.split_at.result.0.now c.split_at.result.1.now c.in-Ok.pointers.items read.0 c.in_ok-entries.entries.items c.split_at.ensures.front c.split_at.ensures.back (omega (arith, n, from)) c.in-Ok.ensures read.1 read.2)
