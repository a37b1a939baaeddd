use Rattle.std.proofs.Common.{Vec, Global, arith}
use Rattle.tsdb_index.specs.declared.index.IndexEntry.{IndexEntry}
use Rattle.tsdb_index.proofs.Left.{bad_leaf, leaf_inside, left_done, left_start, next_left, rest_is}
use Rattle.tsdb_index.proofs.reading.read_leaves.Goals as goal

pub leaves-init : goal.leaves-init
leaves-init c = left_start c.args.version c.args.root c.args.pointers.now c.args.bytes.now c.new-entries.result.items c.new-entries.ensures.items c.requires

pub split_at-requires : goal.split_at-requires
split_at-requires c =
    let is = rest_is c.leaves.rest.now c.pointer-item.result (omega arith) c.pointer-item.is in
    leaf_inside c.args.version c.args.root c.args.pointers.now c.args.bytes.now c.leaves.rest.now _ c.pointer-item.result c.leaves.left.now c.leaves.entries.items c.end_of-end.result is c.end_of-end.ensures c.leaves.invariant

pub returns-in-Err : goal.returns-in-Err
returns-in-Err c =
    let is = rest_is c.leaves.rest.now c.pointer-item.result (omega arith) c.pointer-item.is in
    bad_leaf c.args.version c.args.root c.args.pointers.now c.args.bytes.now c.leaves.rest.now _ c.pointer-item.result c.leaves.left.now c.split_at.result.0.now c.leaves.entries.items c.end_of-end.result is c.end_of-end.ensures c.split_at.ensures.front
    (λ (vs : Vec IndexEntry Global). vs.items) (λ (vs : Vec IndexEntry Global). vs.items) c.in-Err.fault c.of_part.result c.in-Err.ensures c.of_part.ensures c.leaves.invariant

pub leaves-preserved : goal.leaves-preserved
leaves-preserved c =
    let is = rest_is c.leaves.rest.now c.pointer-item.result (omega arith) c.pointer-item.is in
    next_left c.args.version c.args.root c.args.pointers.now c.args.bytes.now c.leaves.rest.now _ c.pointer-item.result c.leaves.left.now c.split_at.result.0.now c.split_at.result.1.now c.leaves.entries.items c.in-Ok.more.items c.append.new.self.items c.end_of-end.result
    is c.end_of-end.ensures c.split_at.ensures.front c.split_at.ensures.back c.in-Ok.ensures c.in_ok-append-in-Ok.ensures.items c.leaves.invariant

pub returns : goal.returns
returns c = left_done c.args.version c.args.root c.args.pointers.now c.args.bytes.now c.leaves.rest.now c.leaves.left.now c.leaves.entries.items c.in_default.len_below c.leaves.invariant
