use Rattle.std.proofs.Common.{Vec, Global}
use Rattle.tsdb_index.specs.declared.index.IndexEntry.{IndexEntry}
use Rattle.tsdb_index.specs.Parts.{IsLeaf}
use Rattle.tsfile_reader.specs.LookUp.{leaf_bytes}
use Rattle.tsfile_reader.proofs.Finds.{leaf_in_order, one_leaf_bad, one_leaf_found}
use Rattle.tsfile_reader.proofs.finding.read_one_leaf.Goals as goal

pub returns-in-Ok-clause-answers : goal.returns-in-Ok-clause-answers
returns-in-Ok-clause-answers g c =
    one_leaf_found c.args.version (g.P.Right.ReadRight.file c.args.right.now).bytes c.args.pointer.now c.args.behind.now c.args.root c.end_of-end.result c.in_ok-bytes.bytes.items c.deref.result.now c.in-Ok.entries.items c.end_of-end.ensures c.deref.ensures.value c.in_ok-bytes.ensures.bytes c.in-Ok.ensures

pub returns-in-Ok-clause-order : goal.returns-in-Ok-clause-order
returns-in-Ok-clause-order g c = leaf_in_order c.args.version c.args.pointer.now c.args.behind.now c.deref.result.now c.in-Ok.entries.items c.in-Ok.ensures

pub returns-clause-answers : goal.returns-clause-answers
returns-clause-answers g c =
    one_leaf_bad c.args.version (λ bytes (entries : Vec IndexEntry Global). IsLeaf c.args.version c.args.pointer.now c.args.behind.now (leaf_bytes c.args.root c.args.pointer.now c.args.behind.now bytes) entries.items) (g.P.Right.ReadRight.file c.args.right.now).bytes c.args.pointer.now c.args.behind.now c.args.root
    c.end_of-end.result c.in_ok-bytes.bytes.items c.deref.result.now (λ (entries : Vec IndexEntry Global). entries.items) c.in-Err.fault c.of_part.result c.end_of-end.ensures c.deref.ensures.value c.in_ok-bytes.ensures.bytes c.in-Err.ensures c.of_part.ensures

pub returns-in-Ok-clause-formed : goal.returns-in-Ok-clause-formed
returns-in-Ok-clause-formed g c = c.in-Ok.ensures.good
