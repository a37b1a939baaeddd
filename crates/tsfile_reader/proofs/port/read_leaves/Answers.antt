use Rattle.std.proofs.Common.{Vec, Global, Err}
use Rattle.tsdb_index.specs.declared.index.Index.{Index}
use Rattle.tsdb_index.specs.declared.index.IndexEntry.{IndexEntry}
use Rattle.tsfile_reader.specs.Steps.{IsOutlineIn}
use Rattle.tsfile_reader.proofs.Outlines.{leaves_bad, leaves_found, short_file, spread_read}
use Rattle.tsfile_reader.proofs.port.read_leaves.Goals as goal

pub read_leaves-requires : goal.read_leaves-requires
read_leaves-requires g c = spread_read c.args.front.now c.in_ok-bytes.bytes.items c.deref.result.now c.deref-2.result.now c.deref.ensures.value c.deref-2.ensures.value c.in_ok-bytes.ensures.size c.requires.root

pub returns-in-Ok-clause-answers : goal.returns-in-Ok-clause-answers
returns-in-Ok-clause-answers g c =
    leaves_found (g.P.Right.ReadRight.file c.args.right.now).bytes c.args.front.now c.in_ok-bytes.bytes.items c.deref.result.now c.deref-2.result.now c.in-Ok.ensures.0 c.of.result c.in-Ok.entries.items c.requires.front c.in_ok-bytes.ensures.bytes c.in_ok-bytes.ensures.size
    c.deref.ensures.value c.deref-2.ensures.value c.in-Ok.ensures.1 c.in-Ok.ensures.2 c.of.ensures

pub returns-clause-answers : goal.returns-clause-answers
returns-clause-answers g c =
    leaves_bad (λ bytes. IsOutlineIn bytes c.args.front.now.ends c.args.front.now.root.place c.args.front.now.root.pointers.items) (g.P.Right.ReadRight.file c.args.right.now).bytes c.args.front.now c.in_ok-bytes.bytes.items c.deref.result.now c.deref-2.result.now (λ (entries : Vec IndexEntry Global). entries.items) c.in-Err.fault c.of_index.result
    c.requires.front c.in_ok-bytes.ensures.bytes c.deref.ensures.value c.deref-2.ensures.value c.in-Err.ensures c.of_index.ensures

pub returns-clause-limit : goal.returns-clause-limit
returns-clause-limit g c = short_file {T = Index} (g.P.Right.ReadRight.file c.args.right.now).bytes c.args.front.now (Err c.of_index.result) c.requires.front
