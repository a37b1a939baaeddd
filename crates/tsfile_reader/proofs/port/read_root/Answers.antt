use Rattle.std.proofs.Common.{arith}
use Rattle.tsfile_reader.specs.declared.ends.Root.{Root}
use Rattle.tsfile_reader.specs.Steps.{IsFrontIn}
use Rattle.tsfile_reader.proofs.Outlines.{first_inside, root_bad, root_found}
use Rattle.tsfile_reader.proofs.port.read_root.Goals as goal

pub returns-in-Ok-clause-answers : goal.returns-in-Ok-clause-answers
returns-in-Ok-clause-answers g c =
    root_found (g.P.Right.ReadRight.file c.args.right.now).bytes c.args.ends c.in-Ok.root c.saturating_sub-size.result c.in_ok-bytes.bytes.items c.deref.result.now c.requires.ends (omega arith) c.in_ok-bytes.ensures.bytes c.deref.ensures.value c.in-Ok.ensures.0 c.in-Ok.ensures.1

pub returns-in-Ok-clause-root : goal.returns-in-Ok-clause-root
returns-in-Ok-clause-root g c = (c.deref.result.now, c.in-Ok.ensures.1)

pub returns-clause-answers : goal.returns-clause-answers
returns-clause-answers g c =
    root_bad IsFrontIn (g.P.Right.ReadRight.file c.args.right.now).bytes c.args.ends c.saturating_sub-size.result c.in_ok-bytes.bytes.items c.deref.result.now (λ (root : Root). (root.place, root.pointers.items)) c.in-Err.fault c.of_part.result c.requires.ends (omega arith) c.in_ok-bytes.ensures.bytes c.deref.ensures.value c.in-Err.ensures c.of_part.ensures

pub returns-in-Ok-clause-place : goal.returns-in-Ok-clause-place
returns-in-Ok-clause-place g c = first_inside c.in-Ok.root.place c.args.ends.root c.deref.result.now c.in-Ok.root.pointers.items c.in-Ok.ensures.1
