use Rattle.std.proofs.Common.{◌++◌, length-append, length-take, take, arith}
use Rattle.tsdb_run.proofs.InputLemmas.{Consumes-twice}
use Rattle.tsdb_run.proofs.input.take_script.Goals as goal

pub returns-in_err-extend_from_slice-clause-prefix : goal.returns-in_err-extend_from_slice-clause-prefix
returns-in_err-extend_from_slice-clause-prefix g c =
    let before = c.loop-piece.bytes.items in
    let next = take c.in_ok-count.count c.take.new.into in
    let few = c.in_ok-count.ensures.bound in
    let kept = c.take.auto.into in
    (before ++ next, omega (arith, length-append before next, length-take c.in_ok-count.count c.take.new.into, length-take c.min-room.result c.loop-piece.piece), Consumes-twice _ _ _ before next c.loop-piece.invariant.taken c.in_ok-count.ensures.bytes.0)
