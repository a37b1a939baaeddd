use Rattle.std.proofs.Common.{ℕ, List, Err, refl, subst, arith, rules}
use Rattle.tsdb_index.specs.Faults.{ReadsWhole}
use Rattle.tsfile_reader.specs.Outline.{IsTail}
use Rattle.tsfile_reader.specs.Steps.{HasFileEnds}
use Rattle.tsfile_reader.proofs.Outlines.{has_ends, head_bad, is_short, tail_bad}
use Rattle.tsfile_reader.proofs.port.read_ends.Goals as goal

pub returns-then-size-clause-answers : goal.returns-then-size-clause-answers
returns-then-size-clause-answers g c = is_short (g.P.Right.ReadRight.file c.args.right.now).bytes c.in_ok-size.size c.in_ok-size.ensures.length (omega arith)

pub returns-in-Err-clause-answers : goal.returns-in-Err-clause-answers
returns-in-Err-clause-answers g c =
    let o = (g.P.Right.ReadRight.file c.args.right.now).bytes in
    let read = subst (λ (t : List ℕ). ReadsWhole (IsTail c.in_ok-size.size t) (λ (n : ℕ). n) (Err c.in-Err.fault)) c.deref.ensures.value c.in-Err.ensures in
    tail_bad HasFileEnds o c.in_ok-size.size c.in_ok-tail.tail.items (λ (n : ℕ). n) c.in-Err.fault c.of_part.result c.in_ok-size.ensures.length (omega arith) c.in_ok-tail.ensures.bytes read (search rules)

pub returns-in_default-clause-answers : goal.returns-in_default-clause-answers
returns-in_default-clause-answers g c =
    let o = (g.P.Right.ReadRight.file c.args.right.now).bytes in
    let read = rw c.deref.ensures.value at c.in-Ok.ensures in
    let none = rw c.deref-2.ensures.value at c.in_default.ensures in
    head_bad o c.in_ok-size.size c.in-Ok.root c.in_ok-tail.tail.items c.in_ok-head.head.items c.in_ok-size.ensures.length (omega arith) c.in_ok-tail.ensures.bytes read c.in_ok-head.ensures.bytes none

pub returns-clause-answers : goal.returns-clause-answers
returns-clause-answers g c =
    let o = (g.P.Right.ReadRight.file c.args.right.now).bytes in
    let read = rw c.deref.ensures.value at c.in-Ok.ensures in
    let says = rw c.deref-2.ensures.value at c.in-Some.ensures in
    has_ends o _ c.in_ok-size.size c.in-Ok.root c.in-Some.version c.in_ok-tail.tail.items c.in_ok-head.head.items c.in_ok-size.ensures.length (omega arith) c.in_ok-tail.ensures.bytes read c.in_ok-head.ensures.bytes says.0 says.1 refl refl refl
