use Rattle.std.proofs.Common.{◌≡◌, ◌⊎◌, inl, inr, ◌<◌, ◌≤◌, ℕ, List, Vec, Global, take, drop, subst, arith}
use Rattle.std.specs.Prelude.{IfSome}
use Rattle.tsfile_reader.specs.Steps.{HasPageBytes, SaysSize}
use Rattle.tsfile_reader.proofs.PageBytes.{first_read, ok_map, second_read}
use Rattle.tsfile_reader.proofs.reader.read_page_bytes.Goals as goal
use Rattle.tsfile_reader.proofs.reader.read_page_bytes.Goals.{then-size-first-via-then-size-first, then-size-first-via-else-size-first+then-left-size}

pub returns-then-size-first-clause-bytes : goal.returns-then-size-first-clause-bytes
returns-then-size-first-clause-bytes g c =
    let o = (g.P.Right.ReadRight.file c.args.right.now).bytes in
    let says = subst (λ (l : List ℕ). SaysSize l c.page_size-size.result) c.deref.ensures.value c.page_size-size.ensures in
    let enough : (c.page_size-size.result ≤ c.args.first) ⊎ (c.args.left < c.page_size-size.result) =
    elim c.then-size-first.branch [ then-size-first-via-then-size-first w ↦ inl (omega arith) | then-size-first-via-else-size-first+then-left-size w ↦ inr (omega arith) ] in
    first_read o c.in_ok-bytes.bytes.items c.args.place c.page_size-size.result c.args.first c.args.left c.requires.left c.requires.head c.in_ok-bytes.ensures.bytes says enough

pub returns-clause-bytes : goal.returns-clause-bytes
returns-clause-bytes g c =
    let o = (g.P.Right.ReadRight.file c.args.right.now).bytes in
    let says = subst (λ (l : List ℕ). SaysSize l c.page_size-size.result) c.deref.ensures.value c.page_size-size.ensures in
    ok_map (λ (part : Vec ℕ Global). IfSome o (λ bytes. part.items ≡ take c.page_size-size.result (drop c.args.place bytes))) (λ (part : Vec ℕ Global). IfSome o (λ bytes. HasPageBytes bytes c.args.place part.items)) c.read_part-2.result c.read_part-2.ensures.bytes
    (λ part is. second_read o c.in_ok-bytes.bytes.items part.items c.args.place c.page_size-size.result c.args.first c.args.left c.requires.head c.in_ok-bytes.ensures.bytes says (omega arith) (omega arith) is)
