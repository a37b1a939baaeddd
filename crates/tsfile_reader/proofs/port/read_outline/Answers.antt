use Rattle.std.proofs.lemmas.Result.{err_from_is_err_and}
use Rattle.tsfile_reader.specs.declared.ends.Front.{Front}
use Rattle.tsfile_reader.specs.declared.ends.Outline.{Outline}
use Rattle.tsfile_reader.specs.Steps.{IsFrontIn, IsOutlineIn}
use Rattle.tsfile_reader.proofs.Outlines.{front_bad}
use Rattle.tsfile_reader.proofs.port.read_outline.Goals as goal

pub returns-in_err-front-clause-answers : goal.returns-in_err-front-clause-answers
returns-in_err-front-clause-answers g c =
    let p = err_from_is_err_and c.from_residual.result c.from_residual.ensures.1 in
    let e = c.in_err-front in
    let bad = front_bad {T = Front} {S = Outline} IsFrontIn (λ bytes outline. IsOutlineIn bytes outline.ends outline.place outline.pointers.items outline.index) (g.P.Right.ReadRight.file c.args.right.now).bytes e.field-0.0 e.ensures.answers in
    rw (p.1, p.2) bad
