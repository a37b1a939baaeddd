use Rattle.std.proofs.lemmas.Result.{err_from_is_err_and}
use Rattle.tsdb_index.specs.declared.index.FileMeta.{FileMeta}
use Rattle.tsfile_reader.specs.declared.ends.Outline.{Outline}
use Rattle.tsfile_reader.specs.Meta.{IsMetaOf}
use Rattle.tsfile_reader.specs.Steps.{IsOutlineIn}
use Rattle.tsfile_reader.proofs.OneOutline.{meta_found, meta_refused}
use Rattle.tsfile_reader.proofs.reader.read_meta.Goals as goal

pub returns-in_err-outline-clause-tree : goal.returns-in_err-outline-clause-tree
returns-in_err-outline-clause-tree g c =
    let p = err_from_is_err_and c.from_residual.result c.from_residual.ensures.1 in
    let e = c.in_err-outline in
    let lacks = meta_refused {T = Outline} {S = FileMeta} (g.P.Right.ReadRight.file c.args.right.now).bytes (λ bytes outline. IsOutlineIn bytes outline.ends outline.place outline.pointers.items outline.index) IsMetaOf e.field-0.0 e.ensures.answers e.ensures.limit in
    rw (p.1, p.2) lacks

pub returns-clause-tree : goal.returns-clause-tree
returns-clause-tree g c =
    let r = c.in_ok-outline.outline in
    meta_found (g.P.Right.ReadRight.file c.args.right.now).bytes r.ends r.place r.pointers.items r.index c.in_ok-outline.ensures.answers
