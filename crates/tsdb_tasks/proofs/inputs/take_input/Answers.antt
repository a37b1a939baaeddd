use Rattle.std.proofs.Common.{ap, subst, ◌∙◌, ◌∷◌, ◌++◌, []}
use Rattle.tsdb_tasks.proofs.Taken.{one_taken}
use Rattle.tsdb_fileset.specs.Files.{kept_file}
use Rattle.tsdb_fileset.specs.Rights.{IsRightTo}
use Rattle.tsdb_tasks.proofs.inputs.take_input.Goals as goal

pub returns-clause-ok : goal.returns-clause-ok
returns-clause-ok g c = one_taken g.F.Right.ReadRight.file c.args.files.now c.share.new.self c.args.number c.args.born
    c.in-Some.right c.args.inputs.now.items c.push.new.inputs.items
    (subst (IsRightTo g.F.Right.ReadRight.file (kept_file c.args.number.0 c.args.files.now)) c.in-Some.is
    c.in_ok-right.ensures.right)
    c.in_ok-right.ensures.ok c.share.ensures.others c.share.ensures.lists c.share.ensures.room
    (c.push.ensures ∙ ap (λ items. items ++ record {
      number = c.args.number;
      born = c.args.born;
      right =
          c.in-Some.right;
    } ∷ [])
    c.reserve.ensures.items)
