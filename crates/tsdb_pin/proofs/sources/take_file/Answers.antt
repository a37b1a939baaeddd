use Rattle.std.proofs.Common.{subst}
use Rattle.tsdb_fileset.specs.Files.{kept_file}
use Rattle.tsdb_fileset.specs.Rights.{IsRightTo}
use Rattle.tsdb_pin.proofs.Listed.{no_file_taken}
use Rattle.tsdb_pin.proofs.sources.take_file.Goals as goal

pub returns-in_default-clause-ok : goal.returns-in_default-clause-ok
returns-in_default-clause-ok g c = no_file_taken g.F.Right.ReadRight.file c.args.files.now c.share.new.self c.args.number
    c.args.born c.args.sources.now.items c.reserve.new.self.items
    (subst (λ o. IsRightTo g.F.Right.ReadRight.file (kept_file c.args.number.0 c.args.files.now) o) c.in_default.is
    c.in_ok-right.ensures.right)
    c.in_ok-right.ensures.ok c.share.ensures.others c.share.ensures.lists c.share.ensures.room c.reserve.ensures.items
