use Rattle.tsdb_core.proofs.Replacements.{appends_end, room_for}
use Rattle.tsdb_core.proofs.engine.Core.log_end.Goals as goal

pub append_replaced-outcome-requires-after_bounds : goal.append_replaced-outcome-requires-after_bounds
append_replaced-outcome-requires-after_bounds g c = λ lifetimes lives. room_for g.F.Right.ReadRight.file c.args.self.now
    c.args.job c.args.job.born c.args.job.space c.place_of.result c.number_of.result c.requires.out

pub returns-clause-logged : goal.returns-clause-logged
returns-clause-logged g c = appends_end g.F.Right.ReadRight.file g.F.Sealed.SealedFile.file g.F.Sealed.SealedFile.rights
    c.args.job c.args.output.now c.args.self.now c.append_replaced-outcome.new.self c.args.runs c.append_replaced-outcome.result
    c.least_after_replacing-listed.result c.born_of-born.result c.place_of.result c.number_of.result c.place_of.ensures
    c.number_of.ensures c.born_of-born.ensures c.least_after_replacing-listed.ensures c.append_replaced-outcome.ensures
