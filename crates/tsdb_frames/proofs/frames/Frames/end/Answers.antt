use Rattle.tsdb_frames.proofs.LogLemmas.{log_is_settled}
use Rattle.tsdb_frames.proofs.frames.Frames.end.Goals as goal

pub returns-clause-settled : goal.returns-clause-settled
returns-clause-settled g c acknowledged log =
    log_is_settled (g.J.Disk.state c.args.self.journal) c.args.self.slot c.args.self.gate acknowledged (g.J.Disk.lawful c.args.self.journal) log.stands
