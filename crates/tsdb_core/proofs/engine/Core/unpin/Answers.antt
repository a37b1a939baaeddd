use Rattle.tsdb_core.proofs.PinSteps.{is_unpinned}
use Rattle.tsdb_core.proofs.engine.Core.unpin.Goals as goal

pub returns : goal.returns
returns g c = is_unpinned c.args.self.now c.give_back.new.files c.args.pin c.give_back.ensures.rights
    c.give_back.ensures.state
