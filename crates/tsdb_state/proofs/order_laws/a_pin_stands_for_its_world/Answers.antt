use Rattle.tsdb_state.proofs.Pinning.{pin_stands}
use Rattle.tsdb_state.proofs.order_laws.a_pin_stands_for_its_world.Goals as goal

pub returns : goal.returns
returns c told known named state pin world order takes stands =
    pin_stands told known state order.entries world stands pin takes
