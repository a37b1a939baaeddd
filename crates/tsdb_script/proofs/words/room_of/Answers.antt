use Rattle.std.proofs.Common.{◌<◌, ◌≤◌, arith}
use Rattle.tsdb_path.specs.Nodes.{node_count}
use Rattle.tsdb_script.proofs.Rooms.{has_no_room, has_room}
use Rattle.tsdb_script.proofs.words.room_of.Goals as goal

pub returns-then-nodes-lt-MAX_NODES : goal.returns-then-nodes-lt-MAX_NODES
returns-then-nodes-lt-MAX_NODES c =
    let few : node_count c.args.device.now < 16 = omega (arith, c.nodes.ensures.value) in
    let room = rw c.bytes.ensures.value at c.saturating_sub.ensures in
    has_room c.args.device.now c.saturating_sub.result c.bytes.ensures.path few room

pub returns-else-nodes-lt-MAX_NODES : goal.returns-else-nodes-lt-MAX_NODES
returns-else-nodes-lt-MAX_NODES c =
    let full : 16 ≤ node_count c.args.device.now = omega (arith, c.nodes.ensures.value) in
    has_no_room c.args.device.now full
