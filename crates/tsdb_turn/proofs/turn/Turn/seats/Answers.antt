use Rattle.std.proofs.Common.{arith}
use Rattle.tsdb_turn.proofs.turn.Turn.seats.Goals as goal

pub overflow_cast-result : goal.overflow_cast-result
overflow_cast-result g c =
    let bells = c.self.invariant.bells in
    let few = c.self.invariant.few in
    let count = c.word_count.ensures in
    omega arith
