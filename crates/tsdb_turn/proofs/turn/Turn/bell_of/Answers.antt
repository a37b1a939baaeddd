use Rattle.std.proofs.Common.{◌<◌, ◌-◌, ◌%◌, ap, mod-lt, arith}
use Rattle.tsdb_turn.proofs.turn.Turn.bell_of.Goals as goal

pub nonzero_rem-result : goal.nonzero_rem-result
nonzero_rem-result g c =
    let laid = c.self.invariant in
    let some_pass = laid.some_pass in
    let bells = laid.bells in
    let count = c.word_count-bells.ensures in
    omega arith

pub overflow_add-result : goal.overflow_add-result
overflow_add-result g c =
    let laid = c.self.invariant in
    let some_pass = laid.some_pass in
    let bells = laid.bells in
    let few = laid.few in
    let count = c.word_count-bells.ensures in
    let positive : 0 < c.word_count-bells.result - 16 = omega arith in
    let below : c.args.ticket % (c.word_count-bells.result - 16) < c.word_count-bells.result - 16 = mod-lt c.args.ticket positive in
    omega arith

pub returns-clause-word : goal.returns-clause-word
returns-clause-word g c =
    let laid = c.self.invariant in
    let some_pass = laid.some_pass in
    let bells = laid.bells in
    let words = ap (λ t. t.id.words) c.self.view_is in
    let count = c.word_count-bells.ensures in
    let positive : 0 < c.word_count-bells.result - 16 = omega arith in
    let below : c.args.ticket % (c.word_count-bells.result - 16) < c.word_count-bells.result - 16 = mod-lt c.args.ticket positive in
    omega arith
