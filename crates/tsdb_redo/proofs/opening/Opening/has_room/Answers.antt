use Rattle.std.proofs.Common.{◌+◌, ◌∙◌, ap, arith, rules, sym}
use Rattle.std.proofs.lemmas.Bool.{false≢true}
use Rattle.std.proofs.lemmas.Int.{to_z-of_z}
use Rattle.std.specs.Int.{w64}
use Rattle.tsdb_memtable.specs.Watermarks.{space_by, watermark}
use Rattle.tsdb_redo.proofs.RowFacts.{le_at, room_by_count, room_for_all}
use Rattle.tsdb_redo.specs.Rows.{new_points}
use Rattle.tsdb_redo.proofs.opening.Opening.has_room.Goals as goal

pub returns-then-points-cells-le-MAX_PAIR_POINTS : goal.returns-then-points-cells-le-MAX_PAIR_POINTS
returns-then-points-cells-le-MAX_PAIR_POINTS c =
    room_for_all c.args.self.now.memory c.args.device.now c.args.time c.args.cells.now c.sound.ensures c.requires
    (c.from.result + c.from-2.result)
    (λ state is. omega (arith, c.from.ensures, c.from-2.ensures, c.points.ensures state is, c.points-2.ensures state is))
    c.if-points-cells-le-MAX_PAIR_POINTS.true

pub returns : goal.returns
returns c =
    let time = to_z-of_z w64 c.args.time (search rules) in
    room_by_count c.args.self.now.memory c.args.device.now c.args.time c.args.cells.now c.sound.ensures c.requires
    (c.from.result + c.from-2.result)
    (λ state is. omega (arith, c.from.ensures, c.from-2.ensures, c.points.ensures state is, c.points-2.ensures state is))
    c.space_of-space.result
    (c.space_of-space.ensures ∙ ap (λ t. space_by c.get.result t) time ∙ ap (λ o. space_by o c.args.time)
    (c.get.ensures ∙ ap (λ w. watermark w c.args.device.now) c.watermarks.ensures))
    (λ state is empty. false≢true (sym c.if-is_idle.false ∙ (c.is_idle.ensures.state state is).1 empty))
    _
    (le_at (c.from.result + c.from-2.result) c.new_points.result _ 1000000
    (c.new_points.ensures ∙ ap (λ t. new_points c.space_of-space.result t c.working.result.now c.args.cells.now) time
    ∙ ap (λ p. new_points c.space_of-space.result c.args.time p c.args.cells.now) c.working.ensures))
