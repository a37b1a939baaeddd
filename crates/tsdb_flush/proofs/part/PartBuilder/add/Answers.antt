use Rattle.std.proofs.Common.{sym, rules}
use Rattle.tsdb_flush.proofs.PartsInMaking.{part_more}
use Rattle.tsdb_flush.proofs.part.PartBuilder.add.Goals as goal

pub put_points-requires-clause-begun : goal.put_points-requires-clause-begun
put_points-requires-clause-begun c =
    let follows = c.requires.follows in
    record {
      part = follows.part;
      schema = c.args.schema.now;
      given = c.in_ok-begin.ensures.ok follows.part follows.is.given;
      typed = c.requires.typed;
    }

pub returns : goal.returns
returns c = record {
  ok = λ part is before.
      let schema = c.args.schema.now in
      let points = c.args.points.now in
      part_more part schema points c.args.self.now _ is
      (record { some = c.requires.some; device = c.in_ok-device_of.ensures.device; measurement = c.in_ok-device_of.ensures.measurement; points = c.in_ok-put_points.ensures.in_range })
      (c.in_ok-put_points.ensures.ok part schema (c.in_ok-begin.ensures.ok part is.given))
      (search rules)
      (c.in_ok-add_times.ensures.ok part schema (sym c.in_ok-device_of.ensures.value) before is.hulls)
      (search rules);
}
