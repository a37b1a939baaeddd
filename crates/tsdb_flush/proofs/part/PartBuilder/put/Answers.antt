use Rattle.std.proofs.Common.{rules, [], ◌∷◌, ◌++◌, map}
use Rattle.tsdb_flush.proofs.Trees.{given_last, given_more}
use Rattle.tsdb_flush.specs.MakingSteps.{filled_with}
use Rattle.tsdb_flush.specs.Parts.{builder_series}
use Rattle.tsdb_base.proofs.Lists.{each_append}
use Rattle.tsfile_writer.specs.Pages.{IsInRange}
use Rattle.tsdb_flush.proofs.part.PartBuilder.put.Goals as goal

pub put_point-requires : goal.put_point-requires
put_point-requires c =
    let m = c.requires in
    (map builder_series m.part, builder_series (filled_with m.schema m.points), given_last c.args.self.now.builder m.part (filled_with m.schema m.points) m.is.given, m.may)

pub returns : goal.returns
returns c = record {
  ok = λ part schema points open_now.
      let in_range : IsInRange c.args.point = search rules in
      record {
        given = given_more c.put_point.new.builder part (filled_with schema (points ++ c.args.point ∷ []))
            (c.in_ok-put_point.ensures (map builder_series part) (builder_series (filled_with schema points)) (given_last c.args.self.now.builder part (filled_with schema points) open_now.given));
        in_range = each_append IsInRange points (c.args.point ∷ []) open_now.in_range (in_range, tt);
        before = open_now.before;
        sound = open_now.sound;
        counted = open_now.counted;
        hulls = open_now.hulls;
        paths = open_now.paths;
      };
}
