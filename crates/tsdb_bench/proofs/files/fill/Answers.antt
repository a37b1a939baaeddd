use Rattle.std.proofs.Common.{◌≡◌, ◌<◌, List, [], true, length, refl, subst, rules}
use Rattle.std.specs.Prelude.{All, IsTrue}
use Rattle.std.specs.Vec.Iter.{into_iter_items}
use Rattle.tsdb_base.specs.declared.point.Point.{Point}
use Rattle.tsdb_base.specs.declared.value.DataType.TheVariants.{Int64}
use Rattle.tsdb_base.specs.declared.value.Encoding.TheVariants.{Ts2diff}
use Rattle.tsdb_base.specs.Values.{type_of}
use Rattle.tsdb_base.specs.Points.{IsRising}
use Rattle.tsfile_writer.specs.BuilderInput.{given_series}
use Rattle.tsfile_writer.proofs.Driving.{filled_more, takes}
use Rattle.tsdb_bench.proofs.files.fill.Goals as goal

pub loop-point-init : goal.loop-point-init
loop-point-init c = record {
  finite = search rules;
  filling = record {
    front = [];
    last = given_series c.args.path.now Int64 Ts2diff;
    was = c.in_ok-series.ensures.ok [] c.requires;
    split = search rules;
    device_is = refl;
    measurement_is = refl;
    type_is = refl;
  };
}

pub point-requires : goal.point-requires
point-requires c =
    let filling = c.loop-point.invariant.filling in
    let all = c.args.points.items in
    let is : IsTrue c.are_numbers_of.result = search rules in
    let good = c.are_numbers_of.ensures.0 is in
    let typed : All (λ (p : Point). type_of p.value ≡ Int64) c.args.points.items = subst (λ (l : List Point). All (λ (p : Point). type_of p.value ≡ Int64) l) c.deref.ensures.value good.2 in
    let rising : IsRising c.args.points.items = subst IsRising c.deref.ensures.value good.3 in
    (filling.front, filling.last, filling.was, takes c.args.path.now Int64 c.loop-point.builder all (into_iter_items c.loop-point.point-iterator) (into_iter_items c.next.new.self) c.in-Some.point filling c.in-Some.ensures.steps.0 typed rising)

pub loop-point-preserved : goal.loop-point-preserved
loop-point-preserved c =
    let filling = c.loop-point.invariant.filling in
    record {
      finite = search rules;
      filling = filled_more c.args.path.now Int64 c.loop-point.builder c.point.new.self c.args.points.items (into_iter_items c.loop-point.point-iterator) (into_iter_items c.next.new.self) c.in-Some.point
          filling c.in-Some.ensures.steps.0 (c.in_ok-point.ensures.ok filling.front filling.last filling.was);
    }
