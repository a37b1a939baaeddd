use Rattle.std.proofs.Common.{◌∙◌, List, subst}
use Rattle.std.proofs.lemmas.List.{take_all}
use Rattle.tsdb_memory.proofs.Raises.{place_more}
use Rattle.tsdb_memory.specs.Freezing.{HaveWatermarkPlaces}
use Rattle.tsdb_memory.specs.declared.freezing.Raise.{Raise}
use Rattle.tsdb_memory.proofs.freezing.reserve_places.Goals as goal

pub loop-raise-preserved : goal.loop-raise-preserved
loop-raise-preserved c = record {
  watermarks = λ device. c.reserve.ensures.watermarks device ∙ c.loop-raise.invariant.watermarks device;
  places = place_more c.args.raises.now c.loop-raise.raise-index c.raise-item.result c.loop-raise.watermarks
      c.reserve.new.self c.loop-raise-test.true c.raise-item.is
      c.loop-raise.invariant.places c.in_ok-reserve.ensures.place c.reserve.ensures.places;
}

pub returns-clause-places : goal.returns-clause-places
returns-clause-places c =
    subst (λ (l : List Raise). HaveWatermarkPlaces c.loop-raise.watermarks l)
    (take_all c.loop-raise.raise-index c.args.raises.now c.loop-raise-test.false) c.loop-raise.invariant.places
