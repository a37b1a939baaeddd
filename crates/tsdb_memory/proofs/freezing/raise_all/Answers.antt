use Rattle.std.proofs.Common.{rules, w64, ◌∙◌, ap, refl, sym}
use Rattle.std.proofs.Math.Facts.{to_z-of_z}
use Rattle.std.proofs.lemmas.List.{drop_all}
use Rattle.std.proofs.lemmas.List.Elements.{All-weaker}
use Rattle.tsdb_memory.proofs.Raises.{raise_step}
use Rattle.tsdb_memory.specs.Freezing.{raised_by}
use Rattle.tsdb_memory.specs.declared.freezing.Raise.{Raise}
use Rattle.tsdb_memtable.specs.Watermarks.{HasPlace, later_time, watermark}
use Rattle.tsdb_memory.proofs.freezing.raise_all.Goals as goal

pub loop-raise-init : goal.loop-raise-init
loop-raise-init c = record { places = c.requires; watermarks = λ device. refl }

pub loop-raise-preserved : goal.loop-raise-preserved
loop-raise-preserved c = record {
  places = All-weaker (λ (r : Raise). HasPlace c.loop-raise.watermarks r.device)
      (λ (r : Raise). HasPlace c.raise.new.self r.device)
      (λ r h. c.raise.ensures.places r.device h) c.args.raises.now c.loop-raise.invariant.places;
  watermarks = λ device. raise_step c.args.raises.now c.loop-raise.raise-index c.raise-item.result
      c.loop-raise.watermarks c.raise.new.self device c.loop-raise-test.true c.raise-item.is
      (c.raise.ensures.later_time
      ∙ ap (later_time (watermark c.loop-raise.watermarks c.raise-item.result.device))
      (to_z-of_z {w = w64} (search rules))) c.raise.ensures.others
      ∙ c.loop-raise.invariant.watermarks device;
}

pub returns : goal.returns
returns c = λ device.
    sym (ap (λ l. raised_by device l (watermark c.loop-raise.watermarks device))
    (drop_all c.loop-raise.raise-index c.args.raises.now c.loop-raise-test.false))
    ∙ c.loop-raise.invariant.watermarks device
