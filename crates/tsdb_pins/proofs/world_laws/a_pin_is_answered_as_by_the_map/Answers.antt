use Rattle.std.proofs.Common.{◌∙◌, ap, map, sym}
use Rattle.tsdb_model.specs.Folds.{rows}
use Rattle.tsdb_model.specs.declared.reply.Reply.TheVariants.{Lines, Values}
use Rattle.tsdb_memory.specs.StateOfMemory.{series_entry}
use Rattle.tsdb_pins.proofs.Items.{pin_columns, pin_values}
use Rattle.tsdb_pins.proofs.Replies.{rows_replied, types_of, values_replied}
use Rattle.tsdb_pins.proofs.world_laws.a_pin_is_answered_as_by_the_map.Goals as goal

pub returns : goal.returns
returns g c = λ told memory engine files device items range world is stands fit pinned. record {
  rows_are = λ asks. rows_replied (map series_entry memory.series) world device (types_of told memory engine world is stands) items range fit asks
      ∙ ap (λ l. Lines (rows l)) (sym (pin_columns g.F.Right.ReadRight.file files memory device range world items c.args.pin.now pinned));
  values_are = λ asks. values_replied (map series_entry memory.series) world device (types_of told memory engine world is stands) items range fit asks
      ∙ ap (λ l. Values l) (sym (pin_values g.F.Right.ReadRight.file files memory device range world items c.args.pin.now pinned));
}
