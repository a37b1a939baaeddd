use Rattle.tsdb_pins.proofs.Named.{have_nodes}
use Rattle.tsdb_pins.proofs.laws.series_have_a_device.Goals as goal

pub returns : goal.returns
returns g c = λ files memory device items range is. have_nodes g.F.Right.ReadRight.file files memory device range items c.args.pin.now.columns is.columns
