use Rattle.std.proofs.lemmas.Result.{IfOk-weaker}
use Rattle.tsdb_path.proofs.Parts.{IsName-measurement_of, IsPath-device_of}
use Rattle.tsdb_path.specs.Nodes.{IsName, IsPath, device_of, measurement_of}
use Rattle.tsdb_flush.proofs.names.device_of.Goals as goal

pub returns-clause-device : goal.returns-clause-device
returns-clause-device c = IfOk-weaker c.device.result _ (λ device. IsPath (device_of c.args.path.now))
    (λ device is. IsPath-device_of c.args.path.now c.sound.ensures c.requires) c.device.ensures.value

pub returns-clause-measurement : goal.returns-clause-measurement
returns-clause-measurement c = IfOk-weaker c.device.result _ (λ device. IsName (measurement_of c.args.path.now))
    (λ device is. IsName-measurement_of c.args.path.now c.sound.ensures c.requires) c.device.ensures.value
