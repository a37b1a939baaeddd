use Rattle.std.proofs.Common.{◌≡◌, ◌∙◌, ◌-◌, List, ℕ, ap, length, nat_eq, sym, take}
use Rattle.std.specs.Cmp.Lexicographic.{pointwise}
use Rattle.tsdb_redo.proofs.RowFacts.{before_name, same_bytes}
use Rattle.tsdb_path.specs.Nodes.{device_of}
use Rattle.tsdb_redo.proofs.rows.has_device.Goals as goal

pub returns : goal.returns
returns c =
    let series = c.args.series.now in
    let same : c.eq.result ≡ pointwise nat_eq (device_of series) c.args.device.now =
    c.eq.ensures
    ∙ ap (λ (l : List ℕ). pointwise nat_eq (take (length l - length c.measurement.result.now - 1) l) c.bytes.result.now)
    c.bytes-bytes.ensures.value
    ∙ ap (λ (l : List ℕ). pointwise nat_eq l c.bytes.result.now)
    (before_name series c.measurement.result.now c.measurement.ensures.again)
    ∙ ap (λ (l : List ℕ). pointwise nat_eq (device_of series) l) c.bytes.ensures.value in
    let are = same_bytes (device_of series) c.args.device.now in
    (λ yes. are.0 (sym same ∙ yes), λ is. same ∙ are.1 is)
