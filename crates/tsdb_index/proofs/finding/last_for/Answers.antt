use Rattle.std.proofs.Common.{rules}
use Rattle.std.proofs.lemmas.Fn.{always_returns_same}
use Rattle.tsdb_index.specs.declared.pointer.Pointer.{Pointer}
use Rattle.tsdb_index.specs.Parts.{pointer_names}
use Rattle.tsdb_fields.specs.Order.{names_cmp}
use Rattle.tsdb_index.proofs.Found.{last_before, last_there}
use Rattle.tsdb_index.proofs.finding.last_for.Goals as goal

pub returns-in-Ok : goal.returns-in-Ok
returns-in-Ok c =
    last_there c.args.device.now c.args.measurement.now c.args.pointers.now c.in-Ok.at c.in-Ok.ensures.bound c.requires
    (c.in-Ok.ensures.position (λ (p : Pointer). names_cmp (pointer_names p) (c.args.device.now, c.args.measurement.now)) (always_returns_same _ _ _ (λ a r q k. search rules)))

pub returns-in-Err : goal.returns-in-Err
returns-in-Err c =
    last_before c.args.device.now c.args.measurement.now c.args.pointers.now c.in-Err.behind c.checked_sub.result c.in-Err.ensures.bound c.requires
    (c.in-Err.ensures.position (λ (p : Pointer). names_cmp (pointer_names p) (c.args.device.now, c.args.measurement.now)) (always_returns_same _ _ _ (λ a r q k. search rules))) c.checked_sub.ensures
