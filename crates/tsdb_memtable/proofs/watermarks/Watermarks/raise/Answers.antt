use Rattle.std.proofs.Common.{List, ℕ, ap, sym, subst, ◌∙◌}
use Rattle.std.specs.Prelude.{IsSome}
use Rattle.std.specs.Map.{lookup}
use Rattle.tsdb_memtable.specs.Watermarks.{Watermarks, flat, is_device, watermark}
use Rattle.tsdb_memtable.proofs.PlaceLemmas.{other-device, still-some}
use Rattle.tsdb_memtable.proofs.watermarks.Watermarks.raise.Goals as goal

pub returns-clause-others : goal.returns-clause-others
returns-clause-others c = λ other ne.
    let Had : Watermarks → Type 0 = λ es. IsSome (lookup (is_device c.args.device.now) es) in
    let updates = (c.get_mut.follows.holds c.greater.result).3 (subst Had (sym c.self.view_is) c.requires) in
    ap flat (updates.2 other (other-device c.args.device.now other ne)) ∙ ap (λ (es : Watermarks). watermark es other) c.self.view_is

pub returns-clause-places : goal.returns-clause-places
returns-clause-places c = λ other had.
    let Had : List ℕ → Watermarks → Type 0 = λ device es. IsSome (lookup (is_device device) es) in
    let updates = (c.get_mut.follows.holds c.greater.result).3 (subst (Had c.args.device.now) (sym c.self.view_is) c.requires) in
    still-some (is_device c.args.device.now other) _ _ c.greater.result (updates.0 other) (subst (Had other) (sym c.self.view_is) had)
