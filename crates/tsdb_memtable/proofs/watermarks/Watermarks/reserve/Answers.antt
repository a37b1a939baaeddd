use Rattle.std.proofs.Common.{◌≡◌, List, ℕ, None, refl, ap, sym, subst, ◌∙◌}
use Rattle.std.specs.Prelude.{IsSome}
use Rattle.std.specs.Map.{lookup}
use Rattle.tsdb_memtable.specs.Watermarks.{Watermarks, is_device, watermark}
use Rattle.tsdb_memtable.proofs.PlaceLemmas.{flat-added, still-some, none-from}
use Rattle.tsdb_memtable.proofs.watermarks.Watermarks.reserve.Goals as goal

pub returns-clause-places : goal.returns-clause-places
returns-clause-places c = λ other had.
    let Had : Watermarks → Type 0 = λ es. IsSome (lookup (is_device other) es) in
    still-some (is_device c.in_ok-copy.field-0 other) _ _ None (c.in_ok-insert.ensures.updates.0 other) (subst Had (sym c.self.view_is) had)

pub returns-clause-watermarks : goal.returns-clause-watermarks
returns-clause-watermarks c = λ other.
    let None_at : List ℕ → Type 0 = λ device. lookup (is_device device) c.self.inside.times.entries ≡ None in
    let absent = none-from _ (sym c.contains_key.ensures ∙ c.if-contains_key.false) in
    flat-added c.in_ok-copy.field-0 other (is_device c.in_ok-copy.field-0 other) _ _ refl (c.in_ok-insert.ensures.updates.0 other) (λ same. subst None_at (sym c.in_ok-copy.ensures ∙ same) absent)
    ∙ ap (λ (es : Watermarks). watermark es other) c.self.view_is
