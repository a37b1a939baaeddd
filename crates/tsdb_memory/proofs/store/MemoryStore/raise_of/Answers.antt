use mir.Val.{to_z, of_z}
use Rattle.std.proofs.Common.{rules, w64, ◌≡◌, ◌-◌, ◌∙◌, [], List, ap, arith, length, map, slice_get, sym, subst}
use Rattle.std.proofs.Math.Facts.{to_z-of_z}
use Rattle.std.specs.Option.{option_copied, option_map}
use Rattle.std.specs.Map.Iter.{deref_pair}
use Rattle.tsdb_base.specs.declared.ids.Space.TheVariants.{Sequence}
use Rattle.tsdb_base.specs.declared.point.Point.{Point}
use Rattle.tsdb_memory.proofs.Numbers.{at_map}
use Rattle.tsdb_memory.proofs.Raises.{all_at, beyond, no_last, raise_is}
use Rattle.tsdb_memory.specs.Freezing.{IsRaiseOf}
use Rattle.tsdb_memory.specs.Model.{IsFormed, schema_of}
use Rattle.tsdb_memory.specs.Store.{MemoryState}
use Rattle.tsdb_memory.specs.declared.freezing.Raise.{Raise}
use Rattle.tsdb_memtable.specs.Pairs.{points_of}
use Rattle.tsdb_base.specs.Points.{IsRising}
use Rattle.tsdb_memory.proofs.store.MemoryStore.raise_of.Goals as goal

pub returns-in_default-clause-none : goal.returns-in_default-clause-none
returns-in_default-clause-none c = λ same.
    let points = points_of Sequence c.args.series.0 c.self.inside.working in
    subst (λ (s : MemoryState). points_of Sequence c.args.series.0 s.working ≡ []) c.self.view_is
    (no_last points (ap (λ (l : List Point). slice_get l (length l - 1)) (sym c.points_of-points.ensures.points)
    ∙ sym c.last.ensures.value ∙ ap option_copied c.in_default.is))

pub returns-in_default-get_index-clause-none : goal.returns-in_default-get_index-clause-none
returns-in_default-get_index-clause-none c = λ same.
    let entries = c.self.inside.series.entries in
    subst (λ (s : MemoryState). points_of Sequence c.args.series.0 s.working ≡ []) c.self.view_is
    (c.self.invariant.known Sequence c.args.series.0 (beyond (map schema_of entries) c.args.series.0
    (at_map schema_of entries c.args.series.0
    ∙ ap (option_map schema_of) (sym c.get_index.ensures.entry ∙ ap (option_map deref_pair) c.in_default-get_index.is))))

pub device_in-requires : goal.device_in-requires
device_in-requires c =
    let entries = c.self.inside.series.entries in
    let at = at_map schema_of entries c.args.series.0
    ∙ ap (option_map schema_of) (sym c.get_index.ensures.entry ∙ ap (option_map deref_pair) c.in-Some-get_index.is) in
    let formed : IsFormed (schema_of (c.in-Some-get_index.path.now, c.in-Some-get_index.field-0-1.now)) =
    all_at IsFormed (map schema_of entries) c.args.series.0
    (schema_of (c.in-Some-get_index.path.now, c.in-Some-get_index.field-0-1.now)) c.self.invariant.formed at in
    omega (arith, formed.suits.series)

pub returns-clause-some : goal.returns-clause-some
returns-clause-some c =
    let entries = c.self.inside.series.entries in
    let points = points_of Sequence c.args.series.0 c.self.inside.working in
    let slice : c.points_of-points.result.now ≡ points = c.points_of-points.ensures.points in
    let end = ap (λ (l : List Point). slice_get l (length l - 1)) (sym slice) ∙ sym c.last.ensures.value
    ∙ ap option_copied c.in-Some.is in
    let at = at_map schema_of entries c.args.series.0
    ∙ ap (option_map schema_of) (sym c.get_index.ensures.entry ∙ ap (option_map deref_pair) c.in-Some-get_index.is) in
    let raise : Raise = record {
      device = c.in_ok-device_in.field-0;
      time = to_z w64 (of_z w64 c.in-Some.last.now.time);
    } in
    subst (λ (s : MemoryState). IsRaiseOf s.series s.working c.args.series.0 raise) c.self.view_is
    (raise_is (map schema_of entries) c.self.inside.working c.args.series.0
    (schema_of (c.in-Some-get_index.path.now, c.in-Some-get_index.field-0-1.now))
    c.in-Some.last.now raise at end (subst IsRising slice c.points_of-points.ensures.rising)
    c.in_ok-device_in.ensures (to_z-of_z {w = w64} (search rules)))
