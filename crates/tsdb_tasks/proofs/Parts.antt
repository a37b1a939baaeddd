-- The part of a job that a core hands out is one of which a file can be built.
use Rattle.std.proofs.Common.{◌≡◌, ◌≢◌, ℕ, ◌<◌, List, [], ◌∷◌, length, inl, inr, ap, arith, refl, subst}
use Rattle.std.specs.List.{AllByRecursion as Each}
use Rattle.tsdb_base.specs.declared.ids.SeriesId.{SeriesId}
use Rattle.tsdb_base.specs.declared.ids.Space.{Space}
use Rattle.tsdb_base.specs.declared.point.Point.{Point}
use Rattle.tsdb_compactions.specs.BuiltParts.{IsPart, IsFilledSeries}
use Rattle.tsdb_path.proofs.Order.{not_itself}
use Rattle.tsdb_path.specs.Order.{AreNamesBefore}
use Rattle.tsdb_compactions.specs.Parts.{Filled, if_any, schema_names, filled_part}
use Rattle.tsdb_base.proofs.Lists.{each_among, each_append, each_from_among, each_weaker}
use Rattle.tsdb_base.specs.Lists.{Among, EachPair}
use Rattle.tsdb_model.specs.Commands.{IsSchema}
use Rattle.tsdb_model.specs.declared.command.Schema.{Schema}
use Rattle.tsdb_memory.proofs.Counts.{pairs_append}
use Rattle.tsdb_memtable.specs.Pairs.{Pair, points_of}
use Rattle.tsdb_base.specs.Points.{IsRising}
use Rattle.tsdb_path.specs.Nodes.{device_of, measurement_of}

-- the series is one of the schema
of_schema : (schema : Schema) (points : List Point) (filled : Filled) → Among filled (if_any schema points)
    → schema ≡ filled.schema
of_schema schema [] filled there = absurd there
of_schema schema (point ∷ points) filled (inl is) = ap (λ (f : Filled). f.schema) is
of_schema schema (point ∷ points) filled (inr there) = absurd there

module _ (space : Space) (pair : Pair) where
  -- what holds of each schema holds of that of each series of the part
  each_schema : (P : Schema → Type 0) (schemas : List Schema) (numbers : List SeriesId) → Each P schemas
      → Each (λ (filled : Filled). P filled.schema) (filled_part space pair schemas numbers)
  each_schema P [] numbers all = tt
  each_schema P (schema ∷ schemas) [] all = tt
  each_schema P (schema ∷ schemas) (number ∷ numbers) all =
      each_append (λ (filled : Filled). P filled.schema) (if_any schema (points_of space number.0 pair))
      (filled_part space pair schemas numbers)
      (each_from_among _ (if_any schema (points_of space number.0 pair)) (λ filled there.
      subst P (of_schema schema (points_of space number.0 pair) filled there) all.0))
      (each_schema P schemas numbers all.1)

  one_at_most : (R : Filled → Filled → Type 0) (schema : Schema) (points : List Point) → EachPair R (if_any schema
      points)
  one_at_most R schema [] = tt
  one_at_most R schema (point ∷ points) = (tt, tt)

  each_two : (R : Schema → Schema → Type 0) (schemas : List Schema) (numbers : List SeriesId) → EachPair R schemas
      → EachPair (λ (a b : Filled). R a.schema b.schema) (filled_part space pair schemas numbers)
  each_two R [] numbers all = tt
  each_two R (schema ∷ schemas) [] all = tt
  each_two R (schema ∷ schemas) (number ∷ numbers) all =
      pairs_append (λ (a b : Filled). R a.schema b.schema) (if_any schema (points_of space number.0 pair))
      (filled_part space pair schemas numbers)
      (one_at_most (λ (a b : Filled). R a.schema b.schema) schema (points_of space number.0 pair))
      (each_two R schemas numbers all.1)
      (λ a b left right. subst (λ (s : Schema). R s b.schema)
      (of_schema schema (points_of space number.0 pair) a left)
      (each_among (λ (filled : Filled). R schema filled.schema) (filled_part space pair schemas numbers) b
      (each_schema (R schema) schemas numbers all.0) right))

  one_series : (schema : Schema) (points : List Point) → IsSchema schema → IsRising points
      → Each IsFilledSeries (if_any schema points)
  one_series schema [] formed rising = tt
  one_series schema (point ∷ points) formed rising = (
    record { nodes = omega (arith, formed.series); some = omega arith; rising = rising },
    tt,
  )

  are_series : (schemas : List Schema) (numbers : List SeriesId) → Each IsSchema schemas
      → ((number : ℕ) → IsRising (points_of space number pair))
      → Each IsFilledSeries (filled_part space pair schemas numbers)
  are_series [] numbers formed rising = tt
  are_series (schema ∷ schemas) [] formed rising = tt
  are_series (schema ∷ schemas) (number ∷ numbers) formed rising =
      each_append IsFilledSeries (if_any schema (points_of space number.0 pair)) (filled_part space pair schemas numbers)
      (one_series schema (points_of space number.0 pair) formed.0 (rising number.0))
      (are_series schemas numbers formed.1 rising)

  not_empty : (part : List Filled) → part ≢ [] → 0 < length part
  not_empty [] some = absurd (some refl)
  not_empty (filled ∷ part) some = omega arith

  pub is_part : (schemas : List Schema) (numbers : List SeriesId) → Each IsSchema schemas
      → EachPair (λ a b. AreNamesBefore (schema_names a) (schema_names b)) schemas
      → ((number : ℕ) → IsRising (points_of space number pair)) → filled_part space pair schemas numbers ≢ []
      → IsPart (filled_part space pair schemas numbers)
  is_part schemas numbers formed rise rising some = record {
    some = not_empty (filled_part space pair schemas numbers) some;
    each = are_series schemas numbers formed rising;
    differ = apart (filled_part space pair schemas numbers)
        (each_two (λ a b. AreNamesBefore (schema_names a) (schema_names b)) schemas numbers rise);
  }
    where
      apart : (part : List Filled) → EachPair (λ (a b : Filled). AreNamesBefore (schema_names a.schema) (schema_names b.schema)) part
          → EachPair (λ (a b : Filled). a.schema.path ≢ b.schema.path) part
      apart [] all = tt
      apart (filled ∷ part) all = (
        each_weaker (λ (b : Filled). AreNamesBefore (schema_names filled.schema) (schema_names b.schema))
            (λ b. filled.schema.path ≢ b.schema.path)
            (λ b before same. not_itself (schema_names b.schema)
            (subst (λ (path : List ℕ). AreNamesBefore (device_of path, measurement_of path) (schema_names b.schema)) same before))
            part all.0,
        apart part all.1,
      )
