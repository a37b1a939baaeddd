-- The points of a series, given to a builder one after another.
use Rattle.std.proofs.Common.{◌≡◌, ℕ, suc, ◌+◌, ◌<◌, ◌≤◌, List, [], ◌∷◌, ◌++◌, length, get_or, take, map, sym, ap, ◌∙◌, subst, take-suc, get_or-take, length-take-le, take_all, arith}
use Rattle.std.specs.Prelude.{◌<ℤ◌, All}
use Rattle.std.specs.List.{AllByRecursion as Each}
use Rattle.std.proofs.lemmas.List.{get_or_default}
use Rattle.std.proofs.lemmas.List.Elements.{All-from_recursion}
use Rattle.tsdb_base.specs.declared.point.Point.{Point}
use Rattle.tsdb_base.specs.Values.{type_of}
use Rattle.tsdb_flush.specs.MakingSteps.{HaveBegun, filled_with}
use Rattle.tsdb_flush.proofs.Trees.{given_last, given_more}
use Rattle.tsdb_flush.specs.Parts.{Filled, builder_series}
use Rattle.tsdb_base.proofs.Lists.{each_append}
use Rattle.tsdb_model.specs.declared.command.Schema.{Schema}
use Rattle.tsdb_base.specs.Points.{IsRising}
use Rattle.tsfile_writer.specs.Pages.{IsInRange}
use Rattle.tsfile_writer.specs.Building.{WasGiven}
use Rattle.tsfile_writer.specs.BuilderInput.{MayTake, GivenSeries, with_last_point}
use Rattle.tsfile_writer.specs.declared.builder.Builder.{Builder}

-- the builder was given the first points of the last series
pub record IsFilling (old : Builder) (points : List Point) (place : ℕ) (builder : Builder) : Type 0 where
  pub step : (part : List Filled) (schema : Schema) → WasGiven old (map builder_series (part ++ filled_with schema [] ∷ [])) → WasGiven builder (map builder_series (part ++ filled_with schema (take place points) ∷ []))
  pub in_range : Each IsInRange (take place points)

pub filling_begins : (builder : Builder) (points : List Point) → IsFilling builder points 0 builder
filling_begins builder points = record { step = λ part schema was. was; in_range = tt }

pub filling_more : (old builder new : Builder) (points : List Point) (place : ℕ) (point : Point) → place < length points → get_or points place point ≡ point → IsInRange point
    → ((front : List GivenSeries) (last : GivenSeries) → WasGiven builder (front ++ last ∷ []) → WasGiven new (front ++ with_last_point point last ∷ [])) → IsFilling old points place builder → IsFilling old points (place + 1) new
filling_more old builder new points place point lt at in_range put filling =
    let next : suc place ≡ place + 1 = omega arith in
    let more : take (place + 1) points ≡ take place points ++ point ∷ [] = ap (λ (n : ℕ). take n points) (sym next) ∙ take-suc points place point lt ∙ ap (λ (p : Point). take place points ++ p ∷ []) at in
    record {
      step = λ part schema was. subst (λ (l : List Point). WasGiven new (map builder_series (part ++ filled_with schema l ∷ []))) (sym more)
          (given_more new part (filled_with schema (take place points ++ point ∷ []))
          (put (map builder_series part) (builder_series (filled_with schema (take place points))) (given_last builder part (filled_with schema (take place points)) (filling.step part schema was))));
      in_range = subst (Each IsInRange) (sym more) (each_append IsInRange (take place points) (point ∷ []) filling.in_range (in_range, tt));
    }

-- the next point may be given to the last series
pub next_may_be_put : (old builder : Builder) (points : List Point) (place : ℕ) (point : Point) → place < length points → get_or points place point ≡ point → IsRising points → HaveBegun old points → IsFilling old points place builder
    → (front : List GivenSeries) × (last : GivenSeries) × WasGiven builder (front ++ last ∷ []) × MayTake point last
next_may_be_put old builder points place point lt at rising begun filling =
    let series = builder_series (filled_with begun.schema (take place points)) in
    let typed : type_of point.value ≡ begun.schema.data_type = subst (λ (p : Point). type_of p.value ≡ begun.schema.data_type) at (All-from_recursion (λ (p : Point). type_of p.value ≡ begun.schema.data_type) points begun.typed place point lt) in
    let later : All (λ before. before.time <ℤ point.time) (take place points) = λ k d less.
    let within : k < place = omega (arith, less, length-take-le place points (omega (arith, lt))) in
    subst (λ (p : Point). p.time <ℤ point.time) (sym (get_or-take place points k d within))
    (subst (λ (p : Point). (get_or points k d).time <ℤ p.time) (get_or_default points place d point lt ∙ at) (rising k place d within lt)) in
    (map builder_series begun.part, series, given_last builder begun.part (filled_with begun.schema (take place points)) (filling.step begun.part begun.schema begun.given), record { typed = typed; later = later })

pub filled : (old builder : Builder) (points : List Point) (place : ℕ) → length points ≤ place → IsFilling old points place builder
    → ((part : List Filled) (schema : Schema) → WasGiven old (map builder_series (part ++ filled_with schema [] ∷ [])) → WasGiven builder (map builder_series (part ++ filled_with schema points ∷ []))) × Each IsInRange points
filled old builder points place behind filling =
    let whole : take place points ≡ points = take_all place points behind in
    (λ part schema was. subst (λ (l : List Point). WasGiven builder (map builder_series (part ++ filled_with schema l ∷ []))) whole (filling.step part schema was), subst (Each IsInRange) whole filling.in_range)
