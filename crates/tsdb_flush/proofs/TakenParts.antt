-- Whether a part of a job has a point.
use Rattle.std.proofs.Common.{◌≡◌, ◌≢◌, ◌⊎◌, ⊎_elim, ℕ, suc, ◌<◌, ◌==◌, Bool, true, false, nat_lt, not, ne_eqb, List, [], ◌∷◌}
use Rattle.std.proofs.Common.{◌++◌, length, map, None, Option, Some, refl, sym, ap, subst, ◌∙◌, inl, inr, arith}
use Rattle.std.specs.Prelude.{◌||◌}
use Rattle.std.specs.List.{AllByRecursion as Each, AllZip, list_any}
use Rattle.std.proofs.lemmas.Bool.{false≢true}
use Rattle.std.proofs.lemmas.Bool.Decides.{nat_tests}
use Rattle.tsdb_base.specs.declared.ids.FileNumber.{FileNumber}
use Rattle.tsdb_base.specs.declared.ids.SeriesId.{SeriesId}
use Rattle.tsdb_base.specs.declared.ids.Space.{Space}
use Rattle.tsdb_base.specs.declared.ids.Space.TheVariants.{Sequence, Unsequence}
use Rattle.tsdb_base.specs.declared.point.Point.{Point}
use Rattle.tsdb_flush.specs.TakingSteps.{IsSeriesOf, has_points, pair_points_in, schema_in}
use Rattle.tsdb_flush.specs.declared.series.PairSeries.{PairSeries}
use Rattle.tsdb_flush.specs.BuiltParts.{IsJobOf}
use Rattle.tsdb_flush.specs.Parts.{Filled, IsNumberDrawnFor, if_any, filled_part}
use Rattle.tsdb_base.specs.Lists.{Among, if_some}
use Rattle.tsdb_memory.proofs.Emptiness.{filled_by}
use Rattle.tsdb_memory.specs.Fits.{HasNoPairPoint}
use Rattle.tsdb_memory.specs.StateOfMemory.{TellsSpaceFilled, number_of}
use Rattle.tsdb_model.specs.declared.command.Schema.{Schema}
use Rattle.tsdb_memtable.specs.Pairs.{HasRisingSeries, Pair, space_count, points_of}

neither : (a b : Bool) → (a || b) ≡ false → (a ≡ false) × (b ≡ false)
neither true b is = absurd (false≢true (sym is))
neither false b is = (refl, is)

one_of : (a b : Bool) → (a || b) ≡ true → (a ≡ true) ⊎ (b ≡ true)
one_of true b is = inl refl
one_of false b is = inr is

-- a series with a point is in the part
here : (schema : Schema) (points : List Point) (rest : List Filled) → 0 < length points → if_any schema points ++ rest ≢ []
here schema [] rest some = absurd (omega (arith, some))
here schema (point ∷ points) rest some = λ empty. cc

behind : (schema : Schema) (points : List Point) (rest : List Filled) → if_any schema points ++ rest ≡ [] → rest ≡ []
behind schema [] rest empty = empty
behind schema (point ∷ points) rest empty = absurd (cc)

-- ---- the parts of series with their points

module _ (all : List Schema) (space : Space) (pair : Pair) where
  abbrev part_with : List PairSeries → List Filled
  part_with series = filled_part space pair (map schema_in series) (map (λ (one : PairSeries). one.id) series)

  no_points : (points : List Point) → not (length points == 0) ≡ false → points ≡ []
  no_points [] is = refl
  no_points (point ∷ points) is = absurd (false≢true (sym is ∙ ap not (ne_eqb (suc (length points)) 0 (λ zero. omega (arith, zero)))))

  some_points : (points : List Point) → not (length points == 0) ≡ true → 0 < length points
  some_points [] is = absurd (false≢true is)
  some_points (point ∷ points) is = omega arith

  -- no point, no part
  pub none_part : (series : List PairSeries) → Each (IsSeriesOf all pair) series → list_any (has_points space) series ≡ false → part_with series ≡ []
  none_part [] each none = refl
  none_part (one ∷ series) each none =
      let both = neither (has_points space one) (list_any (has_points space) series) none in
      let empty : points_of space one.id.0 pair ≡ [] = sym (each.0.points space) ∙ no_points (pair_points_in space one) both.0 in
      ap (λ (l : List Point). if_any (schema_in one) l ++ part_with series) empty ∙ none_part series each.1 both.1

  -- a point, a part
  pub some_part : (series : List PairSeries) → Each (IsSeriesOf all pair) series → list_any (has_points space) series ≡ true → part_with series ≢ []
  some_part [] each some = absurd (false≢true some)
  some_part (one ∷ series) each some =
      ⊎_elim (λ (is : has_points space one ≡ true). here (schema_in one) (points_of space one.id.0 pair) (part_with series) (subst (λ (l : List Point). 0 < length l) (each.0.points space) (some_points (pair_points_in space one) is)))
      (λ (is : list_any (has_points space) series ≡ true) empty. some_part series each.1 is (behind (schema_in one) (points_of space one.id.0 pair) (part_with series) empty)) (one_of (has_points space one) (list_any (has_points space) series) some)

-- a point of a part
pub record SomePointOf (part : List Filled) : Type 0 where
  pub filled : Filled
  pub in_part : Among filled part
  pub point : Point
  pub in_series : Among point filled.points

first : (schema : Schema) (points : List Point) (rest : List Filled) → (rest ≢ [] → SomePointOf rest) → if_any schema points ++ rest ≢ [] → SomePointOf (if_any schema points ++ rest)
first schema [] rest other some = other some
first schema (point ∷ points) rest other some = record { filled = record { schema = schema; points = point ∷ points }; in_part = inl refl; point = point; in_series = inl refl }

pub point_of : (space : Space) (pair : Pair) (schemas : List Schema) (numbers : List SeriesId) → filled_part space pair schemas numbers ≢ [] → SomePointOf (filled_part space pair schemas numbers)
point_of space pair [] numbers some = absurd (some refl)
point_of space pair (schema ∷ schemas) [] some = absurd (some refl)
point_of space pair (schema ∷ schemas) (id ∷ numbers) some =
    first schema (points_of space id.0 pair) (filled_part space pair schemas numbers) (point_of space pair schemas numbers) some

-- a series of the job with a point is in the part
part_there : (all : List Schema) (space : Space) (pair : Pair) (schemas : List Schema) (numbers : List SeriesId)
    → AllZip (λ (schema : Schema) (number : SeriesId). number_of all schema.path ≡ Some number.0) schemas numbers
    → (n : ℕ) → Among n (map (λ (id : SeriesId). id.0) numbers) → 0 < length (points_of space n pair) → filled_part space pair schemas numbers ≡ [] → ⊥
part_there all space pair [] [] zip n among some empty = absurd among
part_there all space pair [] (id ∷ numbers) zip n among some empty = absurd zip
part_there all space pair (schema ∷ schemas) [] zip n among some empty = absurd zip
part_there all space pair (schema ∷ schemas) (id ∷ numbers) zip n (inl is) some empty =
    here schema (points_of space id.0 pair) (filled_part space pair schemas numbers)
    (subst (λ k. 0 < length (points_of space k pair)) (sym is) some) empty
part_there all space pair (schema ∷ schemas) (id ∷ numbers) zip n (inr among) some empty =
    part_there all space pair schemas numbers zip.1 n among some
    (behind schema (points_of space id.0 pair) (filled_part space pair schemas numbers) empty)

some_among : (point : Point) (points : List Point) → Among point points → 0 < length points
some_among point [] among = absurd among
some_among point (p ∷ points) among = omega arith

nothing : (n : ℕ) → nat_lt 0 n ≡ false → n ≡ 0
nothing n e = grind (arith, nat_tests)

-- where a space has no part, the pair has no point there
none_there : (all : List Schema) (space : Space) (pair : Pair) (schemas : List Schema) (numbers : List SeriesId)
    → HasRisingSeries pair → IsJobOf all pair schemas numbers → filled_part space pair schemas numbers ≡ []
    → space_count space pair ≡ 0
none_there all space pair schemas numbers rising is empty =
    by (nat_lt 0 (space_count space pair)) refl (filled_by space pair (space_count space pair) rising refl)
  where
    by : (b : Bool) → nat_lt 0 (space_count space pair) ≡ b → TellsSpaceFilled b space pair → space_count space pair ≡ 0
    by true e some =
        let points = some_among some.point (points_of space some.number pair) some.among in
        absurd (part_there all space pair schemas numbers is.numbered some.number (is.whole space some.number points) points
        empty)
    by false e none = nothing (space_count space pair) e

-- a pair with a point has a part, for which a number is drawn
pub some_drawn : (all : List Schema) (pair : Pair) (schemas : List Schema) (numbers : List SeriesId)
    → HasRisingSeries pair → ¬ HasNoPairPoint pair → IsJobOf all pair schemas numbers → (s u : Option FileNumber)
    → IsNumberDrawnFor s (filled_part Sequence pair schemas numbers) → IsNumberDrawnFor u (filled_part Unsequence pair schemas numbers)
    → 0 < length (map (λ (file : FileNumber). file.0) (if_some s ++ if_some u))
some_drawn all pair schemas numbers rising some is (Some s) u first second = omega arith
some_drawn all pair schemas numbers rising some is None (Some u) first second = omega arith
some_drawn all pair schemas numbers rising some is None None first second = absurd (some (
  none_there all Sequence pair schemas numbers rising is first,
  none_there all Unsequence pair schemas numbers rising is second,
))
