-- The points that the sources of a column have in a range are those of its series in a world.
use Rattle.std.proofs.Common.{◌≡◌, ℕ, ℤ, Bool, true, false, cond, ◌&&◌, List, [], ◌∷◌, ◌⊎◌, inl, inr, map, Option, None, Some}
use Rattle.std.proofs.Common.{refl, sym, ap, subst, ◌∙◌, arith}
use Rattle.std.specs.Prelude.{◌<ℤ◌, Contains, filter, find}
use Rattle.std.specs.FinMap.{get, retain_keys, get-retain_keys}
use Rattle.std.specs.List.{AllByRecursion as Each, AllZip}
use Rattle.std.specs.Option.{option_map, option_or}
use Rattle.std.specs.Ordering.{int_eq, is_eq}
use Rattle.std.proofs.lemmas.Bool.{false≢true}
use Rattle.std.proofs.lemmas.Int.{ints}
use Rattle.std.proofs.lemmas.List.Elements.{All-contains, filter_passes}
use Rattle.std.proofs.lemmas.Map.Lookups.{exact_signed}
use Rattle.tsdb_aggregate.proofs.ListFacts.{Contains-filter, Contains-from_filter}
use Rattle.tsdb_base.specs.declared.point.Point.{Point}
use Rattle.tsdb_base.specs.declared.point.Range.{Range}
use Rattle.tsdb_base.specs.declared.value.Value.{Value}
use Rattle.tsdb_state.proofs.LayerLemmas.Places.{is_place}
use Rattle.tsdb_state.specs.Layers.{Layer, survivor, value_in}
use Rattle.tsdb_state.specs.Marks.{survives}
use Rattle.tsdb_state.specs.Places.{PointPlace}
use Rattle.tsdb_pins.proofs.Lines as lines
use Rattle.tsdb_model.specs.Folds.{in_order, within}
use Rattle.tsdb_model.specs.World as world
use Rattle.tsdb_model.specs.World.{PointMap, World, is_in}
use Rattle.tsdb_marks.specs.declared.marks.Mark.{Mark}
use Rattle.tsdb_memory.specs.StateOfMemory.{point_value_at}
use Rattle.tsdb_merge.proofs.MergeLemmas.{AllPairs-head, AllPairs-tail, Contains-cases, Contains-head, Contains-nil, Contains-tail, same_points}
use Rattle.tsdb_base.specs.Points.{IsRising}
use Rattle.tsdb_merge.specs.Winners.{IsMergeOf}
use Rattle.tsdb_pins.specs.Worlds.{HasPointsOf, IsSourceOf, born_of, kept_of, series_points}
use Rattle.tsdb_streams.specs.KeptPoints.{is_kept}
use Rattle.tsdb_pin.specs.StateOfPin.{ArePointsOf, IsColumnOf, IsPinOf, IsShownAs}
use Rattle.tsdb_pin.specs.declared.pin.Column.{Column}
use Rattle.tsdb_pin.specs.declared.pin.Pin.{Pin}
use Rattle.tsdb_pin.specs.declared.pin.PinnedSource.{PinnedSource}
use Rattle.tsdb_pin.specs.declared.pin.PinnedSource.TheVariants.{File, Part}
use Rattle.tsdb_streams.proofs.Sources.{merge_all, merge_values}
use Rattle.tsdb_streams.specs.Survivors.{AreSurvivors, place_at}
use Rattle.tsdb_state.specs.State as state
use Rattle.tsdb_state.specs.State.{FromFile, FromPart, ToldContents}
use Rattle.tsdb_state.specs.Steps.{PinStandsFor, source_layer}

-- ---- a value at a time, and a point of a list

same_time : (a b : ℤ) → int_eq a b ≡ true → a ≡ b
same_time a b h = grind (arith, ints)

time_itself : (a : ℤ) → int_eq a a ≡ true
time_itself a = grind (arith, ints)

other_time : (a b : ℤ) → b <ℤ a → int_eq a b ≡ false
other_time a b h = grind (arith, ints)

same_some : {A : Type 0} (a b : A) → Some a ≡ Some b → a ≡ b
same_some a b e = cc

none_some : {A : Type 0} (a : A) → None ≡ Some a → ⊥
none_some a e = absurd cc

pub has_value : (points : List Point) (point : Point) → IsRising points → Contains points point → point_value_at point.time points ≡ Some point.value
has_value [] point rising has = absurd (Contains-nil point has)
has_value (p ∷ points) point rising has =
    by (Contains-cases p point points has) (λ h. has_value points point (AllPairs-tail (λ (a b : Point). a.time <ℤ b.time) p points rising) h)
  where
    value : Bool → Option Value
    value b = option_map (λ (q : Point). q.value) (cond b (Some p) (find (λ (q : Point). int_eq point.time q.time) points))

    by : (p ≡ point) ⊎ Contains points point → (Contains points point → point_value_at point.time points ≡ Some point.value) → point_value_at point.time (p ∷ points) ≡ Some point.value
    by (inl is) rest = ap value (ap (λ (q : Point). int_eq point.time q.time) is ∙ time_itself point.time) ∙ ap (λ (q : Point). Some q.value) is
    by (inr there) rest = ap value (other_time point.time p.time (All-contains (λ (b : Point). p.time <ℤ b.time) points point (AllPairs-head (λ (a b : Point). a.time <ℤ b.time) p points rising) there)) ∙ rest there

pub of_value : (points : List Point) (time : ℤ) (found : Value) → point_value_at time points ≡ Some found → Contains points (record { time = time; value = found })
of_value [] time found e = absurd (none_some found e)
of_value (p ∷ points) time found e = by (int_eq time p.time) refl e (λ f. of_value points time found f)
  where
    by : (b : Bool) → int_eq time p.time ≡ b → option_map (λ (q : Point). q.value) (cond b (Some p) (find (λ (q : Point). int_eq time q.time) points)) ≡ Some found
        → (point_value_at time points ≡ Some found → Contains points (record { time = time; value = found })) → Contains (p ∷ points) (record { time = time; value = found })
    by true at e rest =
        let here : p ≡ record { time = time; value = found } =
        ap (λ (t : ℤ). record { time = t; value = p.value }) (sym (same_time time p.time at)) ∙ ap (λ (v : Value). record { time = time; value = v }) (same_some p.value found e) in
        subst (λ z. Contains (p ∷ points) z) here (Contains-head p points)
    by false at e rest = Contains-tail p (record { time = time; value = found }) points (rest e)

-- ---- layers in a range

module _ (range : Range) where
  abbrev pub restricted : Layer → Layer
  restricted layer = record { born = layer.born; content = retain_keys layer.content (λ place. is_in range place.time) }

  pub survivor_in : (marks : List Mark) (place : PointPlace) (layer : Layer) → survivor marks place (restricted layer) ≡ cond (is_in range place.time) (survivor marks place layer) None
  survivor_in marks place layer =
      ap (λ v. cond (survives marks place layer.born) v None)
      (get-retain_keys layer.content (λ (p : PointPlace). is_in range p.time) place (λ x e. ap (λ (p : PointPlace). is_in range p.time) (sym (is_place place x (ap is_eq e)))))
      ∙ swap (survives marks place layer.born) (is_in range place.time) (get layer.content place)
    where
      swap : (a b : Bool) (o : Option Value) → cond a (cond b o None) None ≡ cond b (cond a o None) None
      swap true true o = refl
      swap true false o = refl
      swap false true o = refl
      swap false false o = refl

  pub value_restricted : (marks : List Mark) (place : PointPlace) (layers : List Layer) → value_in marks place (map restricted layers) ≡ cond (is_in range place.time) (value_in marks place layers) None
  value_restricted marks place [] = none (is_in range place.time)
    where
      none : (b : Bool) → (◌≡◌ {A = Option Value} None (cond b None None))
      none true = refl
      none false = refl
  value_restricted marks place (layer ∷ layers) =
      ap (λ v. option_or v (survivor marks place (restricted layer))) (value_restricted marks place layers)
      ∙ ap (λ v. option_or (cond (is_in range place.time) (value_in marks place layers) None) v) (survivor_in marks place layer)
      ∙ both (is_in range place.time) (value_in marks place layers) (survivor marks place layer)
    where
      both : (b : Bool) (v w : Option Value) → option_or (cond b v None) (cond b w None) ≡ cond b (option_or v w) None
      both true v w = refl
      both false v w = refl

  in_some : (b : Bool) (o : Option Value) (v : Value) → cond b o None ≡ Some v → (b ≡ true) × (o ≡ Some v)
  in_some true o v e = (refl, e)
  in_some false o v e = absurd (none_some v e)

  of_and : (a b : Bool) → (a && b) ≡ true → (a ≡ true) × (b ≡ true)
  of_and true b e = (refl, e)
  of_and false b e = absurd (false≢true e)

  -- the kept points of a source are what survives of its layer in the range
  pub kept_survive : (marks : List Mark) (path : List ℕ) (layer : Layer) (born : ℕ) (points : List Point) → layer.born ≡ born → ArePointsOf path points layer.content
      → AreSurvivors marks path (restricted layer) (filter (is_kept path range marks born) points)
  kept_survive marks path layer born points same are = record { has = λ time value. (into time value, back time value) }
    where
      into : (time : ℤ) (value : Value) → Contains (filter (is_kept path range marks born) points) (record { time = time; value = value }) → survivor marks (place_at path time) (restricted layer) ≡ Some value
      into time value has =
          let point : Point = record { time = time; value = value } in
          let kept = of_and (is_in range time) (survives marks (place_at path time) born)
          (All-contains (λ (p : Point). is_kept path range marks born p ≡ true) (filter (is_kept path range marks born) points) point (filter_passes (is_kept path range marks born) points) has) in
          let there : get layer.content (place_at path time) ≡ Some value = sym (are.are time) ∙ has_value points point are.rising (Contains-from_filter (is_kept path range marks born) points point has) in
          survivor_in marks (place_at path time) layer
          ∙ ap (λ b. cond b (survivor marks (place_at path time) layer) None) kept.0
          ∙ ap (λ b. cond b (get layer.content (place_at path time)) None) (ap (survives marks (place_at path time)) same ∙ kept.1)
          ∙ there

      back : (time : ℤ) (value : Value) → survivor marks (place_at path time) (restricted layer) ≡ Some value → Contains (filter (is_kept path range marks born) points) (record { time = time; value = value })
      back time value e =
          let inside = in_some (is_in range time) (survivor marks (place_at path time) layer) value (sym (survivor_in marks (place_at path time) layer) ∙ e) in
          let alive = in_some (survives marks (place_at path time) layer.born) (get layer.content (place_at path time)) value inside.1 in
          Contains-filter (is_kept path range marks born) points (record { time = time; value = value })
          (of_value points time value (are.are time ∙ alive.1))
          (ap (λ b. b && survives marks (place_at path time) born) inside.0 ∙ ap (survives marks (place_at path time)) (sym same) ∙ alive.0)

-- ---- the points of a series in a range

within_is : (range : Range) (points : PointMap) (t : ℤ) → get (within range points) t ≡ cond (is_in range t) (get points t) None
within_is range points t = get-retain_keys points (is_in range) t (λ x e. ap (is_in range) (sym (exact_signed t x e)))

-- a merge that has the values of the series at the times in the range
pub same_series : (marks : List Mark) (path : List ℕ) (range : Range) (layers : List Layer) (lists : List (List Point)) (points : List Point) (all : World)
    → AllZip (AreSurvivors marks path) (map (restricted range) layers) lists
    → ((time : ℤ) → is_in range time ≡ true → world.value_at all path time ≡ value_in marks (place_at path time) layers)
    → IsMergeOf lists points → points ≡ in_order (series_points all range path)
same_series marks path range layers lists points all zip stands merge =
    same_points points (in_order (series_points all range path)) merge.rising (lines.in_order_rising (series_points all range path)) into back
  where
    series : PointMap
    series = world.points_of_series (get all path)

    into : (p : Point) → Contains points p → Contains (in_order (series_points all range path)) p
    into p has =
        let value = All-contains (λ (point : Point). value_in marks (place_at path point.time) (map (restricted range) layers) ≡ Some point.value) points p (merge_values marks path (map (restricted range) layers) lists points zip merge) has in
        let inside = in_some range (is_in range p.time) (value_in marks (place_at path p.time) layers) p.value (sym (value_restricted range marks (place_at path p.time) layers) ∙ value) in
        of_value (in_order (series_points all range path)) p.time p.value
        (lines.value_is p.time (series_points all range path) ∙ within_is range series p.time ∙ ap (λ b. cond b (get series p.time) None) inside.0 ∙ stands p.time inside.0 ∙ inside.1)

    back : (p : Point) → Contains (in_order (series_points all range path)) p → Contains points p
    back p has =
        let value : get (series_points all range path) p.time ≡ Some p.value = sym (lines.value_is p.time (series_points all range path)) ∙ has_value (in_order (series_points all range path)) p (lines.in_order_rising (series_points all range path)) has in
        let inside = in_some range (is_in range p.time) (get series p.time) p.value (sym (within_is range series p.time) ∙ value) in
        merge_all marks path (map (restricted range) layers) lists points zip merge p.time p.value
        (value_restricted range marks (place_at path p.time) layers ∙ ap (λ b. cond b (value_in marks (place_at path p.time) layers) None) inside.0 ∙ sym (stands p.time inside.0) ∙ inside.1)

-- ---- the columns of a pin

module _ {F S R P : Type 0} (told : ToldContents) (path : List ℕ) (range : Range) (marks : List Mark) where
  one_source : (source : PinnedSource F S R P) (shown : state.SourceState) (points : List Point) → IsShownAs path source shown → IsSourceOf told path source points
      → AreSurvivors marks path (restricted range (source_layer told shown)) (filter (is_kept path range marks (born_of source)) points)
  one_source (File number born right) (FromFile file) points shown is =
      kept_survive range marks path (source_layer told (FromFile file)) born.0 points shown.1 (subst (λ n. ArePointsOf path points (told n)) (sym shown.0) is)
  one_source (File number born right) (FromPart layer) points shown is = absurd shown
  one_source (Part born copies) (FromFile file) points shown is = absurd shown
  one_source (Part born copies) (FromPart layer) points shown is =
      kept_survive range marks path layer born.0 points shown.0 (subst (λ l. ArePointsOf path l layer.content) (sym is) shown.1)

  pub all_sources : (sources : List (PinnedSource F S R P)) (shown : List state.SourceState) (lists : List (List Point)) → AllZip (IsShownAs path) sources shown → AllZip (IsSourceOf told path) sources lists
      → AllZip (AreSurvivors marks path) (map (restricted range) (map (source_layer told) shown)) (kept_of path range marks sources lists)
  all_sources [] [] [] zip are = tt
  all_sources [] [] (points ∷ lists) zip are = absurd are
  all_sources [] (s ∷ shown) lists zip are = absurd zip
  all_sources (source ∷ sources) [] lists zip are = absurd zip
  all_sources (source ∷ sources) (s ∷ shown) [] zip are = absurd are
  all_sources (source ∷ sources) (s ∷ shown) (points ∷ lists) zip are = (one_source source s points zip.0 are.0, all_sources sources shown lists zip.1 are.1)

-- the sources of the column have the world's value at each time in the range
abbrev StandsAt : ToldContents → World → Range → List Mark → state.ColumnState → Type 0
StandsAt told all range marks column = (time : ℤ) → is_in range time ≡ true
    → world.value_at all column.path time ≡ value_in marks (record { path = column.path; time = time }) (map (source_layer told) column.sources)

module _ {F S R P : Type 0} (told : ToldContents) (all : World) where
  one_column : (range : Range) (marks : List Mark) (column : Column F S R P) (shown : state.ColumnState) → IsColumnOf column shown → StandsAt told all range marks shown → HasPointsOf told all range marks column
  one_column range marks column shown is stands lists points are merge =
      same_series marks column.schema.path range (map (source_layer told) shown.sources) (kept_of column.schema.path range marks column.sources lists) points all
      (all_sources told column.schema.path range marks column.sources shown.sources lists is.sources are)
      (subst (λ p. (time : ℤ) → is_in range time ≡ true → world.value_at all p time ≡ value_in marks (place_at p time) (map (source_layer told) shown.sources)) is.path stands)
      merge

  pub all_columns : (range : Range) (marks : List Mark) (columns : List (Column F S R P)) (shown : List state.ColumnState) → AllZip IsColumnOf columns shown → Each (StandsAt told all range marks) shown
      → Each (HasPointsOf told all range marks) columns
  all_columns range marks [] [] zip stands = tt
  all_columns range marks [] (s ∷ shown) zip stands = absurd zip
  all_columns range marks (column ∷ columns) [] zip stands = absurd zip
  all_columns range marks (column ∷ columns) (s ∷ shown) zip stands = (one_column range marks column s zip.0 stands.0, all_columns range marks columns shown zip.1 stands.1)

  pub pin_has : (pin : Pin F S R P) (shown : state.PinState) → IsPinOf pin shown → PinStandsFor told shown all → Each (HasPointsOf told all pin.range pin.marks.marks) pin.columns
  pin_has pin shown is stands = all_columns pin.range pin.marks.marks pin.columns shown.columns is.columns
      (subst (λ (m : List Mark). Each (StandsAt told all pin.range m) shown.columns) is.marks (subst (λ (r : Range). Each (StandsAt told all r shown.marks) shown.columns) is.range stands))
