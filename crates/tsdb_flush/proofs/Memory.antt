-- A part of a job has the points that a content of the pair in memory has.
use Rattle.std.proofs.Common.{◌≡◌, ℕ, suc, ◌<◌, ℤ, true, false, cond, List, [], ◌∷◌, length, get_or, map, Option, None, Some, inl, inr, ⊎_elim, refl, sym, ap, ◌∙◌, subst, arith}
use Rattle.std.specs.Prelude.{◌<ℤ◌, IsSome, find as find_first}
use Rattle.std.specs.List.{AllZip}
use Rattle.std.specs.Option.{option_and_then, option_map}
use Rattle.std.specs.Ordering.{int_eq}
use Rattle.std.proofs.lemmas.Bool.{false≢true}
use Rattle.std.proofs.lemmas.Int.{ints}
use Rattle.tsdb_base.specs.declared.ids.SeriesId.{SeriesId}
use Rattle.tsdb_base.specs.declared.ids.Space.{Space}
use Rattle.tsdb_base.specs.declared.point.Point.{Point}
use Rattle.tsdb_base.specs.declared.value.Value.{Value}
use Rattle.tsdb_flush.specs.BuiltParts.{HasPartPoint, IsContentOfPart, IsJobOf}
use Rattle.tsdb_flush.specs.Parts.{Filled, if_any, filled_part}
use Rattle.tsdb_base.proofs.Lists.{among_left, among_right}
use Rattle.tsdb_base.specs.Lists.{Among}
use Rattle.tsdb_memory.specs.Places.{Content, PointPlace}
use Rattle.tsdb_model.specs.declared.command.Schema.{Schema}
use Rattle.tsdb_memory.proofs.Counts.{among_either}
use Rattle.tsdb_memory.proofs.Frozen.{point_at}
use Rattle.tsdb_memory.proofs.Numbers.{schema_at, some_same}
use Rattle.tsdb_memory.specs.StateOfMemory.{IsPairContent, number_of, point_value_at}
use Rattle.tsdb_memtable.specs.Pairs.{Pair, points_of}
use Rattle.tsdb_base.specs.Points.{IsRising}

-- ---- the value at a point's time

time_itself : (a : ℤ) → int_eq a a ≡ true
time_itself a = grind (arith, ints)

other_time : (a b : ℤ) → b <ℤ a → int_eq a b ≡ false
other_time a b less = grind (arith, ints)

later : (first : Point) (points : List Point) (k : ℕ) (point : Point) → IsRising (first ∷ points) → k < length points → get_or points k point ≡ point → first.time <ℤ point.time
later first points k point rising within at = subst (λ (p : Point). first.time <ℤ p.time) at (rising 0 (suc k) point (omega arith) (omega (arith, within)))

rest_rising : (first : Point) (points : List Point) → IsRising (first ∷ points) → IsRising points
rest_rising first points rising = λ i j d less within. rising (suc i) (suc j) d (omega (arith, less)) (omega (arith, within))

-- where an element stands
pub record StandsAt {X : Type 0} (xs : List X) (x : X) : Type 0 where
  pub place : ℕ
  pub inside : place < length xs
  pub at : get_or xs place x ≡ x

stands_at : {X : Type 0} (xs : List X) (x : X) → Among x xs → StandsAt xs x
stands_at [] x there = absurd there
stands_at (y ∷ xs) x (inl is) = record { place = 0; inside = omega arith; at = is }
stands_at (y ∷ xs) x (inr there) =
    let behind = stands_at xs x there in
    record { place = suc behind.place; inside = omega (arith, behind.inside); at = behind.at }

value_is : (points : List Point) (point : Point) → IsRising points → Among point points → point_value_at point.time points ≡ Some point.value
value_is [] point rising there = absurd there
value_is (p ∷ points) point rising (inl is) =
    ap (λ b. option_map (λ (q : Point). q.value) (cond b (Some p) (find_first (λ (q : Point). int_eq point.time q.time) points)))
    (ap (λ (q : Point). int_eq point.time q.time) is ∙ time_itself point.time) ∙ ap (λ (q : Point). Some q.value) is
value_is (p ∷ points) point rising (inr there) =
    let stands = stands_at points point there in
    ap (λ b. option_map (λ (q : Point). q.value) (cond b (Some p) (find_first (λ (q : Point). int_eq point.time q.time) points)))
    (other_time point.time p.time (later p points stands.place point rising stands.inside stands.at)) ∙ value_is points point (rest_rising p points rising) there

-- ---- a series of the job and its number

-- a schema beside this number, whose series has it
pub record Beside (series schemas : List Schema) (number : ℕ) (points : List Point) (part : List Filled) : Type 0 where
  pub filled : Filled
  pub in_part : Among filled part
  pub numbered : number_of series filled.schema.path ≡ Some number
  pub points_are : filled.points ≡ points

in_if_any : (schema : Schema) (points : List Point) → 0 < length points → Among (record { schema = schema; points = points }) (if_any schema points)
in_if_any schema [] some = absurd (omega (arith, some))
in_if_any schema (point ∷ points) some = inl refl

beside : (series : List Schema) (space : Space) (pair : Pair) (schemas : List Schema) (numbers : List SeriesId) (number : ℕ) → AllZip (λ schema id. number_of series schema.path ≡ Some id.0) schemas numbers
    → Among number (map (λ id. id.0) numbers) → 0 < length (points_of space number pair) → Beside series schemas number (points_of space number pair) (filled_part space pair schemas numbers)
beside series space pair [] [] number zip there some = absurd there
beside series space pair [] (id ∷ numbers) number zip there some = absurd zip
beside series space pair (schema ∷ schemas) [] number zip there some = absurd zip
beside series space pair (schema ∷ schemas) (id ∷ numbers) number zip (inl is) some =
    let points = points_of space number pair in
    let same : points_of space id.0 pair ≡ points = ap (λ (n : ℕ). points_of space n pair) is in
    record {
      filled = record { schema = schema; points = points };
      in_part = among_left (if_any schema (points_of space id.0 pair)) (filled_part space pair schemas numbers) (record { schema = schema; points = points })
          (subst (λ (l : List Point). Among (record { schema = schema; points = points }) (if_any schema l)) (sym same) (in_if_any schema points some));
      numbered = zip.0 ∙ ap Some is;
      points_are = refl;
    }
beside series space pair (schema ∷ schemas) (id ∷ numbers) number zip (inr there) some =
    let found = beside series space pair schemas numbers number zip.1 there some in
    record { filled = found.filled; in_part = among_right (if_any schema (points_of space id.0 pair)) (filled_part space pair schemas numbers) found.filled found.in_part; numbered = found.numbered; points_are = found.points_are }

-- a series of the part, and its number
pub record Numbered (series : List Schema) (space : Space) (pair : Pair) (filled : Filled) : Type 0 where
  pub number : ℕ
  pub numbered : number_of series filled.schema.path ≡ Some number
  pub points_are : filled.points ≡ points_of space number pair

of_if_any : (series : List Schema) (space : Space) (pair : Pair) (schema : Schema) (number : ℕ) (points : List Point) (filled : Filled) → number_of series schema.path ≡ Some number → points ≡ points_of space number pair
    → Among filled (if_any schema points) → Numbered series space pair filled
of_if_any series space pair schema number [] filled numbered are there = absurd there
of_if_any series space pair schema number (point ∷ points) filled numbered are (inl is) =
    subst (Numbered series space pair) is (record { number = number; numbered = numbered; points_are = are })
of_if_any series space pair schema number (point ∷ points) filled numbered are (inr there) = absurd there

numbered_in : (series : List Schema) (space : Space) (pair : Pair) (schemas : List Schema) (numbers : List SeriesId) (filled : Filled) → AllZip (λ schema id. number_of series schema.path ≡ Some id.0) schemas numbers
    → Among filled (filled_part space pair schemas numbers) → Numbered series space pair filled
numbered_in series space pair [] numbers filled zip there = absurd there
numbered_in series space pair (schema ∷ schemas) [] filled zip there = absurd there
numbered_in series space pair (schema ∷ schemas) (id ∷ numbers) filled zip there =
    ⊎_elim (of_if_any series space pair schema id.0 (points_of space id.0 pair) filled zip.0 refl) (numbered_in series space pair schemas numbers filled zip.1)
    (among_either (if_any schema (points_of space id.0 pair)) (filled_part space pair schemas numbers) filled there)

-- ---- the content

abbrev there_of : Space → Pair → ℤ → Option ℕ → Option Value
there_of space pair time number = option_and_then (λ n. point_value_at time (points_of space n pair)) number

some_points : (points : List Point) (point : Point) → Among point points → 0 < length points
some_points [] point there = absurd there
some_points (p ∷ points) point there = omega arith

one_path : (series : List Schema) (a b : List ℕ) (n : ℕ) → number_of series a ≡ Some n → number_of series b ≡ Some n → a ≡ b
one_path series a b n first second =
    let one = schema_at series a n first in
    let other = schema_at series b n second in
    sym one.of_path ∙ ap (λ (s : Schema). s.path) (some_same one.schema other.schema (sym one.at ∙ other.at)) ∙ other.of_path

module _ (series : List Schema) (space : Space) (pair : Pair) (schemas : List Schema) (numbers : List SeriesId) (job : IsJobOf series pair schemas numbers) where
  found_there : (place : PointPlace) (value : Value) (number : Option ℕ) → number_of series place.path ≡ number → there_of space pair place.time number ≡ Some value → HasPartPoint (filled_part space pair schemas numbers) place value
  found_there place value None numbered is = absurd (false≢true (subst IsSome (sym is) refl))
  found_there place value (Some number) numbered is =
      let points = points_of space number pair in
      let at = point_at points place.time (subst IsSome (sym is) refl) in
      let has = beside series space pair schemas numbers number job.numbered (job.whole space number (some_points points at.point at.among)) (some_points points at.point at.among) in
      let same : Some at.point.value ≡ Some value = sym (value_is points at.point (job.rising space number) at.among) ∙ ap (λ (t : ℤ). point_value_at t points) at.is ∙ is in
      record {
        filled = has.filled;
        in_part = has.in_part;
        point = at.point;
        in_series = subst (Among at.point) (sym has.points_are) at.among;
        path = one_path series has.filled.schema.path place.path number has.numbered numbered;
        time = at.is;
        has = some_same at.point.value value same;
      }

  there_found : (place : PointPlace) (value : Value) → HasPartPoint (filled_part space pair schemas numbers) place value → there_of space pair place.time (number_of series place.path) ≡ Some value
  there_found place value has =
      let its = numbered_in series space pair schemas numbers has.filled job.numbered has.in_part in
      let among : Among has.point (points_of space its.number pair) = subst (Among has.point) its.points_are has.in_series in
      ap (there_of space pair place.time) (ap (number_of series) (sym has.path) ∙ its.numbered)
      ∙ ap (λ (t : ℤ). point_value_at t (points_of space its.number pair)) (sym has.time) ∙ value_is (points_of space its.number pair) has.point (job.rising space its.number) among ∙ ap Some has.has

pub content_of_part : (series : List Schema) (space : Space) (pair : Pair) (schemas : List Schema) (numbers : List SeriesId) (content : Content) → IsJobOf series pair schemas numbers → IsPairContent series space pair content
    → IsContentOfPart (filled_part space pair schemas numbers) content
content_of_part series space pair schemas numbers content job is place value = (
  λ has. found_there series space pair schemas numbers job place value (number_of series place.path) refl (sym (is place) ∙ has),
  λ has. is place ∙ there_found series space pair schemas numbers job place value has,
)
