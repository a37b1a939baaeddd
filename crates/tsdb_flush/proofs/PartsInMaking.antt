-- A part of a pair, one schema after another.
use Rattle.std.proofs.Common.{◌≡◌, ℕ, map, sum_by, zero, suc, ◌+◌, ◌<◌, List, [], ◌∷◌, ◌++◌, length, get_or, drop, refl, sym, ap, ◌∙◌, subst, append_assoc, append-nil, drop-cons, ◌≤◌, arith}
use Rattle.std.specs.List.{AllByRecursion as Each, AllZip}
use Rattle.std.proofs.lemmas.List.{drop_all, get_or_default, nil_from_length}
use Rattle.std.proofs.lemmas.List.Elements.{All-from_recursion}
use Rattle.std.proofs.lemmas.List.Sums.{sum_by-append}
use Rattle.tsdb_base.specs.Values.{type_of}
use Rattle.tsdb_flush.specs.MakingSteps.{IsSoundSeries}
use Rattle.tsdb_flush.specs.BuiltFile.{AreHullsOf, paths_of}
use Rattle.tsdb_model.specs.Commands.{IsSchema}
use Rattle.tsfile_writer.specs.Building.{WasGiven}
use Rattle.tsdb_base.specs.declared.ids.SeriesId.{SeriesId}
use Rattle.tsdb_base.specs.declared.ids.Space.{Space}
use Rattle.tsdb_base.specs.declared.point.Point.{Point}
use Rattle.tsdb_flush.specs.Making.{IsSeriesOpen, IsPartInMaking, MayAdd}
use Rattle.tsdb_flush.specs.MakingSteps.{AreFrom, ComeBefore, filled_with}
use Rattle.tsdb_flush.specs.declared.part.PartBuilder.{PartBuilder}
use Rattle.tsdb_path.specs.Order.{AreNamesBefore}
use Rattle.tsdb_flush.specs.Parts.{Filled, HasPointsOfType, if_any, schema_names, filled_part, builder_series}
use Rattle.tsdb_base.proofs.Lists.{each_append, each_middle}
use Rattle.tsdb_base.specs.Lists.{Among, EachPair}
use Rattle.tsdb_path.specs.Nodes.{IsName, IsPath, device_of, measurement_of}
use Rattle.tsfile_writer.specs.declared.builder.Builder.{Builder}
use Rattle.std.specs.Prelude.{ℤ}
use Rattle.tsdb_model.specs.declared.command.Schema.{Schema}
use Rattle.tsdb_memtable.specs.Pairs.{Pair, points_of}

abbrev pub RiseSoFar : Filled → Filled → Type 0
RiseSoFar a b = AreNamesBefore (schema_names a.schema) (schema_names b.schema)

each_if_any : (P : Schema → Type 0) (schema : Schema) (points : List Point) (rest : List Filled) → P schema → Each (λ f. P f.schema) rest → Each (λ f. P f.schema) (if_any schema points ++ rest)
each_if_any P schema [] rest here behind = behind
each_if_any P schema (point ∷ points) rest here behind = (here, behind)

-- what holds of each schema holds of each series of the part
pub each_of_part : (P : Schema → Type 0) (space : Space) (pair : Pair) (schemas : List Schema) (numbers : List SeriesId) → Each P schemas → Each (λ f. P f.schema) (filled_part space pair schemas numbers)
each_of_part P space pair [] numbers all = tt
each_of_part P space pair (schema ∷ schemas) [] all = tt
each_of_part P space pair (schema ∷ schemas) (number ∷ numbers) all =
    each_if_any P schema (points_of space number.0 pair) (filled_part space pair schemas numbers) all.0 (each_of_part P space pair schemas numbers all.1)

pairs_if_any : (schema : Schema) (points : List Point) (rest : List Filled) → Each (λ f. AreNamesBefore (schema_names schema) (schema_names f.schema)) rest → EachPair RiseSoFar rest → EachPair RiseSoFar (if_any schema points ++ rest)
pairs_if_any schema [] rest here behind = behind
pairs_if_any schema (point ∷ points) rest here behind = (here, behind)

-- series rise in a part where schemas rise
pub part_rises : (space : Space) (pair : Pair) (schemas : List Schema) (numbers : List SeriesId) → EachPair (λ a b. AreNamesBefore (schema_names a) (schema_names b)) schemas → EachPair RiseSoFar (filled_part space pair schemas numbers)
part_rises space pair [] numbers pairs = tt
part_rises space pair (schema ∷ schemas) [] pairs = tt
part_rises space pair (schema ∷ schemas) (number ∷ numbers) pairs =
    pairs_if_any schema (points_of space number.0 pair) (filled_part space pair schemas numbers)
    (each_of_part (λ other. AreNamesBefore (schema_names schema) (schema_names other)) space pair schemas numbers pairs.0)
    (part_rises space pair schemas numbers pairs.1)

-- of pairs around an element, those with the elements before it
pub before_middle : {X : Type 0} (R : X → X → Type 0) (xs : List X) (y : X) (ys : List X) → EachPair R (xs ++ y ∷ ys) → Each (λ x. R x y) xs
before_middle R [] y ys pairs = tt
before_middle R (x ∷ xs) y ys pairs = (each_middle (R x) xs y ys pairs.0, before_middle R xs y ys pairs.1)

-- the part so far, and what the schemas from this place on have
pub record HasGathered (space : Space) (pair : Pair) (schemas : List Schema) (numbers : List SeriesId) (place : ℕ) (making : PartBuilder) : Type 0 where
  pub done : List Filled
  pub is : IsPartInMaking done making
  pub split : filled_part space pair schemas numbers ≡ done ++ filled_part space pair (drop place schemas) (drop place numbers)

pub zip_lengths : {X Y : Type 0} (R : X → Y → Type 0) (xs : List X) (ys : List Y) → AllZip R xs ys → length xs ≡ length ys
zip_lengths R [] [] zip = refl
zip_lengths R [] (y ∷ ys) zip = absurd zip
zip_lengths R (x ∷ xs) [] zip = absurd zip
zip_lengths R (x ∷ xs) (y ∷ ys) zip = ap suc (zip_lengths R xs ys zip.1)

zip_at : {X Y : Type 0} (R : X → Y → Type 0) (xs : List X) (ys : List Y) (i : ℕ) (d : X) (e : Y) → AllZip R xs ys → i < length xs → R (get_or xs i d) (get_or ys i e)
zip_at R [] ys i d e zip lt = absurd (omega (arith, lt))
zip_at R (x ∷ xs) [] i d e zip lt = absurd zip
zip_at R (x ∷ xs) (y ∷ ys) zero d e zip lt = zip.0
zip_at R (x ∷ xs) (y ∷ ys) (suc i) d e zip lt = zip_at R xs ys i d e zip.1 (omega (arith, lt))

-- what stands at a place of the schemas: a schema, the number beside it, and its points
pub record AtPlace (space : Space) (pair : Pair) (schemas : List Schema) (numbers : List SeriesId) (place : ℕ) (schema : Schema) (points : List Point) : Type 0 where
  pub inside : place < length schemas
  pub same : length schemas ≡ length numbers
  pub number : SeriesId
  pub at_schema : get_or schemas place schema ≡ schema
  pub at_number : get_or numbers place number ≡ number
  pub are : points ≡ points_of space number.0 pair

pub at_place : (space : Space) (pair : Pair) (schemas : List Schema) (numbers : List SeriesId) (place : ℕ) (schema : Schema) (d : SeriesId) (points : List Point) → AllZip (HasPointsOfType pair) schemas numbers → place < length schemas
    → schema ≡ get_or schemas place schema → points ≡ points_of space (get_or numbers place d).0 pair → AtPlace space pair schemas numbers place schema points
at_place space pair schemas numbers place schema d points typed inside at are =
    let same : length schemas ≡ length numbers = zip_lengths (HasPointsOfType pair) schemas numbers typed in
    record {
      inside = inside;
      same = same;
      number = get_or numbers place d;
      at_schema = sym at;
      at_number = get_or_default numbers place (get_or numbers place d) d (omega (arith, inside, same));
      are = are;
    }

-- a schema of a job, and its points, are such as may be added
pub schema_at : (space : Space) (pair : Pair) (schemas : List Schema) (numbers : List SeriesId) (place : ℕ) (schema : Schema) (points : List Point) → Each IsSchema schemas → AtPlace space pair schemas numbers place schema points → IsSchema schema
schema_at space pair schemas numbers place schema points formed here = subst IsSchema here.at_schema (All-from_recursion IsSchema schemas formed place schema here.inside)

pub typed_at : (space : Space) (pair : Pair) (schemas : List Schema) (numbers : List SeriesId) (place : ℕ) (schema : Schema) (points : List Point) → AllZip (HasPointsOfType pair) schemas numbers → AtPlace space pair schemas numbers place schema points
    → Each (λ point. type_of point.value ≡ schema.data_type) points
typed_at space pair schemas numbers place schema points typed here =
    let there : HasPointsOfType pair (get_or schemas place schema) (get_or numbers place here.number) = zip_at (HasPointsOfType pair) schemas numbers place schema here.number typed here.inside in
    let its : HasPointsOfType pair schema here.number = subst (λ (n : SeriesId). HasPointsOfType pair schema n) here.at_number (subst (λ (s : Schema). HasPointsOfType pair s (get_or numbers place here.number)) here.at_schema there) in
    subst (Each (λ point. type_of point.value ≡ schema.data_type)) (sym here.are) (its space)

pub none_gathered : (space : Space) (pair : Pair) (schemas : List Schema) (numbers : List SeriesId) (making : PartBuilder) → IsPartInMaking [] making → HasGathered space pair schemas numbers 0 making
none_gathered space pair schemas numbers making is = record { done = []; is = is; split = refl }

-- the rest of a part is what the next schema has, and the rest behind it
rest_of : (space : Space) (pair : Pair) (schemas : List Schema) (numbers : List SeriesId) (place : ℕ) (schema : Schema) (points : List Point) → AtPlace space pair schemas numbers place schema points
    → filled_part space pair (drop place schemas) (drop place numbers) ≡ if_any schema points ++ filled_part space pair (drop (place + 1) schemas) (drop (place + 1) numbers)
rest_of space pair schemas numbers place schema points here =
    let number = here.number in
    let lt' : place < length numbers = omega (arith, here.inside, here.same) in
    let next : suc place ≡ place + 1 = omega arith in
    let first : drop place schemas ≡ schema ∷ drop (place + 1) schemas = drop-cons schemas place schema here.inside ∙ ap (λ (s : Schema). s ∷ drop (suc place) schemas) here.at_schema ∙ ap (λ (n : ℕ). schema ∷ drop n schemas) next in
    let second : drop place numbers ≡ number ∷ drop (place + 1) numbers = drop-cons numbers place number lt' ∙ ap (λ (s : SeriesId). s ∷ drop (suc place) numbers) here.at_number ∙ ap (λ (n : ℕ). number ∷ drop n numbers) next in
    ap (λ (s : List Schema). filled_part space pair s (drop place numbers)) first ∙ ap (λ (n : List SeriesId). filled_part space pair (schema ∷ drop (place + 1) schemas) n) second
    ∙ ap (λ (l : List Point). if_any schema l ++ filled_part space pair (drop (place + 1) schemas) (drop (place + 1) numbers)) (sym here.are)

-- a series without points leaves the part as it is
pub nothing_gathered : (space : Space) (pair : Pair) (schemas : List Schema) (numbers : List SeriesId) (place : ℕ) (making : PartBuilder) (schema : Schema) (points : List Point) → AtPlace space pair schemas numbers place schema points
    → length points ≡ 0 → HasGathered space pair schemas numbers place making → HasGathered space pair schemas numbers (place + 1) making
nothing_gathered space pair schemas numbers place making schema points here none so_far = record {
  done = so_far.done;
  is = so_far.is;
  split = so_far.split ∙ ap (λ (l : List Filled). so_far.done ++ l) (rest_of space pair schemas numbers place schema points here
      ∙ ap (λ (l : List Point). if_any schema l ++ filled_part space pair (drop (place + 1) schemas) (drop (place + 1) numbers)) (nil_from_length points none));
}

some_filled : (schema : Schema) (points : List Point) → 0 < length points → if_any schema points ≡ filled_with schema points ∷ []
some_filled schema [] some = absurd (omega (arith, some))
some_filled schema (point ∷ points) some = refl

split_at_filled : (space : Space) (pair : Pair) (schemas : List Schema) (numbers : List SeriesId) (place : ℕ) (making : PartBuilder) (schema : Schema) (points : List Point) → AtPlace space pair schemas numbers place schema points
    → 0 < length points → (so_far : HasGathered space pair schemas numbers place making)
    → filled_part space pair schemas numbers ≡ so_far.done ++ filled_with schema points ∷ filled_part space pair (drop (place + 1) schemas) (drop (place + 1) numbers)
split_at_filled space pair schemas numbers place making schema points here some so_far =
    so_far.split ∙ ap (λ (l : List Filled). so_far.done ++ l) (rest_of space pair schemas numbers place schema points here
    ∙ ap (λ (l : List Filled). l ++ filled_part space pair (drop (place + 1) schemas) (drop (place + 1) numbers)) (some_filled schema points some))

-- the series so far come before the next one
before_next : (space : Space) (pair : Pair) (schemas : List Schema) (numbers : List SeriesId) (place : ℕ) (making : PartBuilder) (schema : Schema) (points : List Point) → AtPlace space pair schemas numbers place schema points
    → 0 < length points → EachPair (λ a b. AreNamesBefore (schema_names a) (schema_names b)) schemas → (so_far : HasGathered space pair schemas numbers place making) → ComeBefore so_far.done schema
before_next space pair schemas numbers place making schema points here some rising so_far =
    before_middle RiseSoFar so_far.done (filled_with schema points) (filled_part space pair (drop (place + 1) schemas) (drop (place + 1) numbers))
    (subst (EachPair RiseSoFar) (split_at_filled space pair schemas numbers place making schema points here some so_far) (part_rises space pair schemas numbers rising))

-- the next series that has points may be added
pub next_may_add : (space : Space) (pair : Pair) (schemas : List Schema) (numbers : List SeriesId) (place : ℕ) (making : PartBuilder) (schema : Schema) (points : List Point) → AtPlace space pair schemas numbers place schema points
    → 0 < length points → EachPair (λ a b. AreNamesBefore (schema_names a) (schema_names b)) schemas → HasGathered space pair schemas numbers place making → MayAdd making schema
next_may_add space pair schemas numbers place making schema points here some rising so_far = record {
  part = so_far.done;
  is = so_far.is;
  before = before_next space pair schemas numbers place making schema points here some rising so_far;
}

-- a series with points is gathered
pub one_gathered : (space : Space) (pair : Pair) (schemas : List Schema) (numbers : List SeriesId) (place : ℕ) (making new : PartBuilder) (schema : Schema) (points : List Point) → AtPlace space pair schemas numbers place schema points
    → 0 < length points → EachPair (λ a b. AreNamesBefore (schema_names a) (schema_names b)) schemas
    → ((part : List Filled) → IsPartInMaking part making → ComeBefore part schema → IsPartInMaking (part ++ filled_with schema points ∷ []) new) → HasGathered space pair schemas numbers place making
    → HasGathered space pair schemas numbers (place + 1) new
one_gathered space pair schemas numbers place making new schema points here some rising step so_far =
    let whole = split_at_filled space pair schemas numbers place making schema points here some so_far in
    record {
      done = so_far.done ++ filled_with schema points ∷ [];
      is = step so_far.done so_far.is (before_next space pair schemas numbers place making schema points here some rising so_far);
      split = whole ∙ sym (append_assoc so_far.done (filled_with schema points ∷ []) (filled_part space pair (drop (place + 1) schemas) (drop (place + 1) numbers)));
    }

-- once all schemas are behind, the part is whole
pub all_gathered : (space : Space) (pair : Pair) (schemas : List Schema) (numbers : List SeriesId) (place : ℕ) (making : PartBuilder) → length schemas ≤ place → HasGathered space pair schemas numbers place making
    → IsPartInMaking (filled_part space pair schemas numbers) making
all_gathered space pair schemas numbers place making behind so_far =
    let none : drop place schemas ≡ [] = drop_all place schemas behind in
    let whole : filled_part space pair schemas numbers ≡ so_far.done = so_far.split ∙ ap (λ (s : List Schema). so_far.done ++ filled_part space pair s (drop place numbers)) none ∙ append-nil so_far.done in
    subst (λ (p : List Filled). IsPartInMaking p making) (sym whole) so_far.is

-- ---- one series more

sum_more : (part : List Filled) (filled : Filled) → sum_by (λ f. length f.points) (part ++ filled ∷ []) ≡ sum_by (λ f. length f.points) part + length filled.points
sum_more part filled = grind (arith, sum_by-append (λ (f : Filled). length f.points) part (filled ∷ []))

paths_more : (part : List Filled) (filled : Filled) → paths_of (part ++ filled ∷ []) ≡ paths_of part ++ filled.schema.path ∷ []
paths_more [] filled = refl
paths_more (f ∷ part) filled = ap (λ (l : List (List ℕ)). f.schema.path ∷ l) (paths_more part filled)

pub part_more : (part : List Filled) (schema : Schema) (points : List Point) (old new : PartBuilder) → IsPartInMaking part old → IsSoundSeries (filled_with schema points) → WasGiven new.builder (map builder_series (part ++ filled_with schema points ∷ []))
    → new.points ≡ old.points + length points → AreHullsOf (part ++ filled_with schema points ∷ []) new.hulls.items → new.series.items ≡ old.series.items ++ schema.path ∷ []
    → IsPartInMaking (part ++ filled_with schema points ∷ []) new
part_more part schema points old new is sound given count hulls paths = record {
  given = given;
  sound = each_append IsSoundSeries part (filled_with schema points ∷ []) is.sound (sound, tt);
  points = count ∙ ap (λ (n : ℕ). n + length points) is.points ∙ sym (sum_more part (filled_with schema points));
  hulls = hulls;
  paths = paths ∙ ap (λ (l : List (List ℕ)). l ++ schema.path ∷ []) is.paths ∙ sym (paths_more part (filled_with schema points));
}

some_among : {X : Type 0} (xs : List X) (x : X) → Among x xs → 0 < length xs
some_among [] x there = absurd there
some_among (y ∷ xs) x there = omega arith

-- a series that was begun is ended
pub part_ended : (part : List Filled) (schema : Schema) (points : List Point) (from to : ℤ) (old new : PartBuilder) → IsSeriesOpen part schema points old → AreFrom points from to → IsPath (device_of schema.path) → IsName (measurement_of schema.path)
    → new.builder ≡ old.builder → new.points ≡ old.points + length points → AreHullsOf (part ++ filled_with schema points ∷ []) new.hulls.items → new.series.items ≡ old.series.items ++ schema.path ∷ []
    → IsPartInMaking (part ++ filled_with schema points ∷ []) new
part_ended part schema points from to old new is span device measurement same count hulls paths = record {
  given = subst (λ (b : Builder). WasGiven b (map builder_series (part ++ filled_with schema points ∷ []))) (sym same) is.given;
  sound = each_append IsSoundSeries part (filled_with schema points ∷ []) is.sound (record { some = some_among points span.first span.has_first; device = device; measurement = measurement; points = is.in_range }, tt);
  points = count ∙ ap (λ (n : ℕ). n + length points) is.counted ∙ sym (sum_more part (filled_with schema points));
  hulls = hulls;
  paths = paths ∙ ap (λ (l : List (List ℕ)). l ++ schema.path ∷ []) is.paths ∙ sym (paths_more part (filled_with schema points));
}
