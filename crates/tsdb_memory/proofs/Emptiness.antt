-- A part is empty exactly where no series has a point in it.
use Rattle.std.proofs.Common.{◌≡◌, ◌≢◌, ◌↔◌, inl, inr, ℕ, ℤ, ◌+◌, ◌<◌, Bool, true, false, cond, not, List, [], ◌∷◌, length}
use Rattle.std.proofs.Common.{Option, Some, None, refl, sym, ap, subst, ◌∙◌, arith, nat_lt, slice_get}
use Rattle.std.specs.Prelude.{All, IsSome, IsTrue}
use Rattle.std.specs.FinMap.{empty, get, get-empty}
use Rattle.std.specs.List.{AllZip, sum_by}
use Rattle.std.specs.List.Sorted.{IsStrictlySortedBy}
use Rattle.std.specs.Map.{keys_of, lookup, values_of}
use Rattle.std.specs.Option.{option_and_then, unwrap_or}
use Rattle.std.specs.Ordering.{is_eq, nat_cmp}
use Rattle.std.specs.declared.cmp.Ordering.TheVariants.{Less}
use Rattle.std.proofs.lemmas.Bool.{false≢true}
use Rattle.std.proofs.lemmas.Bool.Decides.{nat_tests}
use Rattle.std.proofs.lemmas.List.Elements.{All-head}
use Rattle.std.proofs.lemmas.List.Sums.{sum_by-cons}
use Rattle.tsdb_base.specs.declared.ids.Space.{Space}
use Rattle.tsdb_base.specs.declared.ids.Space.TheVariants.{Sequence, Unsequence}
use Rattle.tsdb_base.specs.declared.point.Point.{Point}
use Rattle.tsdb_base.proofs.Lists.{each_among}
use Rattle.tsdb_state.proofs.LayerLemmas.Places.{same_content}
use Rattle.tsdb_base.specs.Lists.{Among}
use Rattle.tsdb_state.specs.Places.{Content, PointPlace, place_cmp}
use Rattle.tsdb_model.specs.declared.command.Schema.{Schema}
use Rattle.tsdb_memory.proofs.Frozen.{value_there}
use Rattle.tsdb_memory.proofs.Raises.{beyond}
use Rattle.tsdb_memory.proofs.Series.{itself, one_number}
use Rattle.tsdb_memory.specs.Fits.{HasNoPairPoint}
use Rattle.tsdb_memory.specs.Model.{HasKnownSeries, IsSoundMemory}
use Rattle.tsdb_memory.specs.StateOfMemory.{IsPairContent, TellsSpaceFilled, IsFrozenOf, IsMemoryOf, IsPairOf, SomePoint, number_of, part_of}
use Rattle.tsdb_memory.specs.StateOfMemory.{point_value_at, value_found}
use Rattle.tsdb_memory.specs.Store.{FrozenPair, MemoryState}
use Rattle.tsdb_memtable.specs.Pairs.{HasRisingSeries, Pair, SeriesPoints, blank, space_count, is_series, points_in, points_of}
use Rattle.tsdb_state.specs.Limit.{IsEmptyPair}
use Rattle.tsdb_state.specs.State as state

-- what is counted

abbrev pub total : Space → Pair → ℕ
total space pair = sum_by (λ series. length (points_in space series)) (values_of pair)

-- the first series' points, and the others'
pub parted : (space : Space) (entry : ℕ × SeriesPoints) (pair : Pair)
    → total space (entry ∷ pair) ≡ length (points_in space entry.1) + total space pair
parted space entry pair = sum_by-cons (λ series. length (points_in space series)) entry.1 (values_of pair)

no_length : (points : List Point) → length points ≡ 0 → points ≡ []
no_length [] e = refl
no_length (p ∷ points) e = absurd (omega (arith, e))

none_first : (a b : ℕ) → a + b ≡ 0 → a ≡ 0
none_first a b e = omega (arith, e)

none_behind : (a b : ℕ) → a + b ≡ 0 → b ≡ 0
none_behind a b e = omega (arith, e)

none_counted : (space : Space) (pair : Pair) → total space pair ≡ 0 → (number : ℕ) → points_of space number pair ≡ []
none_counted Sequence [] e number = refl
none_counted Unsequence [] e number = refl
none_counted space (entry ∷ pair) e number =
    by (is_series number entry.0)
    (none_counted space pair (none_behind (length (points_in space entry.1)) (total space pair) both) number)
  where
    both : length (points_in space entry.1) + total space pair ≡ 0
    both = sym (parted space entry pair) ∙ e

    by : (b : Bool) → points_of space number pair ≡ []
        → points_in space (unwrap_or (cond b (Some entry.1) (lookup (is_series number) pair)) blank) ≡ []
    by true rest = no_length (points_in space entry.1)
        (none_first (length (points_in space entry.1)) (total space pair) both)
    by false rest = rest

record Filled (space : Space) (pair : Pair) : Type 0 where
  pub number : ℕ
  pub series : SeriesPoints
  pub point : Point
  pub at : lookup (is_series number) pair ≡ Some series
  pub among : Among point (points_in space series)
  pub key : Among number (keys_of pair)

pub not_less : (a : ℕ) → nat_cmp a a ≡ Less → ⊥
not_less a e = false≢true (sym (ap is_eq e) ∙ itself a)

behind : (a b : ℕ) → b ≡ 0 + a → 0 < b → 0 < a
behind a b e h = omega (arith, e, h)

counted : (space : Space) (pair : Pair) → IsStrictlySortedBy nat_cmp (keys_of pair) → 0 < total space pair
    → Filled space pair
unfolding IsStrictlySortedBy
counted space [] rising some = absurd (none some)
  where
    none : 0 < 0 → ⊥
    none h = omega (arith, h)
counted space (entry ∷ pair) rising some = by (points_in space entry.1) refl
    (λ h. counted space pair rising.1 h)
  where
    by : (points : List Point) → points_in space entry.1 ≡ points
        → (0 < total space pair → Filled space pair) → Filled space (entry ∷ pair)
    by [] e rest =
        let found = rest (behind (total space pair) (total space (entry ∷ pair))
        (parted space entry pair ∙ ap (λ (l : List Point). length l + total space pair) e) some) in
        record {
          number = found.number;
          series = found.series;
          point = found.point;
          at = other (is_series found.number entry.0) found refl;
          among = found.among;
          key = inr found.key;
        }
      where
        other : (b : Bool) (found : Filled space pair) → is_series found.number entry.0 ≡ b
            → cond b (Some entry.1) (lookup (is_series found.number) pair) ≡ Some found.series
        other true found e = absurd (not_less entry.0
            (subst (λ n. nat_cmp entry.0 n ≡ Less) (one_number found.number entry.0 e)
            (each_among (λ y. nat_cmp entry.0 y ≡ Less) (keys_of pair) found.number rising.0 found.key)))
        other false found e = found.at
    by (p ∷ points) e rest = record {
      number = entry.0;
      series = entry.1;
      point = p;
      at = ap (λ b. cond b (Some entry.1) (lookup (is_series entry.0) pair)) (itself entry.0);
      among = subst (λ l. Among p l) (sym e) (inl refl);
      key = inl refl;
    }

positive : (n : ℕ) → nat_lt 0 n ≡ true → 0 < n
positive n e = grind (arith, nat_tests)

nothing : (n : ℕ) → nat_lt 0 n ≡ false → n ≡ 0
nothing n e = grind (arith, nat_tests)

-- whether the count is above 0
pub filled_by : (space : Space) (pair : Pair) (n : ℕ) → HasRisingSeries pair → n ≡ space_count space pair
    → TellsSpaceFilled (nat_lt 0 n) space pair
filled_by space pair n rising is = by (nat_lt 0 n) refl
  where
    by : (b : Bool) → nat_lt 0 n ≡ b → TellsSpaceFilled b space pair
    by true e =
        let found = counted space pair rising (subst (λ k. 0 < k) is (positive n e)) in
        record {
          number = found.number;
          point = found.point;
          among = subst (λ o. Among found.point (points_in space (unwrap_or o blank))) (sym found.at) found.among;
        }
    by false e = none_counted space pair (sym is ∙ nothing n e)

-- a pair with a point in a space has one
pub some_point : (space : Space) (pair : Pair) → SomePoint space pair → ¬ HasNoPairPoint pair
some_point space pair some none = nowhere some.point
    (subst (λ l. Among some.point l) (none_counted space pair (by space) some.number) some.among)
  where
    nowhere : (point : Point) → Among point [] → ⊥
    nowhere point among = absurd among

    by : (space : Space) → space_count space pair ≡ 0
    by Sequence = none.0
    by Unsequence = none.1

pub late_point : (filled : Bool) (pair : Pair) → TellsSpaceFilled filled Unsequence pair → not filled ≡ false
    → ¬ HasNoPairPoint pair
late_point true pair filled busy = some_point Unsequence pair filled
late_point false pair filled busy = absurd (false≢true (sym busy))

-- the content of a part

empty_content : (series : List Schema) (space : Space) (pair : Pair) (content : Content)
    → IsPairContent series space pair content → ((number : ℕ) → points_of space number pair ≡ []) → content ≡ empty
empty_content series space pair content is none =
    same_content content empty
    (λ q. is q ∙ by q.time (number_of series q.path) ∙ sym (get-empty place_cmp q))
  where
    by : (time : ℤ) (o : Option ℕ) → option_and_then (λ number. point_value_at time (points_of space number pair)) o ≡ None
    by time None = refl
    by time (Some n) = ap (point_value_at time) (none n)

abbrev HasNumbers : List Schema → Type 0
HasNumbers series = (number : ℕ) (schema : Schema) → slice_get series number ≡ Some schema
    → number_of series schema.path ≡ Some number

full_content : (series : List Schema) (space : Space) (pair : Pair) (content : Content) → HasNumbers series
    → HasKnownSeries series pair → IsPairContent series space pair content → SomePoint space pair → content ≢ empty
full_content series space pair content once known is some none = by (slice_get series some.number) refl
  where
    nowhere : (point : Point) → Among point [] → ⊥
    nowhere point among = absurd among

    by : (o : Option Schema) → slice_get series some.number ≡ o → ⊥
    by None e = nowhere some.point
        (subst (λ l. Among some.point l) (known space some.number (beyond series some.number e)) some.among)
    by (Some schema) e =
        let place : PointPlace = record { path = schema.path; time = some.point.time } in
        let value : IsSome (value_found series space pair place) =
        subst (λ o. IsSome (option_and_then (λ number. point_value_at some.point.time (points_of space number pair)) o))
        (sym (once some.number schema e)) (value_there (points_of space some.number pair) some.point some.among) in
        false≢true (subst IsSome
        (sym (is place) ∙ ap (λ (c : Content). get c place) none ∙ get-empty place_cmp place) value)

pub part_is : (series : List Schema) (pair : Pair) (shown : state.PairContent) (space : Space) → IsPairOf series pair shown
    → IsPairContent series space pair (part_of space shown)
part_is series pair shown Sequence is = is.sequence
part_is series pair shown Unsequence is = is.unsequence

filled_part : (series : List Schema) (space : Space) (pair : Pair) (shown : state.PairContent) (b : Bool) → HasNumbers series
    → HasKnownSeries series pair → IsPairOf series pair shown → TellsSpaceFilled b space pair
    → (IsTrue b ↔ (part_of space shown ≢ empty))
filled_part series space pair shown true once known is filled = (
  λ h. full_content series space pair (part_of space shown) once known (part_is series pair shown space is) filled,
  λ h. refl,
)
filled_part series space pair shown false once known is filled = (
  λ h. absurd (false≢true h),
  λ some. absurd (some (empty_content series space pair (part_of space shown) (part_is series pair shown space is)
      filled)),
)

module _ (store : MemoryState) (shown : state.StoreState) (sound : IsSoundMemory store) (is : IsMemoryOf store shown) where
  pub not_idle : TellsSpaceFilled true Sequence store.working → (IsTrue false ↔ IsEmptyPair shown.working)
  not_idle filled = (
    λ h. absurd (false≢true h),
    λ none. absurd (full_content store.series Sequence store.working shown.working.sequence sound.once sound.known
        is.working.sequence filled none.0),
  )

  pub idle_by : (b : Bool) → TellsSpaceFilled false Sequence store.working → TellsSpaceFilled b Unsequence store.working
      → (IsTrue (not b) ↔ IsEmptyPair shown.working)
  idle_by true none filled = (
    λ h. absurd (false≢true h),
    λ empty. absurd (full_content store.series Unsequence store.working shown.working.unsequence sound.once sound.known
        is.working.unsequence filled empty.1),
  )
  idle_by false none others = (
    λ h. (
      empty_content store.series Sequence store.working shown.working.sequence is.working.sequence none,
      empty_content store.series Unsequence store.working shown.working.unsequence is.working.unsequence others,
    ),
    λ h. refl,
  )

  pub oldest_part : (first : FrozenPair) (rest : List FrozenPair) (oldest : state.FrozenContent)
      (newer : List state.FrozenContent) (space : Space) (b : Bool) → store.frozen ≡ first ∷ rest
      → shown.frozen ≡ oldest ∷ newer → TellsSpaceFilled b space first.pair → (IsTrue b ↔ (part_of space oldest.pair ≢ empty))
  oldest_part first rest oldest newer space b had has filled =
      let both : AllZip (IsFrozenOf store.series) (first ∷ rest) (oldest ∷ newer) =
      subst (λ l. AllZip (IsFrozenOf store.series) l (oldest ∷ newer)) had
      (subst (λ l. AllZip (IsFrozenOf store.series) store.frozen l) has is.frozen) in
      let known : HasKnownSeries store.series first.pair =
      All-head (λ (f : FrozenPair). HasKnownSeries store.series f.pair) first rest
      (subst (λ l. All (λ (f : FrozenPair). HasKnownSeries store.series f.pair) l) had sound.frozen_known) in
      filled_part store.series space first.pair oldest.pair b sound.once known both.0.pair filled

  pub no_oldest : (oldest : state.FrozenContent) (newer : List state.FrozenContent) → store.frozen ≡ []
      → shown.frozen ≡ oldest ∷ newer → ⊥
  no_oldest oldest newer none has =
      subst (λ l. AllZip (IsFrozenOf store.series) l (oldest ∷ newer)) none
      (subst (λ l. AllZip (IsFrozenOf store.series) store.frozen l) has is.frozen)
