-- The numbers of the series that have a point in a space, as a pair lists them.
use Rattle.std.proofs.Common.{◌≡◌, ℕ, suc, ◌<◌, Bool, true, false, cond, nat_lt, ne_eqb, not, ◌==◌, List, [], ◌∷◌, ◌++◌, length, map, Some, refl, sym, ap, subst, inl, inr, ◌⊎◌, ⊎_elim, arith}
use Rattle.std.specs.List.{AllByRecursion as Each}
use Rattle.std.specs.List.Sorted.{IsStrictlySortedBy}
use Rattle.std.specs.Map.{keys_of, lookup}
use Rattle.std.specs.Option.{unwrap_or}
use Rattle.std.specs.Ordering.{nat_cmp}
use Rattle.std.specs.declared.cmp.Ordering.TheVariants.{Less}
use Rattle.std.proofs.lemmas.Bool.{false≢true}
use Rattle.tsdb_base.specs.declared.ids.SeriesId.{SeriesId}
use Rattle.tsdb_base.specs.declared.ids.Space.{Space}
use Rattle.tsdb_base.specs.declared.ids.Space.TheVariants.{Sequence, Unsequence}
use Rattle.tsdb_base.specs.declared.point.Point.{Point}
use Rattle.tsdb_flush.specs.TakingSteps.{AreNumbersOf}
use Rattle.tsdb_flush.specs.Taking.{HasPairPoint}
use Rattle.tsdb_base.proofs.Lists.{among_left, among_map, among_right, each_among, each_from_among}
use Rattle.tsdb_base.specs.Lists.{Among}
use Rattle.tsdb_memory.proofs.Counts.{among_either}
use Rattle.tsdb_memory.proofs.Emptiness.{filled_by, not_less}
use Rattle.tsdb_memory.proofs.Frozen.{image_of}
use Rattle.tsdb_memory.proofs.Series.{itself, one_number}
use Rattle.tsdb_memory.specs.StateOfMemory.{TellsSpaceFilled}
use Rattle.tsdb_memtable.specs.Pairs.{HasRisingSeries, Pair, SeriesPoints, blank, space_count, is_series, points_in, points_of, table}

abbrev Row : Type 0
Row = ℕ × List Point

abbrev is_filled : Row → Bool
is_filled row = not (length row.1 == 0)

-- the numbers in the table of a space
abbrev listed : Space → Pair → List ℕ
listed space pair = map (λ (row : Row). row.0) (table space pair)

no_zero : (n : ℕ) → suc n ≡ 0 → ⊥
no_zero n e = omega (arith, e)

filled_is : (points : List Point) → 0 < length points → not (length points == 0) ≡ true
filled_is [] some = absurd (omega (arith, some))
filled_is (p ∷ points) some = ap not (ne_eqb (suc (length points)) 0 (no_zero (length points)))

filled_has : (points : List Point) → not (length points == 0) ≡ true → 0 < length points
filled_has [] is = absurd (false≢true is)
filled_has (p ∷ points) is = omega arith

none_blank : (space : Space) → 0 < length (points_in space blank) → ⊥
none_blank Sequence some = absurd (omega (arith, some))
none_blank Unsequence some = absurd (omega (arith, some))

-- one row more
more : (b : Bool) (row : Row) (rows : List Row) (n : ℕ) → Among n (map (λ (r : Row). r.0) rows)
    → Among n (map (λ (r : Row). r.0) (cond b (row ∷ rows) rows))
more true row rows n has = inr has
more false row rows n has = has

first : (b : Bool) (row : Row) (rows : List Row) → b ≡ true → Among row.0 (map (λ (r : Row). r.0) (cond b (row ∷ rows) rows))
first true row rows is = inl refl
first false row rows is = absurd (false≢true is)

either : (b : Bool) (row : Row) (rows : List Row) (n : ℕ) → Among n (map (λ (r : Row). r.0) (cond b (row ∷ rows) rows))
    → ((b ≡ true) × (row.0 ≡ n)) ⊎ Among n (map (λ (r : Row). r.0) rows)
either true row rows n (inl is) = inl (refl, is)
either true row rows n (inr has) = inr has
either false row rows n has = inr has

-- a series with a point is listed
pub has_row : (space : Space) (pair : Pair) (n : ℕ) → 0 < length (points_of space n pair) → Among n (listed space pair)
has_row space [] n some = absurd (none_blank space some)
has_row space (e ∷ pair) n some = by (is_series n e.0) refl some (has_row space pair n)
  where
    by : (b : Bool) → is_series n e.0 ≡ b
        → 0 < length (points_in space (unwrap_or (cond b (Some e.1) (lookup (is_series n) pair)) blank))
        → (0 < length (points_of space n pair) → Among n (listed space pair)) → Among n (listed space (e ∷ pair))
    by true same some rest =
        subst (λ m. Among m (listed space (e ∷ pair))) (sym (one_number n e.0 same))
        (first (is_filled (e.0, points_in space e.1)) (e.0, points_in space e.1) (table space pair) (filled_is (points_in space e.1) some))
    by false same some rest = more (is_filled (e.0, points_in space e.1)) (e.0, points_in space e.1) (table space pair) n (rest some)

-- a number that is listed is one of a series
in_keys : (space : Space) (pair : Pair) (n : ℕ) → Among n (listed space pair) → Among n (keys_of pair)
in_keys space [] n has = absurd has
in_keys space (e ∷ pair) n has =
    ⊎_elim (λ (here : (is_filled (e.0, points_in space e.1) ≡ true) × (e.0 ≡ n)). inl here.1) (λ there. inr (in_keys space pair n there))
    (either (is_filled (e.0, points_in space e.1)) (e.0, points_in space e.1) (table space pair) n has)

-- a series that is listed has a point
listed_first : (space : Space) (e : ℕ × SeriesPoints) (pair : Pair) (n : ℕ) → (is_filled (e.0, points_in space e.1) ≡ true) × (e.0 ≡ n) → 0 < length (points_of space n (e ∷ pair))
listed_first space e pair n is =
    subst (λ m. 0 < length (points_of space m (e ∷ pair))) is.1
    (subst (λ b. 0 < length (points_in space (unwrap_or (cond b (Some e.1) (lookup (is_series e.0) pair)) blank))) (sym (itself e.0)) (filled_has (points_in space e.1) is.0))

listed_later : (space : Space) (e : ℕ × SeriesPoints) (pair : Pair) (n : ℕ) (b : Bool) → is_series n e.0 ≡ b → Each (λ y. nat_cmp e.0 y ≡ Less) (keys_of pair) → Among n (keys_of pair) → 0 < length (points_of space n pair)
    → 0 < length (points_in space (unwrap_or (cond b (Some e.1) (lookup (is_series n) pair)) blank))
listed_later space e pair n true same rising key rest =
    absurd (not_less e.0 (subst (λ m. nat_cmp e.0 m ≡ Less) (one_number n e.0 same) (each_among (λ y. nat_cmp e.0 y ≡ Less) (keys_of pair) n rising key)))
listed_later space e pair n false same rising key rest = rest

pub row_has : (space : Space) (pair : Pair) (n : ℕ) → IsStrictlySortedBy nat_cmp (keys_of pair) → Among n (listed space pair) → 0 < length (points_of space n pair)
unfolding IsStrictlySortedBy
row_has space [] n rising has = absurd has
row_has space (e ∷ pair) n rising has =
    ⊎_elim (listed_first space e pair n) (λ there. listed_later space e pair n (is_series n e.0) refl rising.0 (in_keys space pair n there) (row_has space pair n rising.1 there))
    (either (is_filled (e.0, points_in space e.1)) (e.0, points_in space e.1) (table space pair) n has)

-- ---- both spaces

-- these are the numbers of the series with a point in the space
pub record AreListed (space : Space) (pair : Pair) (numbers : List SeriesId) : Type 0 where
  pub are : map (λ (id : SeriesId). id.0) numbers ≡ listed space pair

module _ (pair : Pair) (rising : HasRisingSeries pair) where
  filled : (space : Space) (numbers : List SeriesId) (id : SeriesId) → map (λ (id : SeriesId). id.0) numbers ≡ listed space pair → Among id numbers → HasPairPoint pair id
  filled space numbers id are has = record {
    space = space;
    some = row_has space pair id.0 rising (subst (Among id.0) are (among_map (λ (i : SeriesId). i.0) numbers id has));
  }

  whole : (space : Space) (numbers : List SeriesId) (id : SeriesId) → map (λ (id : SeriesId). id.0) numbers ≡ listed space pair → 0 < length (points_of space id.0 pair) → Among id numbers
  whole space numbers id are some =
      let image = image_of (λ (i : SeriesId). i.0) numbers id.0 (subst (Among id.0) (sym are) (has_row space pair id.0 some)) in
      subst (λ n. Among (record { 0 = n }) numbers) image.is image.among

  -- the lists of both spaces, one behind the other
  pub both_spaces : (on_time late all : List SeriesId) → map (λ (id : SeriesId). id.0) on_time ≡ listed Sequence pair → map (λ (id : SeriesId). id.0) late ≡ listed Unsequence pair → all ≡ on_time ++ late
      → AreNumbersOf pair all
  both_spaces on_time late all first second is = record {
    filled = each_from_among (HasPairPoint pair) all (λ id has. ⊎_elim (filled Sequence on_time id first) (filled Unsequence late id second) (among_either on_time late id (subst (Among id) is has)));
    whole = λ id has. subst (Among id) (sym is) (by id has.space has.some);
  }
    where
      by : (id : SeriesId) (space : Space) → 0 < length (points_of space id.0 pair) → Among id (on_time ++ late)
      by id Sequence some = among_left on_time late id (whole Sequence on_time id first some)
      by id Unsequence some = among_right on_time late id (whole Unsequence late id second some)

  -- where no point is late, the list of the sequence space alone
  pub one_space : (on_time : List SeriesId) → map (λ (id : SeriesId). id.0) on_time ≡ listed Sequence pair → ((number : ℕ) → points_of Unsequence number pair ≡ []) → AreNumbersOf pair on_time
  one_space on_time first none = record {
    filled = each_from_among (HasPairPoint pair) on_time (λ id has. filled Sequence on_time id first has);
    whole = λ id has. by id has.space has.some;
  }
    where
      by : (id : SeriesId) (space : Space) → 0 < length (points_of space id.0 pair) → Among id on_time
      by id Sequence some = whole Sequence on_time id first some
      by id Unsequence some = absurd (omega (arith, some, ap length (none id.0)))

-- ---- whether there is a point in a space

pub none_in : (space : Space) (pair : Pair) (n : ℕ) → HasRisingSeries pair → n ≡ space_count space pair → n ≡ 0 → (number : ℕ) → points_of space number pair ≡ []
none_in space pair n rising is zero = let none : TellsSpaceFilled (nat_lt 0 0) space pair = subst (λ k. TellsSpaceFilled (nat_lt 0 k) space pair) zero (filled_by space pair n rising is) in none
