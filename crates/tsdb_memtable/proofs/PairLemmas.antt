-- The totals and tables of a pair, where one series has become another or joins.
use Rattle.std.proofs.Common.{◌≡◌, ◌≢◌, ℕ, ◌+◌, ◌≤◌, Bool, true, false, cond, not, inl, inr, List, [], ◌∷◌, ◌++◌, length, map, Option, None, Some, refl, sym, ap, subst, ◌∙◌, arith}
use Rattle.std.specs.Prelude.{◌==◌, Result, OnErr, OnOk, is_some}
use Rattle.std.specs.declared.result.Result.TheVariants.{Err, Ok}
use Rattle.tsdb_base.specs.declared.fault.Memory.{Memory}
use Rattle.std.specs.BTreeMap.{insert_entry}
use Rattle.std.specs.Cmp.{nat_cmp_is, nat_cmp_total, ranked}
use Rattle.std.specs.List.{filter, sum_by}
use Rattle.std.specs.List.Sorted.{IsStrictlySortedBy}
use Rattle.std.specs.Map.{lookup, set_value, keys_of, values_of}
use Rattle.std.specs.Option.{unwrap_or, option_map}
use Rattle.std.specs.Ordering.{nat_cmp, is_eq, match_ordering}
use Rattle.std.specs.declared.cmp.Ordering.TheVariants.{Less, Equal, Greater}
use Rattle.std.proofs.lemmas.Bool.{false≢true}
use Rattle.std.proofs.lemmas.List.{append_assoc}
use Rattle.std.proofs.lemmas.List.Sums.{sum_by-cons, sum_by-le-sum_by}
use Rattle.std.proofs.lemmas.Map.Entries.{sum_by-set_value, sum_by-insert_entry}
use Rattle.tsdb_base.specs.declared.ids.Space.{Space}
use Rattle.tsdb_base.specs.declared.ids.Space.TheVariants.{Sequence, Unsequence}
use Rattle.tsdb_base.specs.declared.point.Point.{Point}
use Rattle.tsdb_memtable.specs.declared.series.Totals.{Totals}
use Rattle.tsdb_memtable.specs.Model.{most_bytes, totals_of, with_room}
use Rattle.tsdb_memtable.specs.Limits.{max_bytes}
use Rattle.tsdb_memtable.specs.Points.{point_bytes, counted_bytes}
use Rattle.tsdb_memtable.specs.Pairs.{IsProvided, Pair, SeriesPoints, blank, byte_count, is_series, points_in, series_bytes, spare_of, table}
use Rattle.tsdb_memtable.proofs.PlaceLemmas.{is_eq-equal}
use Rattle.tsdb_memtable.specs.PairModel.{AreTotals, CanSwap, IsPartOfTotals, IsSwap, most_of}

-- a point counts a byte at least

length-bytes : (points : List Point) → length points ≤ counted_bytes points
length-bytes [] = omega arith
length-bytes (x ∷ points) = let others = length-bytes points in omega (arith, sum_by-cons point_bytes x points)

sequence-bytes : (pair : Pair) → sum_by (λ series. length series.sequence) (values_of pair) ≤ byte_count pair
sequence-bytes pair = sum_by-le-sum_by _ series_bytes (values_of pair) (λ series. omega (arith, length-bytes series.sequence))

unsequence-bytes : (pair : Pair) → sum_by (λ series. length series.unsequence) (values_of pair) ≤ byte_count pair
unsequence-bytes pair = sum_by-le-sum_by _ series_bytes (values_of pair) (λ series. omega (arith, length-bytes series.unsequence))

some-none : (v : SeriesPoints) → Some v ≡ None → ⊥
some-none v h = false≢true (sym (ap is_some h))

-- one series becomes another

is-part : (pair : Pair) (series : ℕ) (v : SeriesPoints) (totals : Totals) → lookup (is_series series) pair ≡ Some v → AreTotals pair totals → IsPartOfTotals (totals_of v) totals
is-part pair series v totals found are =
    let gone : (f : SeriesPoints → ℕ) → sum_by f (values_of (set_value (is_series series) pair blank)) + f v ≡ sum_by f (values_of pair) + f blank = λ f. sum_by-set_value f (is_series series) pair v blank found in
    record {
      sequence = omega (arith, gone (λ s. length s.sequence), are.sequence);
      unsequence = omega (arith, gone (λ s. length s.unsequence), are.unsequence);
      bytes = omega (arith, gone series_bytes, are.bytes);
      spare = omega (arith, gone (λ s. s.spare), are.spare);
    }

pub can-swap : (pair : Pair) (series : ℕ) (v w : SeriesPoints) (totals before after : Totals) → lookup (is_series series) pair ≡ Some v → AreTotals pair totals
    → before ≡ totals_of v → after ≡ totals_of w → most_of totals + most_bytes w ≤ max_bytes + most_bytes v → CanSwap totals before after
can-swap pair series v w totals before after found are was now most =
    let new = set_value (is_series series) pair w in
    let change : (f : SeriesPoints → ℕ) → sum_by f (values_of new) + f v ≡ sum_by f (values_of pair) + f w = λ f. sum_by-set_value f (is_series series) pair v w found in
    let part = is-part pair series v totals found are in
    rw (was, now) record {
      part = part;
      sequence = omega (arith, change (λ s. length s.sequence), change series_bytes, sequence-bytes new, are.sequence, are.bytes, part.spare, most);
      unsequence = omega (arith, change (λ s. length s.unsequence), change series_bytes, unsequence-bytes new, are.unsequence, are.bytes, part.spare, most);
      most = most;
    }

pub swapped : (pair new_pair : Pair) (series : ℕ) (v w : SeriesPoints) (old before after new : Totals) → lookup (is_series series) pair ≡ Some v → AreTotals pair old
    → before ≡ totals_of v → after ≡ totals_of w → IsSwap old before after new → new_pair ≡ set_value (is_series series) pair w → AreTotals new_pair new
swapped pair new_pair series v w old before after new found are was now swap set =
    let change : (f : SeriesPoints → ℕ) → sum_by f (values_of (set_value (is_series series) pair w)) + f v ≡ sum_by f (values_of pair) + f w = λ f. sum_by-set_value f (is_series series) pair v w found in
    rw set record {
      sequence = omega (arith, change (λ s. length s.sequence), are.sequence, swap.sequence, ap (λ (t : Totals). t.sequence) was, ap (λ (t : Totals). t.sequence) now);
      unsequence = omega (arith, change (λ s. length s.unsequence), are.unsequence, swap.unsequence, ap (λ (t : Totals). t.unsequence) was, ap (λ (t : Totals). t.unsequence) now);
      bytes = omega (arith, change series_bytes, are.bytes, swap.bytes, ap (λ (t : Totals). t.bytes) was, ap (λ (t : Totals). t.bytes) now);
      spare = omega (arith, change (λ s. s.spare), are.spare, swap.spare, ap (λ (t : Totals). t.spare) was, ap (λ (t : Totals). t.spare) now);
    }

pub swapped-most : (v w : SeriesPoints) (old before after new : Totals) → before ≡ totals_of v → after ≡ totals_of w → IsSwap old before after new
    → most_of old + most_bytes w ≤ max_bytes + most_bytes v → most_of new ≤ max_bytes
swapped-most v w old before after new was now swap most =
    omega (arith, swap.bytes, swap.spare, ap (λ (t : Totals). t.bytes) was, ap (λ (t : Totals). t.bytes) now, ap (λ (t : Totals). t.spare) was, ap (λ (t : Totals). t.spare) now, most)

-- a series that is not there does not change
pub set-none : (series : ℕ) (pair : Pair) (w : SeriesPoints) → lookup (is_series series) pair ≡ None → set_value (is_series series) pair w ≡ pair
set-none series [] w absent = refl
set-none series (e ∷ es) w absent =
    elim (is_series series e.0) as (λ b. cond b (Some e.1) (lookup (is_series series) es) ≡ None → cond b ((e.0, w) ∷ es) (e ∷ set_value (is_series series) es w) ≡ e ∷ es) [
      | true ↦ λ h. absurd (some-none e.1 h)
      | false ↦ λ h. ap (λ r. e ∷ r) (set-none series es w h)
    ] absent

-- a series joins

pub added : (pair new_pair : Pair) (series : ℕ) (w : SeriesPoints) (old before after new : Totals) → IsStrictlySortedBy nat_cmp (keys_of pair) → lookup (is_series series) pair ≡ None → AreTotals pair old
    → before ≡ totals_of blank → after ≡ totals_of w → IsSwap old before after new → new_pair ≡ insert_entry nat_cmp pair series w → AreTotals new_pair new
added pair new_pair series w old before after new sorted absent are was now swap joined =
    let change : (f : SeriesPoints → ℕ) → sum_by f (values_of (insert_entry nat_cmp pair series w)) + 0 ≡ sum_by f (values_of pair) + f w = λ f.
    let P : Option SeriesPoints → Type 0 = λ o. sum_by f (values_of (insert_entry nat_cmp pair series w)) + unwrap_or (option_map f o) 0 ≡ sum_by f (values_of pair) + f w in
    subst P absent (sum_by-insert_entry f nat_cmp_total pair series w sorted)
    in
    rw joined record {
      sequence = omega (arith, change (λ s. length s.sequence), are.sequence, swap.sequence, ap (λ (t : Totals). t.sequence) was, ap (λ (t : Totals). t.sequence) now);
      unsequence = omega (arith, change (λ s. length s.unsequence), are.unsequence, swap.unsequence, ap (λ (t : Totals). t.unsequence) was, ap (λ (t : Totals). t.unsequence) now);
      bytes = omega (arith, change series_bytes, are.bytes, swap.bytes, ap (λ (t : Totals). t.bytes) was, ap (λ (t : Totals). t.bytes) now);
      spare = omega (arith, change (λ s. s.spare), are.spare, swap.spare, ap (λ (t : Totals). t.spare) was, ap (λ (t : Totals). t.spare) now);
    }

-- a number names one series
one-series : (series other : ℕ) → is_series series other ≡ true → series ≡ other
one-series series other h = ranked series other Equal (sym (is_eq-equal (nat_cmp series other) h))

-- tables

abbrev points_at : Space → ℕ × SeriesPoints → ℕ × List Point
points_at space entry = (entry.0, points_in space entry.1)

abbrev has_point : ℕ × List Point → Bool
has_point entry = not (length entry.1 == 0)

pub table-same : (space : Space) (series : ℕ) (pair : Pair) (v w : SeriesPoints) → lookup (is_series series) pair ≡ Some v → points_in space w ≡ points_in space v
    → table space (set_value (is_series series) pair w) ≡ table space pair
table-same space series pair v w found same = ap (filter has_point) (rows pair found)
  where
    rows : (pair : Pair) → lookup (is_series series) pair ≡ Some v → map (points_at space) (set_value (is_series series) pair w) ≡ map (points_at space) pair
    rows [] found = refl
    rows (e ∷ es) found =
        elim (is_series series e.0) as (λ b. cond b (Some e.1) (lookup (is_series series) es) ≡ Some v → map (points_at space) (cond b ((e.0, w) ∷ es) (e ∷ set_value (is_series series) es w)) ≡ points_at space e ∷ map (points_at space) es) [
          | true ↦ λ h. ap (λ ps. (e.0, ps) ∷ map (points_at space) es) (same ∙ ap (λ o. points_in space (unwrap_or o blank)) (sym h))
          | false ↦ λ h. ap (λ r. points_at space e ∷ r) (rows es h)
        ] found

pub table-joined : (space : Space) (series : ℕ) (pair : Pair) (w : SeriesPoints) → lookup (is_series series) pair ≡ None → points_in space w ≡ [] → table space (insert_entry nat_cmp pair series w) ≡ table space pair
table-joined space series [] w absent empty = rw empty refl
table-joined space series (e ∷ es) w absent empty =
    elim (nat_cmp series e.0) as (λ o. cond (is_eq o) (Some e.1) (lookup (is_series series) es) ≡ None → table space (match_ordering o ((series, w) ∷ e ∷ es) ((e.0, w) ∷ es) (e ∷ insert_entry nat_cmp es series w)) ≡ table space (e ∷ es)) [
      | Less ↦ λ h. rw empty refl
      | Equal ↦ λ h. absurd (some-none e.1 h)
      | Greater ↦ λ h. ap (λ r. cond (not (length (points_in space e.1) == 0)) (points_at space e ∷ r) r) (table-joined space series es w h empty)
    ] absent

-- room

pub other-spare : (series other : ℕ) (b : Bool) (old new : Option SeriesPoints) (w : SeriesPoints) → b ≡ is_series series other → new ≡ cond b (Some w) old → series ≢ other → (unwrap_or new blank).spare ≡ (unwrap_or old blank).spare
other-spare series other true old new w q e ne = absurd (ne (one-series series other (sym q)))
other-spare series other false old new w q e ne = ap (λ o. (unwrap_or o blank).spare) e

-- where one series has become another with the room that is provided, each has the room that is provided
pub provided : (series other : ℕ) (b : Bool) (old new : Option SeriesPoints) (w : SeriesPoints) → b ≡ is_series series other → new ≡ cond b (Some w) old
    → (series ≡ other → IsProvided (unwrap_or old blank).spare w.spare) → IsProvided (unwrap_or old blank).spare (unwrap_or new blank).spare
provided series other true old new w q e here = subst (λ o. IsProvided (unwrap_or old blank).spare (unwrap_or o blank).spare) (sym e) (here (one-series series other (sym q)))
provided series other false old new w q e here = inl (ap (λ o. (unwrap_or o blank).spare) e)

same-series : (series : ℕ) → is_series series series ≡ true
same-series series = ap is_eq (sym (nat_cmp_is series series Equal refl))

-- a series without room that has room for one then, or none as before, where the others stay
pub provided-one : (series other : ℕ) (old new : Pair) → spare_of series old ≡ 0 → IsProvided (spare_of series old) (spare_of series new)
    → (series ≢ other → spare_of other new ≡ spare_of other old) → IsProvided (spare_of other old) (spare_of other new)
provided-one series other old new none here others = by (is_series series other) refl
  where
    by : (b : Bool) → is_series series other ≡ b → IsProvided (spare_of other old) (spare_of other new)
    by true q = subst (λ n. IsProvided (spare_of n old) (spare_of n new)) (one-series series other q) here
    by false q = inl (others (λ e. absurd (false≢true (sym q ∙ ap (is_series series) (sym e) ∙ same-series series))))

-- what `reserve` leaves of a series that had no room
pub reserved : (result : Result (Unit {0}) Memory) (old new : ℕ) → OnOk result (new ≡ old + 1) → OnErr result (new ≡ old) → old ≡ 0 → IsProvided old new
reserved (Ok x) old new ok err none = inr (none, ok ∙ ap (λ n. n + 1) none)
reserved (Err x) old new ok err none = inl err

-- the points stay where one series has become another with the same points
pub kept-points : (space : Space) (series other : ℕ) (b : Bool) (old new : Option SeriesPoints) (w : SeriesPoints) → b ≡ is_series series other → new ≡ cond b (Some w) old
    → (series ≡ other → points_in space w ≡ points_in space (unwrap_or old blank)) → points_in space (unwrap_or new blank) ≡ points_in space (unwrap_or old blank)
kept-points space series other true old new w q e same = ap (λ o. points_in space (unwrap_or o blank)) e ∙ same (one-series series other (sym q))
kept-points space series other false old new w q e same = ap (λ o. points_in space (unwrap_or o blank)) e

pub more-room : (space : Space) (cells : ℕ) (v : SeriesPoints) → points_in space (with_room cells v) ≡ points_in space v
more-room Sequence cells v = refl
more-room Unsequence cells v = refl

pub blank-points : (space : Space) → points_in space blank ≡ []
blank-points Sequence = refl
blank-points Unsequence = refl

-- the numbers of the series in a table

abbrev ids_in : Space → Pair → List ℕ
ids_in space pair = map (λ entry. entry.0) (table space pair)

pub id-passed : (space : Space) (v : SeriesPoints) (k : ℕ) (entries rest : Pair) → entries ≡ (k, v) ∷ rest → (length (points_in space v) == 0) ≡ true → map (λ entry. entry.0) (table space entries) ≡ map (λ entry. entry.0) (table space rest)
id-passed space v k entries rest is none = ap (ids_in space) is ∙ rw none refl

pub id-taken : (space : Space) (v : SeriesPoints) (k : ℕ) (entries rest : Pair) (ids : List ℕ) → entries ≡ (k, v) ∷ rest → (length (points_in space v) == 0) ≡ false
    → (ids ++ k ∷ []) ++ map (λ entry. entry.0) (table space rest) ≡ ids ++ map (λ entry. entry.0) (table space entries)
id-taken space v k entries rest ids is some =
    let found : ids_in space ((k, v) ∷ rest) ≡ k ∷ ids_in space rest = rw some refl in
    append_assoc ids (k ∷ []) (ids_in space rest) ∙ ap (λ r. ids ++ r) (sym found ∙ ap (ids_in space) (sym is))
