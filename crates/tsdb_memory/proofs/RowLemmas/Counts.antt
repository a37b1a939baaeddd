-- The pair of a state has as many points and bytes as the one in memory.
use Rattle.std.proofs.Common.{◌≡◌, ◌↔◌, inl, inr, ℕ, ◌+◌, List, [], ◌∷◌, map}
use Rattle.std.proofs.Common.{refl, sym, ap, ◌∙◌, arith}
use Rattle.std.specs.Prelude.{sum_by}
use Rattle.std.specs.FinMap.{empty_of_len, get, len, len-empty}
use Rattle.std.specs.Map.{values_of}
use Rattle.std.specs.Option.{option_map, unwrap_or}
use Rattle.std.proofs.lemmas.List.Sums.{sum_by-append, sum_by-cons}
use Rattle.tsdb_base.specs.declared.ids.Space.{Space}
use Rattle.tsdb_base.specs.declared.ids.Space.TheVariants.{Sequence, Unsequence}
use Rattle.tsdb_base.specs.declared.point.Point.{Point}
use Rattle.tsdb_base.specs.declared.value.Value.{Value}
use Rattle.tsdb_base.specs.Lists.{Among}
use Rattle.tsdb_state.specs.Places.{Content, PointPlace, place_cmp}
use Rattle.tsdb_model.specs.declared.command.Schema.{Schema}
use Rattle.tsdb_memory.proofs.Counts.{are_keys, counted_points, path_in, placed, places_apart, places_in, value_placed}
use Rattle.tsdb_memory.specs.Model.{IsSoundMemory}
use Rattle.tsdb_memory.specs.StateOfMemory.{IsPairContent, IsMemoryOf}
use Rattle.tsdb_memory.specs.Store.{MemoryState}
use Rattle.tsdb_memtable.specs.Pairs.{HasRisingSeries, Pair, SeriesPoints, byte_count, space_count, points_in, series_bytes}
use Rattle.tsdb_memtable.specs.Points.{counted_bytes, point_bytes, value_bytes}
use Rattle.tsdb_memory.proofs.RowLemmas.Weights.{total_of}
use Rattle.tsdb_memory.specs.Fits.{HasCounts, HasNoPairPoint}
use Rattle.tsdb_state.specs.Limit.{IsEmptyPair, content_bytes}
use Rattle.tsdb_state.specs.State as state

-- the bytes of a value, with those of its time
abbrev pub weight : Value → ℕ
weight value = 8 + value_bytes value

-- those of the value at a place
abbrev weight_at : Content → PointPlace → ℕ
weight_at content place = unwrap_or (option_map weight (get content place)) 0

-- how many bytes the points of a space count
abbrev space_bytes : Space → Pair → ℕ
space_bytes space pair = sum_by (λ (series : SeriesPoints). counted_bytes (points_in space series)) (values_of pair)

four : (a b c d : ℕ) → (a + b) + (c + d) ≡ (a + c) + (b + d)
four a b c d = omega arith

both_spaces : (pair : Pair) → byte_count pair ≡ space_bytes Sequence pair + space_bytes Unsequence pair
both_spaces [] = refl
both_spaces (entry ∷ pair) =
    sum_by-cons series_bytes entry.1 (values_of pair)
    ∙ ap (λ n. series_bytes entry.1 + n) (both_spaces pair)
    ∙ four (counted_bytes entry.1.sequence) (counted_bytes entry.1.unsequence) (space_bytes Sequence pair)
    (space_bytes Unsequence pair)
    ∙ (λ i. sym (sum_by-cons (λ (series : SeriesPoints). counted_bytes series.sequence) entry.1 (values_of pair)) i
    + sym (sum_by-cons (λ (series : SeriesPoints). counted_bytes series.unsequence) entry.1 (values_of pair)) i)

-- the weights at the places of points are those of the points
weights_placed : (at : PointPlace → ℕ) (path : List ℕ) (points : List Point)
    → ((point : Point) → Among point points → at (placed path point) ≡ point_bytes point)
    → sum_by at (map (placed path) points) ≡ counted_bytes points
weights_placed at path [] are = refl
weights_placed at path (p ∷ points) are =
    sum_by-cons at (placed path p) (map (placed path) points)
    ∙ (λ i. are p (inl refl) i + weights_placed at path points (λ q among. are q (inr among)) i)
    ∙ sym (sum_by-cons point_bytes p points)

weights_in : (at : PointPlace → ℕ) (series : List Schema) (space : Space) (pair : Pair)
    → ((entry : ℕ × SeriesPoints) (point : Point) → Among entry pair → Among point (points_in space entry.1)
    → at (placed (path_in series entry.0) point) ≡ point_bytes point)
    → sum_by at (places_in series space pair) ≡ space_bytes space pair
weights_in at series space [] are = refl
weights_in at series space (entry ∷ pair) are =
    sum_by-append at (map (placed (path_in series entry.0)) (points_in space entry.1)) (places_in series space pair)
    ∙ (λ i. weights_placed at (path_in series entry.0) (points_in space entry.1)
    (λ point among. are entry point (inl refl) among) i
    + weights_in at series space pair (λ other point listed among. are other point (inr listed) among) i)
    ∙ sym (sum_by-cons (λ (series : SeriesPoints). counted_bytes (points_in space series)) entry.1 (values_of pair))

module _ (memory : MemoryState) (sound : IsSoundMemory memory) (sorted : HasRisingSeries memory.working) (space : Space)
    (content : Content) (is : IsPairContent memory.series space memory.working content) where
  points_counted : len content ≡ space_count space memory.working
  points_counted = counted_points memory.series space memory.working content sound.once sound.known (sound.rising space)
      sorted is

  bytes_counted : content_bytes content ≡ space_bytes space memory.working
  bytes_counted =
      total_of weight (weight_at content) (places_in memory.series space memory.working) content
      (places_apart memory.series space memory.working content sound.once sound.known (sound.rising space) sorted is)
      (are_keys memory.series space memory.working content sound.once sound.known (sound.rising space) sorted is)
      (λ q v at. ap (λ o. unwrap_or (option_map weight o) 0) at)
      ∙ weights_in (weight_at content) memory.series space memory.working
      (λ entry point listed among. ap (λ o. unwrap_or (option_map weight o) 0)
      (value_placed memory.series space memory.working content sound.once sound.known (sound.rising space) sorted is
      entry point listed among))

pub has_counts : (memory : MemoryState) (shown : state.StoreState) → IsSoundMemory memory → HasRisingSeries memory.working
    → IsMemoryOf memory shown → HasCounts memory.working shown.working
has_counts memory shown sound sorted is = record {
  points = λ i. points_counted memory sound sorted Sequence shown.working.sequence is.working.sequence i
      + points_counted memory sound sorted Unsequence shown.working.unsequence is.working.unsequence i;
  bytes = (λ i. bytes_counted memory sound sorted Sequence shown.working.sequence is.working.sequence i
      + bytes_counted memory sound sorted Unsequence shown.working.unsequence is.working.unsequence i)
      ∙ sym (both_spaces memory.working);
}

-- a pair without points

none_first : (a b c d : ℕ) → a + b ≡ c + d → c ≡ 0 → d ≡ 0 → (a ≡ 0) × (b ≡ 0)
none_first a b c d e f g = (omega (arith, e, f, g), omega (arith, e, f, g))

pub empty_pair : (pair : Pair) (shown : state.PairContent) → HasCounts pair shown → HasNoPairPoint pair ↔ IsEmptyPair shown
empty_pair pair shown counts = (
  λ none. let both = none_first (len shown.sequence) (len shown.unsequence) (space_count Sequence pair)
      (space_count Unsequence pair) counts.points none.0 none.1 in
      (empty_of_len shown.sequence both.0, empty_of_len shown.unsequence both.1),
  λ none. none_first (space_count Sequence pair) (space_count Unsequence pair) (len shown.sequence) (len shown.unsequence)
      (sym counts.points) (ap len none.0 ∙ len-empty place_cmp Value) (ap len none.1 ∙ len-empty place_cmp Value),
)
