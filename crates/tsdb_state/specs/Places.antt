-- Places, each a series at a time, and contents: what has a value at some places.
use Rattle.std.specs.Prelude.{ℕ, ℤ, Bool, ◌&&◌, not, List}
use Rattle.std.specs.Cmp.Lexicographic.{slice_cmp}
use Rattle.std.specs.FinMap.{FinMap, insert, retain_keys}
use Rattle.std.specs.Ordering.{int_cmp, is_eq, nat_cmp, ordering_then}
use Rattle.std.specs.declared.cmp.Ordering.{Ordering}
use Rattle.tsdb_base.specs.declared.point.Range.{Range}
use Rattle.tsdb_base.specs.declared.value.Value.{Value}
use Rattle.tsdb_model.specs.World.{is_in}
pub use Rattle.tsdb_marks.specs.Index.{is_path}

-- a series, by the bytes of its path, and a time
pub record PointPlace : Type 0 where
  pub path : List ℕ
  pub time : ℤ

-- the order of places: by path, and then by time
unfoldable pub place_cmp : PointPlace → PointPlace → Ordering
place_cmp a b = ordering_then (slice_cmp nat_cmp a.path b.path) (int_cmp a.time b.time)

-- a value at each of some places, of whatever series
abbrev pub Content : Type 0
Content = FinMap place_cmp Value

-- the content with this value at the place, instead of one that was there
abbrev pub put_content : PointPlace → Value → Content → Content
put_content place value content = insert content place value

-- whether the place is of the series, at a time in the range
abbrev pub is_within : List ℕ → Range → PointPlace → Bool
is_within path range place = is_path path place.path && is_in range place.time

-- the content without the points of the series in the range
abbrev pub cut_content : List ℕ → Range → Content → Content
cut_content path range content = retain_keys content (λ place. not (is_within path range place))
