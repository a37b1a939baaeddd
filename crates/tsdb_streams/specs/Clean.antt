-- Which pages of a series are clean for an aggregate.
use Rattle.std.specs.Prelude.{ℕ, ◌+◌, Bool, true, not, ◌&&◌, nat_lt, List, [], ◌∷◌, ◌++◌, drop, filter, is_some, length}
use Rattle.std.specs.Prelude.{flat_map, map, slice_get, sum_by, take}
use Rattle.std.specs.List.{enumerate_from, list_any}
use Rattle.std.specs.Option.{option_map, unwrap_or}
use Rattle.tsdb_aggregate.specs.Pieces.{overlap}
use Rattle.tsdb_base.specs.declared.answers.Aggregate.{Aggregate}
use Rattle.tsdb_base.specs.declared.answers.Aggregate.TheVariants.{Sum}
use Rattle.tsdb_base.specs.declared.point.Point.{Point}
use Rattle.tsdb_base.specs.declared.point.Range.{Range}
use Rattle.tsdb_model.specs.Folds.{sum_of}
use Rattle.tsdb_streams.specs.Files.{FilePages, sums_in}
use Rattle.tsdb_streams.specs.declared.source.StreamSource.{StreamSource}
use Rattle.tsdb_streams.specs.declared.source.StreamSource.TheVariants as source
use Rattle.tsdb_state.specs.Places.{is_path}
use Rattle.tsdb_model.specs.World.{is_in}
use Rattle.tsdb_marks.specs.declared.marks.Mark.{Mark}
use Rattle.tsdb_outside.specs.Files.{NamedFile}

-- the times from the first point to the last one, where there is one
abbrev pub hull_of : List Point → List Range
hull_of [] = []
hull_of (point ∷ points) = record {
  from = point.time;
  to = unwrap_or (option_map (λ last. last.time) (slice_get (point ∷ points) (length points))) point.time;
} ∷ []

-- one of these meets the times
abbrev pub any_meets : Range → List Range → Bool
any_meets times hulls = list_any (λ hull. overlap hull times) hulls

-- all but the one with this number
abbrev pub others : {T : Type 0} → ℕ → List T → List T
others number list = take number list ++ drop (number + 1) list

-- a mark of the series is newer than the source and meets the times
abbrev pub is_marked : List ℕ → List Mark → ℕ → Range → Bool
is_marked path marks born times = list_any (λ mark. is_path mark.path path
    && (nat_lt born mark.version.0 && overlap (record { from = mark.from; to = mark.to }) times)) marks

-- the times lie in the range, and no mark meets them, and no page or part of another source. `hulls` has the times of
-- the pages and parts of each of the other sources.
abbrev pub is_apart : List ℕ → Range → List Mark → List (List Range) → ℕ → Range → Bool
is_apart path range marks hulls born times = (is_in range times.from && is_in range times.to)
    && (not (is_marked path marks born times) && not (list_any (any_meets times) hulls))

-- the statistics of these points answer the aggregate, where those of numbers have a sum or have none
abbrev pub answers : Aggregate → Bool → List Point → Bool
answers Sum sums points = sums && is_some (sum_of points)
answers name sums points = true

-- a page of these points: its times, and whether its statistics answer the aggregate
abbrev pub page_of : Aggregate → Bool → List Point → List (Range × Bool)
page_of name sums points = map (λ times. (times, answers name sums points)) (hull_of points)

-- CLEAN for an aggregate: the statistics of the page answer it, and nothing else meets its times.
abbrev pub is_clean : List ℕ → Range → List Mark → List (List Range) → ℕ → Range × Bool → Bool
is_clean path range marks hulls born page = page.1 && is_apart path range marks hulls born page.0

-- how many of these pages meet the range and are not clean
abbrev pub count_read : List ℕ → Range → List Mark → List (List Range) → ℕ → List (Range × Bool) → ℕ
count_read path range marks hulls born pages =
    length (filter (λ page. not (is_clean path range marks hulls born page) && overlap range page.0) pages)

module _ {R : Type 0} (file : R → NamedFile) (pages : FilePages) where
  -- the times of each page of a source, as its points are told, or of the part
  abbrev pub source_hulls : StreamSource R → List Range
  source_hulls (source.File right born) = flat_map hull_of (unwrap_or (pages (file right.now).number) [])
  source_hulls (source.Part points born) = hull_of points.now

  -- each page of a file, as its points are told, for an aggregate
  abbrev pub source_pages : Aggregate → StreamSource R → List (Range × Bool)
  source_pages name (source.File right born) =
      flat_map (page_of name (sums_in (file right.now))) (unwrap_or (pages (file right.now).number) [])
  source_pages name (source.Part points born) = []

  -- how many pages of the source with this number meet the range and are not clean for the aggregate; `hulls` has the
  -- times of each
  abbrev pub source_read : Aggregate → List ℕ → Range → List Mark → List (List Range) → ℕ → StreamSource R → ℕ
  source_read name path range marks hulls number (source.File right born) =
      count_read path range marks (others number hulls) born.0 (source_pages name (source.File right born))
  source_read name path range marks hulls number (source.Part points born) = 0

  -- how many pages of the sources meet the range and are not clean for the aggregate
  abbrev pub sources_read : Aggregate → List ℕ → Range → List Mark → List (StreamSource R) → ℕ
  sources_read name path range marks sources = sum_by
      (λ entry. source_read name path range marks (map source_hulls sources) entry.0 entry.1) (enumerate_from 0 sources)
