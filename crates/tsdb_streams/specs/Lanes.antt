-- What is left of a source, and what calls that take points of it leave.
use Rattle.std.specs.Prelude.{◌≡◌, ℕ, ◌+◌, ◌-◌, ◌*◌, ◌^◌, Bool, false, not, ◌&&◌, List, [], ◌∷◌, ◌++◌, Option, None, Some}
use Rattle.std.specs.Prelude.{length, drop, filter, if◌then◌else◌, option_map, slice_get}
use Rattle.std.specs.Option.{unwrap_or}
use Rattle.tsdb_aggregate.specs.Pieces.{overlap}
use Rattle.tsdb_base.specs.declared.point.Point.{Point}
use Rattle.tsdb_base.specs.declared.point.Range.{Range}
use Rattle.tsdb_streams.specs.Files.{FilePages, HasEntryPages, IsTold, IsTruth}
use Rattle.tsdb_streams.specs.KeptPoints.{is_kept, stats_range}
use Rattle.tsdb_streams.specs.declared.survival.Kept.{Kept}
use Rattle.tsdb_streams.specs.declared.lane.Lane.{Lane}
use Rattle.tsdb_streams.specs.declared.lane.Lane.TheVariants.{Pages, Part}
use Rattle.tsdb_streams.specs.declared.lane.PageLane.{PageLane}
use Rattle.tsdb_streams.specs.declared.lane.PartLane.{PartLane}
use Rattle.tsdb_streams.specs.declared.source.StreamSource.{StreamSource}
use Rattle.tsdb_streams.specs.declared.source.StreamSource.TheVariants as source
use Rattle.tsdb_index.specs.declared.index.PageEntry.{PageEntry}
use Rattle.tsdb_outside.specs.Files.{NamedFile, Store}
use Rattle.tsdb_streams.specs.Pieces.{joined}

-- whether a stream keeps a point of a source that was born so
abbrev pub keep_of : Kept → ℕ → Point → Bool
keep_of kept = is_kept kept.series.now kept.range kept.marks.now.marks

-- where the list is told, these points are its first ones, and what is left is told
abbrev pub Gives : Option (List Point) → List Point → Option (List Point) → Type 0
Gives None points after = Unit {0}
Gives (Some before) points None = ⊥
Gives (Some before) points (Some after) = before ≡ points ++ after

-- the page with this number is passed over: the flags are those of the first pages
abbrev pub is_passed : List Bool → ℕ → Bool
is_passed passed number = unwrap_or (slice_get passed number) false

-- the pages, where those that are passed over have no points any more
abbrev pub left_pages : List Bool → List (List Point) → List (List Point)
left_pages [] list = list
left_pages (passed ∷ flags) [] = []
left_pages (passed ∷ flags) (page ∷ list) = (if passed then [] else page) ∷ left_pages flags list

-- a page that is not passed over meets the range
abbrev pub is_due : Range → Bool → PageEntry → Bool
is_due range passed page = not passed && overlap range (stats_range page.stats)

-- how many pages are due
abbrev pub count_due : Range → List Bool → List PageEntry → ℕ
count_due range flags [] = 0
count_due range [] (page ∷ pages) = (if is_due range false page then 1 else 0) + count_due range [] pages
count_due range (passed ∷ flags) (page ∷ pages) =
    (if is_due range passed page then 1 else 0) + count_due range flags pages

-- the points of a part that are kept
abbrev pub part_left : (ℕ → Point → Bool) → PartLane → List Point
part_left keep lane = filter (keep lane.born.0) lane.rest.now

module _ {R : Type 0} (file : R → NamedFile) where
  -- the points of the source that are kept, where they are told
  abbrev pub source_left : FilePages → (ℕ → Point → Bool) → StreamSource R → Option (List Point)
  source_left pages keep (source.File right born) =
      option_map (λ list. filter (keep born.0) (joined list)) (pages (file right.now).number)
  source_left pages keep (source.Part points born) = Some (filter (keep born.0) points.now)

  -- all points of the source, where they are told
  abbrev pub source_all : FilePages → StreamSource R → Option (List Point)
  source_all pages (source.File right born) = option_map joined (pages (file right.now).number)
  source_all pages (source.Part points born) = Some points.now

  -- a file is of the store
  abbrev pub IsSourceOfStore : Store → StreamSource R → Type 0
  IsSourceOfStore store (source.File right born) = (file right.now).store ≡ store
  IsSourceOfStore store (source.Part points born) = Unit {0}

  -- what is told of a file is so
  abbrev pub IsTrueSource : List ℕ × List ℕ → FilePages → StreamSource R → Type 0
  IsTrueSource names pages (source.File right born) = IsTruth names pages (file right.now)
  IsTrueSource names pages (source.Part points born) = Unit {0}

  -- the pages of a file are told, where it tells its bytes
  abbrev pub IsToldSource : FilePages → StreamSource R → Type 0
  IsToldSource pages (source.File right born) = IsTold pages (file right.now)
  IsToldSource pages (source.Part points born) = Unit {0}

  -- the points that are left of the pages that are not passed over, from the next one on, where they are told
  abbrev pub pages_left : FilePages → (ℕ → Point → Bool) → PageLane R → Option (List Point)
  pages_left pages keep lane =
      option_map (λ list. filter (keep lane.born.0) (joined (drop lane.next (left_pages lane.passed.items list)))) (pages (file lane.right.now).number)

  -- what is told of the file are the pages of the entry
  abbrev pub ArePagesOf : FilePages → PageLane R → Type 0
  ArePagesOf pages lane = (list : List (List Point)) → pages (file lane.right.now).number ≡ Some list
      → HasEntryPages lane.entry (file lane.right.now) list

  -- what is left of a source, where it is told
  abbrev pub lane_points_left : FilePages → (ℕ → Point → Bool) → Lane R → Option (List Point)
  lane_points_left pages keep (Pages lane) = pages_left pages keep lane
  lane_points_left pages keep (Part lane) = Some (part_left keep lane)

  -- a file is of the store
  abbrev pub IsLaneOfStore : Store → Lane R → Type 0
  IsLaneOfStore store lane = (pages : PageLane R) → lane ≡ Pages pages → (file pages.right.now).store ≡ store

  -- what is told of a file is so
  abbrev pub IsTrueLane : FilePages → Lane R → Type 0
  IsTrueLane pages lane = (page : PageLane R) → lane ≡ Pages page → ArePagesOf pages page

  -- the pages of a file are told, where it tells its bytes
  abbrev pub IsToldLane : FilePages → Lane R → Type 0
  IsToldLane pages (Pages lane) = IsTold pages (file lane.right.now)
  IsToldLane pages (Part lane) = Unit {0}

  -- a source and its lane before a page was read; the lane of a file without the series is a part
  abbrev pub IsNewLane : StreamSource R → Lane R → Type 0
  IsNewLane (source.File right born) (Pages lane) =
      (lane.right ≡ right) × (lane.born ≡ born) × (lane.passed.items ≡ []) × (lane.next ≡ 0)
  IsNewLane (source.File right born) (Part lane) = (lane.rest.now ≡ []) × (lane.born ≡ born)
  IsNewLane (source.Part points born) (Pages lane) = ⊥
  IsNewLane (source.Part points born) (Part lane) = (lane.rest ≡ points) × (lane.born ≡ born)

  -- a source as it is opened: whatever is told of it truly is told of the lane, and all of its points are left
  pub record OpensAs (names : List ℕ × List ℕ) (source : StreamSource R) (lane : Lane R) : Type 0 where
    pub left : (pages : FilePages) → IsTrueSource names pages source → (keep : ℕ → Point → Bool) (points : List Point)
        → source_left pages keep source ≡ Some points → lane_points_left pages keep lane ≡ Some points
    pub truth : (pages : FilePages) → IsTrueSource names pages source → IsTrueLane pages lane
    pub told : (pages : FilePages) → IsToldSource pages source → IsToldLane pages lane
    pub new : IsNewLane source lane

-- the most points that a source still has: a list has fewer than 2^64
abbrev pub lane_points_most : {R : Type 0} → Lane R → ℕ
lane_points_most (Pages lane) = 2 ^ 64 * (length lane.entry.pages - lane.next)
lane_points_most (Part lane) = length lane.rest.now

-- the same file, of which another page is next
pub record IsSameFile {R : Type 0} (old new : PageLane R) : Type 0 where
  pub right : new.right ≡ old.right
  pub born : new.born ≡ old.born
  pub entry : new.entry ≡ old.entry
  pub passed : new.passed ≡ old.passed

-- how many pages of a source are due, whether they were read or not
abbrev pub lane_due : {R : Type 0} → Range → Lane R → ℕ
lane_due range (Pages lane) = count_due range lane.passed.items lane.entry.pages
lane_due range (Part lane) = 0
