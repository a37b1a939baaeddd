-- Private steps: the pages of sources that are clean, and sources that pass over them.
use Rattle.std.specs.Prelude.{◌≡◌, ℕ, ◌<◌, Bool, false, true, not, ◌&&◌, List, [], ◌∷◌, get_or, if◌then◌else◌, length, map}
use Rattle.std.specs.List.{list_any}
use Rattle.tsdb_aggregate.specs.Pieces.{has_asked}
use Rattle.tsdb_base.specs.declared.answers.Aggregate.{Aggregate}
use Rattle.tsdb_base.specs.declared.point.Range.{Range}
use Rattle.tsdb_base.specs.declared.point.Stats.{Stats}
use Rattle.tsdb_streams.specs.Clean.{any_meets, hull_of, is_clean, others}
use Rattle.tsdb_streams.specs.KeptPoints.{stats_range}
use Rattle.tsdb_streams.specs.declared.survival.Kept.{Kept}
use Rattle.tsdb_streams.specs.declared.lane.Lane.{Lane}
use Rattle.tsdb_streams.specs.declared.lane.Lane.TheVariants.{Pages, Part}
use Rattle.tsdb_index.specs.declared.index.PageEntry.{PageEntry}

abbrev pub page_times : PageEntry → Range
page_times page = stats_range page.stats

-- a page as its entry says it: its times, and whether its statistics answer the aggregate
abbrev pub said_page : Aggregate → PageEntry → Range × Bool
said_page name page = (page_times page, has_asked name page.stats)

-- a page of a source that was born so is clean for the aggregate
abbrev pub is_clean_page : Aggregate → Kept → List (List Range) → ℕ → PageEntry → Bool
is_clean_page name kept hulls born page =
    is_clean kept.series.now kept.range kept.marks.now.marks hulls born (said_page name page)

-- the statistics of the pages that are passed over
abbrev pub picked : List Bool → List PageEntry → List Stats
picked [] pages = []
picked (passed ∷ flags) [] = []
picked (passed ∷ flags) (page ∷ pages) = if passed then page.stats ∷ picked flags pages else picked flags pages

-- all of these are set
abbrev pub all_set : List Bool → Bool
all_set [] = true
all_set (flag ∷ flags) = flag && all_set flags

module _ {R : Type 0} where
  -- the times of each page of a source, or of the part
  abbrev pub lane_hulls : Lane R → List Range
  lane_hulls (Pages lane) = map page_times lane.entry.pages
  lane_hulls (Part lane) = hull_of lane.rest.now

  -- the statistics of the pages that a source passes over, or of their chunk where they are one piece
  abbrev pub lane_passed : Lane R → List Stats
  lane_passed (Pages lane) =
      if lane.whole then lane.entry.stats ∷ [] else picked lane.passed.items lane.entry.pages
  lane_passed (Part lane) = []

  -- which pages of a source are clean
  abbrev pub flags_of : Aggregate → Kept → List (List Range) → Lane R → List Bool
  flags_of name kept hulls (Pages lane) = map (is_clean_page name kept hulls lane.born.0) lane.entry.pages
  flags_of name kept hulls (Part lane) = []

  -- the pages with these flags are one piece: all are set, and the statistics of the chunk answer the aggregate, and
  -- nothing of another source meets the times of the chunk
  abbrev pub whole_of : Aggregate → List (List Range) → List Bool → Lane R → Bool
  whole_of name hulls flags (Pages lane) = all_set flags
      && (has_asked name lane.entry.stats && not (list_any (any_meets (stats_range lane.entry.stats)) hulls))
  whole_of name hulls flags (Part lane) = false

  -- the same source with these flags, as one piece or not
  abbrev pub IsFlagged : List Bool → Bool → Lane R → Lane R → Type 0
  IsFlagged flags whole (Pages old) (Pages new) = (new.passed.items ≡ flags) × (new.right ≡ old.right)
      × (new.born ≡ old.born) × (new.entry ≡ old.entry) × (new.next ≡ old.next) × (new.whole ≡ whole)
  IsFlagged flags whole (Pages old) (Part new) = ⊥
  IsFlagged flags whole (Part old) (Pages new) = ⊥
  IsFlagged flags whole (Part old) (Part new) = new ≡ old

  -- the same source, which passes over its clean pages
  abbrev pub IsCleaned : Aggregate → Kept → List (List Range) → Lane R → Lane R → Type 0
  IsCleaned name kept hulls old new =
      IsFlagged (flags_of name kept hulls old) (whole_of name hulls (flags_of name kept hulls old) old) old new

  -- each source is the same, and passes over its clean pages
  pub record AreCleaned (name : Aggregate) (kept : Kept) (old new : List (Lane R)) : Type 0 where
    pub long : length new ≡ length old
    pub hulls : map lane_hulls new ≡ map lane_hulls old
    pub each : (k : ℕ) (d : Lane R) → k < length old
        → IsCleaned name kept (others k (map lane_hulls old)) (get_or old k d) (get_or new k d)
