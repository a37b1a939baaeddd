-- The sources of a series: rights on listed files, and copies of points in memory.
use Rattle.std.specs.Prelude.{◌≡◌, ℕ, ◌==◌, Bool, not, List, [], ◌∷◌, ◌++◌, length, map, IsSome, Some}
use Rattle.std.specs.List.{AllByRecursion as Each, AllZip, filter, flat_map}
use Rattle.tsdb_base.specs.declared.ids.FileNumber.{FileNumber}
use Rattle.tsdb_base.specs.declared.ids.Space.{Space}
use Rattle.tsdb_base.specs.declared.ids.Space.TheVariants.{Sequence, Unsequence}
use Rattle.tsdb_base.specs.declared.ids.Stamp.{Stamp}
use Rattle.tsdb_base.specs.declared.point.Point.{Point}
use Rattle.tsdb_base.specs.declared.point.Range.{Range}
use Rattle.tsdb_fileset.specs.Files.{KeptFiles, entries_in, has_path, kept_file}
use Rattle.tsdb_fileset.specs.Rights.{IsRightTo}
use Rattle.tsdb_fileset.specs.Store.{FrozenPair, MemoryState}
use Rattle.tsdb_memtable.specs.Pairs.{points_of}
use Rattle.tsdb_base.specs.Points.{IsRising}
use Rattle.tsdb_memtable.specs.Points.{is_point_within}
use Rattle.tsdb_outside.specs.Files.{NamedFile}
use Rattle.tsdb_pin.specs.declared.pin.PinnedSource.{PinnedSource}
use Rattle.tsdb_pin.specs.declared.pin.PinnedSource.TheVariants.{File, Part}
use Rattle.tsdb_plan.specs.declared.entry.FileEntry.{FileEntry}

-- the pairs in memory from the oldest on; the working one has the stamp as its born
abbrev pub pairs_in : MemoryState → List FrozenPair
pairs_in store = store.frozen ++ record { born = store.stamp; pair = store.working } ∷ []

-- the points of a series in the range
abbrev pub slice_of : Space → ℕ → Range → FrozenPair → List Point
slice_of space number range pair = filter (is_point_within range) (points_of space number pair.pair)

abbrev pub has_slice : Space → ℕ → Range → FrozenPair → Bool
has_slice space number range pair = not (length (slice_of space number range pair) == 0)

-- the points of the series rise in time in each of the pairs
abbrev pub AreRisingIn : Space → ℕ → List FrozenPair → Type 0
AreRisingIn space number pairs = Each (λ pair. IsRising (points_of space number pair.pair)) pairs

module _ {F S R P : Type 0} where
  -- copies of the points of the series in the range, from each pair that has some
  abbrev pub part_in : Space → ℕ → Range → FrozenPair → PinnedSource F S R P
  part_in space number range pair = Part (record { 0 = pair.born }) (slice_of space number range pair)

  abbrev pub parts_in : Space → ℕ → Range → List FrozenPair → List (PinnedSource F S R P)
  parts_in space number range pairs =
      map (part_in space number range) (filter (has_slice space number range) pairs)

  -- the numbers of the files that the sources have rights on, once for each right
  abbrev pub source_numbers : PinnedSource F S R P → List ℕ
  source_numbers (File number born right) = number.0 ∷ []
  source_numbers (Part born points) = []

  abbrev pub numbers_in : List (PinnedSource F S R P) → List ℕ
  numbers_in sources = flat_map source_numbers sources

  -- sources without a right came behind the others
  abbrev pub AddsParts : List (PinnedSource F S R P) → List (PinnedSource F S R P) → Type 0
  AddsParts before after = (more : List (PinnedSource F S R P)) × (after ≡ before ++ more) × (numbers_in more ≡ [])

module _ {F S R P : Type 0} (name : R → NamedFile) where
  -- the source is the listed file, with a right to read it
  abbrev pub IsOfEntry : KeptFiles → FileEntry → PinnedSource F S R P → Type 0
  IsOfEntry files entry (File number born right) = (number ≡ entry.number) × (born ≡ entry.born)
      × IsRightTo name (kept_file entry.number.0 files) (Some right)
  IsOfEntry files entry (Part born points) = ⊥

  -- the sources are those of the listed files that have the series, in the order of the list
  abbrev pub AreOfFiles : KeptFiles → List ℕ → List FileEntry → List (PinnedSource F S R P) → Type 0
  AreOfFiles files path entries sources =
      AllZip (IsOfEntry files) (filter (λ entry. has_path path files entry.number.0) entries) sources

  -- the sources of a series in one space: the listed files that have it, and then the parts in memory
  pub record AreOfSpace (space : Space) (files : KeptFiles) (store : MemoryState) (path : List ℕ) (number : ℕ)
      (range : Range)
      (sources : List (PinnedSource F S R P))
      : Type 0 where
    pub listed : List (PinnedSource F S R P)
    pub are : sources ≡ listed ++ parts_in space number range (pairs_in store)
    pub of_files : AreOfFiles files path (entries_in space files) listed
    pub rising : AreRisingIn space number (pairs_in store)

  -- the sources of a series with this path and number, from the lowest priority to the highest
  pub record AreSourcesOf (files : KeptFiles) (store : MemoryState) (path : List ℕ) (number : ℕ) (range : Range)
      (sources : List (PinnedSource F S R P))
      : Type 0 where
    pub sequence : List (PinnedSource F S R P)
    pub unsequence : List (PinnedSource F S R P)
    pub are : sources ≡ sequence ++ unsequence
    pub in_sequence : AreOfSpace Sequence files store path number range sequence
    pub in_unsequence : AreOfSpace Unsequence files store path number range unsequence

  -- each right is one to read the file that is kept under its number
  abbrev pub IsHeldIn : KeptFiles → PinnedSource F S R P → Type 0
  IsHeldIn files (File number born right) = IsRightTo name (kept_file number.0 files) (Some right)
  IsHeldIn files (Part born points) = Unit {0}

  abbrev pub AreHeldIn : KeptFiles → List (PinnedSource F S R P) → Type 0
  AreHeldIn files sources = Each (IsHeldIn files) sources

  -- the file of the number with a right to read it, where it is kept
  abbrev pub IsFileWithRight : KeptFiles → FileNumber → Stamp → List (PinnedSource F S R P) → Type 0
  IsFileWithRight files number born sources = IsSome (kept_file number.0 files)
      → (right : R) × (sources ≡ File number born right ∷ []) × IsRightTo name (kept_file number.0 files) (Some right)
