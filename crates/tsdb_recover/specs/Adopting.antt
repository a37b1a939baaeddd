-- How far the files of a replayed log are taken up, and what is kept of them.
use Rattle.std.specs.Prelude.{◌≡◌, ◌≢◌, ℕ, List, [], ◌++◌, false, length, map, Option, None, Some, IfSome, slice_get}
use Rattle.std.specs.List.{AllByRecursion as Each}
use Rattle.std.specs.Option.{IsSomeAnd, option_map}
use Rattle.tsdb_recover.specs.declared.adopting.Adopting.{Adopting}
use Rattle.tsdb_base.specs.declared.ids.Space.{Space}
use Rattle.tsdb_base.specs.declared.ids.Space.TheVariants.{Sequence, Unsequence}
use Rattle.tsdb_recover.specs.DescribedTrees.{HaveShortPaths, tree_part}
use Rattle.tsdb_fileset.specs.StateOfFiles.{entry_of, listed}
use Rattle.tsdb_index.specs.declared.index.FileMeta.{FileMeta}
use Rattle.tsdb_flush.specs.BuiltFile.{IsFileEntryOf, paths_of}
use Rattle.tsdb_fileset.specs.Files.{Appends, KeptFiles, entries_in, kept_file}
use Rattle.tsdb_fileset.specs.Places.{AreUnread, KeptFile}
use Rattle.tsdb_state.specs.Places.{Content}
use Rattle.tsdb_log.specs.declared.record.LogRecord.{LogRecord}
use Rattle.tsdb_redo.specs.Opening.{IsOpeningOf, list_of}
use Rattle.tsdb_redo.specs.declared.opening.Opening.{Opening}
use Rattle.tsdb_outside.specs.Files.{NamedFile}
use Rattle.tsdb_plan.specs.declared.entry.FileEntry.{FileEntry}
use Rattle.tsdb_state.specs.Replays.{Replays}
use Rattle.tsdb_state.specs.Stores.{IsTreeContent, Recorded, store_steps}
use Rattle.tsdb_state.specs.Jobs.{Describes}
use Rattle.tsdb_state.specs.State.{File, StoreState, ToldContents}
use Rattle.tsfile_reader.specs.Blame.{IsMetaOfTree}

-- the first file of the list that is not taken up
abbrev pub next_in : Space → KeptFiles → StoreState → Option File
next_in space files store = slice_get (list_of space store) (length (entries_in space files))

-- that of the sequence list, where there is one, and else that of the unsequence list
abbrev pub wanted_of : Option File → Option File → Option (Space × File)
wanted_of (Some file) late = Some (Sequence, file)
wanted_of None late = option_map (λ file. (Unsequence, file)) late

-- the file that is taken up next
abbrev pub wanted_file : KeptFiles → StoreState → Option (Space × File)
wanted_file files store = wanted_of (next_in Sequence files store) (next_in Unsequence files store)

-- these are the first of the list
pub record AreFirst (files list : List File) : Type 0 where
  pub others : List File
  pub is : list ≡ files ++ others

-- no job has claimed the file
abbrev pub HasNoClaim : FileEntry → Type 0
HasNoClaim entry = entry.claimed ≡ false

-- the same of all listed files
pub record HaveNoClaims (files : KeptFiles) : Type 0 where
  pub sequence : Each HasNoClaim files.sequence
  pub unsequence : Each HasNoClaim files.unsequence

-- the files that are kept are the first of each list; none is claimed or on its way out, and no right to read one is out
pub record AreFirstOf (files : KeptFiles) (store : StoreState) : Type 0 where
  pub sequence : AreFirst (map listed files.sequence) store.sequence
  pub unsequence : AreFirst (map listed files.unsequence) store.unsequence
  pub free : HaveNoClaims files
  pub outgoing : files.outgoing ≡ []
  pub unread : AreUnread files.places

module _ {F S R P : Type 0} where
  -- the replay of the log
  abbrev pub opening_of : Adopting F S R P → Opening
  opening_of adopting = adopting.opening

  -- the files that are taken up
  abbrev pub adopting_files : Adopting F S R P → KeptFiles
  adopting_files adopting = adopting.files

  -- records of a log have led to the state, and the first of its listed files are kept
  pub record IsAdoptingOf (adopting : Adopting F S R P) (recorded : Recorded) : Type 0 where
    pub opening : IsOpeningOf (opening_of adopting) recorded
    pub items : List LogRecord
    pub replayed : Replays store_steps store_steps.new_store items recorded
    pub first : AreFirstOf (adopting_files adopting) recorded.store

  -- the file of this number is the one that is taken up next
  pub record MayAdopt (number : ℕ) (adopting : Adopting F S R P) : Type 0 where
    pub recorded : Recorded
    pub is : IsAdoptingOf adopting recorded
    pub wanted : IsSomeAnd (wanted_file (adopting_files adopting) recorded.store) (λ wanted. wanted.1.number ≡ number)

  -- all listed files are kept
  pub record HasAdoptedAll (adopting : Adopting F S R P) : Type 0 where
    pub recorded : Recorded
    pub is : IsAdoptingOf adopting recorded
    pub all : wanted_file (adopting_files adopting) recorded.store ≡ None

-- a file goes to the end of its list with its token, and all others stay, as does the store
pub record TakesUp (space : Space) (entry : FileEntry) (token : KeptFile) (old new : KeptFiles) : Type 0 where
  pub list : Appends space entry old new
  pub outgoing : new.outgoing ≡ old.outgoing
  pub here : kept_file entry.number.0 new ≡ Some token
  pub others : (number : ℕ) → entry.number.0 ≢ number → kept_file number new ≡ kept_file number old
  pub store : new.store ≡ old.store

-- what is kept of the file of which this was read: what a flush keeps of the file of these series
pub record IsKeptOf (meta : FileMeta) (file : File) (entry : FileEntry) (series : List (List ℕ)) : Type 0 where
  pub number : entry.number.0 ≡ file.number
  pub born : entry.born.0 ≡ file.born
  pub free : HasNoClaim entry
  pub entry_is : (bytes : List ℕ) (whole : IsMetaOfTree bytes meta)
      → IsFileEntryOf file.number file.born bytes (tree_part whole.tree) entry
  pub series_are : (bytes : List ℕ) (whole : IsMetaOfTree bytes meta) → HaveShortPaths whole.tree
      → series ≡ paths_of (tree_part whole.tree)

-- the wanted file is taken up, with what was read of it
pub record IsAdopted (name : NamedFile) (meta : FileMeta) (store : StoreState) (old new : KeptFiles) : Type 0 where
  pub space : Space
  pub file : File
  pub wanted : wanted_file old store ≡ Some (space, file)
  pub entry : FileEntry
  pub series : List (List ℕ)
  pub kept : IsKeptOf meta file entry series
  pub taken : TakesUp space entry (record { name = name; series = series; rights = 0 }) old new

-- the entries say the points that the files of their numbers have
abbrev pub Describe : ToldContents → KeptFiles → List FileEntry → Type 0
Describe told files entries = Each (λ entry. IfSome (kept_file entry.number.0 files)
    (λ file. Describes (entry_of entry file.series) (told entry.number.0))) entries

pub record AreDescribed (told : ToldContents) (files : KeptFiles) : Type 0 where
  pub sequence : Describe told files files.sequence
  pub unsequence : Describe told files files.unsequence

-- this was read of the file of a tree that has these points
pub record IsReadOf (meta : FileMeta) (content : Content) : Type 0 where
  pub bytes : List ℕ
  pub whole : IsMetaOfTree bytes meta
  pub content_is : IsTreeContent whole.tree content
