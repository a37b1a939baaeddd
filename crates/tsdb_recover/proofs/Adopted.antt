-- What follows once the wanted file is taken up.
use Rattle.std.proofs.Common.{◌≡◌, ℕ, zero, suc, List, [], ◌∷◌, ◌++◌, length, Option, None, Some, inl, inr, refl, sym, ap, ◌∙◌, subst}
use Rattle.std.specs.Prelude.{slice_get}
use Rattle.std.specs.FinMap.{get}
use Rattle.std.specs.Option.{IsSomeAnd}
use Rattle.tsdb_recover.proofs.First.{wanted_is}
use Rattle.tsdb_recover.proofs.Paths.{have_paths, place_has_path}
use Rattle.tsdb_recover.proofs.TakingUp.{described_more, first_with, of_each, taken_from, wanted_not_kept}
use Rattle.tsdb_recover.specs.Adopting.{AreDescribed, AreFirstOf, IsAdopted, IsKeptOf, IsReadOf, TakesUp, next_in, wanted_file}
use Rattle.tsdb_recover.specs.Steps.{KeepsFileLists}
use Rattle.tsdb_base.specs.declared.ids.Space.{Space}
use Rattle.tsdb_base.specs.declared.ids.Space.TheVariants.{Sequence, Unsequence}
use Rattle.tsdb_flush.specs.BuiltParts as built
use Rattle.tsdb_recover.proofs.DescribedParts.{says_its_points}
use Rattle.tsdb_recover.specs.DescribedTrees.{HaveShortPaths}
use Rattle.tsdb_fileset.specs.StateOfFiles.{TellTheirBytes, entry_of}
use Rattle.tsdb_state.specs.StoredEngine.{kept_bytes}
use Rattle.tsdb_index.specs.declared.index.FileMeta.{FileMeta}
use Rattle.tsdb_fileset.specs.Files.{AreKept, KeptFiles, kept_file, none_kept}
use Rattle.tsdb_fileset.specs.Places.{KeptFile}
use Rattle.tsdb_base.proofs.Lists.{among_left, among_right}
use Rattle.tsdb_base.specs.Lists.{Among}
use Rattle.tsdb_log.specs.declared.record.LogRecord.{LogRecord}
use Rattle.tsdb_memory.specs.Model.{IsSoundMemory}
use Rattle.tsdb_memory.specs.StateOfMemory.{IsMemoryOf}
use Rattle.tsdb_memory.specs.Store as memory
use Rattle.tsdb_outside.specs.Files.{NamedFile, Store, StoredFile}
use Rattle.tsdb_plan.specs.declared.entry.FileEntry.{FileEntry}
use Rattle.tsdb_state.specs.Replays.{Replays}
use Rattle.tsdb_state.specs.Stores.{Recorded, store_steps}
use Rattle.tsdb_state.specs.Jobs.{Describes}
use Rattle.tsdb_state.specs.State.{File, StoreState, ToldContents}
use Rattle.tsdb_state.specs.StoreOrder.{StoreInOrder}

-- ---- the beginning, and the next file

pub begun : {directory : Store} (files : KeptFiles) (store : StoreState) → files ≡ none_kept directory
    → AreFirstOf files store
begun files store is = subst (λ f. AreFirstOf f store) (sym is) (record {
  sequence = record { others = store.sequence; is = refl };
  unsequence = record { others = store.unsequence; is = refl };
  free = record { sequence = tt; unsequence = tt };
  outgoing = refl;
  unread = λ n. tt;
})

-- the number of the wanted file
pub number_wanted : (next : Space × File) (wanted : Option (Space × File)) (number : ℕ) → Some next ≡ wanted
    → IsSomeAnd wanted (λ w. w.1.number ≡ number) → next.1.number ≡ number
number_wanted next wanted number is has = subst (λ o. IsSomeAnd o (λ w. w.1.number ≡ number)) (sym is) has

-- ---- the wanted file is listed

among_got : {X : Type 0} (xs : List X) (n : ℕ) (x : X) → slice_get xs n ≡ Some x → Among x xs
among_got [] n x is = absurd cc
among_got (y ∷ xs) zero x is = inl cc
among_got (y ∷ xs) (suc n) x is = inr (among_got xs n x is)

pub wanted_listed : (files : KeptFiles) (store : StoreState) (space : Space) (file : File)
    → wanted_file files store ≡ Some (space, file) → Among file (store.sequence ++ store.unsequence)
wanted_listed files store Sequence file wanted = among_left store.sequence store.unsequence file
    (among_got store.sequence (length files.sequence) file
    (wanted_is (next_in Sequence files store) (next_in Unsequence files store) Sequence file wanted))
wanted_listed files store Unsequence file wanted = among_right store.sequence store.unsequence file
    (among_got store.unsequence (length files.unsequence) file
    (wanted_is (next_in Sequence files store) (next_in Unsequence files store) Unsequence file wanted))

-- ---- what follows

pub is_adopted : (name : NamedFile) (meta : FileMeta) (store : StoreState) (space : Space) (file : File)
    (old made new : KeptFiles) (entry : FileEntry) (series : List (List ℕ))
    → wanted_file old store ≡ Some (space, file) → IsKeptOf meta file entry series → KeepsFileLists old made
    → TakesUp space entry (record { name = name; series = series; rights = 0 }) made new
    → IsAdopted name meta store old new
is_adopted name meta store space file old made new entry series wanted kept keeps taken = record {
  space = space;
  file = file;
  wanted = wanted;
  entry = entry;
  series = series;
  kept = kept;
  taken = taken_from space entry (record { name = name; series = series; rights = 0 }) old made new keeps taken;
}

module _ (name : NamedFile) (meta : FileMeta) (store : StoreState) (old new : KeptFiles)
    (adopted : IsAdopted name meta store old new) where
  abbrev token : KeptFile
  token = record { name = name; series = adopted.series; rights = 0 }

  pub still_first : AreFirstOf old store → AreFirstOf new store
  still_first first = first_with store adopted.space adopted.file adopted.entry token old new adopted.taken adopted.wanted
      adopted.kept.number adopted.kept.born adopted.kept.free refl first

  pub tell_more : (kept : List StoredFile) → name.number ≡ adopted.file.number → TellTheirBytes old kept
      → name.bytes ≡ kept_bytes kept name.number → TellTheirBytes new kept
  tell_more kept number all is =
      let same : name.number ≡ adopted.entry.number.0 = number ∙ sym adopted.kept.number in
      of_each adopted.space adopted.entry token old new adopted.taken
      (λ n (f : KeptFile). (f.name.number ≡ n) × (f.name.bytes ≡ kept_bytes kept n)) all
      (same, is ∙ ap (kept_bytes kept) same)

  pub says_more : (told : ToldContents) (held : memory.MemoryState) (items : List LogRecord) (recorded : Recorded)
      → store ≡ recorded.store → name.number ≡ adopted.file.number → AreKept old
      → Replays store_steps store_steps.new_store items recorded → AreFirstOf old store → IsSoundMemory held
      → IsMemoryOf held store → StoreInOrder told store → IsReadOf meta (told name.number) → AreDescribed told old
      → AreDescribed told new
  says_more told held items recorded of number kept replayed first sound is order read says =
      described_more told adopted.space adopted.entry token old new adopted.taken kept
      (subst (λ n. kept_file n old ≡ None) (sym adopted.kept.number)
      (wanted_not_kept old items recorded adopted.space adopted.file kept replayed
      (subst (AreFirstOf old) of first)
      (subst (λ s. wanted_file old s ≡ Some (adopted.space, adopted.file)) of adopted.wanted)))
      says
      (subst (λ n. Describes (entry_of adopted.entry adopted.series) (told n)) (number ∙ sym adopted.kept.number)
      (subst (λ paths. Describes (entry_of adopted.entry paths) (told name.number))
      (sym (adopted.kept.series_are read.bytes read.whole paths))
      (says_its_points read.whole.tree adopted.file.number adopted.file.born read.bytes adopted.entry (told name.number)
      read.whole.is read.whole.made (adopted.kept.entry_is read.bytes read.whole) read.content_is)))
    where
      listed : Among adopted.file (store.sequence ++ store.unsequence)
      listed = wanted_listed old store adopted.space adopted.file adopted.wanted

      paths : HaveShortPaths read.whole.tree
      paths = have_paths read.whole.tree (told name.number) read.whole.is read.whole.made read.content_is
          (λ place value has. place_has_path told held store adopted.file place value sound is order listed
          (ap (λ n. get (told n) place) (sym number) ∙ has))

-- the wanted file is not kept yet, whatever its list
pub not_kept_yet : (files : KeptFiles) (items : List LogRecord) (recorded : Recorded) (next : Space × File)
    → AreKept files → Replays store_steps store_steps.new_store items recorded → AreFirstOf files recorded.store
    → Some next ≡ wanted_file files recorded.store → kept_file next.1.number files ≡ None
not_kept_yet files items recorded next are replayed first wanted =
    wanted_not_kept files items recorded next.0 next.1 are replayed first (sym wanted)
