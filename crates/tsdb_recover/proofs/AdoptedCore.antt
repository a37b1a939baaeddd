-- The core of a replay, once all listed files are kept.
use Rattle.std.proofs.Common.{◌≡◌, ℕ, ◌+◌, ◌<◌, ◌≤◌, ◌==◌, Bool, true, false, cond, List, [], ◌∷◌, ◌++◌, length, map, Option, None, Some, inl, inr, refl, sym, ap, ◌∙◌, subst, arith}
use Rattle.std.specs.Prelude.{IfSome, max, slice_get}
use Rattle.std.specs.List.{All, AllByRecursion as Each}
use Rattle.tsdb_recover.proofs.Counting.{are_all, entry_counted, kept_below}
use Rattle.tsdb_recover.proofs.Known.{known_in}
use Rattle.tsdb_recover.specs.Adopting.{AreDescribed, AreFirstOf, Describe, wanted_file, wanted_of}
use Rattle.tsdb_recover.specs.FileEntries.{known_of}
use Rattle.tsdb_base.specs.declared.ids.FileNumber.{FileNumber}
use Rattle.tsdb_core.specs.Core.{IsAboveNumbers}
use Rattle.tsdb_fileset.specs.StateOfFiles.{AreFilesOf, entry_of, outgoing_file, listed}
use Rattle.tsdb_state.proofs.ImageLemmas.Numbers.{opened_numbers}
use Rattle.tsdb_state.proofs.ImageLemmas.Storing.{opened_stored}
use Rattle.tsdb_state.specs.StoredEngine.{IsKeptWhole, IsStored}
use Rattle.tsdb_fileset.specs.Files.{AreKept, KeptFiles, kept_file}
use Rattle.tsdb_fileset.specs.Places.{KeptFile}
use Rattle.tsdb_base.proofs.Lists.{among_left, among_right, each_append}
use Rattle.tsdb_base.specs.Lists.{Among, count, if_some}
use Rattle.tsdb_log.specs.Spelling.{IsRecord}
use Rattle.tsdb_log.specs.declared.record.LogRecord.{LogRecord}
use Rattle.tsdb_redo.specs.Opening.{IsOpeningOf, greatest, next_number, with_stored}
use Rattle.tsdb_redo.specs.declared.opening.Opening.{Opening}
use Rattle.tsdb_outside.specs.Files.{StoredFile}
use Rattle.tsdb_plan.specs.declared.entry.FileEntry.{FileEntry}
use Rattle.tsdb_state.specs.Replays.{Replays}
use Rattle.tsdb_state.specs.Stores.{Recorded, store_steps}
use Rattle.tsdb_state.proofs.Counting.{is_or_not}
use Rattle.tsdb_state.specs.Jobs.{Describes, EntriesMatch, NumbersInOrder}
use Rattle.tsdb_base.specs.Limits.{end_of_numbers}
use Rattle.tsdb_state.specs.NewStore.{opened}
use Rattle.tsdb_state.specs.State.{KnownFiles, File, StoreState, ToldContents}
use Rattle.tsdb_state.specs.StoreOrder.{StoreInOrder}

-- ---- the next number

reaches : (n : ℕ) (numbers : List ℕ) → 1 ≤ count n numbers → n ≤ greatest numbers
reaches n [] some = absurd (omega (arith, some))
reaches n (x ∷ xs) some = is_or_not x n (λ same. first x n (greatest xs) same)
    (λ other. later n x (greatest xs) (reaches n xs (rest (x == n) (count n xs) other some)))
  where
    first : (x n m : ℕ) → x ≡ n → n ≤ max x m
    first x n m same = grind (arith, same)

    later : (n x m : ℕ) → n ≤ m → n ≤ max x m
    later n x m less = grind (arith, less)

    rest : (b : Bool) (m : ℕ) → b ≡ false
        → 1 ≤ cond b 1 0 + m → 1 ≤ m
    rest true m e some = absurd cc
    rest false m e some = omega (arith, some)

with_more : (n : ℕ) (stored : Option FileNumber) (named : List ℕ) → n ≤ greatest named
    → n ≤ greatest (with_stored stored named)
with_more n None named less = less
with_more n (Some number) named less = more number.0 (greatest named) less
  where
    more : (x m : ℕ) → n ≤ m → n ≤ max x m
    more x m less = grind (arith, less)

-- the next number is above all that were named
pub above_named : (stored : Option FileNumber) (named : List ℕ) (n : ℕ) → 1 ≤ count n named → n < next_number stored named
above_named stored named n some =
    let reached = with_more n stored named (reaches n named some) in
    omega (arith, reached)

-- ---- the numbers of kept files

pub next_numbers : (items : List LogRecord) (recorded : Recorded) (stored : Option FileNumber) (next : ℕ)
    → Replays store_steps store_steps.new_store items recorded → next ≡ next_number stored recorded.named
    → next ≤ end_of_numbers
    → NumbersInOrder recorded.named next ((recorded.store.sequence ++ recorded.store.unsequence) ++ []) []
next_numbers items recorded stored next replayed is end = opened_numbers items recorded next replayed
    (omega (arith, is)) end (λ n some. subst (λ m. n < m) (sym is) (above_named stored recorded.named n some))

pub above_kept : (files : KeptFiles) (items : List LogRecord) (recorded : Recorded) (stored : Option FileNumber) (next : ℕ)
    → AreKept files → Replays store_steps store_steps.new_store items recorded → AreFirstOf files recorded.store
    → next ≡ next_number stored recorded.named → next ≤ end_of_numbers → IsAboveNumbers next files
above_kept files items recorded stored next kept replayed first is end =
    let numbers = next_numbers items recorded stored next replayed is end in
    record {
      from_one = omega (arith, is);
      below = λ n. kept_below files recorded.store first recorded.named next n kept numbers;
    }

-- ---- the files of the state

pub opened_files : (files : KeptFiles) (store : StoreState) (next : ℕ) → AreKept files → AreFirstOf files store
    → wanted_file files store ≡ None → AreFilesOf files (known_of files) (opened next store)
opened_files files store next kept first none =
    let all = are_all files store first none in
    record {
      sequence = all.sequence;
      unsequence = all.unsequence;
      outgoing = ap (map outgoing_file) first.outgoing;
      rights = first.unread;
      entries_in_sequence = known_in files files.sequence kept (λ entry there. among_left files.sequence files.unsequence entry there);
      entries_in_unsequence = known_in files files.unsequence kept
          (λ entry there. among_right files.sequence files.unsequence entry there);
    }

-- ---- what is kept says the points

-- of an entry that is kept, what is known of its number says its points
both_there : (told : ToldContents) (known : KnownFiles) (entry : FileEntry) (o : Option KeptFile) → 1 ≤ length (if_some o)
    → IfSome o (λ file. Describes (entry_of entry file.series) (told entry.number.0))
    → IfSome o (λ file. known entry.number.0 ≡ entry_of entry file.series)
    → Describes (known entry.number.0) (told entry.number.0)
both_there told known entry None some says is = absurd (omega (arith, some))
both_there told known entry (Some file) some says is = subst (λ e. Describes e (told entry.number.0)) (sym is) says

match_in : (told : ToldContents) (files : KeptFiles) (entries : List FileEntry)
    → ((entry : FileEntry) → Among entry entries → 1 ≤ length (if_some (kept_file entry.number.0 files)))
    → Describe told files entries
    → Each (λ entry. IfSome (kept_file entry.number.0 files)
    (λ file. known_of files entry.number.0 ≡ entry_of entry file.series)) entries
    → EntriesMatch told (known_of files) (map listed entries)
match_in told files [] there says known = tt
match_in told files (entry ∷ entries) there says known = (
  both_there told (known_of files) entry (kept_file entry.number.0 files) (there entry (inl refl)) says.0 known.0,
  match_in told files entries (λ e among. there e (inr among)) says.1 known.1,
)

pub entries_match : (told : ToldContents) (files : KeptFiles) (store : StoreState) → AreKept files → AreFirstOf files store
    → wanted_file files store ≡ None → AreDescribed told files
    → EntriesMatch told (known_of files) (store.sequence ++ store.unsequence)
entries_match told files store kept first none says =
    let all = are_all files store first none in
    each_append (λ (file : File). Describes (known_of files file.number) (told file.number)) store.sequence store.unsequence
    (subst (EntriesMatch told (known_of files)) all.sequence
    (match_in told files files.sequence
    (λ entry among. is_there entry (among_left files.sequence files.unsequence entry among)) says.sequence
    (known_in files files.sequence kept (λ entry there. among_left files.sequence files.unsequence entry there))))
    (subst (EntriesMatch told (known_of files)) all.unsequence
    (match_in told files files.unsequence
    (λ entry among. is_there entry (among_right files.sequence files.unsequence entry among)) says.unsequence
    (known_in files files.unsequence kept (λ entry there. among_right files.sequence files.unsequence entry there))))
  where
    is_there : (entry : FileEntry) → Among entry (files.sequence ++ files.unsequence)
        → 1 ≤ length (if_some (kept_file entry.number.0 files))
    is_there entry among = subst (λ n. 1 ≤ n) (kept entry.number.0)
        (entry_counted files entry among)

-- the engine that is opened is stored
pub stored_opened : (items : List LogRecord) (kept : List StoredFile) (told : ToldContents) (files : KeptFiles) (recorded : Recorded)
    (stored : Option FileNumber) (next : ℕ) → All IsRecord items
    → Replays store_steps store_steps.new_store items recorded → StoreInOrder told recorded.store
    → Each (IsKeptWhole kept told) (recorded.store.sequence ++ recorded.store.unsequence)
    → next ≡ next_number stored recorded.named → next ≤ end_of_numbers → AreKept files → AreFirstOf files recorded.store
    → wanted_file files recorded.store ≡ None → AreDescribed told files
    → IsStored items kept told (known_of files) (opened next recorded.store)
stored_opened items kept told files recorded stored next good replayed order whole is end are first none says =
    opened_stored items kept told (known_of files) recorded next good replayed order whole
    (next_numbers items recorded stored next replayed is end)
    (entries_match told files recorded.store are first none says)

-- which file is wanted is said by the opening, whatever state it shows
pub same_wanted : (files : KeptFiles) (opening : Opening) (one other : Recorded) → IsOpeningOf opening one
    → IsOpeningOf opening other → wanted_file files one.store ≡ None → wanted_file files other.store ≡ None
same_wanted files opening one other shows also none =
    subst (λ list. wanted_of (slice_get list (length files.sequence))
    (slice_get other.store.unsequence (length files.unsequence)) ≡ None) (sym shows.files.sequence ∙ also.files.sequence)
    (subst (λ list. wanted_of (slice_get one.store.sequence (length files.sequence))
    (slice_get list (length files.unsequence)) ≡ None) (sym shows.files.unsequence ∙ also.files.unsequence) none)
