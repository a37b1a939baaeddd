-- What a core leaves that is closed.
use Rattle.std.proofs.Common.{◌≡◌, ◌⊎◌, inl, inr, ℕ, ◌-◌, ◌<◌, ◌≤◌, ◌==◌, true, cond, List, [], ◌∷◌, ◌++◌}
use Rattle.std.proofs.Common.{length, map, Option, Some, None, refl, sym, ap, subst, ◌∙◌, arith}
use Rattle.std.proofs.lemmas.List.{append-nil, map-append}
use Rattle.std.specs.List.{AllByRecursion as Each, AllZip}
use Rattle.std.specs.Option.{IsSomeAnd}
use Rattle.std.specs.Prelude.{IfSome}
use Rattle.tsdb_querying.proofs.CoreJobs.{is_there}
use Rattle.tsdb_querying.specs.Core.{HasStateCounts, files_of, logged_of, working_of}
use Rattle.tsdb_querying.specs.Listings.{TellsStore}
use Rattle.tsdb_querying.specs.CoreType.{Core}
use Rattle.tsdb_fileset.specs.StateOfFiles.{AreFilesOf, listed, outgoing_file}
use Rattle.tsdb_fileset.proofs.StoredPlaces.{IsToldAt, at_place, differing, each_stored, few, found, named, stored_at}
use Rattle.tsdb_history.specs.Closing.{IsCoreClosed}
use Rattle.tsdb_history.specs.Listings.{AreAllListed, IsAllInFiles, IsListingOf}
use Rattle.tsdb_history.specs.Serves.{HasFlushed}
use Rattle.tsdb_state.proofs.ImageLemmas.Kept.{holds_found, kept_by_number}
use Rattle.tsdb_state.proofs.ImageLemmas.Storing.{others_kept}
use Rattle.tsdb_state.specs.StoredEngine.{LeadsTo, LeavesOneOf, kept_bytes}
use Rattle.tsdb_fileset.specs.Closing.{ArePutBack, AreNumbersRising, names_at}
use Rattle.tsdb_fileset.specs.Files.{AreKept, KeptFiles, entry_numbers, kept_file, all_numbers, outgoing_numbers}
use Rattle.tsdb_fileset.specs.Places.{KeptFile, file_at, place_of_number}
use Rattle.tsdb_fileset.specs.declared.files.Outgoing.{Outgoing}
use Rattle.tsdb_base.proofs.Lists.{each_from_among, each_left, among_map}
use Rattle.tsdb_base.specs.Lists.{Among, count, if_some}
use Rattle.tsdb_log.specs.declared.record.LogRecord.{LogRecord}
use Rattle.tsdb_memory.proofs.RowLemmas.Counts.{empty_pair}
use Rattle.tsdb_memory.specs.Closing as logged
use Rattle.tsdb_memory.specs.LogState.{IsSoundLogged, Outside, memory_of}
use Rattle.tsdb_memory.specs.StateOfMemory.{IsFrozenOf, IsMemoryOf}
use Rattle.tsdb_memory.specs.Store.{MemoryState}
use Rattle.tsdb_model.specs.State as plain
use Rattle.tsdb_model.specs.declared.reply.Listing.{Listing}
use Rattle.tsdb_base.specs.Causes.{Rose}
use Rattle.tsdb_outside.specs.Disk.{Image, IsLawful, DiskState, WhereTold, in_slot}
use Rattle.tsdb_outside.specs.Files.{IsFileNumber, StoredFile}
use Rattle.tsdb_outside.specs.Moments.{LeavesOnly}
use Rattle.tsdb_outside.specs.declared.disk.Disk as disk
use Rattle.tsdb_outside.specs.declared.faults.Counted as counted
use Rattle.tsdb_plan.specs.declared.entry.FileEntry.{FileEntry}
use Rattle.tsdb_frames.proofs.MomentLemmas.{weaker}
use Rattle.tsdb_state.specs.Stores.{HoldsKept, IsWhole}
use Rattle.tsdb_state.specs.Stores as store
use Rattle.tsdb_querying.proofs.Held.{wider}
use Rattle.tsdb_querying.specs.Flushing.{faults_under}
use Rattle.tsdb_querying.specs.Serving.{AreHeldWith, IsServing, disk_under, slot_under}
use Rattle.tsdb_state.specs.Order.{all_files as state_files}
use Rattle.tsdb_state.specs.Records.{numbers_of as state_numbers}
use Rattle.tsdb_state.specs.Replays.{IsReplayOf}
use Rattle.tsdb_state.specs.State as state
use Rattle.tsdb_state.specs.State.{EngineState, KnownFiles, File, StoreState}

-- ---- the working pair and the frozen ones

-- where no pair is frozen in memory, none is in its state
none_frozen : (memory : MemoryState) (shown : StoreState) → IsMemoryOf memory shown → memory.frozen ≡ [] → shown.frozen ≡ []
none_frozen memory shown is none =
    by shown.frozen (subst (λ frozen. AllZip (IsFrozenOf memory.series) frozen shown.frozen) none is.frozen)
  where
    by : (frozen : List state.FrozenContent) → AllZip (IsFrozenOf memory.series) [] frozen → frozen ≡ []
    by [] all = refl
    by (pair ∷ frozen) all = absurd all

-- ---- the numbers of files

listed_numbers : (entries : List FileEntry) → state_numbers (map listed entries) ≡ entry_numbers entries
listed_numbers [] = refl
listed_numbers (entry ∷ entries) = ap (λ ns. entry.number.0 ∷ ns) (listed_numbers entries)

leaving_numbers : (files : List Outgoing) → state_numbers (map outgoing_file files) ≡ outgoing_numbers files
leaving_numbers [] = refl
leaving_numbers (file ∷ files) = ap (λ ns. file.number.0 ∷ ns) (leaving_numbers files)

same_numbers : (files : KeptFiles) (known : KnownFiles) (state : EngineState) → AreFilesOf files known state
    → state_numbers (state_files state) ≡ all_numbers files
same_numbers files known state are =
    map-append (λ (f : File). f.number) (state.store.sequence ++ state.store.unsequence) state.outgoing
    ∙ (λ i. map-append (λ (f : File). f.number) state.store.sequence state.store.unsequence i
    ++ state_numbers state.outgoing)
    ∙ (λ i. (state_numbers (sym are.sequence i) ++ state_numbers (sym are.unsequence i))
    ++ state_numbers (sym are.outgoing i))
    ∙ (λ i. (listed_numbers files.sequence i ++ listed_numbers files.unsequence i) ++ leaving_numbers files.outgoing i)

stands_counted : (n : ℕ) (numbers : List ℕ) → Among n numbers → 1 ≤ count n numbers
stands_counted n [] among = absurd among
stands_counted n (m ∷ numbers) (inl is) = let one = itself is in omega (arith, one)
  where
    equal : (a b : ℕ) → a ≡ b → (a == b) ≡ true
    equal a b e = grind (arith, e)

    itself : m ≡ n → ◌≡◌ {A = ℕ} (cond (m == n) 1 0) 1
    itself e = ap (λ b. cond b 1 0) (equal m n e)
stands_counted n (m ∷ numbers) (inr among) = let rest = stands_counted n numbers among in omega (arith, rest)

some_of : {X : Type 0} (found : Option X) → 1 ≤ length (if_some found) → (x : X) × (found ≡ Some x)
some_of None none = absurd (omega (arith, none))
some_of (Some x) one = (x, refl)

module _ {J F S R P : Type 0} {means : disk.Ghosts J} {counts : counted.Ghosts J} (core : Core J F S R P means counts)
    (are_kept : AreKept (files_of core)) (rising : AreNumbersRising (files_of core).places) (pair_counts : HasStateCounts core)
    (put : List StoredFile) (at : plain.State) (next : Option plain.State) (serving : IsServing [] core put at next) where
  abbrev kept : List StoredFile
  kept = serving.outside.kept

  numbers_are : state_numbers (state_files serving.state) ≡ all_numbers (files_of core)
  numbers_are = same_numbers (files_of core) serving.outside.known serving.state serving.seen.files

  -- a kept file is one of the state
  in_state : (n : ℕ) (file : KeptFile) → kept_file n (files_of core) ≡ Some file
      → Among n (state_numbers (state_files serving.state))
  in_state n file is = subst (Among n) (sym numbers_are) (is_there n (all_numbers (files_of core))
      (let c = are_kept n ∙ ap (λ f. length (if_some f)) is in omega (arith, c)))

  -- its bytes are told, and are those that are kept
  pub record Known (n : ℕ) (file : KeptFile) : Type 0 where
    pub number : file.name.number ≡ n
    pub bytes : List ℕ
    pub kept_so : kept_bytes kept n ≡ Some bytes
    pub told : file.name.bytes ≡ Some bytes
    pub from : 1 ≤ n
    pub to : n < 9223372036854775808
    pub in_files : Among n (state_numbers (state_files serving.state))

  known : (n : ℕ) (file : KeptFile) → kept_file n (files_of core) ≡ Some file → Known n file
  known n file is =
      let whole = kept_by_number kept serving.outside.told (state_files serving.state) serving.seen.sound.stored.whole n
      (in_state n file is) 0 in
      let tells = subst (λ found. IfSome found (λ (file : KeptFile). (file.name.number ≡ n)
      × (file.name.bytes ≡ kept_bytes kept n))) is (serving.seen.told n) in
      let numbers = serving.seen.sound.stored.order.numbers in
      let some = stands_counted n (state_numbers (state_files serving.state)) (in_state n file is) in
      let range = numbers.range n (omega (arith, some)) in
      let end = numbers.end in
      record {
        number = tells.0;
        bytes = whole.bytes;
        kept_so = whole.there;
        told = tells.1 ∙ whole.there;
        from = range.0;
        to = omega (arith, range, end);
        in_files = in_state n file is;
      }

  -- so of each place
  known_at : (place : ℕ × Option KeptFile) → Among place (files_of core).places → IfSome place.1 (Known place.0)
  known_at (n, None) among = tt
  known_at (n, Some file) among = known n file (ap file_at (at_place (files_of core).places rising (n, Some file) among))

  each_place : (Q : (n : ℕ) → KeptFile → Type 0) → ((n : ℕ) (file : KeptFile) → Known n file → Q n file)
      → Each (λ (place : ℕ × Option KeptFile). IfSome place.1 (Q place.0)) (files_of core).places
  each_place Q holds = each_from_among (λ (place : ℕ × Option KeptFile). IfSome place.1 (Q place.0))
      (files_of core).places (λ place among. by place (known_at place among))
    where
      by : (place : ℕ × Option KeptFile) → IfSome place.1 (Known place.0) → IfSome place.1 (Q place.0)
      by (n, None) is = tt
      by (n, Some file) is = holds n file is

  abbrev stored : List StoredFile
  stored = stored_at (files_of core).places

  -- each file of the state is stored with the bytes that are kept
  same_bytes : Each (λ file. kept_bytes stored file.number ≡ kept_bytes kept file.number) (state_files serving.state)
  same_bytes = each_from_among (λ (file : File). kept_bytes stored file.number ≡ kept_bytes kept file.number)
      (state_files serving.state) (λ file among. one file
      (among_map (λ (f : File). f.number) (state_files serving.state) file among))
    where
      one : (file : File) → Among file.number (state_numbers (state_files serving.state))
          → kept_bytes stored file.number ≡ kept_bytes kept file.number
      one file among =
          let some = stands_counted file.number (all_numbers (files_of core)) (subst (Among file.number) numbers_are among) in
          let count = are_kept file.number in
          let there = some_of (kept_file file.number (files_of core)) (omega (arith, some, count)) in
          let is = known file.number there.0 there.1 in
          found file.number (files_of core).places there.0 is.bytes there.1 is.told ∙ sym is.kept_so

  abbrev outside : Outside
  outside = record serving.outside { kept = stored }

  sound : IsSoundLogged (logged_of core) outside serving.state
  sound = record {
    memory = serving.seen.sound.memory;
    log = record { log = serving.seen.sound.log.log; named = serving.seen.sound.log.named };
    stored = others_kept serving.outside.items kept serving.outside.told serving.outside.known serving.state
        serving.seen.sound.stored stored same_bytes;
  }

  -- whoever holds what the core keeps holds what is stored
  held : AreHeldWith stored put
  held there holds = each_stored (λ (file : StoredFile). there file.number ≡ Some file.bytes) (files_of core).places
      (each_place (λ n file. (bytes : List ℕ) → file.name.bytes ≡ Some bytes → there n ≡ Some bytes)
      (λ n file is bytes told. holds_found kept there (serving.held there holds) n bytes
      (is.kept_so ∙ sym is.told ∙ told)))

  stored_found : HoldsKept stored (kept_bytes stored)
  stored_found = each_stored (λ (file : StoredFile). kept_bytes stored file.number ≡ Some file.bytes)
      (files_of core).places (each_from_among (λ (place : ℕ × Option KeptFile). IfSome place.1
      (λ file. (bytes : List ℕ) → file.name.bytes ≡ Some bytes → kept_bytes stored place.0 ≡ Some bytes))
      (files_of core).places (λ place among. by place (at_place (files_of core).places rising place among)))
    where
      by : (place : ℕ × Option KeptFile) → place_of_number place.0 (files_of core).places ≡ Some place.1
          → IfSome place.1 (λ file. (bytes : List ℕ) → file.name.bytes ≡ Some bytes
          → kept_bytes stored place.0 ≡ Some bytes)
      by (n, None) here = tt
      by (n, Some file) here = λ bytes told. found n (files_of core).places file bytes (ap file_at here) told

  numbers : Each (λ (file : StoredFile). IsFileNumber file.number) stored
  numbers = each_stored (λ (file : StoredFile). IsFileNumber file.number) (files_of core).places
      (each_place (λ n file. (bytes : List ℕ) → file.name.bytes ≡ Some bytes → IsFileNumber n)
      (λ n file is bytes told. record { low = is.from; high = is.to }))

  abbrev both_lists : List File
  both_lists = serving.state.store.sequence ++ serving.state.store.unsequence

  -- where no file is on its way out each file that is stored is listed
  listed_now : (files_of core).outgoing ≡ [] → Each (λ (file : StoredFile). Among file.number (state_numbers both_lists)) stored
  listed_now none = each_stored (λ (file : StoredFile). Among file.number (state_numbers both_lists)) (files_of core).places
      (each_place (λ n file. (bytes : List ℕ) → file.name.bytes ≡ Some bytes → Among n (state_numbers both_lists))
      (λ n file is bytes told. subst (λ (all : List File). Among n (state_numbers all))
      (ap (λ (out : List File). both_lists ++ out) (sym serving.seen.files.outgoing ∙ ap (map outgoing_file) none) ∙ append-nil both_lists)
      is.in_files))

  no_doubt : next ≡ None → serving.state.doubt ≡ None
  no_doubt none = by serving.state.doubt
      (subst (LeadsTo serving.outside.told serving.state.store serving.state.doubt) none serving.doubt)
    where
      by : (doubt : Option LogRecord) → LeadsTo serving.outside.told serving.state.store doubt None → doubt ≡ None
      by None leads = refl
      by (Some item) leads = absurd leads

  is_closed : (new : DiskState) (faults : ℕ) → IsLawful new → logged.IsClosed (logged_of core) new faults
      → IsCoreClosed core new stored (Rose (faults_under core) faults) put at next
  is_closed new faults laws closes = record {
    differ = differing (files_of core).places rising;
    numbers = numbers;
    held = held;
    moments = weaker (disk_under core) new (LeavesOneOf stored (slot_under core) at next)
        (LeavesOneOf put (slot_under core) at next)
        (λ image leaves. wider stored put (slot_under core) at next image held leaves) moments;
    holds = λ image left. moments.each image
        (laws.counts_now (disk_under core).moment image moments.passes.later left);
    sound = λ sure. is_sound (calm sure);
    listed = λ sure listing tells image left. lists (calm sure) listing tells image left;
    flushed = λ sure all image left. in_files (calm sure) all image left;
    swept = λ sure none image left. all_listed (calm sure) none image left;
  }
    where
      moments : LeavesOnly (disk_under core) new (LeavesOneOf stored (slot_under core) at next)
      moments = closes.moments outside serving.state at next sound serving.stands serving.doubt

      calm : (¬ Rose (faults_under core) faults) ⊎ (next ≡ None)
          → (¬ Rose (faults_under core) faults) ⊎ (serving.state.doubt ≡ None)
      calm (inl not) = inl not
      calm (inr none) = inr (no_doubt none)

      is_sound : (¬ Rose (faults_under core) faults) ⊎ (serving.state.doubt ≡ None)
          → store.IsSound (slot_under core) new (kept_bytes stored) at
      is_sound (inl not) = closes.sound not outside serving.state at (kept_bytes stored) sound serving.stands stored_found
      is_sound (inr none) = closes.undoubted outside serving.state at (kept_bytes stored) none sound serving.stands
          stored_found

      replayed : (¬ Rose (faults_under core) faults) ⊎ (serving.state.doubt ≡ None) → (image : Image)
          → new.may_leave image → IsReplayOf store.store_steps (in_slot (slot_under core) image)
          (record { named = sound.stored.named; store = serving.state.store })
      replayed sure image left = record {
        items = serving.outside.items;
        good = sound.stored.good;
        records = closes.records outside serving.state sound sure image left;
        replayed = sound.stored.replayed;
      }

      in_files : (¬ Rose (faults_under core) faults) ⊎ (serving.state.doubt ≡ None) → HasFlushed core → (image : Image)
          → new.may_leave image → IsAllInFiles (in_slot (slot_under core) image)
      in_files sure all image left = record {
        recorded = record { named = sound.stored.named; store = serving.state.store };
        replayed = replayed sure image left;
        frozen = none_frozen (memory_of (logged_of core)) serving.state.store serving.seen.sound.memory all.0;
        working = (empty_pair (working_of core) serving.state.store.working
            (pair_counts serving.state.store serving.seen.sound.memory)).0 all.1;
      }

      all_listed : (¬ Rose (faults_under core) faults) ⊎ (serving.state.doubt ≡ None) → (files_of core).outgoing ≡ []
          → (image : Image) → new.may_leave image → AreAllListed (in_slot (slot_under core) image) stored
      all_listed sure none image left = record {
        recorded = record { named = sound.stored.named; store = serving.state.store };
        replayed = replayed sure image left;
        listed = listed_now none;
      }

      lists : (¬ Rose (faults_under core) faults) ⊎ (serving.state.doubt ≡ None) → (listing : Listing)
          → TellsStore core listing → (image : Image) → new.may_leave image
          → IsListingOf (kept_bytes stored) (in_slot (slot_under core) image) listing
      lists sure listing tells image left = record {
        recorded = record { named = sound.stored.named; store = serving.state.store };
        replayed = replayed sure image left;
        told = serving.outside.told;
        whole = each_left (IsWhole (kept_bytes stored) serving.outside.told)
            (serving.state.store.sequence ++ serving.state.store.unsequence) serving.state.outgoing sound.stored.whole;
        lists = tells serving.outside serving.state serving.seen;
      }

  -- all of them are put to rest
  pub closed : (new : DiskState) (faults : ℕ) → IsLawful new → logged.IsClosed (logged_of core) new faults
      → (old rest : Option (List StoredFile)) → old ≡ Some []
      → WhereTold (ArePutBack (names_at (files_of core).places)) old rest
      → IsSomeAnd rest (λ files. IsCoreClosed core new files (Rose (faults_under core) faults) put at next)
  closed new faults laws closes old rest none back =
      by rest (subst (λ o. WhereTold (ArePutBack (names_at (files_of core).places)) o rest) none back)
    where
      told : Each IsToldAt (files_of core).places
      told = each_place (λ n file. (file.name.number ≡ n) × (bytes : List ℕ) × (file.name.bytes ≡ Some bytes))
          (λ n file is. (is.number, is.bytes, is.told))

      bound : length (stored_at (files_of core).places) ≤ 9223372036854775808 - 1
      bound = few (files_of core).places 1 9223372036854775808 rising (each_place (λ n file. 1 ≤ n) (λ n file is. is.from))
          (each_place (λ n file. n < 9223372036854775808) (λ n file is. is.to))

      by : (rest : Option (List StoredFile)) → WhereTold (ArePutBack (names_at (files_of core).places)) (Some []) rest
          → IsSomeAnd rest (λ files. IsCoreClosed core new files (Rose (faults_under core) faults) put at next)
      by None back = absurd back
      by (Some files) back = subst (λ list. IsCoreClosed core new list (Rose (faults_under core) faults) put at next)
          (sym (back stored (named (files_of core).places told) (omega (arith, bound)))) (is_closed new faults laws closes)
